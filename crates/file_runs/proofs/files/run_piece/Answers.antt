use Rattle.std.proofs.Common.{◌∙◌, ◌+◌, ◌++◌, [], inl, sym, refl, arith}
use Rattle.std.proofs.lemmas.Result.{err_from_is_err_and}
use Rattle.file_runs.specs.Gathering.{due_behind}
use Rattle.file_runs.proofs.Parts.{comes, cut_gathered, cut_off, ends_in, line_came, line_came_to, line_refused}
use Rattle.file_runs.proofs.Parts.{long_rest, put, rest_kept_in, whole_text}
use Rattle.file_runs.proofs.files.run_piece.Goals as goal

pub returns-in-Err-Memory-clause-ran : goal.returns-in-Err-Memory-clause-ran
returns-in-Err-Memory-clause-ran g c = λ past was over left.
    let inv = c.loop-end.invariant.so_far past was in
    cut_gathered _ _ c.loop-end.gathered.text.items _ (g.O.Sink.seen c.loop-end.out) _ c.end_for_memory.result over left
    inv.so_far (rw c.as_slice.ensures.value at c.end_for_memory.ensures)

pub returns-in-Err-Fault-clause-ran : goal.returns-in-Err-Fault-clause-ran
returns-in-Err-Fault-clause-ran g c = λ past was.
    let inv = c.loop-end.invariant.so_far past was in
    let came = (rw c.in-Err-Fault.field-0-is at c.in-Err-Fault.ensures.came) inv.past inv.followed in
    let last = rw (c.in-Err-Fault.fault-is, c.as_slice-in-Err-Fault.ensures.value) at c.refuse_in.ensures.ran in
    ends_in _ _ _ _ c.loop-end.gathered.text.items _ _ (g.O.Sink.seen c.loop-end.out) _ c.refuse_in.result
    inv.so_far
    (λ over left. line_refused g.W.LineWork.advance g.W.LineWork.closing over c.loop-end.lines.number inv.past
    c.loop-end.lines.unended.items c.loop-end.rest.now c.in-Some.end.now c.in-Some.after.now left
    c.in-Err-Fault.fault
    c.in-Some.ensures.parts came) last

pub returns-in_err-gather-in-Ok-clause-ran : goal.returns-in_err-gather-in-Ok-clause-ran
returns-in_err-gather-in-Ok-clause-ran g c =
    let p = err_from_is_err_and c.from_residual.result c.from_residual.ensures.1 in
    let cut = rw c.as_slice-in-Ok.ensures at c.in_err-gather-in-Ok.ensures in
    rw (p.1, p.2) (λ past was over left.
    let inv = c.loop-end.invariant.so_far past was in
    let came = c.in-Ok.ensures.came inv.past inv.followed in
    cut_off _ _ c.loop-end.gathered.text.items c.in-Ok.text
    (due_behind g.W.LineWork.advance g.W.LineWork.closing over (c.loop-end.lines.number + 1) came.0 []
    (c.in-Some.after.now ++ left)) _
    (g.O.Sink.seen c.loop-end.out) _ c.in_err-gather-in-Ok.field-0.0 over left inv.so_far
    (line_came g.W.LineWork.advance g.W.LineWork.closing over c.loop-end.lines.number inv.past _
    c.loop-end.lines.unended.items c.loop-end.rest.now c.in-Some.end.now c.in-Some.after.now left c.in-Ok.text
    c.in-Some.ensures.parts came.1) cut)

pub loop-end-preserved : goal.loop-end-preserved
loop-end-preserved g c =
    let more = rw c.as_slice-in-Ok.ensures at c.in_ok-gather-in-Ok.ensures in
    record {
      so_far = λ past was.
          let inv = c.loop-end.invariant.so_far past was in
          let came = c.in-Ok.ensures.came inv.past inv.followed in
          let whole = whole_text _ _ c.in-Ok.text (g.met.W.LineWork.whole_lines _ _ _) came.1 in
          record {
            past = came.0;
            followed = came.2;
            so_far = comes _ _ _ c.loop-end.gathered.text.items c.gather.new.self.text.items c.in-Ok.text _
                (g.O.Sink.seen c.loop-end.out) _ inv.so_far
                (λ over left. line_came_to g.W.LineWork.advance g.W.LineWork.closing over c.loop-end.lines.number
                c.run_line.new.self.number inv.past came.0 c.loop-end.lines.unended.items
                c.run_line.new.self.unended.items
                c.loop-end.rest.now c.in-Some.end.now
                c.in-Some.after.now left c.in-Ok.text c.in-Some.ensures.parts came.1 c.in-Ok.ensures.number
                c.in-Ok.ensures.unended) whole more;
          };
      numbered = omega (arith, c.loop-end.invariant.numbered, c.in-Some.ensures.shorter, c.in-Ok.ensures.number);
      fits = c.in-Ok.ensures.fits;
    }

pub returns-then-is_long-clause-ran : goal.returns-then-is_long-clause-ran
returns-then-is_long-clause-ran g c = λ past was.
    let inv = c.loop-end.invariant.so_far past was in
    let last = rw c.as_slice-then-is_long.ensures.value at c.refuse_in-then-is_long.ensures.ran in
    ends_in _ _ _ _ c.loop-end.gathered.text.items _ _ (g.O.Sink.seen c.loop-end.out) _ c.refuse_in-then-is_long.result
    inv.so_far
    (λ over left. long_rest g.W.LineWork.advance g.W.LineWork.closing over c.loop-end.lines.number inv.past
    c.loop-end.lines.unended.items c.loop-end.rest.now left g.met.W.LineWork.long_lines
    (sym c.is_long.ensures ∙ c.if-is_long.true) c.in_default.ensures.parts) last

pub returns-in_err-flush-clause-ran : goal.returns-in_err-flush-clause-ran
returns-in_err-flush-clause-ran g c =
    let p = err_from_is_err_and c.from_residual-in_err-flush.result c.from_residual-in_err-flush.ensures.1 in
    rw (p.1, p.2) (λ past was over left.
    let inv = c.loop-end.invariant.so_far past was in
    cut_gathered _ _ c.loop-end.gathered.text.items _ (g.O.Sink.seen c.loop-end.out) _ c.in_err-flush.field-0.0 over
    left inv.so_far c.in_err-flush.ensures.wrote)

pub returns-clause-ran : goal.returns-clause-ran
returns-clause-ran g c =
    let wrote = c.in_ok-flush.ensures.wrote in
    λ past was.
    let inv = c.loop-end.invariant.so_far past was in
    record {
      past = inv.past;
      followed = inv.followed;
      so_far = comes _ _ _ c.loop-end.gathered.text.items [] [] _ (g.O.Sink.seen c.loop-end.out) _ inv.so_far
          (λ over left. rest_kept_in g.W.LineWork.advance g.W.LineWork.closing over c.loop-end.lines.number
          c.keep.new.self.number inv.past c.loop-end.lines.unended.items c.keep.new.self.unended.items
          c.loop-end.rest.now left
          c.in_default.ensures.parts c.keep.ensures.number
          c.keep.ensures.unended) (inl refl) (put c.loop-end.gathered.text.items _ _ wrote.0 wrote.1);
    }
