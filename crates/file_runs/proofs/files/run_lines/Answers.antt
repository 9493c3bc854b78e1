use Rattle.std.proofs.Common.{◌≡◌, ◌∙◌, ◌++◌, Ok, Err, option_map, take, length, length-take, refl, true, [], arith}
use Rattle.std.proofs.Math.Nat.{le-max_left}
use Rattle.std.specs.List.{slice_index_or}
use Rattle.file_runs.specs.declared.ends.Fault.TheVariants as fault
use Rattle.file_runs.specs.Gathering.{due_behind}
use Rattle.file_runs.specs.Lines.{file_due}
use Rattle.file_runs.proofs.FileFronts.{cut_wrote, end_at_limit, end_in_piece, end_of_file, fault_answers, fault_wrote}
use Rattle.file_runs.proofs.FileFronts.{file_begins, file_goes_on, no_further, nothing_more, nothing_wrote, one_byte}
use Rattle.file_runs.proofs.FileFronts.{whole_at}
use Rattle.file_runs.proofs.FileNames.{asks_more, asks_none}
use Rattle.file_runs.proofs.WholeFiles.{out_of_memory}
use Rattle.file_runs.proofs.files.run_lines.Goals as goal

pub returns-in_default-clause-due_outcome : goal.returns-in_default-clause-due_outcome
returns-in_default-clause-due_outcome g c = λ past was.
    out_of_memory (g.S.Shelf.seen c.args.shelf.now).contents
    (λ contents. option_map (file_due g.W.LineWork.advance g.W.LineWork.closing past)
    (contents c.args.name.now)) _ _ _ _

pub loop-n-init : goal.loop-n-init
loop-n-init g c = record {
  same = refl;
  faults = refl;
  given = omega arith;
  cap = omega arith;
  names = asks_none (λ other. other ≡ c.args.name.now) (g.S.Shelf.seen c.args.shelf.now).asked;
  pieces = le-max_left _ 4096;
  most = omega arith;
  numbered = omega (arith, c.in-Ok.ensures.number);
  fits = rw c.in-Ok.ensures.number c.requires;
  empty = c.new-gathered.ensures;
  so_far = λ past was. record {
    past = past;
    followed = was;
    so_far = file_begins g.W.LineWork.advance g.W.LineWork.closing past (g.S.Shelf.seen c.args.shelf.now).contents
        c.args.name.now c.in-Ok.lines.number c.in-Ok.lines.unended.items (g.O.Sink.seen c.args.out.now)
        c.in-Ok.ensures.number c.in-Ok.ensures.unended;
  };
}

pub returns-in_default-read_piece-clause-due_outcome : goal.returns-in_default-read_piece-clause-due_outcome
returns-in_default-read_piece-clause-due_outcome g c = λ past was.
    let inv = c.loop-n.invariant in
    let by = inv.so_far past was in
    let f = by.so_far in
    fault_answers g.W.LineWork.advance g.W.LineWork.closing past c.args.name.now c.loop-n.at
    c.loop-n.lines.number by.past c.loop-n.lines.unended.items (g.S.Shelf.seen c.args.shelf.now)
    (g.S.Shelf.seen c.read_piece.new.shelf)
    (g.O.Sink.seen c.args.out.now) (g.O.Sink.seen c.loop-n.out) c.in_default-read_piece.field-0 f inv.most
    (omega arith) (rw (inv.same, inv.faults) at c.in_default-read_piece.ensures.cause)

pub returns-in_default-clause-output_so_far : goal.returns-in_default-clause-output_so_far
returns-in_default-clause-output_so_far g c = λ past was.
    nothing_wrote g.W.LineWork.advance g.W.LineWork.closing past
    c.args.name.now (g.S.Shelf.seen c.args.shelf.now) (g.O.Sink.seen c.args.out.now)

pub returns-in_default-read_piece-clause-output_so_far : goal.returns-in_default-read_piece-clause-output_so_far
returns-in_default-read_piece-clause-output_so_far g c = λ past was.
    let inv = c.loop-n.invariant in
    let by = inv.so_far past was in
    let f = by.so_far in
    let same = c.in_default-read_piece.ensures.counted in
    fault_wrote g.W.LineWork.advance g.W.LineWork.closing past fault.Read c.args.name.now c.loop-n.at
    c.loop-n.lines.number by.past c.loop-n.lines.unended.items [] (g.S.Shelf.seen c.args.shelf.now)
    (g.S.Shelf.seen c.read_piece.new.shelf) (g.O.Sink.seen c.args.out.now) (g.O.Sink.seen c.loop-n.out)
    (g.O.Sink.seen c.loop-n.out) f
    (nothing_more (g.S.Shelf.seen c.args.shelf.now).contents c.args.name.now f.front f.is_read)
    (omega arith) (omega arith) (omega arith) (omega (arith, inv.given, same), omega (arith, inv.cap, same))
    (λ text was. was)

pub returns-then-n-eq0-clause-output_so_far : goal.returns-then-n-eq0-clause-output_so_far
returns-then-n-eq0-clause-output_so_far g c = λ past was.
    let inv = c.loop-n.invariant in
    let by = inv.so_far past was in
    let f = by.so_far in
    let counted = c.in-Ok-read_piece.ensures.counted in
    cut_wrote g.W.LineWork.advance g.W.LineWork.closing past c.args.name.now c.loop-n.at
    c.loop-n.lines.number by.past c.loop-n.lines.unended.items [] (g.S.Shelf.seen c.args.shelf.now)
    (g.S.Shelf.seen c.read_piece.new.shelf) (g.O.Sink.seen c.args.out.now) (g.O.Sink.seen c.loop-n.out)
    (g.O.Sink.seen c.run_last.new.out) _ c.run_last.result f
    (nothing_more (g.S.Shelf.seen c.args.shelf.now).contents c.args.name.now f.front f.is_read)
    (omega arith) (omega arith) (omega arith)
    (omega (arith, inv.given, counted, c.if-n-eq0.true), omega (arith, inv.cap, counted, c.if-n-eq0.true))
    (c.run_last.ensures.ran by.past by.followed)

pub returns-then-n-eq0-clause-due_outcome : goal.returns-then-n-eq0-clause-due_outcome
returns-then-n-eq0-clause-due_outcome g c = λ past was.
    let inv = c.loop-n.invariant in
    let by = inv.so_far past was in
    let f = by.so_far in
    let reads = (rw inv.same at c.in-Ok-read_piece.ensures.bytes) f.front f.size f.is_read in
    end_of_file g.W.LineWork.advance g.W.LineWork.closing past c.args.name.now c.loop-n.at
    c.loop-n.lines.number by.past c.loop-n.lines.unended.items (g.S.Shelf.seen c.args.shelf.now)
    (g.S.Shelf.seen c.read_piece.new.shelf)
    (g.O.Sink.seen c.args.out.now) (g.O.Sink.seen c.loop-n.out) (g.O.Sink.seen c.run_last.new.out) c.run_last.result
    f (whole_at (g.S.Shelf.seen c.args.shelf.now).contents c.args.name.now f.front
    c.read_piece.new.buf
    c.in-Ok-read_piece.n c.if-n-eq0.true reads) inv.most
    (c.in-Ok-read_piece.ensures.cause ∙ inv.faults)
    (rw c.deref.ensures.value at (c.run_last.ensures.ran by.past by.followed))

pub returns-then-at-eq-FILE_LIMIT-clause-due_outcome : goal.returns-then-at-eq-FILE_LIMIT-clause-due_outcome
returns-then-at-eq-FILE_LIMIT-clause-due_outcome g c = λ past was.
    let inv = c.loop-n.invariant in
    let by = inv.so_far past was in
    let f = by.so_far in
    let reads = (rw inv.same at c.in-Ok-read_piece.ensures.bytes) f.front f.size f.is_read in
    end_at_limit g.W.LineWork.advance g.W.LineWork.closing past c.args.name.now c.loop-n.at
    c.loop-n.lines.number by.past c.loop-n.lines.unended.items (slice_index_or c.read_piece.new.buf 0 0)
    (g.S.Shelf.seen c.args.shelf.now) (g.S.Shelf.seen c.read_piece.new.shelf) (g.O.Sink.seen c.args.out.now)
    (g.O.Sink.seen c.loop-n.out) (g.O.Sink.seen c.run_limit.new.out) c.run_limit.result f
    c.if-at-eq-FILE_LIMIT.true
    (one_byte (g.S.Shelf.seen c.args.shelf.now).contents c.args.name.now f.front c.read_piece.new.buf
    c.in-Ok-read_piece.n c.if-n-eq0.false (c.in-Ok-read_piece.ensures.one c.if-at-eq-FILE_LIMIT.true)
    c.in-Ok-read_piece.ensures.bound reads)
    (c.in-Ok-read_piece.ensures.cause ∙ inv.faults) c.run_limit.ensures.ran

pub returns-then-at-eq-FILE_LIMIT-clause-output_so_far : goal.returns-then-at-eq-FILE_LIMIT-clause-output_so_far
returns-then-at-eq-FILE_LIMIT-clause-output_so_far g c = λ past was.
    let inv = c.loop-n.invariant in
    let by = inv.so_far past was in
    let f = by.so_far in
    let n = c.in-Ok-read_piece.n in
    let counted = c.in-Ok-read_piece.ensures.counted in
    let reads = (rw inv.same at c.in-Ok-read_piece.ensures.bytes) f.front f.size f.is_read in
    let size : length (take n c.read_piece.new.buf) ≡ n = omega
    (arith, length-take n c.read_piece.new.buf, c.in-Ok-read_piece.ensures.bound) in
    cut_wrote g.W.LineWork.advance g.W.LineWork.closing past c.args.name.now c.loop-n.at
    c.loop-n.lines.number by.past c.loop-n.lines.unended.items (take n c.read_piece.new.buf)
    (g.S.Shelf.seen c.args.shelf.now)
    (g.S.Shelf.seen c.read_piece.new.shelf) (g.O.Sink.seen c.args.out.now) (g.O.Sink.seen c.loop-n.out)
    (g.O.Sink.seen c.run_limit.new.out) _ c.run_limit.result f reads.0 (omega arith)
    (omega (arith, size, c.in-Ok-read_piece.ensures.latest)) (omega (arith, size, c.in-Ok-read_piece.ensures.ahead))
    (omega (arith, inv.given, counted, size), omega (arith, inv.cap, counted, size)) c.run_limit.ensures.ran

pub returns-in-Err-clause-due_outcome : goal.returns-in-Err-clause-due_outcome
returns-in-Err-clause-due_outcome g c = λ past was.
    let inv = c.loop-n.invariant in
    let by = inv.so_far past was in
    let f = by.so_far in
    let reads = (rw inv.same at c.in-Ok-read_piece.ensures.bytes) f.front f.size f.is_read in
    let size : length (take c.in-Ok-read_piece.n c.read_piece.new.buf)
    ≡ c.in-Ok-read_piece.n = omega
    (arith, length-take c.in-Ok-read_piece.n c.read_piece.new.buf, c.in-Ok-read_piece.ensures.bound) in
    end_in_piece g.W.LineWork.advance g.W.LineWork.closing past c.args.name.now c.loop-n.at
    c.loop-n.lines.number by.past c.loop-n.lines.unended.items
    (take c.in-Ok-read_piece.n c.read_piece.new.buf)
    (g.S.Shelf.seen c.args.shelf.now) (g.S.Shelf.seen c.read_piece.new.shelf) (g.O.Sink.seen c.args.out.now)
    (g.O.Sink.seen c.loop-n.out) (g.O.Sink.seen c.run_piece.new.out) (Err c.in-Err.e) f reads.0
    (omega (arith, size))
    (omega (arith, size, c.in-Ok-read_piece.ensures.counts)) (c.in-Ok-read_piece.ensures.cause ∙ inv.faults)
    (c.in-Err.ensures.ran by.past by.followed)

pub returns-in-Err-clause-output_so_far : goal.returns-in-Err-clause-output_so_far
returns-in-Err-clause-output_so_far g c = λ past was.
    let inv = c.loop-n.invariant in
    let by = inv.so_far past was in
    let f = by.so_far in
    let n = c.in-Ok-read_piece.n in
    let counted = c.in-Ok-read_piece.ensures.counted in
    let reads = (rw inv.same at c.in-Ok-read_piece.ensures.bytes) f.front f.size f.is_read in
    let size : length (take n c.read_piece.new.buf) ≡ n = omega
    (arith, length-take n c.read_piece.new.buf, c.in-Ok-read_piece.ensures.bound) in
    cut_wrote g.W.LineWork.advance g.W.LineWork.closing past c.args.name.now c.loop-n.at
    c.loop-n.lines.number by.past c.loop-n.lines.unended.items (take n c.read_piece.new.buf)
    (g.S.Shelf.seen c.args.shelf.now)
    (g.S.Shelf.seen c.read_piece.new.shelf) (g.O.Sink.seen c.args.out.now) (g.O.Sink.seen c.loop-n.out)
    (g.O.Sink.seen c.run_piece.new.out)
    (due_behind g.W.LineWork.advance g.W.LineWork.closing true c.loop-n.lines.number by.past
    c.loop-n.lines.unended.items (take c.in-Ok-read_piece.n c.read_piece.new.buf ++ [])) (Err c.in-Err.e) f
    reads.0 (omega arith)
    (omega (arith, size, c.in-Ok-read_piece.ensures.latest)) (omega (arith, size, c.in-Ok-read_piece.ensures.ahead))
    (omega (arith, inv.given, counted, size), omega (arith, inv.cap, counted, size))
    (c.in-Err.ensures.ran by.past by.followed true [])

pub returns-in-Ok-Some-clause-due_outcome : goal.returns-in-Ok-Some-clause-due_outcome
returns-in-Ok-Some-clause-due_outcome g c = λ past was.
    let inv = c.loop-n.invariant in
    let by = inv.so_far past was in
    let f = by.so_far in
    let reads = (rw inv.same at c.in-Ok-read_piece.ensures.bytes) f.front f.size f.is_read in
    let size : length (take c.in-Ok-read_piece.n c.read_piece.new.buf)
    ≡ c.in-Ok-read_piece.n = omega
    (arith, length-take c.in-Ok-read_piece.n c.read_piece.new.buf, c.in-Ok-read_piece.ensures.bound) in
    let ran = (rw c.in-Ok-Some.field-0-is at c.in-Ok-Some.ensures.ran) by.past by.followed in
    end_in_piece g.W.LineWork.advance g.W.LineWork.closing past c.args.name.now c.loop-n.at
    c.loop-n.lines.number by.past c.loop-n.lines.unended.items
    (take c.in-Ok-read_piece.n c.read_piece.new.buf)
    (g.S.Shelf.seen c.args.shelf.now) (g.S.Shelf.seen c.read_piece.new.shelf) (g.O.Sink.seen c.args.out.now)
    (g.O.Sink.seen c.loop-n.out) (g.O.Sink.seen c.run_piece.new.out) (Ok c.in-Ok-Some.end) f reads.0
    (omega (arith, size))
    (omega (arith, size, c.in-Ok-read_piece.ensures.counts)) (c.in-Ok-read_piece.ensures.cause ∙ inv.faults) ran

pub loop-n-preserved : goal.loop-n-preserved
loop-n-preserved g c =
    let inv = c.loop-n.invariant in
    let n = c.in-Ok-read_piece.n in
    let size : length (take c.in-Ok-read_piece.n c.read_piece.new.buf)
    ≡ c.in-Ok-read_piece.n = omega
    (arith, length-take c.in-Ok-read_piece.n c.read_piece.new.buf, c.in-Ok-read_piece.ensures.bound) in
    let ran = rw c.in-Ok-None.field-0-is at c.in-Ok-None.ensures.ran in
    let number = (rw c.in-Ok-None.field-0-is at c.in-Ok-None.ensures.number) refl in
    record {
      same = c.in-Ok-read_piece.ensures.same ∙ inv.same;
      faults = c.in-Ok-read_piece.ensures.cause ∙ inv.faults;
      given = omega (arith, inv.given, c.in-Ok-read_piece.ensures.counted);
      cap = omega (arith, inv.cap, c.in-Ok-read_piece.ensures.counted);
      names = asks_more (λ other. other ≡ c.args.name.now) _ _ _ inv.names c.in-Ok-read_piece.ensures.file_names;
      pieces = omega (arith, inv.pieces, c.in-Ok-read_piece.ensures.read_pieces);
      most = omega (arith, c.in-Ok-read_piece.ensures.counts);
      numbered = omega (arith, number, size, inv.numbered);
      fits = (rw c.in-Ok-None.field-0-is at c.in-Ok-None.ensures.fits) refl;
      empty = (rw c.in-Ok-None.field-0-is at c.in-Ok-None.ensures.empty) refl;
      so_far = λ past was.
          let by = inv.so_far past was in
          let f = by.so_far in
          let reads = (rw inv.same at c.in-Ok-read_piece.ensures.bytes) f.front f.size f.is_read in
          let next = ran by.past by.followed in
          record {
            past = next.past;
            followed = next.followed;
            so_far = file_goes_on g.W.LineWork.advance g.W.LineWork.closing past
                (g.S.Shelf.seen c.args.shelf.now).contents c.args.name.now c.loop-n.at c.loop-n.lines.number
                c.run_piece.new.lines.number n by.past next.past c.loop-n.lines.unended.items
                c.run_piece.new.lines.unended.items (take n c.read_piece.new.buf) (g.O.Sink.seen c.args.out.now)
                (g.O.Sink.seen c.loop-n.out) (g.O.Sink.seen c.run_piece.new.out) f reads.0 size next.so_far;
          };
    }

pub returns-then-n-eq0-clause-reads_no_further : goal.returns-then-n-eq0-clause-reads_no_further
returns-then-n-eq0-clause-reads_no_further g c = λ past was.
    let inv = c.loop-n.invariant in
    let by = inv.so_far past was in
    let f = by.so_far in
    let counted = c.in-Ok-read_piece.ensures.counted in
    no_further g.W.LineWork.advance g.W.LineWork.closing past c.args.name.now c.loop-n.at
    c.loop-n.lines.number by.past c.loop-n.lines.unended.items [] (g.S.Shelf.seen c.args.shelf.now)
    (g.S.Shelf.seen c.read_piece.new.shelf) (g.O.Sink.seen c.args.out.now) (g.O.Sink.seen c.loop-n.out)
    c.run_last.result f
    (nothing_more (g.S.Shelf.seen c.args.shelf.now).contents c.args.name.now f.front f.is_read)
    (omega arith) (omega (arith, c.if-n-eq0.true, c.in-Ok-read_piece.ensures.latest))
    (omega (arith, inv.given, counted, c.if-n-eq0.true), omega (arith, inv.cap, counted, c.if-n-eq0.true))

pub returns-then-at-eq-FILE_LIMIT-clause-reads_no_further : goal.returns-then-at-eq-FILE_LIMIT-clause-reads_no_further
returns-then-at-eq-FILE_LIMIT-clause-reads_no_further g c = λ past was.
    let inv = c.loop-n.invariant in
    let by = inv.so_far past was in
    let f = by.so_far in
    let n = c.in-Ok-read_piece.n in
    let counted = c.in-Ok-read_piece.ensures.counted in
    let reads = (rw inv.same at c.in-Ok-read_piece.ensures.bytes) f.front f.size f.is_read in
    let size : length (take n c.read_piece.new.buf) ≡ n = omega
    (arith, length-take n c.read_piece.new.buf, c.in-Ok-read_piece.ensures.bound) in
    no_further g.W.LineWork.advance g.W.LineWork.closing past c.args.name.now c.loop-n.at
    c.loop-n.lines.number by.past c.loop-n.lines.unended.items (take n c.read_piece.new.buf)
    (g.S.Shelf.seen c.args.shelf.now)
    (g.S.Shelf.seen c.read_piece.new.shelf) (g.O.Sink.seen c.args.out.now) (g.O.Sink.seen c.loop-n.out)
    c.run_limit.result f reads.0 (omega arith)
    (omega (arith, size, c.in-Ok-read_piece.ensures.latest))
    (omega (arith, inv.given, counted, size), omega (arith, inv.cap, counted, size))

pub returns-in-Ok-Some-clause-reads_no_further : goal.returns-in-Ok-Some-clause-reads_no_further
returns-in-Ok-Some-clause-reads_no_further g c = λ past was.
    let inv = c.loop-n.invariant in
    let by = inv.so_far past was in
    let f = by.so_far in
    let n = c.in-Ok-read_piece.n in
    let counted = c.in-Ok-read_piece.ensures.counted in
    let reads = (rw inv.same at c.in-Ok-read_piece.ensures.bytes) f.front f.size f.is_read in
    let size : length (take n c.read_piece.new.buf) ≡ n = omega
    (arith, length-take n c.read_piece.new.buf, c.in-Ok-read_piece.ensures.bound) in
    no_further g.W.LineWork.advance g.W.LineWork.closing past c.args.name.now c.loop-n.at
    c.loop-n.lines.number by.past c.loop-n.lines.unended.items (take n c.read_piece.new.buf)
    (g.S.Shelf.seen c.args.shelf.now)
    (g.S.Shelf.seen c.read_piece.new.shelf) (g.O.Sink.seen c.args.out.now) (g.O.Sink.seen c.loop-n.out)
    (Ok c.in-Ok-Some.end) f reads.0 (omega arith)
    (omega (arith, size, c.in-Ok-read_piece.ensures.latest))
    (omega (arith, inv.given, counted, size), omega (arith, inv.cap, counted, size))

pub returns-in_default-clause-file_names : goal.returns-in_default-clause-file_names
returns-in_default-clause-file_names g c = asks_none (λ other. other ≡ c.args.name.now)
    (g.S.Shelf.seen c.args.shelf.now).asked

pub returns-in_default-read_piece-clause-file_names : goal.returns-in_default-read_piece-clause-file_names
returns-in_default-read_piece-clause-file_names g c = asks_more (λ other. other ≡ c.args.name.now) _ _ _
    c.loop-n.invariant.names c.in_default-read_piece.ensures.file_names

pub returns-then-n-eq0-clause-file_names : goal.returns-then-n-eq0-clause-file_names
returns-then-n-eq0-clause-file_names g c =
    asks_more (λ other. other ≡ c.args.name.now) _ _ _ c.loop-n.invariant.names c.in-Ok-read_piece.ensures.file_names

pub returns-then-at-eq-FILE_LIMIT-clause-file_names : goal.returns-then-at-eq-FILE_LIMIT-clause-file_names
returns-then-at-eq-FILE_LIMIT-clause-file_names g c =
    asks_more (λ other. other ≡ c.args.name.now) _ _ _ c.loop-n.invariant.names c.in-Ok-read_piece.ensures.file_names

pub returns-in-Err-clause-file_names : goal.returns-in-Err-clause-file_names
returns-in-Err-clause-file_names g c =
    asks_more (λ other. other ≡ c.args.name.now) _ _ _ c.loop-n.invariant.names c.in-Ok-read_piece.ensures.file_names

pub returns-in-Ok-Some-clause-file_names : goal.returns-in-Ok-Some-clause-file_names
returns-in-Ok-Some-clause-file_names g c =
    asks_more (λ other. other ≡ c.args.name.now) _ _ _ c.loop-n.invariant.names c.in-Ok-read_piece.ensures.file_names
