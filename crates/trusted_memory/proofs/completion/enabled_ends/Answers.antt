use Rattle.std.proofs.Common.{◌≡◌, ℕ, ◌+◌, ◌-◌, ◌≤◌, cond, filter, Option, Some, sym, ap, ◌∙◌, subst, arith}
use Rattle.std.specs.List.{range_with_len}
use Rattle.trusted_memory.specs.Spans.{span_byte_count, is_enabled}
use Rattle.trusted_memory.specs.Completions.{first_and_last, first_or}
use Rattle.trusted_memory.proofs.Full.{all_places}
use Rattle.trusted_memory.proofs.Places.{Within, first_and_last-more, within-more}
use Rattle.trusted_memory.proofs.completion.enabled_ends.Goals as goal

pub loop-i-preserved : goal.loop-i-preserved
loop-i-preserved c =
    let i = c.loop-i.i in
    let enabled = is_enabled c.args.span i in
    record {
      ends = c.ends_with-ends.ensures
          ∙ ap (λ (o : Option (ℕ × ℕ)). cond enabled (Some (first_or o i, i)) o) c.loop-i.invariant.ends
          ∙ sym (first_and_last-more (is_enabled c.args.span) i);
      within = subst (Within (i + 1)) (sym c.ends_with-ends.ensures)
          (within-more enabled c.loop-i.ends i c.loop-i.invariant.within);
    }

pub returns-then-enables_all-clause-ends : goal.returns-then-enables_all-clause-ends
returns-then-enables_all-clause-ends c =
    let s = c.args.span in
    let all = c.enables_all.ensures (c.if-enables_all.true) in
    let some : 1 ≤ s.length = all.0 in
    let same : c.bytes.result ≡ span_byte_count s = c.bytes.ensures in
    let n : (c.bytes.result - 1) + 1 ≡ span_byte_count s = omega arith in
    sym (subst (λ (m : ℕ). first_and_last (filter (is_enabled s) (range_with_len 0 m)) ≡ Some (0, c.bytes.result - 1)) n
    (all_places (is_enabled s) (c.bytes.result - 1) all.1))
