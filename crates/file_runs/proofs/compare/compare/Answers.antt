use Rattle.std.proofs.Common.{◌∙◌, ap, sym, arith, false}
use Rattle.file_runs.specs.declared.ends.End.TheVariants as end
use Rattle.file_runs.specs.Pieces.{pieces}
use Rattle.file_runs.specs.Judging.{finding_due}
use Rattle.file_runs.proofs.Findings.{found_end, found_other, found_same, not_equal, told_by}
use Rattle.file_runs.proofs.compare.compare.Goals as goal

pub returns-in_default-after_line : goal.returns-in_default-after_line
returns-in_default-after_line c =
    let is = sym (found_other c.lines.lines (pieces c.lines.due.now) (pieces c.lines.claimed.now) c.in-Some.line.now
    c.in-Some.later.now c.in-Some.ensures.parts c.in_default-after_line.ensures) ∙ c.lines.invariant.found in
    told_by (λ text. text.items) c.tell_other.result end.Differs _ _ c.tell_other.ensures.end
    c.tell_other.ensures.text (ap (finding_due false c.args.due.now c.args.claimed.now) is)

pub lines-preserved : goal.lines-preserved
lines-preserved c = record {
  found = found_same c.lines.lines (pieces c.lines.due.now) (pieces c.lines.claimed.now) c.in-Some.line.now
      c.in-Some.later.now c.in-Some-after_line.rest.now c.in-Some.ensures.parts c.in-Some-after_line.ensures
      ∙ c.lines.invariant.found;
  few = omega (arith, c.lines.invariant.few, c.in-Some.ensures.shorter);
}

pub returns : goal.returns
returns c =
    let is = sym (found_end c.lines.lines c.lines.due.now c.lines.claimed.now
    (not_equal c.lines.claimed.now c.lines.due.now c.if-eq.ensures)) ∙
    (rw c.in_default.ensures.parts at c.lines.invariant.found) in
    told_by (λ text. text.items) c.tell_other-2.result end.Differs _ _ c.tell_other-2.ensures.end
    c.tell_other-2.ensures.text (ap (finding_due false c.args.due.now c.args.claimed.now) is)
