use Rattle.std.proofs.Common.{◌∙◌}
use Rattle.file_runs.proofs.Findings.{last_behind, last_is}
use Rattle.file_runs.proofs.last.last_line.Goals as goal

pub returns-then-is_empty : goal.returns-then-is_empty
returns-then-is_empty c = last_is c.lines.rest.now c.in-Some.field-0-0.now c.in-Some.later.now c.in-Some.ensures.parts
    c.if-is_empty.ensures ∙ c.lines.invariant.same

pub lines-preserved : goal.lines-preserved
lines-preserved c = record {
  same = last_behind c.lines.rest.now c.in-Some.field-0-0.now c.in-Some.later.now c.in-Some.ensures.parts
      c.if-is_empty.ensures ∙ c.lines.invariant.same;
}
