use Rattle.std.proofs.Common.{sym, ap, drop, List}
use Rattle.std.specs.Prelude.{slice_get}
use Rattle.file_runs.specs.Differing.{Line}
use Rattle.file_runs.proofs.Differences.{ends_first}
use Rattle.file_runs.proofs.differing.first_line.Goals as goal

pub returns-in-Some-clause-first : goal.returns-in-Some-clause-first
returns-in-Some-clause-first c = sym (ap (λ (lines : List Line). slice_get lines 0)
    (ends_first c.args.text.now c.in-Some.line.now c.in-Some.rest.now c.in-Some.ensures.parts))

pub returns-in-Some-clause-rest : goal.returns-in-Some-clause-rest
returns-in-Some-clause-rest c = sym (ap (λ (lines : List Line). drop 1 lines)
    (ends_first c.args.text.now c.in-Some.line.now c.in-Some.rest.now c.in-Some.ensures.parts))
