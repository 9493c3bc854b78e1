-- The writes that an arrival brings to trusted memory.
use Rattle.std.specs.Prelude.{List, [], Option}
use Rattle.ide_types.specs.declared.plan.Plan.{Plan}
use Rattle.event_verdicts.specs.declared.verdict.Verdict.{Verdict}
use Rattle.event_verdicts.specs.declared.verdict.Verdict.TheVariants as v
use Rattle.spec_links.specs.History.{ArrivedBytes}
use Rattle.spec_links.specs.Memory.{Grants, admitted_writes}
use Rattle.machine_whole.specs.{LinkState}
use Rattle.trusted_memory.specs.{Write}
use Rattle.machine_whole.specs.Machine.{unit_in}

-- the writes of the unit that the arrival ends, if it was accepted
abbrev pub writes_by : Plan → Grants → LinkState → Option ArrivedBytes → Verdict → List (Option Write)
writes_by plan grants st arrival (v.Accepted port unit effects) =
    admitted_writes plan grants port unit (unit_in plan st arrival)
writes_by plan grants st arrival verdict = []
