-- The facts of a state are those of each history that it stands for.
use Rattle.std.specs.Prelude.{◌≡◌}
use Rattle.ide_types.specs.declared.plan.Plan.{Plan}
use Rattle.script_events.specs.declared.event.Event.{Event}
use Rattle.spec_keys.specs.History.{History}
use Rattle.machine_whole.specs.Machine.{Whole}
use Rattle.machine_whole.specs.Stands.{WholeStandsFor}
use Rattle.why_facts.specs.Due.{facts_due}
use Rattle.why_facts.specs.Kept.{facts_in}

abbrev pub FactsStand : Type 0
FactsStand =
    (plan : Plan) (w : Whole) (h : History) (e : Event) → WholeStandsFor plan w h → facts_in plan w e
    ≡ facts_due plan h e
