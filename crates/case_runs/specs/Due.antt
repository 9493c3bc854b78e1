-- Events with their verdicts, in order. Each verdict is the one that is due.
use Rattle.std.specs.Prelude.{◌≡◌, List, [], ◌∷◌}
use Rattle.ide_types.specs.declared.plan.Plan.{Plan}
use Rattle.script_events.specs.declared.event.Event.{Event}
use Rattle.event_verdicts.specs.declared.verdict.Verdict.{Verdict}
use Rattle.spec_keys.specs.History.{History}
use Rattle.spec_links.specs.Due.{due}

-- after a history, each event of a list gives the verdict beside it
abbrev pub AreDue : Plan → History → List (Event × Verdict) → Type 0
AreDue plan h [] = Unit {0}
AreDue plan h ((event, verdict) ∷ later) = (due plan h event ≡ verdict) × AreDue plan ((event, verdict) ∷ h) later
