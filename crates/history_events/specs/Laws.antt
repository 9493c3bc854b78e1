-- What a script's event comes to is an event that a history may have.
use Rattle.ide_types.specs.declared.plan.Plan.{Plan}
use Rattle.ide_types.specs.Fits.{FitsPlan}
use Rattle.history_events.specs.Terms.{ScriptEvent}
use Rattle.script_events.specs.Spells.{IsAllowed, IsAllowedInScript}
use Rattle.history_events.specs.Events.{event_of}

abbrev pub EventsAreAllowed : Type 0
EventsAreAllowed = (plan : Plan) → FitsPlan plan → (e : ScriptEvent) → IsAllowedInScript e → IsAllowed (event_of plan e)
