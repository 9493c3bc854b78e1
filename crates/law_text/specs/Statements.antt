-- What the lines of a history tell of its verdicts.
use Rattle.std.specs.Prelude.{ℕ, ◌≡◌, ◌<◌, ◌^◌, List, [], ◌++◌, length}
use Rattle.ide_types.specs.declared.plan.Plan.{Plan}
use Rattle.ide_types.specs.Fits.{FitsPlan}
use Rattle.script_events.specs.declared.event.Event.{Event}
use Rattle.script_events.specs.Spells.{IsAllowed}
use Rattle.event_verdicts.specs.Apart.{Fits}
use Rattle.spec_keys.specs.History.{History}
use Rattle.spec_links.specs.Due.{due}
use Rattle.spec_links.specs.Cause.{CauseLaw}
use Rattle.law_text.specs.Runs.{history_on, text_on}
use Rattle.law_text.specs.Telling.{events_told, lines_told, VerdictsFit, AreAllowed}

-- In a history of few events, what is due of an event that a line may spell has numbers and bytes that the types hold.
abbrev pub DueFits : Type 0
DueFits =
    (plan : Plan) → FitsPlan plan → (h : History) → CauseLaw plan h → length h < 2 ^ 28 → (e : Event) → IsAllowed e
    → Fits plan (due plan h e)

-- If the text of events begins with the lines of a history of the first of them, each verdict of that history is the
-- one that is due.
abbrev pub LinesTell : Type 0
LinesTell =
    (plan : Plan) → FitsPlan plan → (h : History) (later : List Event) (rest last : List ℕ)
    → AreAllowed (events_told h ++ later)
    → VerdictsFit plan h → lines_told plan h ++ rest ≡ text_on plan [] (events_told h ++ later) ++ last
    → CauseLaw plan h

-- The history of events, each with the verdict that is due, has these events, verdicts that fit, and the text of the
-- events for its lines.
pub record IsTold (plan : Plan) (events : List Event) : Type 0 where
  pub events_are : events_told (history_on plan [] events) ≡ events
  pub verdicts_fit : VerdictsFit plan (history_on plan [] events)
  pub lines_are : lines_told plan (history_on plan [] events) ≡ text_on plan [] events

abbrev pub AreTold : Type 0
AreTold = (plan : Plan) → FitsPlan plan → (events : List Event) → AreAllowed events → IsTold plan events
