-- What a history tells: its events, and the lines of its verdicts.
use Rattle.std.specs.Prelude.{ℕ, ◌+◌, ◌<◌, ◌^◌, List, [], ◌∷◌, ◌++◌, length}
use Rattle.std.specs.List.{AllByRecursion}
use Rattle.script_events.specs.declared.event.Event.{Event}
use Rattle.script_events.specs.Spells.{IsAllowed}
use Rattle.event_verdicts.specs.Apart.{Fits}
use Rattle.event_verdicts.specs.Lines.{line_of}
use Rattle.event_verdicts.specs.Shown.{verdict_by_ports}
use Rattle.ide_types.specs.declared.plan.Plan.{Plan}
use Rattle.spec_keys.specs.History.{History}

-- the events in their order
abbrev pub events_told : History → List Event
events_told [] = []
events_told ((event, verdict) ∷ h) = events_told h ++ event ∷ []

-- the verdicts' lines in their order, numbered from 1
abbrev pub lines_told : Plan → History → List ℕ
lines_told plan [] = []
lines_told plan ((event, verdict) ∷ h) = lines_told plan h
    ++ line_of (length h + 1) (verdict_by_ports plan.peers verdict)

-- each verdict names what the topology has, and its numbers and bytes are such as the types hold
abbrev pub VerdictsFit : Plan → History → Type 0
VerdictsFit plan [] = Unit {0}
VerdictsFit plan ((event, verdict) ∷ h) = Fits plan verdict × VerdictsFit plan h

-- the events of a script: of few lines, and each one that a line may spell
pub record AreAllowed (events : List Event) : Type 0 where
  pub few : length events < 2 ^ 28
  pub each : AllByRecursion IsAllowed events
