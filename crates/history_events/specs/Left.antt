-- What is left of the events, and what a call gives of them.
use Rattle.std.specs.Prelude.{◌≡◌, ℕ, List, [], ◌∷◌, ◌++◌, Option, Some, None, Result, Ok, Err}
use Rattle.ide_types.specs.declared.memory.OutOfMemory.{OutOfMemory}
use Rattle.script_events.specs.declared.event.Event.{Event}
use Rattle.history_events.specs.declared.numbers.Numbers.{Numbers}
use Rattle.history_events.specs.declared.step.Step.{Step}
use Rattle.history_events.specs.GeneratedEvents.{events_from, event_rounds}

-- the events from a step on, and those of so many rounds
abbrev pub events_left : Option Step → ℕ → Numbers → List Event
events_left ahead count s = events_from ahead ++ event_rounds count s

-- the first of the events that were left, or none if none was; for want of memory all are still left
abbrev pub Takes : List Event → Result (Option Event) OutOfMemory → List Event → Type 0
Takes before (Ok (Some e)) now = before ≡ e ∷ now
Takes before (Ok None) now = (before ≡ []) × (now ≡ [])
Takes before (Err memory) now = now ≡ before
