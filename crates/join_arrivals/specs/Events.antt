-- What events name.
use Rattle.std.specs.Prelude.{ℕ, Option}
use Rattle.script_events.specs.declared.event.Event.{Event}
use Rattle.script_events.specs.declared.event.Event.TheVariants.{Establish, Refresh, Stop}
use Rattle.script_events.specs.declared.event.Loss.{Loss}
use Rattle.event_verdicts.specs.declared.verdict.Operation.{Operation}
use Rattle.event_verdicts.specs.declared.verdict.Operation.TheVariants as op

abbrev pub operation_event : Operation → ℕ → ℕ → Option Loss → Event
operation_event op.Establish line stream loss = Establish line stream loss
operation_event op.Refresh line stream loss = Refresh line stream loss
operation_event op.Stop line stream loss = Stop line stream loss
