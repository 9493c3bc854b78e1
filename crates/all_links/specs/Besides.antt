-- What all links say beside their ports: T of what is sent, and the answers to events on interfaces.
use Rattle.std.specs.Prelude.{ℕ, ◌≡◌, Option, Some, IsSome}
use Rattle.script_events.specs.declared.event.Event.{Event}
use Rattle.script_events.specs.declared.event.Event.TheVariants.{Interface}
use Rattle.script_events.specs.declared.event.InterfaceEvent.{InterfaceEvent}
use Rattle.script_events.specs.declared.event.Loss.{Loss}
use Rattle.event_verdicts.specs.declared.verdict.Verdict.{Verdict}
use Rattle.machine_ports.specs.Machine.{BesidePorts}
use Rattle.interface_host.specs.declared.operation.InterfaceOperation.{InterfaceOperation}
use Rattle.line_arrivals.specs.{trusting_on}
use Rattle.all_links.specs.declared.links.Links.{Links}
use Rattle.all_links.specs.Interfaces.{ended_in, verdict_at_ends, verdict_in}

-- T is theirs; all else is said elsewhere
abbrev pub beside_in : Links → BesidePorts → BesidePorts
beside_in s b = record b { t = λ port head stream trusted. trusting_on s.ends port trusted head stream }

-- ---- events on interfaces

-- the verdict of an event on an interface, if it has one
abbrev pub answer_of_links : Links → InterfaceEvent → Option Verdict
answer_of_links s e = verdict_at_ends s.ends s.keeper s.trusted.contents e

-- that of an operation on an interface
abbrev pub op_verdict : Links → ℕ → InterfaceOperation → Option Loss → Option Verdict
op_verdict s n o loss = verdict_in n o loss (ended_in s.keeper s.ends n o loss)

-- If the event is one on an interface, it has a verdict: it is no operation with a bad reply, nor one that lost an
-- exchange none of whose messages is lost.
abbrev pub IsAnswered : Links → Event → Type 0
IsAnswered s event = (e : InterfaceEvent) → event ≡ Interface e → IsSome (answer_of_links s e)

-- If the event is one on an interface, it has a verdict, and this answer is that verdict.
abbrev pub HasAnswerOfLinks : Links → Event → BesidePorts → Type 0
HasAnswerOfLinks s event b = (e : InterfaceEvent) → event ≡ Interface e → answer_of_links s e ≡ Some (b.answer e)
