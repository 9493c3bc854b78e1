-- Bytes that go through a switch change nothing.
use Rattle.std.specs.Prelude.{◌≡◌, true}
use Rattle.ide_types.specs.declared.port.PortName.{PortName}
use Rattle.ide_types.specs.declared.plan.Plan.{Plan}
use Rattle.script_events.specs.declared.event.Event.{Event}
use Rattle.event_verdicts.specs.declared.verdict.Verdict.TheVariants as v
use Rattle.spec_links.specs.HopLaws.{brings_bytes}
use Rattle.machine_ports.specs.Machine.{BesidePorts, LinkState, step_of}

-- A step that answers so of bytes that arrive leaves the state as it was.
abbrev pub ThroughStays : Type 0
ThroughStays = (plan : Plan) (beside : BesidePorts) (st : LinkState) (e : Event) (port : PortName) → brings_bytes e
    ≡ true
    → (step_of plan beside st e).0 ≡ v.Through port → (step_of plan beside st e).1 ≡ st
