-- The two ends of a link.
use Rattle.std.specs.Prelude.{ℕ, Bool, List}
use Rattle.ide_types.specs.declared.port.Side.{Side}
use Rattle.ide_types.specs.declared.port.Side.TheVariants.{Host, Device}
use Rattle.ide_types.specs.declared.stream.StreamPlan.{StreamPlan}
use Rattle.ide_types.specs.declared.interface.InterfacePlan.{InterfacePlan}
use Rattle.ide_port.specs.{PortEnd, Trusting, new_port}
use Rattle.link_ends.specs.DeviceEnds.{new_device, device_trusting}
use Rattle.join_keys.specs.{port_at}
use Rattle.link_ends.specs.declared.ends.LinkEnds.{LinkEnds}

-- no stream has keys
abbrev pub new_ends : ℕ → List StreamPlan → ℕ → ℕ → List InterfacePlan → List (List ℕ) → LinkEnds
new_ends line plans limit requester interfaces nonces = record {
  host = new_port (port_at Host line) plans limit;
  device = new_device line plans limit requester interfaces nonces;
}

-- the port of a side
abbrev pub port_in : Side → LinkEnds → PortEnd
port_in Host l = l.host
port_in Device l = l.device.port

-- with another port of a side
abbrev pub with_port : Side → PortEnd → LinkEnds → LinkEnds
with_port Host e l = record l { host = e }
with_port Device e l = record l { device = record l.device { port = e } }

-- T at the port of a side, if a host is asked for it
abbrev pub trusting_at : Side → LinkEnds → Bool → Trusting
trusting_at Host l trusted = λ head stream. trusted
trusting_at Device l trusted = device_trusting l.device.interfaces
