-- Ports by link, and the state of a stream at a port.
use Rattle.std.specs.Prelude.{ℕ, Bool, true, false}
use Rattle.ide_types.specs.declared.port.Side.TheVariants.{Host, Device}
use Rattle.ide_types.specs.declared.port.PortName.{PortName}
use Rattle.ide_types.specs.declared.status.StreamStatus.{StreamStatus}
use Rattle.ide_types.specs.declared.status.StreamStatus.TheVariants.{Idle, Partial, Secure, Insecure}

abbrev pub host_port : ℕ → PortName
host_port line = record { side = Host; line = line }

abbrev pub device_port : ℕ → PortName
device_port line = record { side = Device; line = line }

-- failed; or keyed throughout, in part, or not at all
abbrev pub keyed_status : Bool → Bool → Bool → StreamStatus
keyed_status true some all = Insecure
keyed_status false some true = Secure
keyed_status false true false = Partial
keyed_status false false false = Idle
