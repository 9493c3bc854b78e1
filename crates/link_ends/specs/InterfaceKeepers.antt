-- The manager of interfaces at the ends of a link: what the device says of the stream that an operation asks for.
use Rattle.std.specs.Prelude.{ℕ, ◌≡◌, Option, None, IfSome}
use Rattle.script_events.specs.declared.event.Loss.{Loss}
use Rattle.interface_host.specs.declared.operation.InterfaceOutcome.{InterfaceOutcome}
use Rattle.interface_host.specs.declared.step.Step.{Step}
use Rattle.interface_host.specs.declared.step.Step.TheVariants.{Bind}
use Rattle.interface_host.specs.Managers.{InterfaceManagerView, CurrentInterface, current_interface}
use Rattle.interface_ends.specs.declared.said.StreamSaid.{StreamSaid}
use Rattle.interface_ends.specs.Replies.{DeviceTdis}
use Rattle.interface_ends.specs.Keepers.{Ended, manager_walk}
use Rattle.ide_port.specs.{PortEnd}
use Rattle.link_ends.specs.DeviceEnds.{secure_at}

-- what is Live at the device's end of the stream between devices that an exchange names
abbrev pub live_at_step : (ℕ → Option ℕ) → Step → Option ℕ
live_at_step live (Bind peer) = live peer.id
live_at_step live s = None

-- of the stream of the interface that is asked, or of the one that it is to be bound to
abbrev pub said_at : (ℕ → Option ℕ) → PortEnd → CurrentInterface → StreamSaid
said_at live port c = record { secure = secure_at port c.interface.stream; live = live_at_step live c.asking.step }

-- the device says this of the stream of the exchange that is asked, if one is
abbrev pub SaysNow : (ℕ → Option ℕ) → PortEnd → InterfaceManagerView → StreamSaid → Type 0
SaysNow live port m said = IfSome (current_interface m) (λ c. said ≡ said_at live port c)

abbrev pub ended_with : InterfaceOutcome → InterfaceManagerView → DeviceTdis → Ended
ended_with outcome m d = record { outcome = outcome; manager = m; device = d }

-- exchange after exchange, with what the device says of the stream, which no exchange changes
abbrev pub InterfaceWalks : ℕ → Option Loss → (ℕ → Option ℕ) → PortEnd → InterfaceManagerView → DeviceTdis → Ended
    → Type 0
InterfaceWalks more loss live port m d e =
    (said : StreamSaid) → SaysNow live port m said → e ≡ manager_walk more said loss m d
