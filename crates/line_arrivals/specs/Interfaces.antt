-- What events on interfaces and on trusted memory give, by what is kept.
use Rattle.std.specs.Prelude.{ℕ, Bool, true, false, nat_lt, nat_le, if◌then◌else◌, List, length, slice_get, Option}
use Rattle.std.specs.Prelude.{Some, None}
use Rattle.std.specs.List.{slice_index_or}
use Rattle.std.specs.Option.{option_and_then}
use Rattle.ide_types.specs.declared.register.Register.{Register}
use Rattle.ide_types.specs.declared.verdict.InterfaceVerdict.TheVariants as iv
use Rattle.ide_types.specs.RegisterNames.{has_register}
use Rattle.script_events.specs.declared.event.Loss.{Loss}
use Rattle.script_events.specs.declared.event.InterfaceEvent.{InterfaceEvent}
use Rattle.script_events.specs.declared.event.InterfaceEvent.TheVariants as ie
use Rattle.event_verdicts.specs.declared.verdict.Verdict.{Verdict}
use Rattle.event_verdicts.specs.declared.verdict.Verdict.TheVariants as verdict
use Rattle.interface_state.specs.Machine.{DeviceTdi, WriteRegister, LevelReset, FirmwareUpdate}
use Rattle.interface_ends.specs.Replies.{DeviceTdis}
use Rattle.interface_host.specs.declared.operation.InterfaceOperation.{InterfaceOperation}
use Rattle.interface_host.specs.declared.operation.InterfaceOperation.TheVariants as op
use Rattle.interface_host.specs.Views.{HostTdi, view_of}
use Rattle.interface_host.specs.Managers.{InterfaceManagerView}
use Rattle.interface_ends.specs.Keepers.{Ended}
use Rattle.trusted_memory.specs.{MemoryContents, byte_at, bytes_from, in_one_region}
use Rattle.all_ends.specs.{LinkEnds, operated_on, HostKeeper}
use Rattle.spec_interfaces.specs.Peers.{has_peer}
use Rattle.spec_interfaces.specs.Views.{peer_of}
use Rattle.interface_host.specs.declared.operation.PeerStream.{PeerStream}
use Rattle.all_ends.specs.Ends.{EndsView, peer_live}
use Rattle.all_ends.specs.Places.{place_on_links, code_behind}
use Rattle.join_interfaces.specs.Verdicts.{ended_verdict}

-- ---- interfaces by number

abbrev pub interface_named : InterfaceManagerView → List LinkEnds → ℕ → Option (ℕ × ℕ)
interface_named m ends n =
    if nat_lt n (length m.interfaces) then (if nat_le n 255 then place_on_links 0 n ends else None) else None

-- ---- what the manager asks

abbrev pub ended_on_link : HostKeeper → EndsView → ℕ → InterfaceOperation → Option Loss → ℕ → Option LinkEnds
    → Option HostTdi → Option Ended
ended_on_link k v i o loss link (Some l) (Some x) =
    Some (operated_on i o loss k.keys (peer_live v link) k.interfaces l x)
ended_on_link k v i o loss link l x = None

abbrev pub ended_if_there : HostKeeper → EndsView → ℕ → InterfaceOperation → Option Loss → Option (ℕ × ℕ) → Option Ended
ended_if_there k v i o loss None = None
ended_if_there k v i o loss (Some at) =
    ended_on_link k v i o loss at.0 (slice_get v.links at.0) (slice_get k.interfaces.interfaces i)

abbrev pub ended_in : HostKeeper → EndsView → ℕ → InterfaceOperation → Option Loss → Option Ended
ended_in k v i o loss = ended_if_there k v i o loss (interface_named k.interfaces v.links i)

-- the verdict, if the operation has one; what is asked of no interface gives nothing
abbrev pub verdict_in : ℕ → InterfaceOperation → Option Loss → Option Ended → Option Verdict
verdict_in i o loss None = Some verdict.Nothing
verdict_in i o loss (Some e) = ended_verdict i o loss e

-- ---- streams between devices

-- as the manager has it, by its line and its ID
abbrev pub managed_peer_stream : HostKeeper → ℕ → ℕ → PeerStream
managed_peer_stream k line stream =
    record { line = line; id = stream; draw = slice_index_or k.peer_draws (peer_of line) 0 }

-- the interface is there, and its device has the stream
abbrev pub has_peer_if_there : EndsView → ℕ → ℕ → Option (ℕ × ℕ) → Bool
has_peer_if_there v line stream None = false
has_peer_if_there v line stream (Some at) = has_peer v.peers at.0 line stream

abbrev pub has_peer_in : HostKeeper → EndsView → ℕ → ℕ → ℕ → Bool
has_peer_in k v i line stream = has_peer_if_there v line stream (interface_named k.interfaces v.links i)

-- what is asked of no such stream gives nothing
abbrev pub peer_verdict_in : HostKeeper → EndsView → ℕ → ℕ → ℕ → InterfaceOperation → Option Loss → Option Verdict
peer_verdict_in k v i line stream o loss =
    if has_peer_in k v i line stream then verdict_in i o loss (ended_in k v i o loss) else Some verdict.Nothing

-- ---- what is done to the device

abbrev pub device_interfaces : Option LinkEnds → Option DeviceTdis
device_interfaces None = None
device_interfaces (Some l) = Some l.device.interfaces

abbrev pub interface_of_ends : List LinkEnds → ℕ × ℕ → Option DeviceTdi
interface_of_ends ends at = option_and_then (λ d. slice_get d.interfaces at.1) (device_interfaces (slice_get ends at.0))

abbrev pub named_device_interface : InterfaceManagerView → List LinkEnds → ℕ → Option DeviceTdi
named_device_interface m ends i = option_and_then (interface_of_ends ends) (interface_named m ends i)

abbrev pub written_as : ℕ → Register → ℕ → Option DeviceTdi → Verdict
written_as i register value None = verdict.Nothing
written_as i register value (Some tdi) =
    if has_register tdi.plan register then verdict.Interface
    (iv.Written i (code_behind tdi (WriteRegister register value)))
    else verdict.Nothing

abbrev pub flr_as : ℕ → Option DeviceTdi → Verdict
flr_as i None = verdict.Nothing
flr_as i (Some tdi) = verdict.Interface (iv.Flr i (code_behind tdi LevelReset))

abbrev pub firmware_as : ℕ → Option DeviceTdi → Verdict
firmware_as i None = verdict.Nothing
firmware_as i (Some tdi) = verdict.Interface (iv.Firmware i (code_behind tdi FirmwareUpdate))

-- ---- views and memory

abbrev pub viewed_as : ℕ → Option HostTdi → Verdict
viewed_as i None = verdict.Nothing
viewed_as i (Some x) = verdict.Interface (iv.View i (view_of x.seen))

abbrev pub interface_seen_at : InterfaceManagerView → ℕ → Option (ℕ × ℕ) → Option HostTdi
interface_seen_at m i None = None
interface_seen_at m i (Some at) = slice_get m.interfaces i

abbrev pub memory_verdict : Bool → List ℕ → Verdict
memory_verdict true bytes = verdict.Interface (iv.Memory bytes)
memory_verdict false bytes = verdict.Nothing

-- ---- all of them

-- each event has a verdict, but for an operation that has none
abbrev pub verdict_at_ends : EndsView → HostKeeper → MemoryContents → InterfaceEvent → Option Verdict
verdict_at_ends v k memory (ie.Lock i loss) = verdict_in i op.Lock loss (ended_in k v i op.Lock loss)
verdict_at_ends v k memory (ie.Report i loss) = verdict_in i op.Report loss (ended_in k v i op.Report loss)
verdict_at_ends v k memory (ie.Start i loss) = verdict_in i op.Start loss (ended_in k v i op.Start loss)
verdict_at_ends v k memory (ie.Halt i loss) = verdict_in i op.Halt loss (ended_in k v i op.Halt loss)
verdict_at_ends v k memory (ie.State i loss) = verdict_in i op.State loss (ended_in k v i op.State loss)
verdict_at_ends v k memory (ie.Bind i line stream loss) =
    peer_verdict_in k v i line stream (op.Bind (managed_peer_stream k line stream)) loss
verdict_at_ends v k memory (ie.Unbind i line stream loss) =
    peer_verdict_in k v i line stream (op.Unbind (managed_peer_stream k line stream)) loss
verdict_at_ends v k memory (ie.View i) =
    Some (viewed_as i (interface_seen_at k.interfaces i (interface_named k.interfaces v.links i)))
verdict_at_ends v k memory (ie.Write i register value) =
    Some (written_as i register value (named_device_interface k.interfaces v.links i))
verdict_at_ends v k memory (ie.Flr i) = Some (flr_as i (named_device_interface k.interfaces v.links i))
verdict_at_ends v k memory (ie.Firmware i) = Some (firmware_as i (named_device_interface k.interfaces v.links i))
verdict_at_ends v k memory (ie.Memory at len) =
    Some (memory_verdict (in_one_region memory.regions at len) (bytes_from (byte_at memory) at len))
