-- What is read of a world.
use Rattle.std.specs.Prelude.{ℕ, Bool, List, [], Option, Some, None, slice_get}
use Rattle.std.specs.Option.{option_and_then, option_map, option_map_or}
use Rattle.ide_types.specs.declared.port.PortName.{PortName}
use Rattle.ide_types.specs.declared.sub.SubKind.{SubKind}
use Rattle.ide_types.specs.declared.plan.Plan.{Plan}
use Rattle.ide_port.specs.Facts.{held_by}
use Rattle.ide_prefix.specs.Packet.{Packet}
use Rattle.guarded_memory.specs.declared.status.InterfaceStatus.{InterfaceStatus}
use Rattle.tlp_layout.specs.declared.head.HeadView.{HeadView}
use Rattle.spec_interfaces.specs.Cause.{owner_id}
use Rattle.spec_links.specs.Plan.{is_closed}
use Rattle.machine_operations.specs.{find}
use Rattle.sub_stream.specs.declared.facts.StreamFacts.{StreamFacts}
use Rattle.sub_stream.specs.Facts.{stream_facts}
use Rattle.interface_host.specs.Facts.{interface_facts}
use Rattle.interface_host.specs.Managers.{interface_of_requester}
use Rattle.interface_host.specs.Views.{HostTdi}
use Rattle.interface_state.specs.{DeviceTdi, state_code}
use Rattle.ide_types.specs.declared.binding.Binding.{Binding}
use Rattle.world.specs.{WholeLinks, interface_named, links_state, statuses_of_ends, interface_of_ends}
use Rattle.why_facts.specs.declared.appends.faces.FaceSeen.{FaceSeen}

-- a stream at an end
abbrev pub stream_read : Plan → WholeLinks → PortName → ℕ → Option StreamFacts
stream_read plan s end stream =
    option_map (stream_facts (is_closed plan end.line stream)) (find plan (links_state plan s.links) end stream)

-- an interface, by its number, at this device and at the manager
abbrev pub face_of : ℕ → Option DeviceTdi → Option HostTdi → Option FaceSeen
face_of number (Some t) (Some i) =
    Some (record { number = number; state = state_code t.state; manager = interface_facts i })
face_of number _ _ = None

abbrev pub face_located : WholeLinks → ℕ → Option (ℕ × ℕ) → Option FaceSeen
face_located s number None = None
face_located s number (Some at) = face_of number (interface_of_ends s.links.ends.links at)
    (slice_get s.links.keeper.interfaces.interfaces number)

abbrev pub face_read : WholeLinks → ℕ → Option FaceSeen
face_read s number = face_located s number (interface_named s.links.keeper.interfaces s.links.ends.links number)

-- by its requester ID on a link
abbrev pub requester_read : WholeLinks → ℕ → ℕ → Option FaceSeen
requester_read s link requester =
    option_and_then (face_read s) (interface_of_requester s.links.keeper.interfaces link requester)

-- the interface at a link that owns a TLP
abbrev pub owner_face : WholeLinks → ℕ → HeadView → Option FaceSeen
owner_face s link head = option_and_then (requester_read s link) (owner_id head)

-- an interface of a number at its device
abbrev pub device_interface_read : WholeLinks → ℕ → Option DeviceTdi
device_interface_read s number = option_and_then (interface_of_ends s.links.ends.links)
    (interface_named s.links.keeper.interfaces s.links.ends.links number)

-- the streams between devices that it is bound to
abbrev pub bindings_read : WholeLinks → ℕ → List Binding
bindings_read s number = option_map_or (λ (t : DeviceTdi). t.bindings) (device_interface_read s number) []

-- how the interfaces of a link's device stand
abbrev pub statuses_read : WholeLinks → ℕ → List InterfaceStatus
statuses_read s link = statuses_of_ends (slice_get s.links.ends.links link) (slice_get s.accesses link)

-- the packets of the next unit of a sub-stream that its receiver at an end holds in a key set
abbrev pub held_read : Plan → WholeLinks → PortName → ℕ → SubKind → Bool → List Packet
held_read plan s end stream u k = option_map_or (held_by u k) (find plan (links_state plan s.links) end stream) []
