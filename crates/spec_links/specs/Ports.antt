-- At which port an end is, where a TLP that is sent there is sealed, and what bytes that arrive there meet.
use Rattle.std.specs.Prelude.{if◌then◌else◌, ◌&&◌, ◌==◌, ◌∷◌, Bool, List, None, Ok, Option, Result, Some, [], false}
use Rattle.std.specs.Prelude.{nat_le, nat_lt, not, slice_get, true, ℕ}
use Rattle.spec_links.specs.Terms.{PortName, Host, Device, Plan, TlpFault, Tlp, header, read_of, sent_direction}
use Rattle.ide_types.specs.declared.port.Side.{Side}
use Rattle.ide_types.specs.Plans.{is_among}
use Rattle.ide_types.specs.Ends.{port_beside_end, end_at, hop_end, link_hop}
use Rattle.ide_types.specs.declared.plan.HopPlan.{HopPlan}
use Rattle.ide_prefix.specs.Packet.{packet_first}
use Rattle.tlp_layout.specs.Outgoing.{Outgoing, OnNone, outgoing_of}
use Rattle.spec_links.specs.Plan.{streams_of, has_link, has_port, has_stream}

-- ---- ports

-- the port of an end: of a host or a device it is the end of their link, of a switch the end itself
unfoldable pub port_of : Plan → PortName → PortName
port_of plan end = if has_link plan end.line then end else port_beside_end plan.peers end

-- an end is at a switch: the far end of the segment towards the host, the near end of the one towards the device
abbrev pub at_switch : Plan → PortName → Bool
at_switch plan end = not (has_link plan end.line) && by end.side
  where
    by : Side → Bool
    by Host = nat_le 16 end.line && nat_lt end.line 24
    by Device = nat_le 8 end.line && nat_lt end.line 16

abbrev pub is_host_port : Plan → PortName → Bool
is_host_port plan port = not (at_switch plan port) && (sent_direction port.side == 0)

abbrev pub is_device_port : Plan → PortName → Bool
is_device_port plan port = not (at_switch plan port) && (sent_direction port.side == 1)

-- ---- what is sent

-- an end exists at which TLPs are sent: a switch sends none of its own
abbrev pub may_send : Plan → PortName → Bool
may_send plan end = has_port plan end && not (at_switch plan end)

-- what bytes that are sent at an end come to on its line
abbrev pub outgoing_at : Plan → PortName → List ℕ → Outgoing
outgoing_at plan end bytes = outgoing_of (streams_of plan end.line) end.side bytes

abbrev pub takes_none : Outgoing → Bool
takes_none OnNone = true
takes_none out = false

-- whether they are a TLP of a traffic class of the hop
abbrev pub hop_lists : Option HopPlan → Result Tlp TlpFault → Bool
hop_lists (Some o) (Ok t) = is_among (header t).lead.tc o.classes
hop_lists o r = false

-- no stream of the link takes the TLP, and its hop does
abbrev pub goes_to_hop : Plan → PortName → List ℕ → Bool
goes_to_hop plan end bytes =
    takes_none (outgoing_at plan end bytes) && hop_lists (link_hop (slice_get plan.links end.line)) (read_of bytes)

-- the end at which they are sealed
unfoldable pub sealing_end : Plan → PortName → List ℕ → PortName
sealing_end plan end bytes = if goes_to_hop plan end bytes then hop_end end.side end.line else end

-- ---- what arrives

-- the stream ID of a packet's bytes
unfoldable pub id_in : List ℕ → Option ℕ
id_in (first ∷ (flags ∷ (id ∷ bytes))) = if first == packet_first then Some id else None
id_in bytes = None

abbrev pub end_if : Plan → PortName → Option ℕ → PortName
end_if plan end None = port_of plan end
end_if plan end (Some id) = end_at plan end id

-- the end, at the port of this one, of the line that has their stream; the port if there is none
unfoldable pub end_reached : Plan → PortName → List ℕ → PortName
end_reached plan end bytes = end_if plan end (id_in bytes)

abbrev pub lacks_stream : Plan → PortName → Option ℕ → Bool
lacks_stream plan end None = false
lacks_stream plan end (Some id) = not (has_stream plan end id)

-- bytes of another stream than the hop's go through a switch unread
unfoldable pub goes_through : Plan → PortName → List ℕ → Bool
goes_through plan end bytes = at_switch plan end && lacks_stream plan end (id_in bytes)
