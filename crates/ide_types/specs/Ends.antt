-- Ends of lines: at which port each is, whose a stream ID is at a port, and what the reset of a link clears. A port is
-- named as an end: a host's and a device's as that of their link, a switch's as the far end of the segment towards the
-- host and the near end of the one towards the device.
use Rattle.std.specs.Prelude.{ℕ, ◌+◌, ◌-◌, ◌==◌, ◌&&◌, nat_lt, Bool, false, List, [], ◌∷◌, ◌++◌, length, Option, Some}
use Rattle.std.specs.Prelude.{None, true, is_some, slice_get, if◌then◌else◌}
use Rattle.std.specs.Option.{unwrap_or}
use Rattle.ide_types.specs.declared.port.Side.{Side}
use Rattle.ide_types.specs.declared.port.Side.TheVariants.{Host, Device}
use Rattle.ide_types.specs.declared.port.PortName.{PortName}
use Rattle.ide_types.specs.Ports.{host_port, device_port}
use Rattle.ide_types.specs.Lines.{near_hop_line, far_hop_line, peer_line}
use Rattle.ide_types.specs.declared.plan.HopPlan.{HopPlan}
use Rattle.ide_types.specs.declared.plan.LinkPlan.{LinkPlan}
use Rattle.ide_types.specs.declared.plan.PeerPlan.{PeerPlan}
use Rattle.ide_types.specs.declared.plan.Plan.{Plan}
use Rattle.ide_types.specs.Plans.{has_stream_id, hop_has_id}

-- ---- what a line has

abbrev pub own_has_id : Option LinkPlan → ℕ → Bool
own_has_id None id = false
own_has_id (Some l) id = has_stream_id l.streams id

abbrev pub link_hop : Option LinkPlan → Option HopPlan
link_hop None = None
link_hop (Some l) = l.hop

abbrev pub peer_has_id : Option PeerPlan → ℕ → Bool
peer_has_id None id = false
peer_has_id (Some p) id = p.id == id

-- the line has the stream
abbrev pub line_has : Plan → ℕ → ℕ → Bool
line_has plan line id =
    if nat_lt line 8 then own_has_id (slice_get plan.links line) id
    else if nat_lt line 16 then hop_has_id (link_hop (slice_get plan.links (line - 8))) id
    else if nat_lt line 24 then hop_has_id (link_hop (slice_get plan.links (line - 16))) id
    else peer_has_id (slice_get plan.peers (line - 24)) id

-- ---- at which port an end is

abbrev pub near_hop_port : Side → ℕ → PortName
near_hop_port Host link = host_port link
near_hop_port Device link = device_port (near_hop_line link)

abbrev pub far_hop_port : Side → ℕ → PortName
far_hop_port Host link = host_port (far_hop_line link)
far_hop_port Device link = device_port link

abbrev pub peer_link : Side → PeerPlan → ℕ
peer_link Host p = p.near
peer_link Device p = p.far

abbrev pub peer_port : Option PeerPlan → PortName → PortName
peer_port None e = e
peer_port (Some p) e = device_port (peer_link e.side p)

abbrev pub port_beside_end : List PeerPlan → PortName → PortName
port_beside_end peers e =
    if nat_lt e.line 8 then e
    else if nat_lt e.line 16 then near_hop_port e.side (e.line - 8)
    else if nat_lt e.line 24 then far_hop_port e.side (e.line - 16)
    else peer_port (slice_get peers (e.line - 24)) e

-- a switch's port is there if its link has a hop
abbrev pub is_planned_port : Plan → PortName → Bool
is_planned_port plan port =
    if nat_lt port.line 8 then true
    else if nat_lt port.line 16 then is_some (link_hop (slice_get plan.links (port.line - 8)))
    else is_some (link_hop (slice_get plan.links (port.line - 16)))

-- ---- whose a stream ID is at a port

abbrev pub hop_end : Side → ℕ → PortName
hop_end Host link = host_port (near_hop_line link)
hop_end Device link = device_port (far_hop_line link)

-- the end at the link's device of the first of these streams that has the ID and ends there; they are numbered on
unfoldable pub peer_end : List PeerPlan → ℕ → ℕ → ℕ → Option PortName
peer_end [] n link id = None
peer_end (p ∷ ps) n link id =
    if p.id == id && p.near == link then Some (host_port (peer_line n))
    else if p.id == id && p.far == link then Some (device_port (peer_line n))
    else peer_end ps (n + 1) link id

-- streams between devices end at devices alone
abbrev pub peer_end_at_port : List PeerPlan → PortName → ℕ → PortName
peer_end_at_port peers port id = by_side port.side
  where
    by_side : Side → PortName
    by_side Host = port
    by_side Device = unwrap_or (peer_end peers 0 port.line id) port

-- The end, at this port, of the line that has the stream: of the link itself, of its hop, or of a stream between
-- devices; if none has it the port itself. At a switch nothing is looked up.
abbrev pub end_at_port : Plan → PortName → ℕ → PortName
end_at_port plan port id =
    if nat_lt port.line 8 then
    if own_has_id (slice_get plan.links port.line) id then port
    else if hop_has_id (link_hop (slice_get plan.links port.line)) id then hop_end port.side port.line
    else peer_end_at_port plan.peers port id
    else port

-- the same at the port of an end
abbrev pub end_at : Plan → PortName → ℕ → PortName
end_at plan e id = end_at_port plan (port_beside_end plan.peers e) id

-- ---- what the reset of a link clears

abbrev pub hop_ends : Option HopPlan → ℕ → List PortName
hop_ends None link = []
hop_ends (Some o) link =
    host_port (near_hop_line link) ∷ device_port (near_hop_line link) ∷ host_port (far_hop_line link)
    ∷ device_port (far_hop_line link) ∷ []

-- the ends at the link's device of these streams, which are numbered on
unfoldable pub peer_ends : List PeerPlan → ℕ → ℕ → List PortName
peer_ends [] n link = []
peer_ends (p ∷ ps) n link =
    if p.near == link then host_port (peer_line n) ∷ peer_ends ps (n + 1) link
    else if p.far == link then device_port (peer_line n) ∷ peer_ends ps (n + 1) link
    else peer_ends ps (n + 1) link

-- those of the link, of its hop, and at its device those of streams between devices
abbrev pub reset_ends : Plan → ℕ → List PortName
reset_ends plan link =
    host_port link ∷ device_port link ∷ hop_ends (link_hop (slice_get plan.links link)) link
    ++ peer_ends plan.peers 0 link

-- ---- interfaces

-- the link of an interface, by its number over all of these links, which are numbered on
unfoldable pub interface_link : List LinkPlan → ℕ → ℕ → Option ℕ
interface_link [] link i = None
interface_link (l ∷ ls) link i =
    if nat_lt i (length l.interfaces) then Some link else interface_link ls (link + 1) (i - length l.interfaces)
