-- What the code looks up of a plan, by the number of a line.
use Rattle.std.specs.Prelude.{ℕ, ◌-◌, ◌&&◌, nat_lt, not, is_some, length, slice_get, if◌then◌else◌, Bool, false}
use Rattle.std.specs.Prelude.{List, Option, Some, None}
use Rattle.ide_types.specs.declared.port.PortName.{PortName}
use Rattle.ide_types.specs.declared.port.Side.{Side}
use Rattle.ide_types.specs.declared.plan.LinkPlan.{LinkPlan}
use Rattle.ide_types.specs.declared.plan.Plan.{Plan}
use Rattle.ide_types.specs.Plans.{hop_has_id}
use Rattle.ide_types.specs.Ends.{link_hop}
use Rattle.tlp_layout.specs.Reading.{read_of}
use Rattle.tlp_layout.specs.Outgoing.{outgoing_of}
use Rattle.spec_links.specs.Plan.{has_link}
use Rattle.spec_links.specs.Ports.{takes_none, hop_lists}

-- the topology has the line
abbrev pub has_line_by : Plan → ℕ → Bool
has_line_by plan line =
    if nat_lt line 8 then has_link plan line
    else if nat_lt line 16 then is_some (link_hop (slice_get plan.links (line - 8)))
    else if nat_lt line 24 then is_some (link_hop (slice_get plan.links (line - 16)))
    else nat_lt (line - 24) (length plan.peers)

-- what is sent at this side of a link goes to its hop
abbrev pub is_left_to_hop : Option LinkPlan → Side → List ℕ → Bool
is_left_to_hop None side bytes = false
is_left_to_hop (Some l) side bytes = takes_none (outgoing_of l.streams side bytes) && hop_lists l.hop (read_of bytes)

abbrev pub goes_to_hop_by : Plan → PortName → List ℕ → Bool
goes_to_hop_by plan end bytes = is_left_to_hop (slice_get plan.links end.line) end.side bytes

-- the hop of this line from 8 to 23 has the stream
abbrev pub hop_line_has : Plan → ℕ → ℕ → Bool
hop_line_has plan line id =
    if nat_lt line 16 then hop_has_id (link_hop (slice_get plan.links (line - 8))) id
    else hop_has_id (link_hop (slice_get plan.links (line - 16))) id

abbrev pub lacks_hop_stream : Plan → PortName → Option ℕ → Bool
lacks_hop_stream plan end None = false
lacks_hop_stream plan end (Some id) = not (hop_line_has plan end.line id)
