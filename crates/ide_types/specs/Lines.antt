-- Lines, by their number. A line is a pair of ends between which the packets of certain streams go. Lines 0 to 7 are
-- the links; 8 to 15 and 16 to 23 are the two segments of each link's hop, that towards the host and that towards the
-- device; 24 to 31 are the streams between two devices.
use Rattle.std.specs.Prelude.{ℕ, ◌+◌, ◌&&◌, ◌||◌, nat_le, nat_lt, Bool, if◌then◌else◌}
use Rattle.ide_types.specs.declared.line.LineKind.{LineKind}
use Rattle.ide_types.specs.declared.line.LineKind.TheVariants.{Link, Hop, Peer}
use Rattle.ide_types.specs.declared.port.Side.{Side}
use Rattle.ide_types.specs.declared.port.Side.TheVariants.{Host, Device}
use Rattle.ide_types.specs.declared.port.PortName.{PortName}

abbrev pub near_hop_line : ℕ → ℕ
near_hop_line link = 8 + link

abbrev pub far_hop_line : ℕ → ℕ
far_hop_line link = 16 + link

abbrev pub peer_line : ℕ → ℕ
peer_line p = 24 + p

abbrev pub is_link_line : ℕ → Bool
is_link_line line = nat_lt line 8

-- its near end is a host's port, which is keyed by local calls; else both ends are keyed by messages
abbrev pub is_hosted : ℕ → Bool
is_hosted line = nat_lt line 16

abbrev pub is_near_hop_line : ℕ → Bool
is_near_hop_line line = nat_le 8 line && nat_lt line 16

abbrev pub is_far_hop_line : ℕ → Bool
is_far_hop_line line = nat_le 16 line && nat_lt line 24

abbrev pub is_peer_line : ℕ → Bool
is_peer_line line = nat_le 24 line && nat_lt line 32

abbrev pub line_kind : ℕ → LineKind
line_kind line = if nat_lt line 8 then Link else if nat_lt line 24 then Hop else Peer

-- ---- ports, each of which is named as an end

-- the end of a hop's line that is at its switch: the far one towards the host, the near one towards the device
abbrev pub is_switch_side : Side → ℕ → Bool
is_switch_side Host line = is_far_hop_line line
is_switch_side Device line = is_near_hop_line line

abbrev pub is_switch_port : PortName → Bool
is_switch_port p = is_switch_side p.side p.line

-- of a host, of a device or of a switch
abbrev pub is_port : PortName → Bool
is_port p = is_link_line p.line || is_switch_port p

-- at which TLPs are sent: of a host or a device, and at a device also on a stream between devices
abbrev pub is_sending_port : PortName → Bool
is_sending_port p = is_link_line p.line || is_peer_line p.line
