-- Units among packets that were sealed, as they are described and as they are kept.
use Rattle.std.specs.Prelude.{ℕ, ◌+◌, ◌-◌, ◌==◌, ◌&&◌, Bool, true, false, not, nat_eq, nat_le, nat_lt, List, []}
use Rattle.std.specs.Prelude.{◌∷◌, drop, if◌then◌else◌}
use Rattle.std.specs.Cmp.Lexicographic.{pointwise}
use Rattle.ide_types.specs.declared.port.PortName.{PortName}
use Rattle.event_verdicts.specs.declared.verdict.SealedPacket.{SealedPacket}
use Rattle.ide_prefix.specs.Packet.{Packet, packet_bytes}
use Rattle.machine_ports.specs.Machine.{LinkPacket}
use Rattle.spec_keys.specs.Places.{received_direction, sent_direction}
use Rattle.spec_links.specs.History.{sub_stream_of}
use Rattle.spec_links.specs.Plan.{SubStream, is_same}
use Rattle.spec_stream.specs.Sending.{total_ahead}

-- the two ends of one line
abbrev pub is_partner : PortName → PortName → Bool
is_partner p q = (p.line == q.line) && (sent_direction p.side == received_direction q.side)

-- a packet is of this sub-stream and draw
abbrev pub is_described_under : SubStream → ℕ → SealedPacket → Bool
is_described_under s j d = is_same (sub_stream_of d) s && (d.draw == j)

-- it ends a unit of the sub-stream under a draw from one on, below another
abbrev pub ends_between : SubStream → (from below : ℕ) → SealedPacket → Bool
ends_between s from below d = is_same (sub_stream_of d) s && nat_le from d.draw && nat_lt d.draw below && d.m

-- the bytes are those of the first of these packets
abbrev pub is_first : List Packet → List ℕ → Bool
is_first [] bytes = false
is_first (p ∷ ps) bytes = pointwise nat_eq (packet_bytes p) bytes

abbrev pub is_last : List Packet → Bool
is_last (p ∷ []) = true
is_last ps = false

-- After so many units of the sub-stream under the draw comes one of these packets, or of the last of them if those
-- before came already: the packets are described, and kept by their bytes.
abbrev pub is_unit_after : SubStream → ℕ → (units : ℕ) → List Packet → List SealedPacket → List LinkPacket → Bool
is_unit_after s j units ps [] kept = false
is_unit_after s j units ps (d ∷ ds) [] = false
is_unit_after s j units ps (d ∷ ds) (q ∷ kept) =
    if not (is_described_under s j d) then is_unit_after s j units ps ds kept
    else if nat_lt 0 units then is_unit_after s j (if d.m then units - 1 else units) ps ds kept
    else if not (is_first ps q.bytes) then false
    else if d.m then is_last ps
    else is_unit_after s j 0 (drop 1 ps) ds kept

-- what comes ahead of the unit after so many is the same by both totals
abbrev pub is_same_front : (closed : Bool) → (units sent got : ℕ) → Bool
is_same_front closed units sent got =
    pointwise nat_eq (total_ahead closed (units + 1) sent) (total_ahead closed (units + 1) got)
