-- The packets of one unit, gathered, and what they carry once they are decrypted (PCI Express Base 6.0 section 6.33, in
-- this profile).
use Rattle.std.specs.Prelude.{◌≡◌, ℕ, ◌+◌, ◌*◌, ◌≤◌, List, [], ◌∷◌, ◌++◌, length, map, drop, Option, Some, None}
use Rattle.std.specs.Borrow.{Bor}
use Rattle.gcm_seal.specs.Gcm.{masked_bytes}
use Rattle.ide_prefix.specs.declared.packet.Prefix.{Prefix}
use Rattle.ide_prefix.specs.Packet.{Packet, HasTlp}
use Rattle.ide_prefix.specs.Units.{clear_bytes, authenticated_bytes}
use Rattle.spec_stream.specs.Stream.{posted_sum}
use Rattle.ide_prefix.specs.{Collected}
use Rattle.tlp_layout.specs.declared.head.HeadView.{HeadView}

-- at most how many packets, the bytes before what they have in clear, and the packets, without a tag
pub record Gathered : Type 0 where
  pub aggregation : ℕ
  pub ahead : List ℕ
  pub packets : List Packet

abbrev pub no_packets : ℕ → Gathered
no_packets aggregation = record { aggregation = aggregation; ahead = []; packets = [] }

-- a unit that begins, after these bytes
abbrev pub begun_unit : ℕ → List ℕ → Gathered
begun_unit aggregation total = record { aggregation = aggregation; ahead = total; packets = [] }

abbrev pub with_packet : Gathered → Packet → Gathered
with_packet unit p = record unit { packets = unit.packets ++ p ∷ [] }

-- what is authenticated in clear
abbrev pub clear_of : Gathered → List ℕ
clear_of unit = unit.ahead ++ authenticated_bytes unit.packets

abbrev pub lent_totals : Option (Bor (List ℕ)) → List ℕ
lent_totals None = []
lent_totals (Some total) = total.now

-- ---- packets in a buffer

-- the packets of these prefixes: a head is the bytes of a prefix, and a header
abbrev pub packets_of_prefixes : List (List ℕ × List ℕ) → List Prefix → List Packet
packets_of_prefixes [] ps = []
packets_of_prefixes (x ∷ xs) [] = []
packets_of_prefixes (x ∷ xs) (p ∷ ps) = record { prefix = p; head = drop 4 x.0; body = x.1; tag = [] }
    ∷ packets_of_prefixes xs ps

abbrev pub parts_of : Packet → List ℕ × List ℕ
parts_of p = (clear_bytes p, p.body)

-- the buffer has the packets of these prefixes, whose posted counts have this sum
pub record IsGathered (prefixes : List Prefix) (posted : ℕ) (buf : Collected) : Type 0 where
  pub places : length prefixes ≡ 8
  pub small_aggregation : buf.aggregation ≤ 8
  pub fits : length buf.packets ≤ buf.aggregation
  pub parts : map parts_of (packets_of_prefixes buf.packets prefixes) ≡ buf.packets
  pub sum : posted ≡ posted_sum (packets_of_prefixes buf.packets prefixes)
  pub few : posted ≤ 255 * length buf.packets

-- ---- with what their headers read as

-- the first places have what the packets' headers read as
abbrev pub AllHaveTlp : List Packet → List (Option HeadView) → Type 0
AllHaveTlp [] tlps = Unit {0}
AllHaveTlp (p ∷ ps) [] = ⊥
AllHaveTlp (p ∷ ps) (o ∷ tlps) = HasTlp p o × AllHaveTlp ps tlps

pub record HaveTlps (unit : Gathered) (tlps : List (Option HeadView)) : Type 0 where
  pub small_aggregation : unit.aggregation ≤ 8
  pub places : length tlps ≡ 8
  pub read : AllHaveTlp unit.packets tlps

-- ---- decrypted

-- with their bodies decrypted; the first begins at byte n of the unit's plaintext
abbrev pub opened_from_byte : List ℕ → List ℕ → ℕ → List Packet → List Packet
opened_from_byte key iv n [] = []
opened_from_byte key iv n (p ∷ ps) =
    record { prefix = p.prefix; head = p.head; body = masked_bytes key iv n p.body; tag = [] }
    ∷ opened_from_byte key iv (n + length p.body) ps

abbrev pub opened_packets : List ℕ → List ℕ → List Packet → List Packet
opened_packets key iv unit = opened_from_byte key iv 0 unit

-- the packets of a unit that is lent, if one is
abbrev pub lent_packets : Option (Bor Gathered) → List Packet
lent_packets None = []
lent_packets (Some unit) = unit.now.packets
