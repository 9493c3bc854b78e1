-- The packets of one unit, collected (PCI Express Base 6.0 section 6.33, in this profile). A packet is its head, which
-- is sent in clear (prefix and header), and its body.
use Rattle.std.specs.Prelude.{◌≡◌, ℕ, Bool, List, [], ◌∷◌, ◌++◌, length, map, take, drop, nat_lt, if◌then◌else◌}
use Rattle.std.specs.List.{flat_map}

-- at most how many packets, the bytes before the first, and the packets
pub record Collected : Type 0 where
  pub aggregation : ℕ
  pub ahead : List ℕ
  pub packets : List (List ℕ × List ℕ)

abbrev pub empty_unit : ℕ → Collected
empty_unit aggregation = record { aggregation = aggregation; ahead = []; packets = [] }

-- the heads of packets, joined
abbrev pub heads_of : List (List ℕ × List ℕ) → List ℕ
heads_of packets = flat_map (λ p. p.0) packets

-- their bodies, joined
abbrev pub bodies_of : List (List ℕ × List ℕ) → List ℕ
bodies_of packets = flat_map (λ p. p.1) packets

-- what is authenticated in clear: what comes ahead, and the heads
abbrev pub aad_of : Collected → List ℕ
aad_of unit = unit.ahead ++ heads_of unit.packets

abbrev pub body_of : Collected → List ℕ
body_of unit = bodies_of unit.packets

-- one more packet fits
abbrev pub has_room : Collected → Bool
has_room unit = nat_lt (length unit.packets) unit.aggregation

-- with the packet at its end, if it fits
abbrev pub unit_with_packet : Collected → List ℕ → List ℕ → Collected
unit_with_packet unit head body =
    if has_room unit then record unit { packets = unit.packets ++ (head, body) ∷ [] } else unit

-- ---- writing

-- the bytes written over as many of the old ones, from the first on
abbrev pub overwritten_bytes : List ℕ → List ℕ → List ℕ
overwritten_bytes old new = take (length old) (new ++ drop (length new) old)

-- the packets with these bytes as their bodies, each as long as before
abbrev pub packets_with_bodies : List (List ℕ × List ℕ) → List ℕ → List (List ℕ × List ℕ)
packets_with_bodies [] bytes = []
packets_with_bodies (p ∷ ps) bytes = (p.0, take (length p.1) bytes) ∷ packets_with_bodies ps (drop (length p.1) bytes)

-- the unit with these bytes written over its bodies
abbrev pub with_bodies : Collected → List ℕ → Collected
with_bodies unit bytes = record unit
    { packets = packets_with_bodies unit.packets (overwritten_bytes (body_of unit) bytes) }

-- the lengths of heads and of bodies
abbrev pub lengths_of : List (List ℕ × List ℕ) → List (ℕ × ℕ)
lengths_of packets = map (λ p. (length p.0, length p.1)) packets

-- as many bytes as the bodies have are the new bodies, joined; heads and all lengths stay
pub record KeepsLengths (unit : Collected) (bytes : List ℕ) : Type 0 where
  pub body : body_of (with_bodies unit bytes) ≡ bytes
  pub aad : aad_of (with_bodies unit bytes) ≡ aad_of unit
  pub lengths : lengths_of (with_bodies unit bytes).packets ≡ lengths_of unit.packets
