-- How packets lie one after the other, heads in one list of bytes and bodies in another.
use Rattle.std.specs.Prelude.{◌≡◌, ℕ, ◌+◌, ◌*◌, ◌≤◌, List, [], ◌∷◌, length, slice_range}
use Rattle.ide_prefix.specs.declared.ends.PacketEnds.{PacketEnds}

-- the packets between a place in each list and the last ends
abbrev pub parts : List ℕ → List ℕ → ℕ → ℕ → List PacketEnds → List (List ℕ × List ℕ)
parts heads bodies h b [] = []
parts heads bodies h b (e ∷ es) =
    (slice_range heads h e.head, slice_range bodies b e.body) ∷ parts heads bodies e.head e.body es

-- the ends rise, from a place in each list to the lengths of the lists
abbrev pub Rises : ℕ → ℕ → List PacketEnds → ℕ → ℕ → Type 0
Rises h b [] heads bodies = (h ≡ heads) × (b ≡ bodies)
Rises h b (e ∷ es) heads bodies = (h ≤ e.head) × (b ≤ e.body) × Rises e.head e.body es heads bodies

-- the packets lie after what comes ahead, and there is room for the rest: 8 bytes ahead, 20 of each head and 4,096 of
-- each body
pub record IsLaidOut (aggregation ahead : ℕ) (ends : List PacketEnds) (heads bodies : List ℕ)
    (heads_room bodies_room : ℕ)
    : Type 0 where
  pub aggregation_fits : aggregation ≤ 8
  pub packets_fit : length ends ≤ aggregation
  pub rising : Rises ahead 0 ends (length heads) (length bodies)
  pub heads_fit : length heads ≤ 8 + 20 * length ends
  pub bodies_fit : length bodies ≤ 4096 * length ends
  pub room_for_heads : 8 + 20 * aggregation ≤ heads_room
  pub room_for_bodies : 4096 * aggregation ≤ bodies_room

-- a packet's places are in order, and in the lists
pub record LieWithin (start ends : PacketEnds) (heads bodies : ℕ) : Type 0 where
  pub head : start.head ≤ ends.head
  pub body : start.body ≤ ends.body
  pub heads_reach : ends.head ≤ heads
  pub bodies_reach : ends.body ≤ bodies
