-- What the manager's state of a stream says of the two slots of each of its places at the host's port.
use Rattle.std.specs.Prelude.{ℕ, ◌≡◌, ◌<◌, ◌==◌, nat_lt, nat_le, Bool, true, false, not, ◌&&◌, ◌||◌, if◌then◌else◌}
use Rattle.std.specs.Prelude.{List}
use Rattle.key_slots.specs.declared.slot.Slot.{Slot}
use Rattle.key_slots.specs.declared.slot.Slot.TheVariants.{Empty, Programmed, Armed, Live}
use Rattle.key_slots.specs.{SlotPair, slot_in, is_live, is_only_live, programmed_pair, armed_pair, stopped_pair}
use Rattle.spec_keys.specs.Operations.{StreamStage, Idle, Establishing, Up, Refreshing, Stopping}

abbrev pub are_empty : Slot → Slot → Bool
are_empty Empty Empty = true
are_empty zero one = false

-- programmed under a draw, and no key in the other set
abbrev pub is_first : ℕ → Slot → Slot → Bool
is_first j (Programmed held) Empty = held.draw == j
is_first j mine other = false

-- programmed under a draw, and a smaller draw Live in the other set
abbrev pub is_ahead : ℕ → Slot → Slot → Bool
is_ahead j (Programmed held) (Live older) = (held.draw == j) && nat_lt older.draw j
is_ahead j mine other = false

-- Live under a draw, or at a sender Armed under it; the other set has no key, or a smaller draw is Live there, at a
-- sender exactly if this one is Armed
abbrev pub is_in_use : Bool → ℕ → Slot → Slot → Bool
is_in_use sender j (Live held) Empty = held.draw == j
is_in_use false j (Live held) (Live older) = (held.draw == j) && nat_lt older.draw j
is_in_use true j (Armed held) (Live older) = (held.draw == j) && nat_lt older.draw j
is_in_use sender j mine other = false

-- the host's port goes on after the third GO of the device's receivers, exchange 10 of an establish and 9 of a refresh
abbrev pub pair_fits : StreamStage → SlotPair → Bool
pair_fits Idle pair = are_empty pair.zero pair.one
pair_fits (Establishing j n) pair = if nat_le n 10 then is_first j pair.zero pair.one else is_in_use pair.sender j
    pair.zero pair.one
pair_fits (Up k j) pair = is_in_use pair.sender j (slot_in pair k) (slot_in pair (not k))
pair_fits (Refreshing k j n) pair = if nat_le n 9 then is_ahead j (slot_in pair k) (slot_in pair (not k))
    else is_in_use pair.sender j (slot_in pair k) (slot_in pair (not k))
pair_fits (Stopping n) pair = are_empty pair.zero pair.one

-- Each local call that the manager makes at a place is one that the port takes, and leaves slots that fit. A unit is
-- unfinished only if a key is Live, and a refresh begins only if the slot of its set at a sender is not.
pub record SlotPairFits (pair : SlotPair) (key : List ℕ) (j : ℕ) : Type 0 where
  pub establishes : pair_fits Idle pair ≡ true → (is_only_live pair false ≡ false)
      × (pair_fits (Establishing j 1) (programmed_pair pair false (record { key = key; draw = j })) ≡ true)
  pub refreshes : (k : Bool) (i : ℕ) → pair_fits (Up k i) pair ≡ true → i < j
      → (pair.sender && is_live (slot_in pair (not k))) ≡ false
      → (is_only_live pair (not k) ≡ false)
      × (pair_fits (Refreshing (not k) j 1) (programmed_pair pair (not k) (record { key = key; draw = j })) ≡ true)
  pub goes_first : (unfinished : Bool) → (unfinished ≡ true → (is_live pair.zero || is_live pair.one) ≡ true)
      → pair_fits (Establishing j 10) pair ≡ true
      → pair_fits (Establishing j 11) (armed_pair pair false unfinished) ≡ true
  pub goes_ahead : (k unfinished : Bool) → pair_fits (Refreshing k j 9) pair ≡ true → pair_fits (Refreshing k j 10)
      (armed_pair pair k unfinished) ≡ true
  pub stops : pair_fits (Stopping 1) (stopped_pair (stopped_pair pair false) true) ≡ true

abbrev pub PairsFit : Type 0
PairsFit = (pair : SlotPair) (key : List ℕ) (j : ℕ) → SlotPairFits pair key j
