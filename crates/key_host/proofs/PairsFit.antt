-- Each local call of the manager leaves slots that fit.
use Rattle.std.proofs.Common.{◌≡◌, ℕ, ◌<◌, ◌==◌, Bool, true, false, List, refl, sym, subst}
use Rattle.std.specs.Prelude.{nat_lt, not, ◌&&◌, ◌||◌}
use Rattle.spec_keys.proofs.Tests.{same-true, true-same, lt-true, true-lt, both-true}
use Rattle.key_slots.specs.declared.slot.Slot.{Slot}
use Rattle.key_slots.specs.declared.slot.Slot.TheVariants.{Empty, Programmed, Armed, Live}
use Rattle.key_slots.specs.{SlotPair, DrawnKey, slot_in, is_live, is_only_live, is_last_live, live_draw}
use Rattle.key_slots.specs.{programmed_pair, after_go, armed_pair, stopped_pair}
use Rattle.spec_keys.specs.Operations.{Idle, Establishing, Up, Refreshing, Stopping}
use Rattle.key_host.specs.Fits.{is_ahead, is_in_use, pair_fits, PairsFit}

abbrev pair_of : Bool → Slot → Slot → SlotPair
pair_of sender zero one = record { sender = sender; zero = zero; one = one }

first_set : (sender : Bool) (zero one : Slot) (key : List ℕ) (j : ℕ) → pair_fits Idle (pair_of sender zero one) ≡ true
    → (is_only_live (pair_of sender zero one) false ≡ false) ×
    (pair_fits (Establishing j 1) (programmed_pair (pair_of sender zero one) false (record { key = key; draw = j }))
    ≡ true)
first_set sender Empty Empty key j fits = (refl, same-true j)
first_set sender Empty (Programmed b) key j fits = absurd cc
first_set sender Empty (Armed b) key j fits = absurd cc
first_set sender Empty (Live b) key j fits = absurd cc
first_set sender (Programmed a) one key j fits = absurd cc
first_set sender (Armed a) one key j fits = absurd cc
first_set sender (Live a) one key j fits = absurd cc

both_stop : (sender : Bool) (zero one : Slot) → pair_fits (Stopping 1)
    (stopped_pair (stopped_pair (pair_of sender zero one) false) true) ≡ true
both_stop sender zero Empty = refl
both_stop sender zero (Programmed b) = refl
both_stop sender zero (Armed b) = refl
both_stop sender zero (Live b) = refl

first_go : (sender : Bool) (zero one : Slot) (j : ℕ) (unfinished : Bool)
    → (unfinished ≡ true → (is_live zero || is_live one) ≡ true)
    → pair_fits (Establishing j 10) (pair_of sender zero one) ≡ true
    → pair_fits (Establishing j 11) (armed_pair (pair_of sender zero one) false unfinished) ≡ true
first_go false (Programmed a) Empty j unfinished live fits = fits
first_go true (Programmed a) Empty j false live fits = fits
first_go true (Programmed a) Empty j true live fits = let no_live = live refl in absurd cc
first_go sender (Programmed a) (Programmed b) j unfinished live fits = absurd cc
first_go sender (Programmed a) (Armed b) j unfinished live fits = absurd cc
first_go sender (Programmed a) (Live b) j unfinished live fits = absurd cc
first_go sender Empty one j unfinished live fits = absurd cc
first_go sender (Armed a) one j unfinished live fits = absurd cc
first_go sender (Live a) one j unfinished live fits = absurd cc

-- a GO beside a smaller draw
went : (sender unfinished : Bool) (mine other : Slot) (j : ℕ) → is_ahead j mine other ≡ true
    → is_in_use sender j (after_go sender unfinished mine other).0 (after_go sender unfinished mine other).1 ≡ true
went false unfinished (Programmed a) (Live b) j fits = fits
went true false (Programmed a) (Live b) j fits = (both-true (a.draw == j) (nat_lt b.draw j) fits).0
went true true (Programmed a) (Live b) j fits = fits
went sender unfinished (Programmed a) Empty j fits = absurd cc
went sender unfinished (Programmed a) (Programmed b) j fits = absurd cc
went sender unfinished (Programmed a) (Armed b) j fits = absurd cc
went sender unfinished Empty other j fits = absurd cc
went sender unfinished (Armed a) other j fits = absurd cc
went sender unfinished (Live a) other j fits = absurd cc

ahead_go : (sender : Bool) (zero one : Slot) (j : ℕ) (k unfinished : Bool)
    → pair_fits (Refreshing k j 9) (pair_of sender zero one) ≡ true
    → pair_fits (Refreshing k j 10) (armed_pair (pair_of sender zero one) k unfinished) ≡ true
ahead_go sender zero one j false unfinished fits = went sender unfinished zero one j fits
ahead_go sender zero one j true unfinished fits = went sender unfinished one zero j fits

-- the slot in use under an older draw, when the other one is to be programmed
record Older (mine other : Slot) (i : ℕ) : Type 0 where
  held : DrawnKey
  mine_is : mine ≡ Live held
  draw_is : held.draw ≡ i
  below : (b : DrawnKey) → other ≡ Live b → b.draw < i

-- slot by slot: a pair in use has its newer key in one slot, and in the other an older one or none
older_of : (sender : Bool) (mine other : Slot) (i : ℕ) → is_in_use sender i mine other ≡ true
    → (sender && is_live other) ≡ false → Older mine other i
older_of false (Live a) Empty i fits live = record
    { held = a; mine_is = refl; draw_is = true-same a.draw i fits; below = λ b e. absurd cc }
older_of true (Live a) Empty i fits live = record
    { held = a; mine_is = refl; draw_is = true-same a.draw i fits; below = λ b e. absurd cc }
older_of false (Live a) (Live b) i fits live =
    let parts = both-true (a.draw == i) (nat_lt b.draw i) fits in
    record {
      held = a;
      mine_is = refl;
      draw_is = true-same a.draw i parts.0;
      below = λ c e. let same : b ≡ c = cc in subst (λ (x : DrawnKey). x.draw < i) same (true-lt b.draw i parts.1);
    }
older_of true (Live a) (Live b) i fits live = absurd cc
older_of true (Armed a) (Live b) i fits live = absurd cc
older_of false (Armed a) other i fits live = absurd cc
older_of true (Armed a) Empty i fits live = absurd cc
older_of true (Armed a) (Programmed b) i fits live = absurd cc
older_of true (Armed a) (Armed b) i fits live = absurd cc
older_of false (Live a) (Programmed b) i fits live = absurd cc
older_of false (Live a) (Armed b) i fits live = absurd cc
older_of true (Live a) (Programmed b) i fits live = absurd cc
older_of true (Live a) (Armed b) i fits live = absurd cc
older_of sender Empty other i fits live = absurd cc
older_of sender (Programmed a) other i fits live = absurd cc

-- the other slot is not the last Live one
not_last : (k : Bool) (mine other : Slot) (i : ℕ) → Older mine other i
    → is_last_live k (live_draw other) (live_draw mine) ≡ false
not_last k mine Empty i older = refl
not_last k mine (Programmed b) i older = refl
not_last k mine (Armed b) i older = refl
not_last k mine (Live b) i older =
    let lt : b.draw < older.held.draw = subst (λ (n : ℕ). b.draw < n) (sym older.draw_is) (older.below b refl) in
    rw (older.mine_is, lt-true b.draw older.held.draw lt) refl

given : (key : List ℕ) (mine other : Slot) (i j : ℕ) → i < j → Older mine other i
    → is_ahead j (Programmed (record { key = key; draw = j })) mine ≡ true
given key mine other i j lt older = rw (older.mine_is, same-true j, older.draw_is, lt-true i j lt) refl

next_set : (sender : Bool) (zero one : Slot) (key : List ℕ) (j : ℕ) (k : Bool) (i : ℕ)
    → pair_fits (Up k i) (pair_of sender zero one) ≡ true → i < j
    → (sender && is_live (slot_in (pair_of sender zero one) (not k))) ≡ false
    → (is_only_live (pair_of sender zero one) (not k) ≡ false)
    × (pair_fits (Refreshing (not k) j 1)
    (programmed_pair (pair_of sender zero one) (not k) (record { key = key; draw = j })) ≡ true)
next_set sender zero one key j false i fits lt live =
    let older = older_of sender zero one i fits live in
    let last = not_last true zero one i older in
    (last, rw last (given key zero one i j lt older))
next_set sender zero one key j true i fits lt live =
    let older = older_of sender one zero i fits live in
    let last = not_last false one zero i older in
    (last, rw last (given key one zero i j lt older))

pub pairs_fit : PairsFit
pairs_fit pair key j = record {
  establishes = first_set pair.sender pair.zero pair.one key j;
  refreshes = next_set pair.sender pair.zero pair.one key j;
  goes_first = first_go pair.sender pair.zero pair.one j;
  goes_ahead = λ k unfinished. ahead_go pair.sender pair.zero pair.one j k unfinished;
  stops = both_stop pair.sender pair.zero pair.one;
}
