-- The next packet of a stream, over its three sub-streams, is the next of its own sub-stream, and behind the posted
-- packets that were sealed before it.
use Rattle.law_sealing.proofs.Terms.{◌≡◌, ℕ, zero, suc, ◌<◌, ◌≤◌, ◌∷◌, ◌++◌, Bool, true, false}
use Rattle.law_sealing.proofs.Terms.{List, [], length, filter, map, take, drop, slice_get, Some, refl, ap, sym, ◌∙◌}
use Rattle.law_sealing.proofs.Terms.{arith, inl, inr, cases_lt, nat_tests, append_assoc}
use Rattle.law_sealing.proofs.Terms.{length-append, take-append-le, take-append-drop, take-take}
use Rattle.law_sealing.proofs.Terms.{if◌then◌else◌, SealedPacket, Packet, PortName, SubStream, SubKind, lane_out}
use Rattle.law_sealing.proofs.Terms.{SealedList, sub_stream_packets, is_sealed_under}
use Rattle.law_sealing.proofs.Terms.{sub_stream_packets-snoc}
use Rattle.std.proofs.Math.Seq.{take-length}
use Rattle.spec_links.specs.Ordered.{IsPacketAtPlace}
use Rattle.law_sealing.proofs.Sums.{next_taken, element_behind, sub_stream_packets-append}
use Rattle.law_delivery.proofs.Ordering.{sized}
use Rattle.law_honest.specs.Honest.{is_sealed_at}

-- ---- lists

-- element n of those that pass a test, among all
pub record FilteredPlace {A : Type 0} (q : A → Bool) (xs : List A) (n : ℕ) (x : A) : Type 0 where
  pub place : ℕ
  pub stands : slice_get xs place ≡ Some x
  pub passes : q x ≡ true
  pub before : filter q (take place xs) ≡ take n (filter q xs)

pub filtered_place : {A : Type 0} (q : A → Bool) (xs : List A) (n : ℕ) (x : A) → slice_get (filter q xs) n ≡ Some x
    → FilteredPlace q xs n x
filtered_place {A} q [] n x is = absurd cc
filtered_place {A} q (y ∷ xs) n x is = by (q y) refl n is (filtered_place q xs)
  where
    by : (b : Bool) → q y ≡ b → (n : ℕ) → slice_get (if b then y ∷ filter q xs else filter q xs) n ≡ Some x
        → ((n : ℕ) (x : A) → slice_get (filter q xs) n ≡ Some x → FilteredPlace q xs n x)
        → FilteredPlace q (y ∷ xs) n x
    by true here zero is more =
        let one : y ≡ x = cc in
        record { place = 0; stands = ap (λ (z : A). Some z) one; passes = ap q (sym one) ∙ here; before = refl }
    by true here (suc n) is more =
        let rest = more n x is in
        record {
          place = suc rest.place;
          stands = rest.stands;
          passes = rest.passes;
          before = rw here (ap (λ (zs : List A). y ∷ zs) rest.before);
        }
    by false other n is more =
        let rest = more n x is in
        record {
          place = suc rest.place;
          stands = rest.stands;
          passes = rest.passes;
          before = rw other rest.before;
        }

-- elements that pass stand in their order
pub in_their_order : {A : Type 0} (q : A → Bool) (xs : List A) (m n : ℕ) (x y : A) → m ≤ n
    → slice_get (filter q xs) m ≡ Some x → slice_get (filter q xs) n ≡ Some y
    → (i : ℕ) × (k : ℕ) × (i ≤ k) × (slice_get xs i ≡ Some x) × (slice_get xs k ≡ Some y)
in_their_order {A} q [] m n x y le one two = absurd cc
in_their_order {A} q (z ∷ xs) m n x y le one two = by (q z) refl m n le one two (in_their_order q xs)
  where
    by : (b : Bool) → q z ≡ b → (m n : ℕ) → m ≤ n
        → slice_get (if b then z ∷ filter q xs else filter q xs) m ≡ Some x
        → slice_get (if b then z ∷ filter q xs else filter q xs) n ≡ Some y
        → ((m n : ℕ) (x y : A) → m ≤ n → slice_get (filter q xs) m ≡ Some x → slice_get (filter q xs) n ≡ Some y
        → (i : ℕ) × (k : ℕ) × (i ≤ k) × (slice_get xs i ≡ Some x) × (slice_get xs k ≡ Some y))
        → (i : ℕ) × (k : ℕ) × (i ≤ k) × (slice_get (z ∷ xs) i ≡ Some x) × (slice_get (z ∷ xs) k ≡ Some y)
    by true here zero zero le one two more = (0, 0, omega arith, one, two)
    by true here zero (suc n) le one two more =
        let last = filtered_place q xs n y two in (0, suc last.place, omega arith, one, last.stands)
    by true here (suc m) zero le one two more = absurd (omega arith)
    by true here (suc m) (suc n) le one two more =
        let rest = more m n x y (omega (arith, le)) one two in
        (suc rest.0, suc rest.1, omega (arith, rest.2), rest.3, rest.4)
    by false other m n le one two more =
        let rest = more m n x y le one two in
        (suc rest.0, suc rest.1, omega (arith, rest.2), rest.3, rest.4)

filter_within : {A : Type 0} (p q : A → Bool) (xs : List A) → ((x : A) → p x ≡ true → q x ≡ true)
    → filter p (filter q xs) ≡ filter p xs
filter_within p q [] within = refl
filter_within p q (x ∷ xs) within = grind (arith, filter_within p q xs within, within x)

pub take_size : {A : Type 0} (xs ys : List A) → take (length xs) (xs ++ ys) ≡ xs
take_size xs ys = take-append-le (length xs) xs ys (omega arith) ∙ take-length xs

-- ---- the packets of a stream, and of its sub-streams

pub under_at : (port : PortName) (stream from j : ℕ) (u : SubKind) (x : SealedPacket × Packet) → from ≤ j
    → is_sealed_under (lane_out port stream u) j x ≡ true → is_sealed_at port stream from x ≡ true
under_at port stream from j u x le is = grind (arith, nat_tests)

pub lane_of_stream : (port : PortName) (stream from j : ℕ) (u : SubKind) (xs : SealedList) → from ≤ j
    → sub_stream_packets (filter (is_sealed_at port stream from) xs) (lane_out port stream u) j
    ≡ sub_stream_packets xs (lane_out port stream u) j
unfolding sub_stream_packets
lane_of_stream port stream from j u xs le =
    ap (map (λ (x : SealedPacket × Packet). x.1))
    (filter_within (is_sealed_under (lane_out port stream u) j) (is_sealed_at port stream from) xs
    (λ x. under_at port stream from j u x le))

-- the shorter of two beginnings has no more packets
lane_within : (xs : SealedList) (s : SubStream) (j a b : ℕ) → a ≤ b
    → length (sub_stream_packets (take a xs) s j) ≤ length (sub_stream_packets (take b xs) s j)
lane_within xs s j a b le =
    let all = rw (take-append-drop, take-take a b xs le) at
    (sub_stream_packets-append (take a (take b xs)) (drop a (take b xs)) s j) in
    rw all (omega (
      arith,
      length-append (sub_stream_packets (take a xs) s j)
          (sub_stream_packets (drop a (take b xs)) s j),
    ))

-- ---- one packet among all that were sealed

module _
    (xs : SealedList) (s : SubStream) (j place : ℕ) (x : SealedPacket × Packet) (stands : slice_get xs place ≡ Some x)
    (under : is_sealed_under s j x ≡ true) where
  abbrev before : List Packet
  before = sub_stream_packets (take place xs) s j

  behind : sub_stream_packets xs s j ≡ before ++ x.1 ∷ sub_stream_packets (drop (suc place) xs) s j
  behind =
      let one : sub_stream_packets (take (suc place) xs) s j ≡ before ++ x.1 ∷ [] =
      ap (λ (ys : SealedList). sub_stream_packets ys s j) (next_taken xs place x stands)
      ∙ (sub_stream_packets-snoc (take place xs) x s j ∙ rw under refl) in
      let rest = sub_stream_packets (drop (suc place) xs) s j in
      ap (λ (ys : SealedList). sub_stream_packets ys s j) (sym (take-append-drop (suc place) xs))
      ∙ (sub_stream_packets-append (take (suc place) xs) (drop (suc place) xs) s j
      ∙ (ap (λ (ps : List Packet). ps ++ rest) one ∙ append_assoc before (x.1 ∷ []) rest))

  pub stands_in_lane : slice_get (sub_stream_packets xs s j) (length before) ≡ Some x.1
  stands_in_lane = rw behind (element_behind before x.1 (sub_stream_packets (drop (suc place) xs) s j))

  pub before_in_lane : take (length before) (sub_stream_packets xs s j) ≡ before
  before_in_lane = rw behind (take_size before (x.1 ∷ sub_stream_packets (drop (suc place) xs) s j))

  -- where packet m stands
  own_place : IsPacketAtPlace xs s j (length before) place
  own_place = record { sealed = x; stands = stands; under = under; number = refl }

  pub not_behind : (other : ℕ) → IsPacketAtPlace xs s j (length before) other → other ≤ place
  not_behind other at = elim (cases_lt place other) [
    | inl less ↦
        let size = sized xs s j (length before) place own_place in
        let most = lane_within xs s j (suc place) other (omega (arith, less)) in
        let count = at.number in
        absurd (omega (arith, size, most, count))
    | inr le ↦ le
  ]

-- a packet that was sealed before a place is among those of its sub-stream before it
pub among_before : (xs : SealedList) (s : SubStream) (j n earlier place : ℕ) → IsPacketAtPlace xs s j n earlier
    → earlier < place → n < length (sub_stream_packets (take place xs) s j)
among_before xs s j n earlier place at less =
    let size = sized xs s j n earlier at in
    let most = lane_within xs s j (suc earlier) place (omega (arith, less)) in
    omega (arith, size, most)
