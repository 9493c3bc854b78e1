-- A receiver's slots that are seen, and the answers that come before a look at the tag.
use Rattle.std.proofs.Common.{◌≡◌, ℕ, ◌+◌, ◌<◌, Bool, true, false, not, ◌&&◌, ◌||◌, nat_le, if◌then◌else◌, List, []}
use Rattle.std.proofs.Common.{length, Option, Some, None, Ok, Err, refl, ap, ◌∙◌}
use Rattle.std.specs.Option.{option_map}
use Rattle.std.proofs.lemmas.Bool.{lt-ltb}
use Rattle.ide_types.specs.declared.sub.FailCause.TheVariants as fail
use Rattle.ide_prefix.specs.Packet.{Packet}
use Rattle.spec_stream.specs.Stream.{LiveKey, slot_in_set as seen_slot, live_in, holds_any}
use Rattle.key_slots.specs.declared.slot.Slot.{Slot as KeySlot}
use Rattle.key_slots.specs.declared.slot.Slot.TheVariants.{Empty, Programmed, Armed, Live}
use Rattle.key_slots.specs.{DrawnKey, SlotPair, slot_in, is_live, live_held}
use Rattle.sub_stream.specs.declared.answer.Taken.{Taken as Answer}
use Rattle.sub_stream.specs.declared.answer.Taken.TheVariants as answers
use Rattle.sub_stream.specs.declared.receiver.Holds.{Holds}
use Rattle.sub_stream.specs.declared.receiver.Holds.TheVariants.{Nothing, HeldZero, HeldOne, Delivered}
use Rattle.sub_stream.specs.Seen.{slot_as_seen, live_key_seen}
use Rattle.sub_stream.specs.Receivers.{held_zero, held_one, receiver_slots_seen, HoldsFew, holds_some, holds_apart}
use Rattle.sub_stream.specs.Receivers.{Receiver, fits_held, fits_unit, key_for, key_or_answer}

-- the units and the packets of a key set
abbrev pub units_of : Bool → ℕ → ℕ → ℕ
units_of k in_zero in_one = if k then in_one else in_zero

abbrev pub held_of : Bool → Holds → List Packet → List Packet
held_of k h ps = if k then held_one h ps else held_zero h ps

live_seen : (slot : KeySlot) (units : ℕ) (ps : List Packet) → live_in (slot_as_seen units ps slot)
    ≡ option_map (live_key_seen units ps) (live_held slot)
live_seen Empty units ps = refl
live_seen (Programmed held) units ps = refl
live_seen (Armed held) units ps = refl
live_seen (Live held) units ps = refl

pub key_seen : (k : Bool) (pair : SlotPair) (u0 u1 : ℕ) (h : Holds) (ps : List Packet)
    → live_in (seen_slot (receiver_slots_seen pair u0 u1 h ps) k)
    ≡ option_map (live_key_seen (units_of k u0 u1) (held_of k h ps)) (live_held (slot_in pair k))
key_seen true pair u0 u1 h ps = live_seen pair.one u1 (held_one h ps)
key_seen false pair u0 u1 h ps = live_seen pair.zero u0 (held_zero h ps)

holds_in : (slot : KeySlot) (units : ℕ) (ps : List Packet) (b : Bool)
    → (b ≡ true → (is_live slot ≡ true) × (0 < length ps)) → (b ≡ false → ps ≡ [])
    → holds_any (live_in (slot_as_seen units ps slot)) ≡ b
holds_in slot units ps false some none = rw (none refl) (by_slot slot)
  where
    by_slot : (slot : KeySlot) → holds_any (live_in (slot_as_seen units [] slot)) ≡ false
    by_slot Empty = refl
    by_slot (Programmed held) = refl
    by_slot (Armed held) = refl
    by_slot (Live held) = refl
holds_in Empty units ps true some none = absurd (let no = (some refl).0 in cc)
holds_in (Programmed held) units ps true some none = absurd (let no = (some refl).0 in cc)
holds_in (Armed held) units ps true some none = absurd (let no = (some refl).0 in cc)
holds_in (Live held) units ps true some none = lt-ltb 0 (length ps) (some refl).1

-- the other key set holds packets
pub other_holds : (k : Bool) (pair : SlotPair) (u0 u1 : ℕ) (h : Holds) (aggregation : ℕ) (ps : List Packet)
    → HoldsFew pair aggregation h ps
    → holds_any (live_in (seen_slot (receiver_slots_seen pair u0 u1 h ps) (not k))) ≡ holds_apart k h
other_holds true pair u0 u1 HeldZero aggregation ps few = holds_in pair.zero u0 ps true (λ _. (few.0, few.1))
    (λ no. absurd (cc))
other_holds true pair u0 u1 HeldOne aggregation ps few = holds_in pair.zero u0 [] false (λ no. absurd (cc)) (λ _. refl)
other_holds true pair u0 u1 Nothing aggregation ps few = holds_in pair.zero u0 [] false (λ no. absurd (cc)) (λ _. refl)
other_holds true pair u0 u1 Delivered aggregation ps few = holds_in pair.zero u0 [] false (λ no. absurd (cc))
    (λ _. refl)
other_holds false pair u0 u1 HeldZero aggregation ps few = holds_in pair.one u1 [] false (λ no. absurd (cc)) (λ _. refl)
other_holds false pair u0 u1 HeldOne aggregation ps few = holds_in pair.one u1 ps true (λ _. (few.0, few.1))
    (λ no. absurd (cc))
other_holds false pair u0 u1 Nothing aggregation ps few = holds_in pair.one u1 [] false (λ no. absurd (cc)) (λ _. refl)
other_holds false pair u0 u1 Delivered aggregation ps few = holds_in pair.one u1 [] false (λ no. absurd (cc))
    (λ _. refl)

-- how many packets are held in a set, if none are in the other
count_held : (k : Bool) (h : Holds) (ps : List Packet) → holds_apart k h ≡ false → length (held_of k h ps)
    ≡ (if holds_some h then length ps else 0)
count_held true HeldZero ps e = absurd (cc)
count_held true HeldOne ps e = refl
count_held true Nothing ps e = refl
count_held true Delivered ps e = refl
count_held false HeldZero ps e = refl
count_held false HeldOne ps e = absurd (cc)
count_held false Nothing ps e = refl
count_held false Delivered ps e = refl

pub fits_seen : (k : Bool) (pair : SlotPair) (u0 u1 : ℕ) (h : Holds) (aggregation : ℕ) (ps : List Packet) (p : Packet)
    (x : LiveKey)
    → HoldsFew pair aggregation h ps → x.packets ≡ held_of k h ps
    → fits_unit aggregation x (live_in (seen_slot (receiver_slots_seen pair u0 u1 h ps) (not k))) p
    ≡ fits_held h (length ps) aggregation k p.prefix.m
fits_seen k pair u0 u1 h aggregation ps p x few is =
    rw (other_holds k pair u0 u1 h aggregation ps few) (by_apart (holds_apart k h) refl)
  where
    by_apart : (b : Bool) → holds_apart k h ≡ b
        → not (holds_apart k h || (not p.prefix.m && nat_le aggregation (length x.packets + 1)))
        ≡ fits_held h (length ps) aggregation k p.prefix.m
    by_apart true e = rw e refl
    by_apart false e = rw (is, count_held k h ps e) refl

-- ---- the answers that come before a look at the tag

abbrev pub early_answer : ℕ → Packet → Option LiveKey → Option LiveKey → Option Answer
early_answer aggregation p None None = Some answers.NotKeyed
early_answer aggregation p None (Some y) = Some (answers.Fail fail.Key)
early_answer aggregation p (Some x) other = if fits_unit aggregation x other p then None else Some
    (answers.Fail fail.Unit)

abbrev pub early_of : Receiver → Packet → Option Answer
early_of rx p = early_answer rx.aggregation p (key_for rx p.prefix.k) (key_for rx (not p.prefix.k))

-- from the keys alone
abbrev early_by : Option DrawnKey → Option DrawnKey → Bool → Option Answer
early_by None None fits = Some answers.NotKeyed
early_by None (Some y) fits = Some (answers.Fail fail.Key)
early_by (Some x) other fits = if fits then None else Some (answers.Fail fail.Unit)

early_seen : (k : Bool) (pair : SlotPair) (u0 u1 : ℕ) (h : Holds) (aggregation : ℕ) (ps : List Packet) (p : Packet)
    → HoldsFew pair aggregation h ps
    → early_answer aggregation p (live_in (seen_slot (receiver_slots_seen pair u0 u1 h ps) k))
    (live_in (seen_slot (receiver_slots_seen pair u0 u1 h ps) (not k)))
    ≡ early_by (live_held (slot_in pair k)) (live_held (slot_in pair (not k)))
    (fits_held h (length ps) aggregation k p.prefix.m)
early_seen k pair u0 u1 h aggregation ps p few =
    rw (key_seen k pair u0 u1 h ps) (by_key (live_held (slot_in pair k)))
  where
    other : Option LiveKey
    other = live_in (seen_slot (receiver_slots_seen pair u0 u1 h ps) (not k))

    by_key : (o : Option DrawnKey) → early_answer aggregation p
        (option_map (live_key_seen (units_of k u0 u1) (held_of k h ps)) o)
        (live_in (seen_slot (receiver_slots_seen pair u0 u1 h ps) (not k)))
        ≡ early_by o (live_held (slot_in pair (not k))) (fits_held h (length ps) aggregation k p.prefix.m)
    by_key (Some x) = ap (λ f. if f then None else Some (answers.Fail fail.Unit))
        (fits_seen k pair u0 u1 h aggregation ps p (live_key_seen (units_of k u0 u1) (held_of k h ps) x) few refl)
    by_key None = rw (key_seen (not k) pair u0 u1 h ps) (by_other (live_held (slot_in pair (not k))))
      where
        by_other : (o : Option DrawnKey) → early_answer aggregation p None
            (option_map (live_key_seen (units_of (not k) u0 u1) (held_of (not k) h ps)) o)
            ≡ early_by None o (fits_held h (length ps) aggregation k p.prefix.m)
        by_other None = refl
        by_other (Some y) = refl

-- an answer in place of a key is the early one
pub early_is : (k : Bool) (pair : SlotPair) (u0 u1 : ℕ) (h : Holds) (aggregation : ℕ) (ps : List Packet) (p : Packet)
    (a : Answer)
    → HoldsFew pair aggregation h ps → key_or_answer (live_held (slot_in pair k)) (live_held (slot_in pair (not k)))
    (fits_held h (length ps) aggregation k p.prefix.m) ≡ Err a
    → early_answer aggregation p (live_in (seen_slot (receiver_slots_seen pair u0 u1 h ps) k))
    (live_in (seen_slot (receiver_slots_seen pair u0 u1 h ps) (not k))) ≡ Some a
early_is k pair u0 u1 h aggregation ps p a few is =
    early_seen k pair u0 u1 h aggregation ps p few
    ∙ by_keys (live_held (slot_in pair k)) (live_held (slot_in pair (not k)))
    (fits_held h (length ps) aggregation k p.prefix.m) is
  where
    by_keys : (x y : Option DrawnKey) (fits : Bool) → key_or_answer x y fits ≡ Err a → early_by x y fits ≡ Some a
    by_keys None None fits e = let same : answers.NotKeyed ≡ a = cc in ap (λ b. Some b) same
    by_keys None (Some y) fits e = let same : answers.Fail fail.Key ≡ a = cc in ap (λ b. Some b) same
    by_keys (Some x) y true e = absurd (cc)
    by_keys (Some x) y false e = let same : answers.Fail fail.Unit ≡ a = cc in ap (λ b. Some b) same

-- a key that is given is that of the set, and the packet fits
pub key_and_fit : (x y : Option DrawnKey) (fits : Bool) (held : DrawnKey) → key_or_answer x y fits ≡ Ok held
    → (x ≡ Some held) × (fits ≡ true)
key_and_fit None None fits held e = absurd (cc)
key_and_fit None (Some y) fits held e = absurd (cc)
key_and_fit (Some x) y true held e = let same : x ≡ held = cc in (ap (λ z. Some z) same, refl)
key_and_fit (Some x) y false held e = absurd (cc)
