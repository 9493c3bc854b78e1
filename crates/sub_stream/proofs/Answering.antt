-- A receiver after an answer, and after GO: what the code keeps, the key slots, two counts of units and one buffer, is
-- seen as the receiver of the specs. It goes by the answer, by who holds the buffer and by the state of each slot: a
-- packet that fits finds nothing held in the other key set, so the buffer is its own slot's alone. The hard case is an
-- accepted unit: its slot counts it, an older key in the other slot goes, and the buffer lends the decrypted packets.
use Rattle.std.proofs.Common.{◌≡◌, ℕ, ◌+◌, ◌<◌, Bool, true, false, not, ◌&&◌, ◌||◌, ◌==◌, nat_lt, nat_le, if◌then◌else◌}
use Rattle.std.proofs.Common.{List, [], ◌∷◌, ◌++◌, length, Option, Some, None, refl, sym, ap, ◌∙◌, arith, length-append}
use Rattle.std.specs.Option.{option_map}
use Rattle.std.proofs.lemmas.Grind.{common_steps}
use Rattle.ide_types.specs.declared.sub.FailCause.{FailCause}
use Rattle.ide_types.specs.declared.sub.FailCause.TheVariants as fail
use Rattle.ide_types.specs.declared.sub.SubKind.{SubKind}
use Rattle.ide_prefix.specs.Packet.{Packet}
use Rattle.ide_prefix.specs.Units.{packet_without_tag}
use Rattle.spec_stream.specs.Stream.{LiveKey, PacketOutcome, NotKeyed, Insecure, Failed, Held, Accepted}
use Rattle.spec_stream.specs.Stream.{slot_in_set as seen_slot, with_slot, live_in, gone_on, counted_unit}
use Rattle.spec_stream.specs.Stream.{slot_unless_older, slot_without_packets, accepted_slots, posted_sum}
use Rattle.spec_stream.specs.Stream.{outcome_of_checks, Empty as EmptySlot, holds_any}
use Rattle.spec_stream.specs.Slots.{begun_slot}
use Rattle.key_slots.specs.declared.slot.Slot.{Slot as KeySlot}
use Rattle.key_slots.specs.declared.slot.Slot.TheVariants.{Empty, Programmed, Armed, Live}
use Rattle.key_slots.specs.{DrawnKey, SlotPair, slot_in, is_live, is_armed, live_held, live_draw, after_go, armed_pair}
use Rattle.sub_stream.specs.declared.answer.Taken.{Taken as Answer}
use Rattle.sub_stream.specs.declared.answer.Taken.TheVariants as answers
use Rattle.sub_stream.specs.declared.receiver.Holds.{Holds}
use Rattle.sub_stream.specs.declared.receiver.Holds.TheVariants.{Nothing, HeldZero, HeldOne, Delivered}
use Rattle.sub_stream.specs.Answers.{answer_taken}
use Rattle.sub_stream.specs.Gathered.{Gathered, no_packets}
use Rattle.sub_stream.specs.Seen.{slot_as_seen, live_key_seen, has_armed, is_programmed}
use Rattle.sub_stream.specs.Senders.{begun_where_empty, unit_ahead}
use Rattle.sub_stream.specs.Receivers.{Receiver, held_zero, held_one, receiver_slots_seen, packets_if_delivered}
use Rattle.sub_stream.specs.Receivers.{ahead_if_held, HoldsFew, IsReceiver, holds_some, holds_apart, held_set}
use Rattle.sub_stream.specs.Receivers.{holds_after_answer, held_alone, held_unless_failed, is_accepted, is_draw_below}
use Rattle.sub_stream.specs.Receivers.{without_older, slots_after, fits_held, fits_unit, key_for, receiver_ahead}
use Rattle.sub_stream.specs.Receivers.{is_tagged_behind, judged_packet, BufferAfter}
use Rattle.sub_stream.specs.Receivers.{receiver_outcome_by_keys, receiver_outcome, dropped_slots, dropped_receiver}
use Rattle.sub_stream.specs.Receivers.{ahead_held, opened_unit, after_answer, slots_ahead, gone_receiver}
use Rattle.sub_stream.proofs.Receiving.{units_of, held_of, key_seen, fits_seen, early_answer, early_of, other_holds}

-- ---- answers that come early

pub early-taken : (rx : Receiver) (allowed : ℕ) (total : List ℕ) (p : Packet) (a : Answer) → early_of rx p ≡ Some a
    → Some a ≡ answer_taken (receiver_outcome rx allowed total p)
early-taken rx allowed total p a = by_keys (key_for rx p.prefix.k) (key_for rx (not p.prefix.k))
  where
    by_keys : (x y : Option LiveKey) → early_answer rx.aggregation p x y ≡ Some a → Some a
        ≡ answer_taken (receiver_outcome_by_keys rx allowed total p x y)
    by_keys None None e = sym e
    by_keys None (Some y) e = sym e
    by_keys (Some x) y e = by_fits (fits_unit rx.aggregation x y p) e
      where
        by_fits : (b : Bool) → (if b then None else Some (answers.Fail fail.Unit)) ≡ Some a → Some a ≡ answer_taken
            (if b then judged_packet (receiver_ahead rx x total) allowed x p else Failed fail.Unit)
        by_fits true e = absurd (cc)
        by_fits false e = sym e

-- a failed check drops what is held
abbrev pub after_early : Receiver → Answer → Receiver
after_early rx answers.NotKeyed = rx
after_early rx answer = dropped_receiver rx

pub early-after : (rx : Receiver) (allowed : ℕ) (total : List ℕ) (p : Packet) (a : Answer) → early_of rx p ≡ Some a
    → after_answer rx total p (receiver_outcome rx allowed total p) ≡ after_early rx a
early-after rx allowed total p a = by_keys (key_for rx p.prefix.k) (key_for rx (not p.prefix.k))
  where
    by_fail : (cause : FailCause) → Some (answers.Fail cause) ≡ Some a → dropped_receiver rx ≡ after_early rx a
    by_fail cause e = let same : answers.Fail cause ≡ a = cc in ap (after_early rx) same

    by_keys : (x y : Option LiveKey) → early_answer rx.aggregation p x y ≡ Some a
        → after_answer rx total p (receiver_outcome_by_keys rx allowed total p x y) ≡ after_early rx a
    by_keys None None e = let same : answers.NotKeyed ≡ a = cc in ap (after_early rx) same
    by_keys None (Some y) e = by_fail fail.Key e
    by_keys (Some x) y e = by_fits (fits_unit rx.aggregation x y p) e
      where
        by_fits : (b : Bool) → (if b then None else Some (answers.Fail fail.Unit)) ≡ Some a → after_answer rx total p
            (if b then judged_packet (receiver_ahead rx x total) allowed x p else Failed fail.Unit)
            ≡ after_early rx a
        by_fits true e = absurd (cc)
        by_fits false e = by_fail fail.Unit e

-- the slots without what is held
dropped_seen : (slot : KeySlot) (units : ℕ) (ps : List Packet) → slot_as_seen units [] slot
    ≡ slot_without_packets (slot_as_seen units ps slot)
dropped_seen Empty units ps = refl
dropped_seen (Programmed held) units ps = refl
dropped_seen (Armed held) units ps = refl
dropped_seen (Live held) units ps = refl

pub slots-slot_without_packets : (pair : SlotPair) (u0 u1 : ℕ) (h : Holds) (ps qs : List Packet)
    → receiver_slots_seen pair u0 u1 Nothing qs ≡ dropped_slots (receiver_slots_seen pair u0 u1 h ps)
slots-slot_without_packets pair u0 u1 h ps qs = λ i. record
    { first = dropped_seen pair.zero u0 (held_zero h ps) i; second = dropped_seen pair.one u1 (held_one h ps) i }

-- the receiver that is seen of these fields
abbrev pub view : ℕ → SubKind → ℕ → ℕ → ℕ → SlotPair → Holds → Gathered → Receiver
view stream sub aggregation u0 u1 pair h unit = record {
  stream = stream;
  sub = sub;
  aggregation = aggregation;
  ahead = ahead_if_held h unit.ahead;
  slots = receiver_slots_seen pair u0 u1 h unit.packets;
  delivered = packets_if_delivered h unit.packets;
}

pub view-slot_without_packets : (stream : ℕ) (sub : SubKind) (aggregation u0 u1 : ℕ) (pair : SlotPair) (h : Holds)
    (unit new : Gathered) → view stream sub aggregation u0 u1 pair Nothing new
    ≡ dropped_receiver (view stream sub aggregation u0 u1 pair h unit)
view-slot_without_packets stream sub aggregation u0 u1 pair h unit new =
    ap (λ s. record { stream = stream; sub = sub; aggregation = aggregation; ahead = []; slots = s; delivered = [] })
    (slots-slot_without_packets pair u0 u1 h unit.packets new.packets)

pub view-early : (stream : ℕ) (sub : SubKind) (aggregation u0 u1 : ℕ) (pair : SlotPair) (h : Holds) (unit : Gathered)
    (a : Answer) → view stream sub aggregation u0 u1 pair (held_unless_failed h a) unit
    ≡ after_early (view stream sub aggregation u0 u1 pair h unit) a
view-early stream sub aggregation u0 u1 pair h unit answers.NotKeyed = refl
view-early stream sub aggregation u0 u1 pair h unit (answers.Fail cause) = view-slot_without_packets stream sub
    aggregation u0 u1 pair h unit unit
view-early stream sub aggregation u0 u1 pair h unit (answers.Held draw m) = view-slot_without_packets stream sub
    aggregation u0 u1 pair h unit unit
view-early stream sub aggregation u0 u1 pair h unit (answers.Accepted draw m count) = view-slot_without_packets stream
    sub aggregation u0 u1 pair h unit unit

-- ---- what is held under a key

abbrev pub unit_kept : Holds → Gathered → Gathered
unit_kept h unit = if holds_some h then unit else no_packets unit.aggregation

pub held-kept : (k : Bool) (h : Holds) (unit : Gathered) → holds_apart k h ≡ false → held_of k h unit.packets
    ≡ (unit_kept h unit).packets
held-kept true HeldZero unit e = absurd (cc)
held-kept true HeldOne unit e = refl
held-kept true Nothing unit e = refl
held-kept true Delivered unit e = refl
held-kept false HeldZero unit e = refl
held-kept false HeldOne unit e = absurd (cc)
held-kept false Nothing unit e = refl
held-kept false Delivered unit e = refl

held-other : (k : Bool) (h : Holds) (ps : List Packet) → holds_apart k h ≡ false → held_of (not k) h ps ≡ []
held-other true HeldZero ps e = absurd (cc)
held-other true HeldOne ps e = refl
held-other true Nothing ps e = refl
held-other true Delivered ps e = refl
held-other false HeldZero ps e = refl
held-other false HeldOne ps e = absurd (cc)
held-other false Nothing ps e = refl
held-other false Delivered ps e = refl

-- what comes before is the same
pub ahead-kept : (h : Holds) (unit : Gathered) (total : List ℕ) (n : ℕ)
    → (if length (unit_kept h unit).packets == 0 then unit_ahead total n else ahead_if_held h unit.ahead)
    ≡ (begun_where_empty (unit_kept h unit) total n).ahead
ahead-kept HeldZero unit total n = refl
ahead-kept HeldOne unit total n = refl
ahead-kept Nothing unit total n = refl
ahead-kept Delivered unit total n = refl

fits_apart : (a b : Bool) → not (a || b) ≡ true → a ≡ false
fits_apart true b e = absurd (cc)
fits_apart false b e = refl

pub not_apart : (h : Holds) (n aggregation : ℕ) (k m : Bool) → fits_held h n aggregation k m ≡ true → holds_apart k h
    ≡ false
not_apart h n aggregation k m e = fits_apart (holds_apart k h) _ e

-- ---- the answer under a key

pub key-kept : (k : Bool) (pair : SlotPair) (u0 u1 : ℕ) (h : Holds) (unit : Gathered) (held : DrawnKey)
    → live_held (slot_in pair k) ≡ Some held → holds_apart k h ≡ false
    → live_in (seen_slot (receiver_slots_seen pair u0 u1 h unit.packets) k)
    ≡ Some (live_key_seen (units_of k u0 u1) (unit_kept h unit).packets held)
key-kept k pair u0 u1 h unit held is apart =
    key_seen k pair u0 u1 h unit.packets
    ∙ ap (option_map (live_key_seen (units_of k u0 u1) (held_of k h unit.packets))) is
    ∙ ap (λ ps. Some (live_key_seen (units_of k u0 u1) ps held)) (held-kept k h unit apart)

pub taken-keyed : (stream : ℕ) (sub : SubKind) (aggregation u0 u1 : ℕ) (pair : SlotPair) (h : Holds) (unit : Gathered)
    (allowed : ℕ) (total : List ℕ) (p : Packet) (held : DrawnKey)
    → HoldsFew pair aggregation h unit.packets → live_held (slot_in pair p.prefix.k) ≡ Some held
    → fits_held h (length unit.packets) aggregation p.prefix.k p.prefix.m ≡ true
    → receiver_outcome (view stream sub aggregation u0 u1 pair h unit) allowed total p
    ≡ judged_packet (begun_where_empty (unit_kept h unit) total (units_of p.prefix.k u0 u1 + 1)).ahead allowed
    (live_key_seen (units_of p.prefix.k u0 u1) (unit_kept h unit).packets held) p
taken-keyed stream sub aggregation u0 u1 pair h unit allowed total p held few is fits =
    let k = p.prefix.k in
    let rx = view stream sub aggregation u0 u1 pair h unit in
    let apart = not_apart h (length unit.packets) aggregation k p.prefix.m fits in
    let x : LiveKey = live_key_seen (units_of k u0 u1) (unit_kept h unit).packets held in
    let key = key-kept k pair u0 u1 h unit held is apart in
    let room : fits_unit aggregation x (key_for rx (not k)) p ≡ true =
    fits_seen k pair u0 u1 h aggregation unit.packets p x few (sym (held-kept k h unit apart)) ∙ fits in
    ap (λ o. receiver_outcome_by_keys rx allowed total p o (key_for rx (not k))) key
    ∙ ap (λ b. if b then judged_packet (receiver_ahead rx x total) allowed x p else Failed fail.Unit) room
    ∙ ap (λ a. judged_packet a allowed x p) (ahead-kept h unit total (units_of k u0 u1 + 1))

-- ---- the receiver after it

abbrev pub IsJudged : Packet → PacketOutcome → Type 0
IsJudged p NotKeyed = ⊥
IsJudged p Insecure = ⊥
IsJudged p (Failed cause) = Unit {0}
IsJudged p (Held draw n) = p.prefix.m ≡ false
IsJudged p (Accepted draw n packets) = Unit {0}

pub judged-is : (ahead : List ℕ) (allowed : ℕ) (x : LiveKey) (p : Packet) → IsJudged p (judged_packet ahead allowed x p)
judged-is ahead allowed x p = by_tests p.prefix.m (is_tagged_behind ahead x p)
    (nat_le (posted_sum (x.packets ++ p ∷ [])) allowed) refl
  where
    by_tests : (m tagged order : Bool) → p.prefix.m ≡ m → IsJudged p
        (if m then outcome_of_checks tagged order x p else Held x.draw (x.units + 1))
    by_tests false tagged order e = e
    by_tests true false order e = tt
    by_tests true true false e = tt
    by_tests true true true e = tt

packet_without_tag-same : (p : Packet) → p.tag ≡ [] → packet_without_tag p ≡ p
packet_without_tag-same p e = λ i. record { prefix = p.prefix; head = p.head; body = p.body; tag = sym e i }

gone_seen : (slot : KeySlot) (units : ℕ) (ps : List Packet) (q : Packet) → slot_as_seen units (ps ++ q ∷ []) slot
    ≡ gone_on q (slot_as_seen units ps slot)
gone_seen Empty units ps q = refl
gone_seen (Programmed held) units ps q = refl
gone_seen (Armed held) units ps q = refl
gone_seen (Live held) units ps q = refl

slots-held : (k : Bool) (pair : SlotPair) (u0 u1 : ℕ) (h : Holds) (unit : Gathered) (q : Packet) → holds_apart k h
    ≡ false
    → receiver_slots_seen pair u0 u1 (held_set k) ((unit_kept h unit).packets ++ q ∷ [])
    ≡ with_slot (receiver_slots_seen pair u0 u1 h unit.packets) k
    (gone_on q (seen_slot (receiver_slots_seen pair u0 u1 h unit.packets) k))
slots-held true pair u0 u1 h unit q apart =
    (λ i. record {
      first = slot_as_seen u0 (sym (held-other true h unit.packets apart) i) pair.zero;
      second = (ap (λ ps. slot_as_seen u1 (ps ++ q ∷ []) pair.one) (sym (held-kept true h unit apart)) ∙ gone_seen
          pair.one u1
          (held_one h unit.packets) q) i;
    })
slots-held false pair u0 u1 h unit q apart =
    (λ i. record {
      first = (ap (λ ps. slot_as_seen u0 (ps ++ q ∷ []) pair.zero) (sym (held-kept false h unit apart)) ∙ gone_seen
          pair.zero u0
          (held_zero h unit.packets) q) i;
      second = slot_as_seen u1 (sym (held-other false h unit.packets apart) i) pair.one;
    })

counted_seen : (slot : KeySlot) (units : ℕ) (ps : List Packet) → slot_as_seen (units + 1) [] slot
    ≡ counted_unit (slot_as_seen units ps slot)
counted_seen Empty units ps = refl
counted_seen (Programmed held) units ps = refl
counted_seen (Armed held) units ps = refl
counted_seen (Live held) units ps = refl

abbrev pub kept_slot : ℕ → KeySlot → KeySlot
kept_slot draw slot = if is_draw_below draw (live_draw slot) then Empty else slot

retired_seen : (slot : KeySlot) (units draw : ℕ) → slot_as_seen units [] (kept_slot draw slot)
    ≡ slot_unless_older draw (slot_as_seen units [] slot)
retired_seen Empty units draw = refl
retired_seen (Programmed held) units draw = refl
retired_seen (Armed held) units draw = refl
retired_seen (Live held) units draw = by_age (nat_lt held.draw draw)
  where
    by_age : (b : Bool) → slot_as_seen units [] (if b then Empty else Live held)
        ≡ (if b then EmptySlot else slot_as_seen units [] (Live held))
    by_age true = refl
    by_age false = refl

-- the pair without an older other slot
older_one : (pair : SlotPair) (draw : ℕ) → without_older pair true draw
    ≡ record pair { zero = kept_slot draw pair.zero }
older_one pair draw = by_age (is_draw_below draw (live_draw pair.zero))
  where
    by_age : (b : Bool) → (if b then record { sender = pair.sender; zero = Empty; one = pair.one } else pair)
        ≡ record pair { zero = (if b then Empty else pair.zero) }
    by_age true = refl
    by_age false = refl

older_zero : (pair : SlotPair) (draw : ℕ) → without_older pair false draw
    ≡ record pair { one = kept_slot draw pair.one }
older_zero pair draw = by_age (is_draw_below draw (live_draw pair.one))
  where
    by_age : (b : Bool) → (if b then record { sender = pair.sender; zero = pair.zero; one = Empty } else pair)
        ≡ record pair { one = (if b then Empty else pair.one) }
    by_age true = refl
    by_age false = refl

slots-accepted : (k : Bool) (pair : SlotPair) (u0 u1 draw : ℕ) (h : Holds) (ps qs : List Packet) → holds_apart k h
    ≡ false
    → receiver_slots_seen (without_older pair k draw) (if not k then u0 + 1 else u0) (if k then u1 + 1 else u1)
    Delivered qs
    ≡ accepted_slots draw k (receiver_slots_seen pair u0 u1 h ps)
slots-accepted true pair u0 u1 draw h ps qs apart =
    ap (λ (x : SlotPair). receiver_slots_seen x u0 (u1 + 1) Delivered qs) (older_one pair draw)
    ∙ (λ i. record {
      first = (retired_seen pair.zero u0 draw ∙ ap (λ xs. slot_unless_older draw (slot_as_seen u0 xs pair.zero))
          (sym (held-other true h ps apart))) i;
      second = counted_seen pair.one u1 (held_one h ps) i;
    })
slots-accepted false pair u0 u1 draw h ps qs apart =
    ap (λ (x : SlotPair). receiver_slots_seen x (u0 + 1) u1 Delivered qs) (older_zero pair draw)
    ∙ (λ i. record {
      first = counted_seen pair.zero u0 (held_zero h ps) i;
      second = (retired_seen pair.one u1 draw ∙ ap (λ xs. slot_unless_older draw (slot_as_seen u1 xs pair.one))
          (sym (held-other false h ps apart))) i;
    })

held-ahead : (k : Bool) (total : List ℕ) → ahead_if_held (held_set k) total ≡ total
held-ahead true ahead = refl
held-ahead false ahead = refl

held-lent : (k : Bool) (ps : List Packet) → packets_if_delivered (held_set k) ps ≡ []
held-lent true ps = refl
held-lent false ps = refl

abbrev pub counted_zero : Bool → ℕ → Answer → ℕ
counted_zero k u0 a = if is_accepted a && not k then u0 + 1 else u0

abbrev pub counted_one : Bool → ℕ → Answer → ℕ
counted_one k u1 a = if is_accepted a && k then u1 + 1 else u1

pub view-answered : (stream : ℕ) (sub : SubKind) (aggregation u0 u1 : ℕ) (pair : SlotPair) (h : Holds)
    (unit new : Gathered)
    (total : List ℕ) (p : Packet) (held : DrawnKey) (a : Answer) (t : PacketOutcome)
    → live_held (slot_in pair p.prefix.k) ≡ Some held → holds_apart p.prefix.k h ≡ false
    → (p.prefix.m ≡ false → p.tag ≡ []) → IsJudged p t → Some a ≡ answer_taken t
    → BufferAfter (begun_where_empty (unit_kept h unit) total (units_of p.prefix.k u0 u1 + 1))
    (live_key_seen (units_of p.prefix.k u0 u1) (unit_kept h unit).packets held) p t new
    → view stream sub aggregation (counted_zero p.prefix.k u0 a) (counted_one p.prefix.k u1 a)
    (slots_after a p.prefix.k pair)
    (holds_after_answer p.prefix.k a) new
    ≡ after_answer (view stream sub aggregation u0 u1 pair h unit) total p t
view-answered stream sub aggregation u0 u1 pair h unit new total p held a t is apart tagless judged answered
    buffer =
    by_taken t judged answered buffer
  where
    by_taken : (t : PacketOutcome) → IsJudged p t → Some a ≡ answer_taken t
        → BufferAfter (begun_where_empty (unit_kept h unit) total (units_of p.prefix.k u0 u1 + 1))
        (live_key_seen (units_of p.prefix.k u0 u1) (unit_kept h unit).packets held) p t new
        → view stream sub aggregation (counted_zero p.prefix.k u0 a) (counted_one p.prefix.k u1 a)
        (slots_after a p.prefix.k pair) (holds_after_answer p.prefix.k a) new
        ≡ after_answer (view stream sub aggregation u0 u1 pair h unit) total p t
    by_taken NotKeyed j e b = absurd j
    by_taken Insecure j e b = absurd j
    by_taken (Failed cause) j e b =
        let same : a ≡ answers.Fail cause = cc in
        rw same (view-slot_without_packets stream sub aggregation u0 u1 pair h unit new)
    by_taken (Held draw n) m e b =
        let same : a ≡ answers.Held draw n = cc in
        let k = p.prefix.k in
        let rx = view stream sub aggregation u0 u1 pair h unit in
        let key = key-kept k pair u0 u1 h unit held is apart in
        let packets : new.packets ≡ (unit_kept h unit).packets ++ p ∷ [] =
        ap (λ (u : Gathered). u.packets) b ∙ ap (λ q. (unit_kept h unit).packets ++ q ∷ [])
        (packet_without_tag-same p (tagless m)) in
        let ahead : ahead_if_held (held_set k) new.ahead ≡ ahead_held rx (key_for rx k) total =
        held-ahead k new.ahead ∙ ap (λ (u : Gathered). u.ahead) b ∙ sym (ahead-kept h unit total (units_of k u0 u1 + 1))
        ∙ sym (ap (λ o. ahead_held rx o total) key) in
        let slots : receiver_slots_seen pair u0 u1 (held_set k) new.packets
        ≡ with_slot rx.slots k (gone_on p (seen_slot rx.slots k)) =
        ap (receiver_slots_seen pair u0 u1 (held_set k)) packets ∙ slots-held k pair u0 u1 h unit p apart in
        rw same (λ i. record {
          stream = stream;
          sub = sub;
          aggregation = aggregation;
          ahead = ahead i;
          slots = slots i;
          delivered = held-lent k new.packets i;
        })
    by_taken (Accepted draw n packets) j e b =
        let same : a ≡ answers.Accepted draw n (length packets) = cc in
        let k = p.prefix.k in
        let rx = view stream sub aggregation u0 u1 pair h unit in
        let key = key-kept k pair u0 u1 h unit held is apart in
        let delivered : new.packets ≡ opened_unit (key_for rx k) p.prefix.sub packets =
        ap (λ (u : Gathered). u.packets) b ∙ sym (ap (λ o. opened_unit o p.prefix.sub packets) key) in
        rw same (λ i. record {
          stream = stream;
          sub = sub;
          aggregation = aggregation;
          ahead = [];
          slots = slots-accepted k pair u0 u1
              draw h unit.packets new.packets apart i;
          delivered = delivered i;
        })

-- ---- what always holds

live_of_held : (slot : KeySlot) (held : DrawnKey) → live_held slot ≡ Some held → is_live slot ≡ true
live_of_held Empty held e = absurd (cc)
live_of_held (Programmed x) held e = absurd (cc)
live_of_held (Armed x) held e = absurd (cc)
live_of_held (Live x) held e = refl

few_in : (k : Bool) (pair : SlotPair) (aggregation : ℕ) (ps : List Packet) → is_live (slot_in pair k) ≡ true
    → 0 < length ps → length ps < aggregation → HoldsFew pair aggregation (held_set k) ps
few_in true pair aggregation ps live some few = (live, some, few)
few_in false pair aggregation ps live some few = (live, some, few)

count-kept : (h : Holds) (unit : Gathered) → length (unit_kept h unit).packets
    ≡ (if holds_some h then length unit.packets else 0)
count-kept HeldZero unit = refl
count-kept HeldOne unit = refl
count-kept Nothing unit = refl
count-kept Delivered unit = refl

pub room_kept : (h : Holds) (unit : Gathered) (aggregation : ℕ) (k m : Bool)
    → fits_held h (length unit.packets) aggregation k m
    ≡ true → m ≡ false → length (unit_kept h unit).packets + 1 < aggregation
room_kept h unit aggregation k m fits low =
    let n : ℕ = if holds_some h then length unit.packets else 0 in
    let full : nat_le aggregation (n + 1) ≡ false = by_tests (holds_apart k h) m (nat_le aggregation (n + 1)) low fits
    in
    let less : n + 1 < aggregation = grind (arith, common_steps) in
    rw (count-kept h unit) less
  where
    by_tests : (a m b : Bool) → m ≡ false → not (a || (not m && b)) ≡ true → b ≡ false
    by_tests true m b low e = absurd (cc)
    by_tests false true b low e = absurd (cc)
    by_tests false false true low e = absurd (cc)
    by_tests false false false low e = refl

sender_after_older : (k : Bool) (pair : SlotPair) (draw : ℕ) → (without_older pair k draw).sender ≡ pair.sender
sender_after_older true pair draw = ap (λ (x : SlotPair). x.sender) (older_one pair draw)
sender_after_older false pair draw = ap (λ (x : SlotPair). x.sender) (older_zero pair draw)

armed_kept : (slot : KeySlot) (draw : ℕ) → is_armed slot ≡ false → is_armed (kept_slot draw slot) ≡ false
armed_kept slot draw e = by_age (is_draw_below draw (live_draw slot))
  where
    by_age : (b : Bool) → is_armed (if b then Empty else slot) ≡ false
    by_age true = refl
    by_age false = e

or_left : (a b : Bool) → (a || b) ≡ false → a ≡ false
or_left true b e = absurd (cc)
or_left false b e = refl

or_right : (a b : Bool) → (a || b) ≡ false → b ≡ false
or_right true b e = absurd (cc)
or_right false b e = e

both_false : (a b : Bool) → a ≡ false → b ≡ false → (a || b) ≡ false
both_false a b e f = λ i. (ap (λ x. x || b) e ∙ f) i

armed_after_older : (k : Bool) (pair : SlotPair) (draw : ℕ) → has_armed pair ≡ false
    → has_armed (without_older pair k draw) ≡ false
armed_after_older true pair draw e =
    ap has_armed (older_one pair draw)
    ∙ both_false _ _ (armed_kept pair.zero draw (or_left (is_armed pair.zero) (is_armed pair.one) e))
    (or_right (is_armed pair.zero) (is_armed pair.one) e)
armed_after_older false pair draw e =
    ap has_armed (older_zero pair draw)
    ∙ both_false _ _ (or_left (is_armed pair.zero) (is_armed pair.one) e)
    (armed_kept pair.one draw (or_right (is_armed pair.zero) (is_armed pair.one) e))

pub receiver-answered : (aggregation u0 u1 : ℕ) (pair : SlotPair) (h : Holds) (unit new : Gathered)
    (total : List ℕ)
    (p : Packet) (held : DrawnKey) (a : Answer) (t : PacketOutcome)
    → IsReceiver aggregation pair h unit
    → live_held (slot_in pair p.prefix.k) ≡ Some held → fits_held h (length unit.packets) aggregation p.prefix.k
    p.prefix.m
    ≡ true
    → IsJudged p t → Some a ≡ answer_taken t
    → BufferAfter (begun_where_empty (unit_kept h unit) total (units_of p.prefix.k u0 u1 + 1))
    (live_key_seen (units_of p.prefix.k u0 u1) (unit_kept h unit).packets held) p t new
    → new.aggregation ≡ aggregation
    → IsReceiver aggregation (slots_after a p.prefix.k pair) (holds_after_answer p.prefix.k a) new
receiver-answered aggregation u0 u1 pair h unit new total p held a t inv is fits judged answered buffer
    same_aggregation
    =
    by_taken t judged answered buffer
  where
    with_few : (b : Answer) → has_armed (slots_after b p.prefix.k pair) ≡ false → (slots_after b p.prefix.k pair).sender
        ≡ false
        → HoldsFew (slots_after b p.prefix.k pair) aggregation (holds_after_answer p.prefix.k b) new.packets
        → IsReceiver aggregation (slots_after b p.prefix.k pair) (holds_after_answer p.prefix.k b) new
    with_few b armed_pair sender few = record {
      sender = sender;
      never_armed = armed_pair;
      some_aggregation = inv.some_aggregation;
      small_aggregation = inv.small_aggregation;
      same_aggregation = same_aggregation;
      few = few;
    }

    by_taken : (t : PacketOutcome) → IsJudged p t → Some a ≡ answer_taken t
        → BufferAfter (begun_where_empty (unit_kept h unit) total (units_of p.prefix.k u0 u1 + 1))
        (live_key_seen (units_of p.prefix.k u0 u1) (unit_kept h unit).packets held) p t new
        → IsReceiver aggregation (slots_after a p.prefix.k pair) (holds_after_answer p.prefix.k a) new
    by_taken NotKeyed j e b = absurd j
    by_taken Insecure j e b = absurd j
    by_taken (Failed cause) j e b =
        let same : a ≡ answers.Fail cause = cc in
        rw same (with_few (answers.Fail cause) inv.never_armed inv.sender tt)
    by_taken (Held draw n) m e b =
        let same : a ≡ answers.Held draw n = cc in
        let count : length new.packets ≡ length (unit_kept h unit).packets + 1 =
        ap (λ (u : Gathered). length u.packets) b ∙ length-append (unit_kept h unit).packets (packet_without_tag p ∷ [])
        in
        let room = room_kept h unit aggregation p.prefix.k p.prefix.m fits m in
        rw same (with_few (answers.Held draw n) inv.never_armed inv.sender
        (few_in p.prefix.k pair aggregation new.packets (live_of_held (slot_in pair p.prefix.k) held is)
        (omega (arith, count))
        (omega (arith, count, room))))
    by_taken (Accepted draw n packets) j e b =
        let same : a ≡ answers.Accepted draw n (length packets) = cc in
        rw same (with_few (answers.Accepted draw n (length packets))
        (armed_after_older p.prefix.k pair draw inv.never_armed)
        (sender_after_older p.prefix.k pair draw ∙ inv.sender) tt)

-- ---- GO

zero_alone : (h : Holds) (ps : List Packet) → held_zero (held_alone h) ps ≡ held_zero h ps
zero_alone Nothing ps = refl
zero_alone HeldZero ps = refl
zero_alone HeldOne ps = refl
zero_alone Delivered ps = refl

one_alone : (h : Holds) (ps : List Packet) → held_one (held_alone h) ps ≡ held_one h ps
one_alone Nothing ps = refl
one_alone HeldZero ps = refl
one_alone HeldOne ps = refl
one_alone Delivered ps = refl

begun_seen : (mine other : KeySlot) (units : ℕ) (ps : List Packet) → (is_programmed mine ≡ true → ps ≡ [])
    → slot_as_seen (if is_programmed mine then 0 else units) ps (after_go false false mine other).0
    ≡ begun_slot (slot_as_seen units ps mine)
begun_seen Empty other units ps e = refl
begun_seen (Programmed held) other units ps e = rw (e refl) refl
begun_seen (Armed held) other units ps e = refl
begun_seen (Live held) other units ps e = refl

other_after_go : (mine other : KeySlot) → (after_go false false mine other).1 ≡ other
other_after_go Empty other = refl
other_after_go (Programmed held) other = refl
other_after_go (Armed held) other = refl
other_after_go (Live held) other = refl

and_true : (b : Bool) → (b && true) ≡ b
and_true true = refl
and_true false = refl

and_false : (b : Bool) → (b && false) ≡ false
and_false true = refl
and_false false = refl

not_programmed : (slot : KeySlot) → is_live slot ≡ true → is_programmed slot ≡ true → ⊥
not_programmed Empty e f = cc
not_programmed (Programmed x) e f = cc
not_programmed (Armed x) e f = cc
not_programmed (Live x) e f = cc

none_zero : (pair : SlotPair) (aggregation : ℕ) (h : Holds) (ps : List Packet) → HoldsFew pair aggregation h ps
    → is_programmed pair.zero ≡ true → held_zero h ps ≡ []
none_zero pair aggregation HeldZero ps few e = absurd (not_programmed pair.zero few.0 e)
none_zero pair aggregation HeldOne ps few e = refl
none_zero pair aggregation Nothing ps few e = refl
none_zero pair aggregation Delivered ps few e = refl

none_one : (pair : SlotPair) (aggregation : ℕ) (h : Holds) (ps : List Packet) → HoldsFew pair aggregation h ps
    → is_programmed pair.one ≡ true → held_one h ps ≡ []
none_one pair aggregation HeldOne ps few e = absurd (not_programmed pair.one few.0 e)
none_one pair aggregation HeldZero ps few e = refl
none_one pair aggregation Nothing ps few e = refl
none_one pair aggregation Delivered ps few e = refl

gone_in : (k : Bool) (pair : SlotPair) (u0 u1 aggregation : ℕ) (h : Holds) (ps : List Packet) → pair.sender ≡ false
    → HoldsFew pair aggregation h ps
    → receiver_slots_seen (armed_pair pair k false) (if is_programmed (slot_in pair k) && not k then 0 else u0)
    (if is_programmed (slot_in pair k) && k then 0 else u1) (held_alone h) ps
    ≡ with_slot (receiver_slots_seen pair u0 u1 h ps) k (begun_slot (seen_slot (receiver_slots_seen pair u0 u1 h ps) k))
gone_in true pair u0 u1 aggregation h ps s few =
    (λ i. record {
      first = slot_as_seen (if and_false (is_programmed pair.one) i then 0 else u0) (zero_alone h ps i)
          (after_go (s i) false pair.one pair.zero).1;
      second = slot_as_seen (if and_true (is_programmed pair.one) i then 0 else u1) (one_alone h ps i)
          (after_go (s i) false pair.one pair.zero).0;
    })
    ∙ (λ i. record {
      first = slot_as_seen u0 (held_zero h ps) (other_after_go pair.one pair.zero i);
      second = begun_seen pair.one pair.zero u1 (held_one h ps) (none_one pair aggregation h ps few) i;
    })
gone_in false pair u0 u1 aggregation h ps s few =
    (λ i. record {
      first = slot_as_seen (if and_true (is_programmed pair.zero) i then 0 else u0) (zero_alone h ps i)
          (after_go (s i) false pair.zero pair.one).0;
      second = slot_as_seen (if and_false (is_programmed pair.zero) i then 0 else u1) (one_alone h ps i)
          (after_go (s i) false pair.zero pair.one).1;
    })
    ∙ (λ i. record {
      first = begun_seen pair.zero pair.one u0 (held_zero h ps) (none_zero pair aggregation h ps few) i;
      second = slot_as_seen u1 (held_one h ps) (other_after_go pair.zero pair.one i);
    })

holds_begun : (slot : KeySlot) (units : ℕ) (ps : List Packet)
    → holds_any (live_in (begun_slot (slot_as_seen units ps slot))) ≡ holds_any (live_in (slot_as_seen units ps slot))
holds_begun Empty units ps = refl
holds_begun (Programmed held) units ps = refl
holds_begun (Armed held) units ps = refl
holds_begun (Live held) units ps = refl

ahead_alone : (k : Bool) (pair : SlotPair) (u0 u1 aggregation : ℕ) (h : Holds) (ps : List Packet) (total : List ℕ)
    → HoldsFew pair aggregation h ps → ahead_if_held (held_alone h) total ≡ slots_ahead
    (with_slot (receiver_slots_seen pair u0 u1 h ps) k (begun_slot (seen_slot (receiver_slots_seen pair u0 u1 h ps) k)))
    (ahead_if_held h total)
ahead_alone k pair u0 u1 aggregation h ps total few =
    by_holds h ∙ ap (λ b. if b then ahead_if_held h total else []) (sym (by_set k))
  where
    by_holds : (h : Holds) → ahead_if_held (held_alone h) total ≡
        (if holds_apart true h || holds_apart false h then ahead_if_held h total else [])
    by_holds Nothing = refl
    by_holds HeldZero = refl
    by_holds HeldOne = refl
    by_holds Delivered = refl

    first : holds_any (live_in (slot_as_seen u0 (held_zero h ps) pair.zero)) ≡ holds_apart true h
    first = other_holds true pair u0 u1 h aggregation ps few

    second : holds_any (live_in (slot_as_seen u1 (held_one h ps) pair.one)) ≡ holds_apart false h
    second = other_holds false pair u0 u1 h aggregation ps few

    by_set : (k : Bool) →
        (let s = with_slot (receiver_slots_seen pair u0 u1 h ps) k
        (begun_slot (seen_slot (receiver_slots_seen pair u0 u1 h ps) k)) in holds_any
        (live_in s.first) || holds_any (live_in s.second)) ≡ (holds_apart true h || holds_apart false h)
    by_set true = λ i. first i || (holds_begun pair.one u1 (held_one h ps) ∙ second) i
    by_set false = λ i. (holds_begun pair.zero u0 (held_zero h ps) ∙ first) i || second i

alone_lent : (h : Holds) (ps : List Packet) → packets_if_delivered (held_alone h) ps ≡ []
alone_lent Nothing ps = refl
alone_lent HeldZero ps = refl
alone_lent HeldOne ps = refl
alone_lent Delivered ps = refl

pub view-gone : (k : Bool) (stream : ℕ) (sub : SubKind) (aggregation u0 u1 : ℕ) (pair : SlotPair) (h : Holds)
    (unit : Gathered)
    → pair.sender ≡ false → HoldsFew pair aggregation h unit.packets
    → view stream sub aggregation (if is_programmed (slot_in pair k) && not k then 0 else u0)
    (if is_programmed (slot_in pair k) && k then 0 else u1) (armed_pair pair k false) (held_alone h) unit
    ≡ gone_receiver (view stream sub aggregation u0 u1 pair h unit) k
view-gone k stream sub aggregation u0 u1 pair h unit s few = λ i. record {
  stream = stream;
  sub = sub;
  aggregation = aggregation;
  ahead = ahead_alone k pair u0 u1 aggregation h unit.packets unit.ahead few i;
  slots = gone_in k pair u0 u1 aggregation h unit.packets s few i;
  delivered = alone_lent h unit.packets i;
}

pub aggregation_kept : (h : Holds) (unit : Gathered) → (unit_kept h unit).aggregation ≡ unit.aggregation
aggregation_kept HeldZero unit = refl
aggregation_kept HeldOne unit = refl
aggregation_kept Nothing unit = refl
aggregation_kept Delivered unit = refl
