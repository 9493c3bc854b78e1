-- What one receiver makes of a packet, and of KEY_PROG: it answers as the rules say, and keeps its invariant. The
-- answer goes by the state of the slot; the sum that the code allows tests what the rules test, as the sum so far is
-- within the posted packets that were accepted and that of a unit is small. The hard case is an accepted unit, which
-- moves the total that comes before later units: the other slot holds no packets then, and so is right under any total.
use Rattle.std.proofs.Common.{◌≡◌, ℕ, ◌+◌, ◌-◌, ◌*◌, ◌^◌, ◌<◌, ◌≤◌, Bool, true, false, not, ◌&&◌, ◌||◌, ◌==◌, nat_lt}
use Rattle.std.proofs.Common.{nat_le, if◌then◌else◌, List, [], ◌∷◌, ◌++◌, length, Option, Some, None, refl, sym, ap}
use Rattle.std.proofs.Common.{◌∙◌, subst, arith, length-append}
use Rattle.std.specs.Int.{w64, to_be_bytes}
use Rattle.std.proofs.lemmas.Grind.{common_steps}
use Rattle.std.proofs.lemmas.List.Sums.{sum_by-append}
use Rattle.ide_types.specs.Sub.{sub_bits}
use Rattle.ide_types.specs.declared.sub.SubKind.{SubKind}
use Rattle.ide_types.specs.declared.sub.SubKind.TheVariants.{Pr, Npr, Cpl}
use Rattle.ide_types.specs.declared.sub.FailCause.TheVariants as fail
use Rattle.gcm_seal.specs.Gcm.{masked_bytes}
use Rattle.ide_prefix.specs.Iv.{iv_of}
use Rattle.ide_prefix.specs.Packet.{Packet}
use Rattle.spec_stream.specs.Sending.{is_posted, total_ahead}
use Rattle.spec_stream.specs.Stream.{LaneSlot, Empty, Programmed, Armed, Live, LiveKey, LaneSlots, slot_in_set}
use Rattle.spec_stream.specs.Stream.{with_slot, live_in, PacketOutcome, Insecure, NotKeyed, Failed, Held, Accepted}
use Rattle.spec_stream.specs.Stream.{holds_any, posted_sum, is_tagged, outcome_of_checks, slot_without_packets, gone_on}
use Rattle.spec_stream.specs.Stream.{counted_unit, slot_unless_older, accepted_slots}
use Rattle.key_slots.specs.{is_only_live}
use Rattle.sub_stream.specs.{Receiver, answer_taken, opened_from_byte, opened_unit, key_for, receiver_ahead, unit_ahead}
use Rattle.sub_stream.specs.{is_tagged_behind, judged_packet, receiver_outcome_by_keys, receiver_outcome, dropped_slots}
use Rattle.sub_stream.specs.{ahead_held, after_answer, slots_ahead, with_slots, programmed_receiver, slot_pair}
use Rattle.sub_stream.specs.Receivers.{is_accepted}
use Rattle.sub_stream.specs.declared.answer.Taken.{Taken as Answer}
use Rattle.sub_stream.specs.declared.answer.Taken.TheVariants as answers
use Rattle.stream_lanes.specs.Arrivals.{ReceiveEnd, allows, lane_outcome_by_keys, lane_outcome, end_after, HoldsPackets}
use Rattle.stream_lanes.specs.Arrivals.{HoldsRight, IsReceiveLane, count_in}
use Rattle.stream_lanes.proofs.Sealing.{ahead-right}

abbrev pub view : Receiver → SubKind → Bool → ℕ → ℕ → ℕ → ReceiveEnd
view rx sub closed sum got total = record {
  sub = sub;
  aggregation = rx.aggregation;
  closed = closed;
  kept = record { slots = rx.slots; sum = sum; got = got; total = total };
  delivered = rx.delivered;
}

-- ---- sums

pub posted_sum-joined : (ps : List Packet) (p : Packet) → posted_sum (ps ++ p ∷ []) ≡ posted_sum ps + p.prefix.posted
posted_sum-joined ps p =
    let e = sum_by-append (λ (x : Packet). x.prefix.posted) ps (p ∷ []) in
    e ∙ omega arith

posted_sum-opened_from_byte : (key iv : List ℕ) (n : ℕ) (ps : List Packet) → posted_sum (opened_from_byte key iv n ps)
    ≡ posted_sum ps
posted_sum-opened_from_byte key iv n [] = refl
posted_sum-opened_from_byte key iv n (p ∷ ps) =
    sum_by-append (λ (x : Packet). x.prefix.posted)
    (record { prefix = p.prefix; head = p.head; body = masked_bytes key iv n p.body; tag = [] } ∷ [])
    (opened_from_byte key iv (n + length p.body) ps)
    ∙ ap (λ m. posted_sum (p ∷ []) + m) (posted_sum-opened_from_byte key iv (n + length p.body) ps)
    ∙ sym (sum_by-append (λ (x : Packet). x.prefix.posted) (p ∷ []) ps)

pub posted_sum-opened : (x : LiveKey) (sub : SubKind) (ps : List Packet) → posted_sum (opened_unit (Some x) sub ps)
    ≡ posted_sum ps
posted_sum-opened x sub ps = posted_sum-opened_from_byte x.key (iv_of sub (x.units + 1)) 0 ps

-- ---- the answer

-- the sum that is allowed says what the rules say
within_left : (sum n got : ℕ) → sum ≤ got → nat_le n (got - sum) ≡ nat_le (sum + n) got
within_left sum n got le = by_test (nat_le (sum + n) got) refl
  where
    by_test : (b : Bool) → nat_le (sum + n) got ≡ b → nat_le n (got - sum) ≡ b
    by_test true e = grind (arith, common_steps)
    by_test false e = grind (arith, common_steps)

small_within : (n : ℕ) → n ≤ 2295 → nat_le n (2 ^ 64 - 1) ≡ true
small_within n le = grind (arith, common_steps)

pub allowed-right : (sub : SubKind) (sum got allowed n : ℕ) → n ≤ 2295 → allowed
    ≡ (if sub_bits sub == 0 then 2 ^ 64 - 1 else got - sum) → (is_posted sub ≡ false → sum ≤ got)
    → nat_le n allowed ≡ ((sub_bits sub == 0) || nat_le (sum + n) got)
allowed-right Pr sum got allowed n few e le = ap (nat_le n) e ∙ small_within n few
allowed-right Npr sum got allowed n few e le = ap (nat_le n) e ∙ within_left sum n got (le refl)
allowed-right Cpl sum got allowed n few e le = ap (nat_le n) e ∙ within_left sum n got (le refl)

-- what comes before the packets of a slot, with the next
next_ahead : (ahead : List ℕ) (aggregation : ℕ) (closed : Bool) (total : ℕ) (lent : List ℕ) (x : LiveKey)
    → lent ≡ (if closed then to_be_bytes w64 total else []) → HoldsPackets ahead aggregation closed total x
    → (if length x.packets == 0 then unit_ahead lent (x.units + 1) else ahead) ≡ total_ahead closed (x.units + 1) total
next_ahead ahead aggregation closed total lent x e held = ahead-right (length x.packets == 0) ahead closed total
    (x.units + 1)
    lent e held.ahead_right

few_posted : (ahead : List ℕ) (aggregation : ℕ) (closed : Bool) (total : ℕ) (x : LiveKey) (p : Packet) → aggregation ≤ 8
    → p.prefix.posted < 256 → HoldsPackets ahead aggregation closed total x → posted_sum (x.packets ++ p ∷ []) ≤ 2295
few_posted ahead aggregation closed total x p small byte held = omega
    (arith, posted_sum-joined x.packets p, held.posted, held.fits)

taken_slots : (rx : Receiver) (sub : SubKind) (closed : Bool) (sum own total got allowed : ℕ) (lent : List ℕ)
    (p : Packet) (mine : LaneSlot) (other : Option LiveKey)
    → rx.aggregation ≤ 8 → HoldsRight rx.ahead rx.aggregation closed total mine → p.prefix.posted < 256
    → allowed ≡ (if sub_bits sub == 0 then 2 ^ 64 - 1 else got - sum) → (is_posted sub ≡ false → sum ≤ got)
    → lent ≡ (if closed then to_be_bytes w64 total else [])
    → receiver_outcome_by_keys rx allowed lent p (live_in mine) other
    ≡ lane_outcome_by_keys (view rx sub closed sum own total) got p
    (live_in mine) other
taken_slots rx sub closed sum own total got allowed lent p mine other small held byte is_allowed le is_lent = by_slot
    mine held
  where
    by_none : (other : Option LiveKey) → receiver_outcome_by_keys rx allowed lent p None other
        ≡ lane_outcome_by_keys (view rx sub closed sum own total) got p None other
    by_none None = refl
    by_none (Some y) = refl

    by_fits : (x : LiveKey) (b : Bool) →
        (if not b then judged_packet (receiver_ahead rx x lent) allowed x p else Failed fail.Unit)
        ≡ (if b then Failed fail.Unit
        else if p.prefix.m then outcome_of_checks (is_tagged_behind (receiver_ahead rx x lent) x p)
        (nat_le (posted_sum (x.packets ++ p ∷ [])) allowed) x p
        else Held x.draw (x.units + 1))
    by_fits x true = refl
    by_fits x false = refl

    by_slot : (s : LaneSlot) → HoldsRight rx.ahead rx.aggregation closed total s
        → receiver_outcome_by_keys rx allowed lent p (live_in s) other
        ≡ lane_outcome_by_keys (view rx sub closed sum own total) got p (live_in s) other
    by_slot Empty held = by_none other
    by_slot (Programmed j key) held = by_none other
    by_slot (Armed j key) held = by_none other
    by_slot (Live x) held =
        let ahead = next_ahead rx.ahead rx.aggregation closed total lent x is_lent held in
        let within = allowed-right sub sum got allowed (posted_sum (x.packets ++ p ∷ []))
        (few_posted rx.ahead rx.aggregation closed total x p small byte held) is_allowed le in
        by_fits x (holds_any other || (not p.prefix.m && nat_le rx.aggregation (length x.packets + 1)))
        ∙ (λ i. if holds_any other || (not p.prefix.m && nat_le rx.aggregation (length x.packets + 1)) then Failed
        fail.Unit
        else if p.prefix.m then outcome_of_checks (is_tagged_behind (ahead i) x p) (within i) x p
        else Held x.draw (x.units + 1))

slot_right : (k : Bool) (rx : Receiver) (closed : Bool) (sum own total : ℕ) → IsReceiveLane rx closed sum own total
    → HoldsRight rx.ahead rx.aggregation closed total (slot_in_set rx.slots k)
slot_right true rx closed sum own total inv = inv.second
slot_right false rx closed sum own total inv = inv.first

pub taken-right : (rx : Receiver) (sub : SubKind) (closed : Bool) (sum own total got allowed : ℕ) (lent : List ℕ)
    (p : Packet)
    → IsReceiveLane rx closed sum own total → p.prefix.posted < 256
    → allowed ≡ (if sub_bits sub == 0 then 2 ^ 64 - 1 else got - sum) → (is_posted sub ≡ false → sum ≤ got)
    → lent ≡ (if closed then to_be_bytes w64 total else [])
    → receiver_outcome rx allowed lent p ≡ lane_outcome (view rx sub closed sum own total) got p
taken-right rx sub closed sum own total got allowed lent p inv byte is_allowed le is_lent =
    taken_slots rx sub closed sum own total got allowed lent p (slot_in_set rx.slots p.prefix.k)
    (key_for rx (not p.prefix.k))
    inv.small_aggregation (slot_right p.prefix.k rx closed sum own total inv) byte is_allowed le is_lent

-- ---- the receiver after it

-- if a unit was accepted its key is Live
pub accepted-keyed : (e : ReceiveEnd) (got : ℕ) (p : Packet) (j n : ℕ) (unit : List Packet) (x y : Option LiveKey)
    → lane_outcome_by_keys e got p x y ≡ Accepted j n unit
    → posted_sum (opened_unit x p.prefix.sub unit) ≡ posted_sum unit
accepted-keyed e got p j n unit None None is = absurd (cc)
accepted-keyed e got p j n unit None (Some y) is = absurd (cc)
accepted-keyed e got p j n unit (Some x) y is = posted_sum-opened x p.prefix.sub unit

pub end-after : (rx : Receiver) (sub : SubKind) (closed : Bool) (sum own total got : ℕ) (lent : List ℕ) (p : Packet)
    (t : PacketOutcome) (a : Answer)
    → lane_outcome (view rx sub closed sum own total) got p ≡ t → Some a ≡ answer_taken t
    → (let new : Receiver = after_answer rx lent p t in
    view new sub closed (if is_accepted a then sum + posted_sum new.delivered else sum)
    (if is_accepted a then own + count_in a else own) (if is_accepted a then total + 1 else total))
    ≡ end_after (view rx sub closed sum own total) p t
end-after rx sub closed sum own total got lent p NotKeyed a is e = let same : a ≡ answers.NotKeyed = cc in rw same refl
end-after rx sub closed sum own total got lent p Insecure a is e = absurd (cc)
end-after rx sub closed sum own total got lent p (Failed cause) a is e = let same : a
    ≡ answers.Fail cause = cc in rw same refl
end-after rx sub closed sum own total got lent p (Held j n) a is e = let same : a
    ≡ answers.Held j n = cc in rw same refl
end-after rx sub closed sum own total got lent p (Accepted j n unit) a is e =
    let same : a ≡ answers.Accepted j n (length unit) = cc in
    let posted : posted_sum (opened_unit (key_for rx p.prefix.k) p.prefix.sub unit) ≡ posted_sum unit =
    accepted-keyed (view rx sub closed sum own total) got p j n unit (key_for rx p.prefix.k)
    (key_for rx (not p.prefix.k)) is in
    rw same (λ i. record (end_after (view rx sub closed sum own total) p (Accepted j n unit)) {
      kept = record {
        slots = accepted_slots j p.prefix.k rx.slots;
        sum = sum + posted i;
        got = own + length unit;
        total = total + 1;
      };
    })

-- ---- what always holds

none_in : (x : LiveKey) → holds_any (Some x) ≡ false → (length x.packets == 0) ≡ true
none_in x e = grind (arith, common_steps)

some_in : (x : LiveKey) → (length x.packets == 0) ≡ false → holds_any (Some x) ≡ true
some_in x e = grind (arith, common_steps)

clash : (b : Bool) → b ≡ true → b ≡ false → ⊥
clash b e f = let g : true ≡ false = sym e ∙ f in cc

-- a slot that holds no packets is right under any total that is no smaller
nothing_held : (slot : LaneSlot) (ahead ahead' : List ℕ) (aggregation : ℕ) (closed : Bool) (total total' : ℕ)
    → total ≤ total' → HoldsRight ahead aggregation closed total slot
    → holds_any (live_in slot) ≡ false → HoldsRight ahead' aggregation closed total' slot
nothing_held Empty ahead ahead' aggregation closed total total' le held e = tt
nothing_held (Programmed j key) ahead ahead' aggregation closed total total' le held e = tt
nothing_held (Armed j key) ahead ahead' aggregation closed total total' le held e = tt
nothing_held (Live x) ahead ahead' aggregation closed total total' le held e = record {
  ahead_right = λ some. absurd (clash _ (none_in x e) some);
  posted = held.posted;
  fits = held.fits;
  few = omega (arith, le, held.few);
}

-- a Live slot without packets
begun_right : (ahead : List ℕ) (aggregation : ℕ) (closed : Bool) (total draw units : ℕ) (key : List ℕ) → 0 < aggregation
    → units ≤ total → HoldsPackets ahead aggregation closed total
    (record { draw = draw; key = key; units = units; packets = [] })
begun_right ahead aggregation closed total draw units key some few = record {
  ahead_right = λ e. absurd (cc);
  posted = omega arith;
  fits = some;
  few = few;
}

dropped_right : (slot : LaneSlot) (ahead ahead' : List ℕ) (aggregation : ℕ) (closed : Bool) (total : ℕ)
    → 0 < aggregation → HoldsRight ahead aggregation closed total slot
    → HoldsRight ahead' aggregation closed total (slot_without_packets slot)
dropped_right Empty ahead ahead' aggregation closed total some held = tt
dropped_right (Programmed j key) ahead ahead' aggregation closed total some held = tt
dropped_right (Armed j key) ahead ahead' aggregation closed total some held = tt
dropped_right (Live x) ahead ahead' aggregation closed total some held = begun_right ahead' aggregation closed total
    x.draw x.units x.key some held.few

counted_right : (slot : LaneSlot) (ahead ahead' : List ℕ) (aggregation : ℕ) (closed : Bool) (total : ℕ)
    → 0 < aggregation → HoldsRight ahead aggregation closed total slot
    → HoldsRight ahead' aggregation closed (total + 1) (counted_unit slot)
counted_right Empty ahead ahead' aggregation closed total some held = tt
counted_right (Programmed j key) ahead ahead' aggregation closed total some held = tt
counted_right (Armed j key) ahead ahead' aggregation closed total some held = tt
counted_right (Live x) ahead ahead' aggregation closed total some held = begun_right ahead' aggregation closed
    (total + 1) x.draw (x.units + 1) x.key some (omega (arith, held.few))

retired_right : (j : ℕ) (slot : LaneSlot) (ahead : List ℕ) (aggregation : ℕ) (closed : Bool) (total : ℕ)
    → HoldsRight ahead aggregation closed total slot
    → HoldsRight ahead aggregation closed total (slot_unless_older j slot)
retired_right j Empty ahead aggregation closed total held = tt
retired_right j (Programmed i key) ahead aggregation closed total held = tt
retired_right j (Armed i key) ahead aggregation closed total held = tt
retired_right j (Live x) ahead aggregation closed total held = by_age (nat_lt x.draw j)
  where
    by_age : (b : Bool) → HoldsRight ahead aggregation closed total (if b then Empty else Live x)
    by_age true = tt
    by_age false = held

-- a packet that is held
room_more : (n aggregation : ℕ) → nat_le aggregation (n + 1) ≡ false → n + 1 < aggregation
room_more n aggregation e = grind (arith, common_steps)

joined_right : (ahead ahead' : List ℕ) (aggregation : ℕ) (closed : Bool) (total : ℕ) (x : LiveKey) (p : Packet)
    → HoldsPackets ahead aggregation closed total x → p.prefix.posted < 256
    → nat_le aggregation (length x.packets + 1) ≡ false → ahead' ≡ total_ahead closed (x.units + 1) total
    → HoldsPackets ahead' aggregation closed total (record x { packets = x.packets ++ p ∷ [] })
joined_right ahead ahead' aggregation closed total x p held byte room is =
    let size = length-append x.packets (p ∷ []) in
    let less = room_more (length x.packets) aggregation room in
    record {
      ahead_right = λ e. is;
      posted = omega (arith, posted_sum-joined x.packets p, held.posted, size);
      fits = omega (arith, less, size);
      few = held.few;
    }

-- what an answer tells of the slots
abbrev FitsHere : ℕ → Packet → PacketOutcome → Option LiveKey → Option LiveKey → Type 0
FitsHere aggregation p (Held j n) (Some x) other = (holds_any other ≡ false)
    × (nat_le aggregation (length x.packets + 1) ≡ false)
FitsHere aggregation p (Held j n) None other = ⊥
FitsHere aggregation p (Accepted j n unit) mine other = holds_any other ≡ false
FitsHere aggregation p taken mine other = Unit {0}

or_both : (a b : Bool) → (a || b) ≡ false → (a ≡ false) × (b ≡ false)
or_both true b e = absurd (cc)
or_both false b e = (refl, e)

fits_here : (e : ReceiveEnd) (got : ℕ) (p : Packet) (x y : Option LiveKey)
    → FitsHere e.aggregation p (lane_outcome_by_keys e got p x y) x y
fits_here e got p None None = tt
fits_here e got p None (Some y) = tt
fits_here e got p (Some x) y =
    by_fits (holds_any y || (not p.prefix.m && nat_le e.aggregation (length x.packets + 1))) refl p.prefix.m refl
    (is_tagged e.closed e.kept.total x p) (allows e got (x.packets ++ p ∷ []))
  where
    by_fits : (b : Bool) → (holds_any y || (not p.prefix.m && nat_le e.aggregation (length x.packets + 1))) ≡ b
        → (m : Bool)
        → p.prefix.m ≡ m → (tagged allowed : Bool)
        → FitsHere e.aggregation p
        (if b then Failed fail.Unit else if m then outcome_of_checks tagged allowed x p else Held x.draw
        (x.units + 1)) (Some x) y
    by_fits true is m is_m tagged allowed = tt
    by_fits false is true is_m false allowed = tt
    by_fits false is true is_m true false = tt
    by_fits false is true is_m true true = (or_both (holds_any y) _ is).0
    by_fits false is false is_m tagged allowed =
        let both = or_both (holds_any y) (not p.prefix.m && nat_le e.aggregation (length x.packets + 1)) is in
        (both.0, ap (λ m. not m && nat_le e.aggregation (length x.packets + 1)) (sym is_m) ∙ both.1)

abbrev BothRight : Bool → List ℕ → ℕ → Bool → ℕ → LaneSlots → Type 0
BothRight k ahead aggregation closed total s = HoldsRight ahead aggregation closed total s.first
    × HoldsRight ahead aggregation closed total s.second

held_both : (k : Bool) (rx : Receiver) (closed : Bool) (sum own total got : ℕ) (lent : List ℕ) (p : Packet) (j n : ℕ)
    → IsReceiveLane rx closed sum own total
    → p.prefix.posted < 256 → lent ≡ (if closed then to_be_bytes w64 total else [])
    → FitsHere rx.aggregation p (Held j n) (live_in (slot_in_set rx.slots k)) (live_in (slot_in_set rx.slots (not k)))
    → BothRight k (ahead_held rx (live_in (slot_in_set rx.slots k)) lent) rx.aggregation closed total
    (with_slot rx.slots k (gone_on p (slot_in_set rx.slots k)))
held_both true rx closed sum own total got lent p j n inv byte is_lent fits = by_slot rx.slots.second inv.second fits
  where
    by_slot : (s : LaneSlot) → HoldsRight rx.ahead rx.aggregation closed total s
        → FitsHere rx.aggregation p (Held j n) (live_in s) (live_in rx.slots.first)
        → HoldsRight (ahead_held rx (live_in s) lent) rx.aggregation closed total rx.slots.first
        × HoldsRight (ahead_held rx (live_in s) lent) rx.aggregation closed total (gone_on p s)
    by_slot Empty held fits = absurd fits
    by_slot (Programmed i key) held fits = absurd fits
    by_slot (Armed i key) held fits = absurd fits
    by_slot (Live x) held fits = (
      nothing_held rx.slots.first rx.ahead (receiver_ahead rx x lent) rx.aggregation closed total total (omega arith)
          inv.first fits.0,
      joined_right rx.ahead (receiver_ahead rx x lent) rx.aggregation closed total x p held byte fits.1
          (next_ahead rx.ahead rx.aggregation closed total lent x is_lent held),
    )
held_both false rx closed sum own total got lent p j n inv byte is_lent fits = by_slot rx.slots.first inv.first fits
  where
    by_slot : (s : LaneSlot) → HoldsRight rx.ahead rx.aggregation closed total s
        → FitsHere rx.aggregation p (Held j n) (live_in s) (live_in rx.slots.second)
        → HoldsRight (ahead_held rx (live_in s) lent) rx.aggregation closed total (gone_on p s)
        × HoldsRight (ahead_held rx (live_in s) lent) rx.aggregation closed total rx.slots.second
    by_slot Empty held fits = absurd fits
    by_slot (Programmed i key) held fits = absurd fits
    by_slot (Armed i key) held fits = absurd fits
    by_slot (Live x) held fits = (
      joined_right rx.ahead (receiver_ahead rx x lent) rx.aggregation closed total x p held byte fits.1
          (next_ahead rx.ahead rx.aggregation closed total lent x is_lent held),
      nothing_held rx.slots.second rx.ahead (receiver_ahead rx x lent) rx.aggregation closed total total (omega arith)
          inv.second fits.0,
    )

accepted_both : (k : Bool) (rx : Receiver) (closed : Bool) (sum own total : ℕ) (j : ℕ)
    → IsReceiveLane rx closed sum own total → holds_any (live_in (slot_in_set rx.slots (not k))) ≡ false
    → BothRight k [] rx.aggregation closed (total + 1) (accepted_slots j k rx.slots)
accepted_both true rx closed sum own total j inv none = (
  retired_right j rx.slots.first [] rx.aggregation closed (total + 1)
      (nothing_held rx.slots.first rx.ahead [] rx.aggregation closed total (total + 1) (omega arith)
      inv.first none),
  counted_right rx.slots.second rx.ahead [] rx.aggregation closed total inv.some_aggregation inv.second,
)
accepted_both false rx closed sum own total j inv none = (
  counted_right rx.slots.first rx.ahead [] rx.aggregation closed total inv.some_aggregation inv.first,
  retired_right j rx.slots.second [] rx.aggregation closed (total + 1)
      (nothing_held rx.slots.second rx.ahead [] rx.aggregation closed total (total + 1) (omega arith)
      inv.second none),
)

pub taken-kept : (rx : Receiver) (sub : SubKind) (closed : Bool) (sum own total got : ℕ) (lent : List ℕ) (p : Packet)
    (t : PacketOutcome) (a : Answer) (sum' own' total' : ℕ)
    → IsReceiveLane rx closed sum own total → p.prefix.posted < 256
    → lent ≡ (if closed then to_be_bytes w64 total else [])
    → lane_outcome (view rx sub closed sum own total) got p ≡ t → Some a ≡ answer_taken t
    → sum' ≤ (if is_accepted a then sum + 2040 else sum) → own' ≤ (if is_accepted a then own + 255 else own)
    → total' ≡ (if is_accepted a then total + 1 else total)
    → IsReceiveLane (after_answer rx lent p t) closed sum' own' total'
taken-kept rx sub closed sum own total got lent p t a sum' own' total' inv byte is_lent is e le_sum le_own is_total =
    by_taken t is e (subst
    (λ (t : PacketOutcome). FitsHere rx.aggregation p t (key_for rx p.prefix.k) (key_for rx (not p.prefix.k)))
    is (fits_here (view rx sub closed sum own total) got p (key_for rx p.prefix.k) (key_for rx (not p.prefix.k))))
  where
    counts : (b : Bool) → sum' ≤ (if b then sum + 2040 else sum) → own' ≤ (if b then own + 255 else own)
        → total' ≡ (if b then total + 1 else total) → (sum' ≤ 2040 * total') × (own' ≤ 255 * total')
    counts true le_sum le_own is = (omega (arith, le_sum, is, inv.few_sum), omega (arith, le_own, is, inv.few_got))
    counts false le_sum le_own is = (omega (arith, le_sum, is, inv.few_sum), omega (arith, le_own, is, inv.few_got))

    with_both : (ahead : List ℕ) (slots : LaneSlots) (delivered : List Packet)
        → HoldsRight ahead rx.aggregation closed total' slots.first
        → HoldsRight ahead rx.aggregation closed total' slots.second
        → IsReceiveLane (record rx { ahead = ahead; slots = slots; delivered = delivered }) closed sum' own' total'
    with_both ahead slots delivered first second = record {
      some_aggregation = inv.some_aggregation;
      small_aggregation = inv.small_aggregation;
      first = first;
      second = second;
      few_sum = (counts (is_accepted a) le_sum le_own is_total).0;
      few_got = (counts (is_accepted a) le_sum le_own is_total).1;
    }

    same_total : (b : Answer) → a ≡ b → is_accepted b ≡ false → total' ≡ total
    same_total b same quiet = is_total ∙ ap (λ (x : Answer). if is_accepted x then total + 1 else total) same ∙ ap
        (λ x. if x then total + 1 else total) quiet

    by_taken : (t : PacketOutcome) → lane_outcome (view rx sub closed sum own total) got p ≡ t → Some a ≡ answer_taken t
        → FitsHere rx.aggregation p t (key_for rx p.prefix.k) (key_for rx (not p.prefix.k))
        → IsReceiveLane (after_answer rx lent p t) closed sum' own' total'
    by_taken NotKeyed is e fits =
        let same : a ≡ answers.NotKeyed = cc in
        let keeps = same_total answers.NotKeyed same refl in
        with_both rx.ahead rx.slots rx.delivered (rw keeps inv.first) (rw keeps inv.second)
    by_taken Insecure is e fits = absurd (cc)
    by_taken (Failed cause) is e fits =
        let same : a ≡ answers.Fail cause = cc in
        let keeps = same_total (answers.Fail cause) same refl in
        with_both [] (dropped_slots rx.slots) []
        (rw keeps (dropped_right rx.slots.first rx.ahead [] rx.aggregation closed total inv.some_aggregation inv.first))
        (rw keeps (dropped_right rx.slots.second rx.ahead [] rx.aggregation closed total inv.some_aggregation
        inv.second))
    by_taken (Held j n) is e fits =
        let same : a ≡ answers.Held j n = cc in
        let keeps = same_total (answers.Held j n) same refl in
        let both = held_both p.prefix.k rx closed sum own total got lent p j n inv byte is_lent fits in
        with_both (ahead_held rx (key_for rx p.prefix.k) lent)
        (with_slot rx.slots p.prefix.k (gone_on p (slot_in_set rx.slots p.prefix.k))) [] (rw keeps both.0)
        (rw keeps both.1)
    by_taken (Accepted j n unit) is e fits =
        let same : a ≡ answers.Accepted j n (length unit) = cc in
        let next : total' ≡ total + 1 = is_total ∙ ap (λ (x : Answer). if is_accepted x then total + 1 else total) same
        in
        let both = accepted_both p.prefix.k rx closed sum own total j inv fits in
        with_both [] (accepted_slots j p.prefix.k rx.slots) (opened_unit (key_for rx p.prefix.k) p.prefix.sub unit)
        (rw next both.0) (rw next both.1)

-- ---- KEY_PROG

kept_ahead : (slot : LaneSlot) (b : Bool) (ahead : List ℕ) (aggregation : ℕ) (closed : Bool) (total : ℕ)
    → (holds_any (live_in slot) ≡ true → b ≡ true) → HoldsRight ahead aggregation closed total slot
    → HoldsRight (if b then ahead else []) aggregation closed total slot
kept_ahead Empty b ahead aggregation closed total h held = tt
kept_ahead (Programmed j key) b ahead aggregation closed total h held = tt
kept_ahead (Armed j key) b ahead aggregation closed total h held = tt
kept_ahead (Live x) b ahead aggregation closed total h held = record {
  ahead_right = λ some. ap (λ (c : Bool). if c then ahead else []) (h (some_in x some)) ∙ held.ahead_right some;
  posted = held.posted;
  fits = held.fits;
  few = held.few;
}

or_true : (a b : Bool) → a ≡ true → (a || b) ≡ true
or_true a b e = ap (λ c. c || b) e

programmed_both : (k : Bool) (rx : Receiver) (closed : Bool) (sum own total : ℕ) (key : List ℕ) (draw : ℕ)
    → IsReceiveLane rx closed sum own total
    → (let s = with_slot rx.slots k (Programmed draw key) in HoldsRight (slots_ahead s rx.ahead) rx.aggregation closed
    total
    s.first × HoldsRight (slots_ahead s rx.ahead) rx.aggregation closed total s.second)
programmed_both true rx closed sum own total key draw inv =
    (kept_ahead rx.slots.first _ rx.ahead rx.aggregation closed total (or_true _ false) inv.first, tt)
programmed_both false rx closed sum own total key draw inv =
    (tt, kept_ahead rx.slots.second _ rx.ahead rx.aggregation closed total (λ e. e) inv.second)

pub programmed-right : (k : Bool) (rx : Receiver) (closed : Bool) (sum own total : ℕ) (key : List ℕ) (draw : ℕ)
    → IsReceiveLane rx closed sum own total → IsReceiveLane (programmed_receiver rx k key draw) closed sum own total
programmed-right k rx closed sum own total key draw inv = by_answer (is_only_live (slot_pair false rx.slots) k)
  where
    by_answer : (b : Bool) → IsReceiveLane
        (if b then rx else with_slots rx (with_slot rx.slots k (Programmed draw key))) closed sum own total
    by_answer true = inv
    by_answer false =
        let both = programmed_both k rx closed sum own total key draw inv in
        record {
          some_aggregation = inv.some_aggregation;
          small_aggregation = inv.small_aggregation;
          first = both.0;
          second = both.1;
          few_sum = inv.few_sum;
          few_got = inv.few_got;
        }
