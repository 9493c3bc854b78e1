-- A key that is acknowledged stands in its slot.
use Rattle.std.proofs.Common.{◌≡◌, ◌≢◌, ℕ, Bool, true, false, cond, eqb, ltb, List, Option, Some, None, Result, Ok, Err}
use Rattle.std.proofs.Common.{refl, ◌∙◌, inl, inr, arith, slice_index}
use Rattle.std.proofs.lemmas.Bool.{cases_Bool, and_from, eqb-true, eq-eqb}
use Rattle.ide_types.specs.{direction_number}
use Rattle.key_slots.specs.declared.slot.Slot.{Slot}
use Rattle.key_slots.specs.Slots.{SlotPair, slot_in, with_both, is_only_live, programmed_pair}
use Rattle.key_slots.specs.{Program}
use Rattle.key_messages.specs.declared.object.KmView.{KmView}
use Rattle.key_messages.specs.declared.object.KmView.TheVariants.{Query, QueryResp, KeyProg, KpAck, SetGo, SetStop}
use Rattle.key_messages.specs.declared.object.KmView.TheVariants.{GoStopAck}
use Rattle.key_messages.specs.declared.object.KmFault.{KmFault}
use Rattle.key_messages.specs.Objects.{object_reading}
use Rattle.key_messages.specs.declared.place.Place.{Place}
use Rattle.key_messages.specs.Calls.{place_call, SlotsShown, shown_pair, is_taken_by_slots, is_same_place, SlotsAfter}
use Rattle.key_messages.specs.Replies.{set_of, selected_place, object_call, reading_call, call_of, HasKept, is_done}
use Rattle.key_messages.specs.Replies.{status_code, key_status_of, reading_reply, reply_object, HoldsKey}
use Rattle.key_messages.specs.Replies.{IsAcknowledged}

-- ---- replies that are no success

never : (b : Bool) (stream status selector index x y z : ℕ) → status ≢ 0
    → cond b (Some (KpAck stream status selector index)) None ≡ Some (KpAck x 0 y z) → ⊥
never true stream status selector index x y z ne e = let same : status ≡ 0 = cc in ne same
never false stream status selector index x y z ne e = absurd cc

other_object : (b : Bool) (object : KmView) (x y z : ℕ) → (object ≡ KpAck x 0 y z → ⊥) → cond b (Some object) None
    ≡ Some (KpAck x 0 y z) → ⊥
other_object true object x y z differs e = differs cc
other_object false object x y z differs e = absurd cc

some_there : (b : Bool) (o : Option SlotPair) (s : SlotPair) → cond b o None ≡ Some s → (b ≡ true) × (o ≡ Some s)
some_there true o s e = (refl, e)
some_there false o s e = absurd cc

-- ---- the slot

slot_with : (sender set : Bool) (mine other : Slot) → slot_in (with_both sender set (mine, other)) set ≡ mine
slot_with sender false mine other = refl
slot_with sender true mine other = refl

here : (place : Place) → is_same_place place place ≡ true
here place = and_from _ _
    (and_from _ _ (eq-eqb place.stream place.stream refl) (eq-eqb (direction_number place.direction) _ refl))
    (eq-eqb place.sub place.sub refl)

key_at : (shown after : SlotsShown) (unfinished : Place → Bool) (place : Place) (set : Bool) (key : List ℕ) (draw : ℕ)
    (o : Option SlotPair) → shown_pair shown place ≡ o
    → SlotsAfter shown unfinished (place_call place (Program set key draw)) after
    → status_code (key_status_of 0 (is_taken_by_slots o (Program set key draw))) ≡ 0
    → HoldsKey (after place) set key draw
key_at shown after unfinished place set key draw None is h e = absurd (omega (arith, e))
key_at shown after unfinished place set key draw (Some slots) is h e = elim
    (cases_Bool (is_only_live slots set)) [
      | inl r ↦ let wrong : ◌≡◌ {A = ℕ} 3 0 = rw r at e in absurd (omega (arith, wrong))
      | inr r ↦
          let t = some_there (ltb place.sub 3) (shown place) slots is in
          let moved : after place ≡ Some (programmed_pair slots set (record { key = key; draw = draw })) = h place ∙
          rw
          (here place, t.0, t.1) refl in
          rw moved (rw r (slot_with slots.sender set _ _))
    ]

-- ---- the request

record ProgramsKey (r : Result KmView KmFault) (stream selector draw : ℕ) (after : SlotsShown) : Type 0 where
  key : List ℕ
  asked : r ≡ Ok (KeyProg stream selector 0 key 1)
  holds : HoldsKey (after (selected_place stream selector)) (set_of selector) key draw

key_stands : (shown after : SlotsShown) (unfinished : Place → Bool) (draw stream selector index : ℕ) (key : List ℕ)
    (counter : ℕ)
    → HasKept shown unfinished (object_call draw (KeyProg stream selector index key counter)) after
    → status_code (key_status_of index (is_done shown (object_call draw (KeyProg stream selector index key counter))))
    ≡ 0
    → ProgramsKey (Ok (KeyProg stream selector index key counter)) stream selector draw after
key_stands shown after unfinished draw stream selector index key counter h e = elim (cases_Bool (eqb index 0)) [
  | inr other ↦ let wrong : ◌≡◌ {A = ℕ} 2 0 = rw other at e in absurd (omega (arith, wrong))
  | inl zero' ↦ elim (cases_Bool (eqb counter 1)) [
    | inr other ↦ let wrong : ◌≡◌ {A = ℕ} 3 0 = rw (zero', other) at e in absurd (omega (arith, wrong))
    | inl one' ↦
        let i : index ≡ 0 = eqb-true _ _ zero' in
        let n : counter ≡ 1 = eqb-true _ _ one' in
        record {
          key = key;
          asked = rw (i, n) refl;
          holds = key_at shown after unfinished (selected_place stream selector)
              (set_of selector) key draw _ refl (rw (zero', one') at h) (rw (zero', one') at e);
        }
  ]
]

-- status 0 is only given for a KEY_PROG whose call is taken, and such a call leaves the slot Programmed
stands : (shown after : SlotsShown) (unfinished : Place → Bool) (rid draw stream selector index : ℕ) (request : List ℕ)
    (r : Result KmView KmFault)
    → HasKept shown unfinished (reading_call draw r) after
    → reading_reply rid request r (is_done shown (reading_call draw r)) ≡ Some (KpAck stream 0 selector index)
    → ProgramsKey r stream selector draw after
stands shown after unfinished rid draw stream selector index request (Err fault) h e = absurd
    (never _ (slice_index request 4) 1 (slice_index request 6) (slice_index request 7) stream selector index
    (λ x. omega (arith, x)) e)
stands shown after unfinished rid draw stream selector index request (Ok (Query port)) h e = absurd
    (other_object _ _ _ _ _ (λ x. cc) e)
stands shown after unfinished rid draw stream selector index request
    (Ok (QueryResp port device_function bus segment highest)) h e = absurd cc
stands shown after unfinished rid draw stream selector index request (Ok (KeyProg s sel port key counter)) h e =
    let a : s ≡ stream = cc in
    let b : sel ≡ selector = cc in
    let call = object_call draw (KeyProg s sel port key counter) in
    let c : status_code (key_status_of port (is_done shown call)) ≡ 0 = cc in
    rw (← a, ← b) (key_stands shown after unfinished draw s sel port key counter h c)
stands shown after unfinished rid draw stream selector index request (Ok (KpAck s status sel port)) h e = absurd cc
stands shown after unfinished rid draw stream selector index request (Ok (SetGo s sel port)) h e = absurd
    (other_object _ _ _ _ _ (λ x. cc) e)
stands shown after unfinished rid draw stream selector index request (Ok (SetStop s sel port)) h e = absurd
    (other_object _ _ _ _ _ (λ x. cc) e)
stands shown after unfinished rid draw stream selector index request (Ok (GoStopAck s sel port)) h e = absurd cc

pub acknowledged : (shown after : SlotsShown) (unfinished : Place → Bool) (rid draw stream selector index : ℕ)
    (request : List ℕ)
    → HasKept shown unfinished (call_of request draw) after
    → reply_object rid request (is_done shown (call_of request draw)) ≡ Some (KpAck stream 0 selector index)
    → IsAcknowledged request stream selector draw after
acknowledged shown after unfinished rid draw stream selector index request h e =
    let s = stands shown after unfinished rid draw stream selector index request (object_reading request) h e in
    record { key = s.key; asked = s.asked; holds = s.holds }
