-- What a call does to the slots of a place, and which of them stay Live.
use Rattle.join_keys.proofs.CallTerms.{◌≡◌, Bool, arith, true, ℕ, List, false, sym, ◌≢◌, nat_tests, KeyCall, Program}
use Rattle.join_keys.proofs.CallTerms.{Go, Stop, slots_called_out, slots_called_into, Work, makes_draw, Operation}
use Rattle.join_keys.proofs.CallTerms.{slots_refuse, is_last_in, is_only_live, is_last_live, live_draw, slot_pair}
use Rattle.join_keys.proofs.CallTerms.{key_slot, LaneSlots, LaneSlot, Live, LiveKey, WaitsBesideLive, DrawsApart}
use Rattle.join_keys.proofs.CallTerms.{if◌then◌else◌, not, any_live, refl, is_some, refusal_if}

-- ---- KEY_PROG

-- what is refused there is what the machine of ports refuses, if two Live draws are apart
last_live_is : (k : Bool) (a b : LaneSlot) → ((x y : LiveKey) → a ≡ Live x → b ≡ Live y → x.draw ≢ y.draw)
    → is_last_live k (live_draw (key_slot a)) (live_draw (key_slot b)) ≡ is_last_in a b
last_live_is k a b apart = grind (arith, nat_tests)

pub only_live_is : (sends : Bool) (s : LaneSlots) (k : Bool) → DrawsApart s → is_only_live (slot_pair sends s) k
    ≡ slots_refuse s k
only_live_is sends s false apart = last_live_is false s.first s.second apart
only_live_is sends s true apart = last_live_is true s.second s.first
    (λ x y first second same. apart y x second first (sym same))

-- a status is there exactly if it is refused
pub is_refusal : (b : Bool) → is_some (refusal_if b) ≡ b
is_refusal true = refl
is_refusal false = refl

-- ---- no KEY_PROG and no GO takes its Live slot from a place that had one

abbrev pub is_stop : KeyCall → Bool
is_stop (Stop k) = true
is_stop _ = false

abbrev pub is_no_stop : KeyCall → Bool
is_no_stop call = not (is_stop call)

-- an operation's first call and its second at a place: a key and its GO, or a stop of each set
abbrev pub first_call : Work → List ℕ → KeyCall
first_call w key = if makes_draw w.operation then Program w.set key w.draw else Stop false

abbrev pub second_call : Work → KeyCall
second_call w = if makes_draw w.operation then Go w.set else Stop true

-- the kind of its calls
abbrev pub is_of : Operation → KeyCall → Bool
is_of o call = if makes_draw o then is_no_stop call else is_stop call

abbrev pub slots_by : Bool → KeyCall → LaneSlots → LaneSlots
slots_by true call s = slots_called_out call s
slots_by false call s = slots_called_into call s

pub slots_keep : (sends : Bool) (call : KeyCall) (s : LaneSlots) → is_no_stop call ≡ true → any_live s ≡ true
    → any_live (slots_by sends call s) ≡ true
slots_keep sends call s kept some = grind arith

-- ---- STOP: no place without a Live slot gets one

pub slots_stop : (sends : Bool) (call : KeyCall) (s : LaneSlots) → is_stop call ≡ true
    → (sends ≡ true → WaitsBesideLive s) → any_live (slots_by sends call s) ≡ true → any_live s ≡ true
slots_stop sends call s is waits some = grind arith

-- after it no key waits
pub stops_wait : (call : KeyCall) (s : LaneSlots) → is_stop call ≡ true → WaitsBesideLive (slots_called_out call s)
stops_wait call s is k draw key waits = grind arith
