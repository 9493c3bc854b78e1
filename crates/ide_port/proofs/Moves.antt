-- What a call makes of slots is what key management says of them.
use Rattle.ide_port.proofs.Terms.{◌≡◌, true, false, ◌&&◌, ◌||◌, arith, nat_tests, SubKind, LaneSlots, Three, TxSub}
use Rattle.ide_port.proofs.Terms.{RxSub, StreamState, at_sub, set_sub, rested_stream, slot_pair, KeyCall, slots_at}
use Rattle.ide_port.proofs.Terms.{pair_at, stream_after_call, slots_called_out, slots_called_into, slots_by}
use Rattle.ide_port.proofs.Terms.{has_open_unit, is_waiting, NoneWaits}
use Rattle.std.proofs.Common.{Bool}

slots_out : (c : KeyCall) (s : LaneSlots) → slot_pair true (slots_called_out c s)
    ≡ slots_by c (has_open_unit s) (slot_pair true s)
slots_out c s = grind (arith, nat_tests)

slots_into : (c : KeyCall) (u : Bool) (s : LaneSlots) → (is_waiting s.first || is_waiting s.second) ≡ false
    → slot_pair false (slots_called_into c s) ≡ slots_by c u (slot_pair false s)
slots_into c u s h = grind (arith, nat_tests)

-- ---- the place that is called

settled_out : (u : SubKind) (tx : Three TxSub) (rx : Three RxSub) (failed : Bool)
    → slots_at true u (rested_stream tx rx failed) ≡ (at_sub tx u).slots
settled_out u tx rx failed = grind arith

settled_in : (u : SubKind) (tx : Three TxSub) (rx : Three RxSub) (failed : Bool)
    → slots_at false u (rested_stream tx rx failed) ≡ (at_sub rx u).slots
settled_in u tx rx failed = grind arith

set_same : {A : Type 0} (t : Three A) (u : SubKind) (x : A) → at_sub (set_sub t u x) u ≡ x
set_same t u x = grind arith

set_other : {A : Type 0} (t : Three A) (u w : SubKind) (x : A) → (w ≡ u → ⊥) → at_sub (set_sub t u x) w ≡ at_sub t w
set_other t u w x ne = grind arith

pub moved-pair : (sends : Bool) (u : SubKind) (c : KeyCall) (st : StreamState) → NoneWaits st
    → pair_at sends u (stream_after_call sends u c st) ≡ slots_by c (sends && has_open_unit (at_sub st.tx u).slots)
    (pair_at sends u st)
moved-pair true u c st h = simp (settled_out, set_same, slots_out)
moved-pair false u c st h = simp (settled_in, set_same) (slots_into c false (at_sub st.rx u).slots (h u))

-- ---- other places

pub other-pair : (b sends : Bool) (w u : SubKind) (c : KeyCall) (st : StreamState) → (b ≡ sends → w ≡ u → ⊥)
    → pair_at b w (stream_after_call sends u c st) ≡ pair_at b w st
other-pair b sends w u c st ne = grind (arith, settled_out, settled_in, set_other)
