-- The key of a receiver never waits for the end of a unit.
use Rattle.ide_port.proofs.Terms.{◌≡◌, ℕ, true, false, ◌||◌, List, Option, arith, nat_tests, SubKind, Packet, Verdict}
use Rattle.ide_port.proofs.Terms.{LaneSlots, Three, TxSub, RxSub, StreamState, at_sub, set_sub, dropped_held, held_sub}
use Rattle.ide_port.proofs.Terms.{accepted_sub, Insecure, NotKeyed}
use Rattle.ide_port.proofs.Terms.{Failed, Held, Accepted, state_after, rested_stream, KeyCall, stream_after_call}
use Rattle.ide_port.proofs.Terms.{slots_called_out, slots_called_into, no_stream, unless_verdict, is_waiting, NoneWaits}
use Rattle.std.proofs.Common.{Bool}
use Rattle.spec_stream.specs.Stream.{PacketOutcome}

-- neither slot has a key that waits
abbrev pub neither : LaneSlots → Type 0
neither s = (is_waiting s.first || is_waiting s.second) ≡ false

pub none-new : NoneWaits no_stream
none-new u = grind arith

pub none-unless : (o : Option Verdict) (st : StreamState) (tx : Three TxSub) → NoneWaits st
    → NoneWaits (unless_verdict o st (record st { tx = tx }))
none-unless o st tx h u = grind (arith, h u)

-- ---- receivers

abbrev pub NoneIn : Three RxSub → Type 0
NoneIn rx = (u : SubKind) → neither (at_sub rx u).slots

none-set : (rx : Three RxSub) (w : SubKind) (x : RxSub) → NoneIn rx → neither x.slots → NoneIn (set_sub rx w x)
none-set rx w x h g u = grind (arith, h u)

none-dropped : (x : RxSub) → neither x.slots → neither (dropped_held x).slots
none-dropped x h = grind arith

none-held : (k : Bool) (p : Packet) (x : RxSub) → neither x.slots → neither (held_sub k p x).slots
none-held k p x h = grind arith

none-accepted : (j : ℕ) (unit : List Packet) (k : Bool) (x : RxSub) → neither x.slots
    → neither (accepted_sub j k unit x).slots
none-accepted j unit k x h = grind (arith, nat_tests)

pub none-taken : (st : StreamState) (p : Packet) (taken : PacketOutcome) → NoneWaits st
    → NoneWaits (state_after st p taken)
none-taken st p Insecure h u = h u
none-taken st p NotKeyed h u = h u
none-taken st p (Failed cause) h u = grind (arith, none-dropped, h u)
none-taken st p (Held j n) h u = none-set st.rx p.prefix.sub _ h
    (none-held p.prefix.k p (at_sub st.rx p.prefix.sub) (h p.prefix.sub)) u
none-taken st p (Accepted j n unit) h u = none-set st.rx p.prefix.sub _ h
    (none-accepted j unit p.prefix.k (at_sub st.rx p.prefix.sub) (h p.prefix.sub)) u

-- ---- keys

none-into : (call : KeyCall) (s : LaneSlots) → neither s → neither (slots_called_into call s)
none-into call s h = grind (arith, nat_tests)

none-settled : (tx : Three TxSub) (rx : Three RxSub) (failed : Bool) → NoneIn rx
    → NoneWaits (rested_stream tx rx failed)
none-settled tx rx failed h u = grind (arith, h u)

pub none-stream_after_call : (sends : Bool) (u : SubKind) (call : KeyCall) (st : StreamState) → NoneWaits st
    → NoneWaits (stream_after_call sends u call st)
none-stream_after_call true u call st h =
    none-settled (set_sub st.tx u (record (at_sub st.tx u) { slots = slots_called_out call (at_sub st.tx u).slots }))
    st.rx st.failed h
none-stream_after_call false u call st h =
    let y : RxSub = record (at_sub st.rx u) { slots = slots_called_into call (at_sub st.rx u).slots } in
    none-settled st.tx (set_sub st.rx u y) st.failed
    (none-set st.rx u y h (none-into call (at_sub st.rx u).slots (h u)))
