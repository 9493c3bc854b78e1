-- What a stream keeps over its calls.
use Rattle.std.proofs.Common.{◌≡◌, ℕ, Bool, true, false, not, if◌then◌else◌, List, [], ◌++◌, length, Some}
use Rattle.std.proofs.Common.{None, Result, Ok, Err, refl, sym, ap, ◌∙◌, subst, append-nil}
use Rattle.ide_types.specs.declared.sub.SubKind.{SubKind}
use Rattle.ide_types.specs.declared.port.Side.{Side}
use Rattle.ide_prefix.specs.Packet.{Packet}
use Rattle.spec_stream.specs.Sending.{Sending, sealed_with_syncs, refusals, first_that_holds}
use Rattle.spec_stream.specs.Stream.{TxSub, RxSub, Three, StreamState, at_sub, slot_in_set, live_in}
use Rattle.spec_stream.specs.Stream.{PacketOutcome, Insecure, NotKeyed, Failed, Held, Accepted, dropped_held}
use Rattle.spec_stream.specs.Stream.{stream_outcome_by_keys, state_after}
use Rattle.sub_stream.specs.{answer_taken}
use Rattle.sub_stream.specs.declared.answer.MeasuredPacket.{MeasuredPacket}
use Rattle.sub_stream.specs.declared.answer.Taken.{Taken as Answer}
use Rattle.sub_stream.specs.declared.answer.Taken.TheVariants as answers
use Rattle.key_slots.specs.{KeyCall}
use Rattle.ide_port.specs.declared.directions.Directions.{Directions}
use Rattle.ide_port.specs.StreamEnds.{StreamEnd, lanes_in, end_outcome, end_taken}
use Rattle.ide_port.specs.StreamSends.{ok_unless_verdict, sending_refusal, unless_verdict, IsSent, packets_and_senders}
use Rattle.stream_lanes.specs.declared.refusal.SendRefusal.{SendRefusal}
use Rattle.stream_lanes.specs.declared.refusal.SendRefusal.TheVariants.{Insecure as InsecureStream}
use Rattle.stream_lanes.specs.{SendEnds, IsSealed, packet_lengths, joined_packets}
use Rattle.stream_lanes.specs.{ReceiveEnds, sealing_lanes, refusal_verdict, IsSealedOrRefused, receiving_state}
use Rattle.stream_lanes.specs.{lanes_outcome, opened_if_accepted, receive_ends_after, is_fail}
use Rattle.ide_port.specs.Both.{called_directions, rested_directions, end_of_directions, IsStream}

-- ---- calls of key management

pub call-kept : (sends : Bool) (u : SubKind) (call : KeyCall) (d : Directions) → IsStream d
    → IsStream (rested_directions (called_directions sends u call d))
call-kept true u call d inv = record {
  same_aggregation = inv.same_aggregation;
  same_closed = inv.same_closed;
}
call-kept false u call d inv = record {
  same_aggregation = inv.same_aggregation;
  same_closed = inv.same_closed;
}

-- ---- a send

pub send-kept : (d : Directions) (new : SendEnds) → IsStream d → new ≡ record d.tx { tx = new.tx }
    → IsStream (record d { tx = new })
send-kept d new inv same = record {
  same_aggregation = inv.same_aggregation ∙ ap (λ (x : SendEnds). x.fixed.aggregation) (sym same);
  same_closed = inv.same_closed ∙ ap (λ (x : SendEnds). x.fixed.closed) (sym same);
}

sent-so : (side : Side) (d : Directions) (head payload : List ℕ) (s : Sending) (number : ℕ)
    (sealed : List MeasuredPacket) (before after : List ℕ) (new : SendEnds)
    → sending_refusal (end_of_directions side d) s ≡ None → IsSealed d.tx head payload s number sealed before after new
    → IsSent (end_of_directions side d) head payload s number (Ok sealed) before after
    (end_of_directions side (record d { tx = new }))
sent-so side d head payload s number sealed before after new clear is =
    let e : StreamEnd = end_of_directions side d in
    let all = packets_and_senders e head payload s number in
    record {
      answered = ap Ok is.answered ∙ ap (λ o. ok_unless_verdict o (sealed_with_syncs (lanes_in e) s number))
          (sym clear);
      lengths = is.lengths ∙ ap (λ o. packet_lengths (unless_verdict o [] all.0)) (sym clear);
      bytes = is.bytes ∙ ap (λ o. before ++ joined_packets (unless_verdict o [] all.0)) (sym clear);
      stream =
          ap (λ (x : SendEnds). end_of_directions side (record d { tx = x })) is.senders
          ∙ ap (λ o. record e { state = unless_verdict o e.state (record e.state { tx = all.1 }) })
          (sym clear);
    }

sending_refusal-so : (side : Side) (d : Directions) (head payload : List ℕ) (s : Sending) (number : ℕ)
    (refusal : SendRefusal) (before : List ℕ)
    → sending_refusal (end_of_directions side d) s ≡ Some (refusal_verdict refusal)
    → IsSent (end_of_directions side d) head payload s number (Err refusal) before before
    (end_of_directions side d)
sending_refusal-so side d head payload s number refusal before is =
    let e : StreamEnd = end_of_directions side d in
    let all = packets_and_senders e head payload s number in
    record {
      answered = ap (λ o. ok_unless_verdict o (sealed_with_syncs (lanes_in e) s number)) (sym is);
      lengths = ap (λ o. packet_lengths (unless_verdict o [] all.0)) (sym is);
      bytes = sym (append-nil before) ∙ ap (λ o. before ++ joined_packets (unless_verdict o [] all.0)) (sym is);
      stream =
          ap (λ o. record e { state = unless_verdict o e.state (record e.state { tx = all.1 }) })
          (sym is);
    }

pub insecure-so : (side : Side) (d : Directions) (head payload : List ℕ) (s : Sending) (number : ℕ)
    (before : List ℕ)
    → d.failed ≡ true → IsSent (end_of_directions side d) head payload s number (Err InsecureStream) before before
    (end_of_directions side d)
insecure-so side d head payload s number before failed =
    sending_refusal-so side d head payload s number InsecureStream before
    (ap (λ (b : Bool). first_that_holds
    (refusals (record (lanes_in (end_of_directions side d)) { failed = b }) s.class))
    failed)

-- of a stream that has not failed, what its senders make of it
pub sent-among : (side : Side) (d : Directions) (head payload : List ℕ) (s : Sending) (number : ℕ)
    (answer : Result (List MeasuredPacket) SendRefusal) (before after : List ℕ) (new : SendEnds)
    → d.failed ≡ false → IsSealedOrRefused d.tx head payload s number answer before after new
    → IsSent (end_of_directions side d) head payload s number answer before after
    (end_of_directions side (record d { tx = new }))
sent-among side d head payload s number (Ok sealed) before after new clear is =
    let first = ap (λ (b : Bool). first_that_holds (refusals (record (sealing_lanes d.tx) { failed = b }) s.class))
    clear in
    sent-so side d head payload s number sealed before after new (first ∙ is.0) is.1
sent-among side d head payload s number (Err refusal) before after new clear is =
    let first = ap (λ (b : Bool). first_that_holds (refusals (record (sealing_lanes d.tx) { failed = b }) s.class))
    clear in
    subst (λ (y : List ℕ × SendEnds). IsSent (end_of_directions side d) head payload s number (Err refusal) before
    y.0
    (end_of_directions side (record d { tx = y.1 }))) (λ i. (sym is.1 i, sym is.2 i))
    (sending_refusal-so side d head payload s number refusal before (first ∙ is.0))

-- only the three senders change
pub senders-alone : (old : SendEnds) (head payload : List ℕ) (s : Sending) (number : ℕ)
    (answer : Result (List MeasuredPacket) SendRefusal) (before after : List ℕ) (new : SendEnds)
    → IsSealedOrRefused old head payload s number answer before after new → new ≡ record old { tx = new.tx }
senders-alone old head payload s number (Ok sealed) before after new is =
    is.1.senders ∙ (λ i. record old { tx = (sym is.1.senders i).tx })
senders-alone old head payload s number (Err refusal) before after new is =
    is.2 ∙ (λ i. record old { tx = (sym is.2 i).tx })

-- ---- an arrival

abbrev all_dropped : Three RxSub → Three RxSub
all_dropped rx = record { pr = dropped_held rx.pr; npr = dropped_held rx.npr; cpl = dropped_held rx.cpl }

pub take-kept : (d : Directions) (p : Packet) (failed : Bool) → IsStream d
    → IsStream (record d { rx = receive_ends_after d.rx p (lanes_outcome d.rx p); failed = failed })
take-kept d p failed inv = record {
  same_aggregation = inv.same_aggregation;
  same_closed = inv.same_closed;
}

-- the answer is that of the stream
pub taken-among : (side : Side) (d : Directions) (p : Packet) → IsStream d → d.failed ≡ false
    → lanes_outcome d.rx p ≡ end_outcome (end_of_directions side d) p
taken-among side d p inv clear =
    let slots = (at_sub d.rx.rx p.prefix.sub).slots in
    (λ i. stream_outcome_by_keys (inv.same_aggregation i) (inv.same_closed i) d.rx.rx p
    (live_in (slot_in_set slots p.prefix.k))
    (live_in (slot_in_set slots (not p.prefix.k))))
    ∙ ap (λ (b : Bool). if b then Insecure else stream_outcome_by_keys d.tx.fixed.aggregation d.tx.fixed.closed d.rx.rx
    p
    (live_in (slot_in_set slots p.prefix.k)) (live_in (slot_in_set slots (not p.prefix.k)))) (sym clear)

state_is : (tx : Three TxSub) (rx : Three RxSub) (failed : Bool) (p : Packet) (t : PacketOutcome) (a : Answer) → failed
    ≡ false
    → Some a ≡ answer_taken t → ◌≡◌ {A = StreamState}
    (record {
      tx = tx;
      rx = (state_after (record { tx = tx; rx = rx; failed = failed }) p t).rx;
      failed = is_fail a;
    }) (state_after (record { tx = tx; rx = rx; failed = failed }) p t)
state_is tx rx failed p Insecure a clear e = absurd (cc)
state_is tx rx failed p NotKeyed a clear e = let same : a ≡ answers.NotKeyed = cc in λ i. record
    { tx = tx; rx = rx; failed = (ap is_fail same ∙ sym clear) i }
state_is tx rx failed p (Failed cause) a clear e = let same : a
    ≡ answers.Fail cause = cc in λ i. record { tx = tx; rx = all_dropped rx; failed = is_fail (same i) }
state_is tx rx failed p (Held j n) a clear e =
    let same : a ≡ answers.Held j n = cc in
    λ i. record {
      tx = tx;
      rx = (state_after (record { tx = tx; rx = rx; failed = failed }) p (Held j n)).rx;
      failed = (ap is_fail same ∙ sym clear) i;
    }
state_is tx rx failed p (Accepted j n unit) a clear e =
    let same : a ≡ answers.Accepted j n (length unit) = cc in
    λ i. record {
      tx = tx;
      rx = (state_after (record { tx = tx; rx = rx; failed = failed }) p (Accepted j n unit)).rx;
      failed = (ap is_fail same ∙ sym clear) i;
    }

rx_alone : (x : ReceiveEnds) (tx : Three TxSub) (failed : Bool) (p : Packet) (t : PacketOutcome)
    → (state_after (receiving_state x) p t).rx ≡ (state_after (record { tx = tx; rx = x.rx; failed = failed }) p t).rx
rx_alone x tx failed p Insecure = refl
rx_alone x tx failed p NotKeyed = refl
rx_alone x tx failed p (Failed cause) = refl
rx_alone x tx failed p (Held j n) = refl
rx_alone x tx failed p (Accepted j n unit) = refl

lent_alone : (x : ReceiveEnds) (tx : Three TxSub) (failed : Bool) (p : Packet) (t : PacketOutcome)
    → opened_if_accepted (receiving_state x) p t ≡ opened_if_accepted (record { tx = tx; rx = x.rx; failed = failed }) p
    t
lent_alone x tx failed p Insecure = refl
lent_alone x tx failed p NotKeyed = refl
lent_alone x tx failed p (Failed cause) = refl
lent_alone x tx failed p (Held j n) = refl
lent_alone x tx failed p (Accepted j n unit) = refl

pub end-taken : (side : Side) (d : Directions) (p : Packet) (a : Answer) → IsStream d → d.failed
    ≡ false → Some a ≡ answer_taken (lanes_outcome d.rx p)
    → end_of_directions side (record d { rx = receive_ends_after d.rx p (lanes_outcome d.rx p); failed = is_fail a })
    ≡ end_taken (end_of_directions side d) p
end-taken side d p a inv clear e =
    let old : StreamEnd = end_of_directions side d in
    (λ i. record old {
      state = record {
        tx = d.tx.tx;
        rx = rx_alone d.rx d.tx.tx d.failed p (lanes_outcome d.rx p) i;
        failed = is_fail a;
      };
      delivered = lent_alone d.rx d.tx.tx d.failed p (lanes_outcome d.rx p) i;
    })
    ∙ (λ i. record old {
      state = state_is d.tx.tx d.rx.rx d.failed p (lanes_outcome d.rx p) a clear e i;
      delivered = opened_if_accepted old.state p (lanes_outcome d.rx p);
    })
    ∙ ap (λ (t : PacketOutcome). record old
    { state = state_after old.state p t; delivered = opened_if_accepted old.state p t })
    (taken-among side d p inv clear)
