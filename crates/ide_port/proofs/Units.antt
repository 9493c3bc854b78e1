-- No step at a port finishes, or accepts, more than one unit in a sub-stream. A send seals at most one packet of each,
-- as sync packets go first in the other two; a packet that comes is of one sub-stream; after a call of key management a
-- count stays or is 0. One stream of the port is called, and the others stay.
use Rattle.ide_port.proofs.Terms.{◌≡◌, ℕ, ◌+◌, ◌≤◌, true, false, List, [], ◌∷◌, Option, Some, None, refl, arith}
use Rattle.ide_port.proofs.Terms.{nat_tests, if◌then◌else◌, SubKind, StreamPlan, Verdict, Sending, Lanes, StreamState}
use Rattle.ide_port.proofs.Terms.{Three, TxSub, RxSub, at_sub, sealed_all, sealed_with_syncs, Insecure, NotKeyed}
use Rattle.ide_port.proofs.Terms.{Failed, Held, Accepted, state_after, rested_stream, stream_after_call, KeyCall}
use Rattle.ide_port.proofs.Terms.{no_stream, StreamEnd, Found, found_stream, changed_states, PortEnd, PlaceCall}
use Rattle.ide_port.proofs.Terms.{called_port, called_states, is_place, reset_port, sends_in, sub_from, unless_verdict}
use Rattle.ide_port.proofs.Terms.{packets_and_senders, sending_refusal, Packet, header}
use Rattle.std.proofs.Common.{◌==◌, Bool, Result, Ok, Err, All}
use Rattle.std.proofs.lemmas.List.Elements.{All-cons, All-head, All-tail, All-weaker, All-map}
use Rattle.ide_types.specs.Sub.{is_same_sub}
use Rattle.ide_types.specs.declared.sub.SubKind.TheVariants.{Pr, Npr, Cpl}
use Rattle.ide_types.specs.declared.port.PortName.{PortName}
use Rattle.ide_prefix.specs.declared.fault.PacketFault.{PacketFault}
use Rattle.ide_prefix.specs.Reading.{CutValue, PlainTlp, IdePacket}
use Rattle.event_verdicts.specs.declared.verdict.SealedPacket.{SealedPacket}
use Rattle.spec_stream.specs.Stream.{PacketOutcome, sealed_sub, sealed_one}
use Rattle.tlp_layout.specs.Outgoing.{Outgoing, NoTlp, OnNone, OnStream}
use Rattle.stream_lanes.specs.{SealedAtMost, AcceptedAtMost, any_out, any_into}
use Rattle.ide_port.specs.StreamEnds.{lanes_in}
use Rattle.ide_port.specs.Ends.{stream_end_at, new_port}
use Rattle.ide_port.specs.StreamSends.{end_sent}
use Rattle.ide_port.specs.Sends.{Trusting, stream_step, send_step}
use Rattle.ide_port.specs.Arrivals.{packet_step, take_step}
use Rattle.ide_port.specs.Units.{UnitsAtMost, PortUnitsAtMost, UnitsGrow}

units-more : (m n : ℕ) (st : StreamState) → m ≤ n → UnitsAtMost m st → UnitsAtMost n st
units-more m n st le h = (λ u. omega (arith, le, h.0 u), λ u. omega (arith, le, h.1 u))

none-finished : (n : ℕ) → UnitsAtMost n no_stream
none-finished n = (λ u. grind arith, λ u. grind arith)

-- ---- a send

-- how many of these packets are of a sub-stream
abbrev packets_of : SubKind → List SealedPacket → ℕ
packets_of u [] = 0
packets_of u (d ∷ ds) = (if is_same_sub d.sub u then 1 else 0) + packets_of u ds

one_sealed : (d : SealedPacket) (p : Packet) (u : SubKind) (tx : TxSub)
    → (sealed_sub d p u tx).total ≤ tx.total + (if is_same_sub d.sub u then 1 else 0)
one_sealed d p u tx = grind arith

all_sealed : (closed : Bool) (head payload : List ℕ) (ds : List SealedPacket) (tx : Three TxSub) (u : SubKind)
    → (at_sub (sealed_all closed head payload ds tx).1 u).total ≤ (at_sub tx u).total + packets_of u ds
all_sealed closed head payload [] tx u = omega arith
all_sealed closed head payload (d ∷ ds) tx u =
    let one = sealed_one closed head payload d tx in
    let rest = all_sealed closed head payload ds one.1 u in
    omega (arith, rest, first u)
  where
    first : (u : SubKind) → (at_sub (sealed_one closed head payload d tx).1 u).total
        ≤ (at_sub tx u).total + (if is_same_sub d.sub u then 1 else 0)
    first Pr = one_sealed d _ Pr tx.pr
    first Npr = one_sealed d _ Npr tx.npr
    first Cpl = one_sealed d _ Cpl tx.cpl

at_most_one : (x : Lanes) (s : Sending) (number : ℕ) (u : SubKind) → packets_of u (sealed_with_syncs x s number) ≤ 1
at_most_one x s number u = grind arith

sealed-more : (m n : ℕ) (e : StreamEnd) (head payload : List ℕ) (s : Sending) (number : ℕ) → m + 1 ≤ n
    → UnitsAtMost m e.state → UnitsAtMost n (end_sent e head payload s number).state
sealed-more m n e head payload s number le h = by_refusal (sending_refusal e s)
  where
    by_refusal : (o : Option Verdict) → UnitsAtMost n (unless_verdict o e.state
        (record e.state { tx = (packets_and_senders e head payload s number).1 }))
    by_refusal (Some verdict) = units-more m n e.state (omega (arith, le)) h
    by_refusal None = (
      λ u. (let sealed = all_sealed e.closed head payload (sealed_with_syncs (lanes_in e) s number) e.state.tx u in
          let one = at_most_one (lanes_in e) s number u in omega (arith, le, h.0 u, sealed, one)),
      λ u. omega (arith, le, h.1 u),
    )

-- ---- an arrival

taken-more : (m n : ℕ) (st : StreamState) (p : Packet) (taken : PacketOutcome) → m + 1 ≤ n → UnitsAtMost m st
    → UnitsAtMost n (state_after st p taken)
taken-more m n st p taken le h =
    (λ u. omega (arith, le, sent taken u, h.0 u), λ u. omega (arith, le, came taken u, h.1 u))
  where
    sent : (taken : PacketOutcome) (u : SubKind) → (at_sub (state_after st p taken).tx u).total ≤ (at_sub st.tx u).total
    sent Insecure u = omega arith
    sent NotKeyed u = omega arith
    sent (Failed cause) u = omega arith
    sent (Held j k) u = omega arith
    sent (Accepted j k unit) u = omega arith

    came : (taken : PacketOutcome) (u : SubKind) → (at_sub (state_after st p taken).rx u).total ≤ (at_sub st.rx u).total
        + 1
    came Insecure u = omega arith
    came NotKeyed u = omega arith
    came (Failed cause) u = grind arith
    came (Held j k) u = grind arith
    came (Accepted j k unit) u = grind arith

-- ---- a call of key management

if_less : (b : Bool) (k n : ℕ) → k ≤ n → (if b then k else 0) ≤ n
if_less true k n le = le
if_less false k n le = omega arith

rested-few : (n : ℕ) (tx : Three TxSub) (rx : Three RxSub) (failed : Bool) → SealedAtMost n tx → AcceptedAtMost n rx
    → UnitsAtMost n (rested_stream tx rx failed)
rested-few n tx rx failed h g = (sealed, accepted)
  where
    sealed : (u : SubKind) → (at_sub (rested_stream tx rx failed).tx u).total ≤ n
    sealed Pr = if_less (any_out tx) tx.pr.total n (h Pr)
    sealed Npr = if_less (any_out tx) tx.npr.total n (h Npr)
    sealed Cpl = if_less (any_out tx) tx.cpl.total n (h Cpl)

    accepted : (u : SubKind) → (at_sub (rested_stream tx rx failed).rx u).total ≤ n
    accepted Pr = if_less (any_into rx) rx.pr.total n (g Pr)
    accepted Npr = if_less (any_into rx) rx.npr.total n (g Npr)
    accepted Cpl = if_less (any_into rx) rx.cpl.total n (g Cpl)

called-few : (n : ℕ) (sends : Bool) (u : SubKind) (call : KeyCall) (st : StreamState) → UnitsAtMost n st
    → UnitsAtMost n (stream_after_call sends u call st)
called-few n true u call st h = rested-few n _ st.rx st.failed (λ w. grind (arith, h.0 w)) h.1
called-few n false u call st h = rested-few n st.tx _ st.failed h.0 (λ w. grind (arith, h.1 w))

-- ---- among the streams of a port

module _ (P : StreamState → Type 0) where
  pub found-has : (ss : List StreamPlan) (xs : List StreamState) (id : ℕ) (f : Found) → All P xs
      → found_stream ss xs id ≡ Some f → P f.state
  found-has [] xs id f all is = absurd cc
  found-has (s ∷ ss) [] id f all is = absurd cc
  found-has (s ∷ ss) (x ∷ xs) id f all is = grind
      (arith, nat_tests, All-head P x xs all, found-has ss xs id f (All-tail P x xs all))

  changed-has : (ss : List StreamPlan) (xs : List StreamState) (id : ℕ) (y : StreamState) → All P xs → P y
      → All P (changed_states ss xs id y)
  changed-has [] xs id y all new = all
  changed-has (s ∷ ss) [] id y all new = all
  changed-has (s ∷ ss) (x ∷ xs) id y all new = by_test (s.id == id) (changed-has ss xs id y (All-tail P x xs all) new)
    where
      by_test : (b : Bool) → All P (changed_states ss xs id y)
          → All P (if b then y ∷ xs else x ∷ changed_states ss xs id y)
      by_test true rest = All-cons P y xs new (All-tail P x xs all)
      by_test false rest = All-cons P x (changed_states ss xs id y) (All-head P x xs all) rest

-- ---- a port

pub port-more : (m n : ℕ) (e : PortEnd) → m ≤ n → PortUnitsAtMost m e → PortUnitsAtMost n e
port-more m n e le all = All-weaker (UnitsAtMost m) (UnitsAtMost n) (λ st h. units-more m n st le h) e.states all

pub stays : (more : ℕ) (e : PortEnd) → UnitsGrow more e e
stays more e = record { bounded = λ m n le all. port-more m n e (omega (arith, le)) all }

pub grow-on : (j k : ℕ) (d e f : PortEnd) → UnitsGrow j d e → UnitsGrow k e f → UnitsGrow (j + k) d f
grow-on j k d e f first second = record {
  bounded = λ m n le all. second.bounded (m + j) n (omega (arith, le)) (first.bounded m (m + j) (omega arith) all);
}

pub new-units : (name : PortName) (plans : List StreamPlan) (limit : ℕ) → PortUnitsAtMost 0 (new_port name plans limit)
new-units name plans limit = All-map (UnitsAtMost 0) (λ (s : StreamPlan). no_stream) plans (λ k d lt. none-finished 0)

pub reset-units : (more : ℕ) (e : PortEnd) → UnitsGrow more e (reset_port e)
reset-units more e = record {
  bounded = λ m n le all. All-map (UnitsAtMost n) (λ (s : StreamPlan). no_stream) e.plans (λ k d lt. none-finished n);
}

pub called-units : (c : PlaceCall) (e : PortEnd) → UnitsGrow 0 e (called_port c e)
called-units c e = record {
  bounded = λ m n le all. by_place n (port-more m n e (omega (arith, le)) all) (is_place c.place);
}
  where
    by_stream : (n : ℕ) → PortUnitsAtMost n e → (o : Option Found) → found_stream e.plans e.states c.place.stream ≡ o
        → All (UnitsAtMost n) (called_states e c o)
    by_stream n all None is = all
    by_stream n all (Some f) is = changed-has (UnitsAtMost n) e.plans e.states f.plan.id _ all
        (called-few n (sends_in e.name.side c.place.direction) (sub_from c.place.sub) c.call f.state
        (found-has (UnitsAtMost n) e.plans e.states c.place.stream f all is))

    by_place : (n : ℕ) → PortUnitsAtMost n e → (b : Bool)
        → All (UnitsAtMost n) (called_states e c (if b then found_stream e.plans e.states c.place.stream else None))
    by_place n all true = by_stream n all (found_stream e.plans e.states c.place.stream) refl
    by_place n all false = all

pub sent-units : (e : PortEnd) (o : Outgoing) (more : Bool) (sets : Trusting) (number : ℕ)
    → UnitsGrow 1 e (send_step e o more sets number).port
sent-units e (NoTlp fault) more sets number = stays 1 e
sent-units e OnNone more sets number = stays 1 e
sent-units e (OnStream t id) more sets number =
    record { bounded = λ m n le all. by_stream m n le all (found_stream e.plans e.states id) refl }
  where
    by_stream : (m n : ℕ) → m + 1 ≤ n → PortUnitsAtMost m e → (o : Option Found) → found_stream e.plans e.states id ≡ o
        → PortUnitsAtMost n (stream_step e t more (sets (header t) id) number o).port
    by_stream m n le all None is = port-more m n e (omega (arith, le)) all
    by_stream m n le all (Some f) is = changed-has (UnitsAtMost n) e.plans e.states f.plan.id _
        (port-more m n e (omega (arith, le)) all)
        (sealed-more m n (stream_end_at e f) _ _ _ number le (found-has (UnitsAtMost m) e.plans e.states id f all is))

pub taken-units : (e : PortEnd) (bytes : Result CutValue PacketFault) → UnitsGrow 1 e (take_step e bytes).port
taken-units e (Err fault) = record { bounded = (stays 1 e).bounded }
taken-units e (Ok PlainTlp) = record { bounded = (stays 1 e).bounded }
taken-units e (Ok (IdePacket p)) =
    record { bounded = λ m n le all. by_stream m n le all (found_stream e.plans e.states p.prefix.stream) refl }
  where
    by_stream : (m n : ℕ) → m + 1 ≤ n → PortUnitsAtMost m e → (o : Option Found)
        → found_stream e.plans e.states p.prefix.stream ≡ o → PortUnitsAtMost n (packet_step e p o).port
    by_stream m n le all None is = port-more m n e (omega (arith, le)) all
    by_stream m n le all (Some f) is = changed-has (UnitsAtMost n) e.plans e.states f.plan.id _
        (port-more m n e (omega (arith, le)) all)
        (taken-more m n f.state p _ le (found-has (UnitsAtMost m) e.plans e.states p.prefix.stream f all is))
