-- What a stream's call makes of its port: a send, a packet that comes and a call of key management are steps of the
-- specs. Streams stand beside their plans one to one, so the stream at the place of an ID is the one that the specs
-- find, and set back there it alone changes. What its own call gave is supposed, and is read with the fields of its
-- plan. If no plan has the ID the specs find nothing, and no stream changes.
use Rattle.ide_port.proofs.Terms.{◌≡◌, ℕ, ◌<◌, true, List, [], length, map, get_or, Option, Some, None, Result}
use Rattle.ide_port.proofs.Terms.{Err, refl, sym, ap, ◌∙◌, subst, arith, slice_set, nat_lt, if◌then◌else◌, option_map}
use Rattle.ide_port.proofs.Terms.{nat_tests, SubKind, StreamPlan, Packet, Tlp, class_of, head_bytes, header, body}
use Rattle.ide_port.proofs.Terms.{SlotPair, program_answer, PlaceCall, SlotsAfter, shown_pair, program_answer_at}
use Rattle.ide_port.proofs.Terms.{answer_taken, StreamEnd, new_sending, numbered_answer, end_outcome, end_taken}
use Rattle.ide_port.proofs.Terms.{called_end, pair_in, lengths_said, Inside, SendRefusal, PortEnd, Found, found_stream}
use Rattle.ide_port.proofs.Terms.{changed_states, sub_from, stream_at_place, slot_pair_at, unfinished_at, called_states}
use Rattle.ide_port.proofs.Terms.{called_port, stream_of, place_and_sub, arrival_said}
use Rattle.std.proofs.Common.{Bool, Ok}
use Rattle.ide_types.specs.declared.port.PortName.{PortName}
use Rattle.key_slots.specs.declared.slots.OnlyLive.{OnlyLive}
use Rattle.key_messages.specs.declared.port.ProgramFault.{ProgramFault}
use Rattle.key_messages.specs.declared.port.ProgramFault.TheVariants as km
use Rattle.spec_stream.specs.Stream.{PacketOutcome as Answer}
use Rattle.sub_stream.specs.declared.answer.MeasuredPacket.{MeasuredPacket}
use Rattle.sub_stream.specs.declared.answer.Taken.{Taken}
use Rattle.ide_port.specs.StreamSends.{IsSent}
use Rattle.ide_port.specs.declared.answer.Sent.{Sent}
use Rattle.ide_port.specs.declared.answer.Sent.TheVariants.{Refused, Sealed}
use Rattle.ide_port.specs.declared.answer.Arrival.{Arrival}
use Rattle.ide_port.specs.declared.answer.Arrival.TheVariants.{Unknown}
use Rattle.ide_port.specs.Sends.{as_verdict, sent_verdict, lengths_sent, stream_step, IsSendStep}
use Rattle.ide_port.specs.Arrivals.{TakeStep, port_arrival, packet_step}
use Rattle.tlp_layout.specs.Choice.{plan_place}
use Rattle.ide_port.proofs.Streams.{state_of, absent}
use Rattle.ide_port.proofs.Keeping.{Keeps, port_within, now, inside, there, lends-there, lends-still, none-found_stream}
use Rattle.ide_port.proofs.Shown.{slots-after}

abbrev pub sent_as : Result (List MeasuredPacket) SendRefusal → Sent
sent_as (Ok packets) = Sealed packets
sent_as (Err refusal) = Refused refusal

verdict_of : (name : PortName) (number : ℕ) (answer : Result (List MeasuredPacket) SendRefusal)
    → sent_verdict name number (sent_as answer) ≡ as_verdict (numbered_answer name number answer)
verdict_of name number answer = grind arith

lengths_of : (answer : Result (List MeasuredPacket) SendRefusal) → lengths_sent (sent_as answer) ≡ lengths_said answer
lengths_of answer = grind arith

said_of : (p : Packet) (t : Answer) → arrival_said p.prefix.stream p.prefix.sub (answer_taken t) ≡ port_arrival p t
said_of p t = grind arith

pub record IsTaken (r : Arrival) (new : PortEnd) (step : TakeStep) : Type 0 where
  pub answer : r ≡ step.answer
  pub port : new ≡ step.port

-- ---- the port has no such stream

module _ (p : Inside) (e : PortEnd) (view : now p ≡ e) (id : ℕ) (at : plan_place p.plans id ≡ None) where
  pub gone : found_stream e.plans e.states id ≡ None
  gone = rw (← view) (absent p.plans _ id at)

-- ---- a call of a stream

module _ (p : Inside) (e : PortEnd) (view : now p ≡ e) (kept : Keeps p) (id place : ℕ) (x : StreamEnd)
    (at : plan_place p.plans id ≡ Some place)
    (is : x ≡ get_or p.streams.items place x) where
  -- what is read of it
  pub reads : {A : Type 0} (read : Option Found → A) → read (found_stream e.plans e.states id) ≡ read
      (Some (record { plan = (there p kept id place x at is).plan; state = x.state }))
  reads read = rw (← view) (ap read (there p kept id place x at is).is_found)

  pub sent-step : (y : StreamEnd) (t : Tlp) (more trusted : Bool) (number : ℕ)
      (answer : Result (List MeasuredPacket) SendRefusal) (r : Sent)
      (before out : List ℕ) → before ≡ []
      → IsSent x (head_bytes (header t)) (body t) (new_sending p.name x.id (class_of (header t)) more trusted) number
      answer
      before out y → r ≡ sent_as answer
      → IsSendStep e.name number r (port_within p (slice_set p.streams.items place y) p.lent) out
      (stream_step e t more trusted number (found_stream e.plans e.states id))
  sent-step y t more trusted number answer r before out none sent said =
      let k = there p kept id place x at is in
      let z = stream_of p.name.side p.limit k.plan x in
      let Q : StreamEnd → Type 0 =
      λ w. IsSent w (head_bytes (header t)) (body t) (new_sending p.name w.id (class_of (header t)) more trusted) number
      answer before out y in
      let mine : IsSent z (head_bytes (header t)) (body t)
      (new_sending p.name k.plan.id (class_of (header t)) more trusted)
      number answer before out y =
      subst Q k.of_plan.plan sent in
      rw (← view, k.is_found) (record {
        answered = ap (sent_verdict p.name number) said ∙ verdict_of p.name number answer ∙ ap as_verdict mine.answered;
        lengths = ap lengths_sent said ∙ lengths_of answer ∙ mine.lengths;
        bytes = rw none at mine.bytes;
        port = (λ i. record (now p) {
          states = (k.change y ∙ ap
              (λ (w : StreamEnd). changed_states p.plans (map state_of p.streams.items) k.plan.id w.state) mine.stream)
              i;
          delivered = lends-still p.streams.items place p.lent x y (inside p id place kept at) is
              (ap (λ (w : StreamEnd). w.delivered) sent.stream) i;
        });
      })

-- ---- an arrival

module _ (p : Inside) (e : PortEnd) (view : now p ≡ e) (packet : Packet) where
  pub taken-step : (kept : Keeps p) (place : ℕ) (x y : StreamEnd) (taken : Option Taken) (r : Arrival)
      → plan_place p.plans packet.prefix.stream ≡ Some place
      → x ≡ get_or p.streams.items place x → taken ≡ answer_taken (end_outcome x packet) → y ≡ end_taken x packet
      → r ≡ arrival_said packet.prefix.stream packet.prefix.sub taken
      → IsTaken r (port_within p (slice_set p.streams.items place y) (Some place))
      (packet_step e packet (found_stream e.plans e.states packet.prefix.stream))
  taken-step kept place x y taken r at is answered after said =
      let k = there p kept packet.prefix.stream place x at is in
      let z = stream_of p.name.side p.limit k.plan x in
      let same : end_outcome x packet ≡ end_outcome z packet = ap (λ (w : StreamEnd). end_outcome w packet)
      k.of_plan.plan in
      let mine : y ≡ end_taken z packet = after ∙ ap (λ (w : StreamEnd). end_taken w packet) k.of_plan.plan in
      rw (← view, k.is_found) (record {
        answer = said ∙ ap (arrival_said packet.prefix.stream packet.prefix.sub) (answered ∙ ap answer_taken same) ∙
            said_of packet (end_outcome z packet);
        port = (λ i. record (now p) {
          states = (k.change y ∙ ap
              (λ (w : StreamEnd). changed_states p.plans (map state_of p.streams.items) k.plan.id w.state) mine) i;
          delivered = (lends-there p.streams.items place y (inside p packet.prefix.stream place kept at) ∙ ap
              (λ (w : StreamEnd). w.delivered) mine) i;
        });
      })

  pub unknown-step : (new : PortEnd) → plan_place p.plans packet.prefix.stream ≡ None → new
      ≡ record e { delivered = [] }
      → IsTaken (Unknown packet.prefix.stream) new
      (packet_step e packet (found_stream e.plans e.states packet.prefix.stream))
  unknown-step new at is = rw (gone p e view packet.prefix.stream at) (record { answer = refl; port = is })

-- ---- a call of key management

pub record IsLane (plans : List StreamPlan) (id sub place : ℕ) (u : SubKind) : Type 0 where
  pub place_is : plan_place plans id ≡ Some place
  pub sub_is : u ≡ sub_from sub
  pub three : nat_lt sub 3 ≡ true

abbrev lane_by : Bool → Option ℕ → SubKind → Option (ℕ × SubKind)
lane_by three o s = if three then option_map (λ place. (place, s)) o else None

lane_in : (three : Bool) (o : Option ℕ) (s : SubKind) (place : ℕ) (u : SubKind) → lane_by three o s ≡ Some (place, u)
    → (o ≡ Some place) × (u ≡ s) × (three ≡ true)
lane_in three o s place u e = grind arith

none_in : (three : Bool) (o : Option ℕ) (s : SubKind) → lane_by three o s ≡ None → three ≡ true → o ≡ None
none_in three o s e t = grind arith

pub lane-some : (plans : List StreamPlan) (id sub place : ℕ) (u : SubKind)
    → place_and_sub plans id sub ≡ Some (place, u) → IsLane plans id sub place u
lane-some plans id sub place u e =
    let l = lane_in (nat_lt sub 3) (plan_place plans id) (sub_from sub) place u e in record
    { place_is = l.0; sub_is = l.1; three = l.2 }

pub lane-inside : (p : Inside) (id sub place : ℕ) (u : SubKind) → Keeps p
    → place_and_sub p.plans id sub ≡ Some (place, u) → place < length p.streams.items
lane-inside p id sub place u kept at = inside p id place kept (lane-some p.plans id sub place u at).place_is

-- the slots that key management sees of the place, and what the call makes of the port
pub record IsCalled (e new : PortEnd) (c : PlaceCall) (o : Option SlotPair) : Type 0 where
  pub shows : shown_pair (slot_pair_at e) c.place ≡ o
  pub moves : new ≡ called_port c e
  pub slots : SlotsAfter (slot_pair_at e) (unfinished_at e) c (slot_pair_at new)

module _ (p : Inside) (e : PortEnd) (view : now p ≡ e) (kept : Keeps p) (c : PlaceCall) where
  slots-step : (new : PortEnd) → new ≡ called_port c e → SlotsAfter (slot_pair_at e) (unfinished_at e) c
      (slot_pair_at new)
  slots-step new is = rw is
      (slots-after e c (rw (← view)
      (record { none = none-found_stream p.name.side p.limit p.plans p.streams.items kept.each })))

  pub nowhere-step : place_and_sub p.plans c.place.stream c.place.sub ≡ None
      → IsCalled e (port_within p p.streams.items None) c None
  nowhere-step at =
      let q = c.place in
      let none : nat_lt q.sub 3 ≡ true → found_stream e.plans e.states q.stream ≡ None =
      λ t. gone p e view q.stream (none_in (nat_lt q.sub 3) (plan_place p.plans q.stream) (sub_from q.sub) at t) in
      let out : stream_at_place e q ≡ None = grind (arith, nat_tests, none) in
      let moves : port_within p p.streams.items None ≡ called_port c e =
      ap (λ (e : PortEnd). record e { delivered = [] }) view ∙ ap
      (λ o. record e { states = called_states e c o; delivered = [] }) (sym out) in
      record { shows = grind (arith, nat_tests, out); moves = moves; slots = slots-step _ moves }

  pub stream_after_call-step : (place : ℕ) (u : SubKind) (x y : StreamEnd)
      → IsLane p.plans c.place.stream c.place.sub place u → x ≡ get_or p.streams.items place x
      → y ≡ called_end x c.place.direction u c.call
      → IsCalled e (port_within p (slice_set p.streams.items place y) None) c (Some (pair_in x c.place.direction u))
  stream_after_call-step place u x y lane is after =
      let q = c.place in
      let k = there p kept q.stream place x lane.place_is is in
      let at : stream_at_place (now p) q ≡ Some (record { plan = k.plan; state = x.state }) = rw lane.three k.is_found
      in
      let mine : y ≡ called_end (stream_of p.name.side p.limit k.plan x) q.direction (sub_from q.sub) c.call =
      after ∙ (λ i. called_end (k.of_plan.plan i) q.direction (lane.sub_is i) c.call) in
      let was : slot_pair_at (now p) q ≡ Some (pair_in x q.direction u) =
      ap (option_map _) at ∙ ap Some (sym (λ i. pair_in (k.of_plan.plan i) q.direction (lane.sub_is i))) in
      let moves : port_within p (slice_set p.streams.items place y) None ≡ called_port c e =
      (λ i. record (now p) {
        states =
            (k.change y ∙ ap (λ (w : StreamEnd). changed_states p.plans (map state_of p.streams.items) k.plan.id
            w.state) mine)
            i;
        delivered = [];
      })
      ∙ ap (λ o. record (now p) { states = called_states (now p) c o; delivered = [] }) (sym at) ∙ ap (called_port c)
      view in
      record {
        shows = ap (λ b. if b then slot_pair_at e q else None) lane.three ∙ rw (← view) was;
        moves = moves;
        slots = slots-step _ moves;
      }

-- a key that was not taken comes back
abbrev pub key_back : Result (Unit {0}) OnlyLive → Result (Unit {0}) ProgramFault
key_back (Ok done) = Ok tt
key_back (Err fault) = Err (km.OnlyLive fault.key)

pub key-back : (pair : SlotPair) (set : Bool) (key : List ℕ) → key_back (program_answer pair set key)
    ≡ program_answer_at (Some pair) set key
key-back pair set key = grind arith
