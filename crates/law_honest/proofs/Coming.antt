-- What comes to a port on a stream, and what it makes of what was accepted and is held there.
use Rattle.law_sealing.proofs.Terms.{◌≡◌, ℕ, ◌+◌, ◌==◌, ◌&&◌, ◌∷◌, ◌++◌, Bool, true}
use Rattle.law_sealing.proofs.Terms.{false, Option, Some, None, Result, Ok, Err, List, [], refl, ap, sym, ◌∙◌, subst}
use Rattle.law_sealing.proofs.Terms.{arith, inl, inr, cases_Bool, and_parts, eqb-true, nat_tests, append_assoc}
use Rattle.law_sealing.proofs.Terms.{append-nil, if◌then◌else◌, Plan, History, Event, Verdict, Held, Accepted, Fail}
use Rattle.law_sealing.proofs.Terms.{PortName, SubStream, UnitName, Effect, Packet, packet_bytes, IdePacket, cut_of}
use Rattle.law_sealing.proofs.Terms.{is_same, is_same_port, same_port, same_stream, eqb-refl, received_in}
use Rattle.law_sealing.proofs.Terms.{is_received_under, arrived_packet, packets_in_hold, pending_packets, units_got}
use Rattle.law_sealing.proofs.Terms.{accepted_packets, arrival_of_event, ArrivedBytes, CauseLaw, due, Came, accepted_by}
use Rattle.law_sealing.proofs.Terms.{held_by, Passed}
use Rattle.law_sealing.proofs.Terms.{received_direction}
use Rattle.ide_prefix.specs.Reading.{CutValue, PlainTlp}
use Rattle.ide_prefix.specs.declared.fault.PacketFault.{PacketFault}
use Rattle.ide_prefix.proofs.Cuts.{cuts_iff}
use Rattle.spec_links.specs.History.{fails_at}
use Rattle.spec_links.proofs.Tests.{is_same_port-refl, same_receiver}
unfoldable use Rattle.law_honest.specs.Honest.{packet_coming}
use Rattle.law_honest.specs.Honest.{packet_of_stream, packet_for}
use Rattle.law_key_facts.proofs.Beyond.{none_beyond}
use Rattle.law_verdicts.proofs.Failed.{failed_by}

-- ---- a packet comes

abbrev ok : Packet → Result CutValue PacketFault
ok p = Ok (IdePacket p)

of_stream_is : (stream : ℕ) (r : Result CutValue PacketFault) (p : Packet) → packet_of_stream stream r ≡ Some p
    → (r ≡ Ok (IdePacket p)) × (p.prefix.stream ≡ stream)
of_stream_is stream (Err f) p is = absurd cc
of_stream_is stream (Ok PlainTlp) p is = absurd cc
of_stream_is stream (Ok (IdePacket q)) p is = by (q.prefix.stream == stream) refl is
  where
    by : (b : Bool) → (q.prefix.stream == stream) ≡ b → (if b then Some q else None) ≡ Some p
        → (ok q ≡ ok p) × (p.prefix.stream ≡ stream)
    by true same is =
        let one : q ≡ p = cc in (
          ap ok one,
          sym (ap (λ (r : Packet). r.prefix.stream) one) ∙ eqb-true q.prefix.stream stream same,
        )
    by false other is = absurd cc

pub record Comes (plan : Plan) (h : History) (e : Event) (port : PortName) (stream : ℕ) (p : Packet) : Type 0 where
  pub came : Came plan h e port p
  pub of_stream : p.prefix.stream ≡ stream
  pub unchanged : arrival_of_event plan h e ≡ Some (record { port = port; bytes = packet_bytes p })

pub coming_is : (plan : Plan) (h : History) (e : Event) (port : PortName) (stream : ℕ) (p : Packet)
    → packet_coming plan h e port stream ≡ Some p → Comes plan h e port stream p
unfolding packet_coming
coming_is plan h e port stream p is = by (arrival_of_event plan h e) refl is
  where
    by_port : (a : ArrivedBytes) → arrival_of_event plan h e ≡ Some a → (b : Bool) → is_same_port a.port port ≡ b
        → (if b then packet_of_stream stream (cut_of a.bytes) else None) ≡ Some p → Comes plan h e port stream p
    by_port a at false other is = absurd cc
    by_port a at true same is =
        let parts = of_stream_is stream (cut_of a.bytes) p is in
        let there : arrival_of_event plan h e ≡ Some (record { port = port; bytes = a.bytes }) =
        at ∙ ap (λ (q : PortName). Some (record { port = q; bytes = a.bytes })) (same_port a.port port same) in
        let spelled = ((cuts_iff p a.bytes).1 parts.0).spelled in
        record {
          came = record { bytes = a.bytes; arrival = there; cut = parts.0 };
          of_stream = parts.1;
          unchanged = there ∙ ap (λ (bytes : List ℕ). Some (record { port = port; bytes = bytes })) spelled;
        }

    by : (o : Option ArrivedBytes) → arrival_of_event plan h e ≡ o → packet_for port stream o ≡ Some p
        → Comes plan h e port stream p
    by None at is = absurd cc
    by (Some a) at is = by_port a at (is_same_port a.port port) refl is

pub came_is_coming : (plan : Plan) (h : History) (e : Event) (port : PortName) (stream : ℕ) (p : Packet)
    → Came plan h e port p → p.prefix.stream ≡ stream → packet_coming plan h e port stream ≡ Some p
unfolding packet_coming
came_is_coming plan h e port stream p came of_stream =
    rw (came.arrival, is_same_port-refl port, came.cut, of_stream, eqb-refl stream) refl

-- ---- one more pair

-- what was accepted of a sub-stream under a draw, and after it what is held
abbrev pub taken_packets : Plan → History → SubStream → ℕ → List Packet
taken_packets plan h s j = accepted_packets plan h s j ++ pending_packets plan h s j

-- a packet that is held or accepted joins those of its sub-stream and draw
abbrev pub with_packet : Plan → History → SubStream → ℕ → Packet → SubStream → ℕ → List Packet
with_packet plan h s j p t i =
    if is_same s t && (j == i) then taken_packets plan h t i ++ p ∷ [] else taken_packets plan h t i

-- the packet of a unit is the next one of the sub-stream and draw
pub record IsNext (plan : Plan) (h : History) (e : Event) (q : PortName) (unit : UnitName) (s : SubStream) (j : ℕ)
    (p : Packet) : Type 0 where
  pub here : received_in q unit ≡ s
  pub draw : unit.draw ≡ j
  pub number : unit.unit ≡ units_got h s j + 1
  pub packet : arrived_packet plan h e ≡ p

-- whether it is of another sub-stream and draw too
tests : (plan : Plan) (h : History) (e : Event) (q : PortName) (unit : UnitName) (s : SubStream) (j : ℕ) (p : Packet)
    → IsNext plan h e q unit s j p → (t : SubStream) (i : ℕ)
    → is_received_under t i q unit ≡ (is_same s t && (j == i))
tests plan h e q unit s j p is t i = λ k. is_same (is.here k) t && (is.draw k == i)

counts : (plan : Plan) (h : History) (e : Event) (q : PortName) (unit : UnitName) (s : SubStream) (j : ℕ) (p : Packet)
    → IsNext plan h e q unit s j p → (t : SubStream) (i : ℕ) → (is_same s t && (j == i)) ≡ true
    → unit.unit ≡ units_got h t i + 1
counts plan h e q unit s j p is t i same =
    let parts = and_parts (is_same s t) (j == i) same in
    let one = same_stream s t parts.0 in
    let draw = eqb-true j i parts.1 in
    is.number ∙ (λ k. units_got h (one k) (draw k) + 1)

pub held_joins : (plan : Plan) (h : History) (e : Event) (q : PortName) (unit : UnitName) (s : SubStream) (j : ℕ)
    (p : Packet) → IsNext plan h e q unit s j p → (t : SubStream) (i : ℕ)
    → taken_packets plan ((e, Held q unit) ∷ h) t i ≡ with_packet plan h s j p t i
unfolding accepted_packets packets_in_hold units_got
held_joins plan h e q unit s j p is t i = by (is_same s t && (j == i)) refl
  where
    by : (b : Bool) → (is_same s t && (j == i)) ≡ b → taken_packets plan ((e, Held q unit) ∷ h) t i
        ≡ (if b then taken_packets plan h t i ++ p ∷ [] else taken_packets plan h t i)
    by true same =
        let test = tests plan h e q unit s j p is t i ∙ same in
        let count = counts plan h e q unit s j p is t i same in
        rw (test, count, eqb-refl (units_got h t i + 1), is.packet)
        (sym (append_assoc (accepted_packets plan h t i) (pending_packets plan h t i) (p ∷ [])))
    by false other =
        let test = tests plan h e q unit s j p is t i ∙ other in
        rw test refl

pub accepted_joins : (plan : Plan) (h : History) → CauseLaw plan h → (e : Event) (q : PortName) (unit : UnitName)
    (effects : List Effect) (s : SubStream) (j : ℕ) (p : Packet) → IsNext plan h e q unit s j p
    → (t : SubStream) (i : ℕ)
    → taken_packets plan ((e, Accepted q unit effects) ∷ h) t i ≡ with_packet plan h s j p t i
unfolding accepted_packets packets_in_hold units_got
accepted_joins plan h cause e q unit effects s j p is t i = by (is_same s t && (j == i)) refl
  where
    by : (b : Bool) → (is_same s t && (j == i)) ≡ b → taken_packets plan ((e, Accepted q unit effects) ∷ h) t i
        ≡ (if b then taken_packets plan h t i ++ p ∷ [] else taken_packets plan h t i)
    by true same =
        let test = tests plan h e q unit s j p is t i ∙ same in
        let count = counts plan h e q unit s j p is t i same in
        rw (test, count, is.packet, none_beyond plan h cause t i (units_got h t i + 1 + 1) (omega arith))
        (append-nil _ ∙ sym (append_assoc (accepted_packets plan h t i) (pending_packets plan h t i) (p ∷ [])))
    by false other =
        let test = tests plan h e q unit s j p is t i ∙ other in
        rw test refl

-- ---- a pair that brings no packet of the stream to the port

module _
    (plan : Plan) (h : History) (e : Event) (port : PortName) (stream : ℕ)
    (none : packet_coming plan h e port stream ≡ None) where
  no_packet : (p : Packet) → Came plan h e port p → p.prefix.stream ≡ stream → ⊥
  no_packet p came of_stream =
      let some = came_is_coming plan h e port stream p came of_stream in absurd (cc (some, none))

  -- of which a unit would be one
  off : (q : PortName) (unit : UnitName) (p : Packet) → Came plan h e q p → Passed plan h q p unit
      → q ≡ port → unit.stream ≡ stream → ⊥
  off q unit p came passed there same =
      no_packet p (subst (λ (r : PortName). Came plan h e r p) there came)
      (sym (ap (λ (u : UnitName). u.stream) passed.named) ∙ same)

  -- nor does a verdict name one of its sub-streams there
  pub elsewhere : (q : PortName) (unit : UnitName) (p : Packet) → Came plan h e q p → Passed plan h q p unit
      → (t : SubStream) (j : ℕ) → t.line ≡ port.line → t.stream ≡ stream → t.direction ≡ received_direction port.side
      → is_received_under t j q unit ≡ false
  elsewhere q unit p came passed t j line_is stream_is direction_is = elim (cases_Bool (is_received_under t j q unit)) [
    | inl here ↦
        let names = and_parts (is_same (received_in q unit) t) (unit.draw == j) here in
        let same = same_stream (received_in q unit) t names.0 in
        let there = same_receiver q port (ap (λ (s : SubStream). s.line) same ∙ line_is)
        (ap (λ (s : SubStream). s.direction) same ∙ direction_is) in
        absurd (off q unit p came passed there (ap (λ (s : SubStream). s.stream) same ∙ stream_is))
    | inr other ↦ other
  ]

  pub left_alone : (w : Verdict) → w ≡ due plan h e → (t : SubStream) (j : ℕ) → t.line ≡ port.line
      → t.stream ≡ stream → t.direction ≡ received_direction port.side
      → taken_packets plan ((e, w) ∷ h) t j ≡ taken_packets plan h t j
  unfolding accepted_packets packets_in_hold units_got
  left_alone (Held q unit) is t j line_is stream_is direction_is =
      let by = held_by plan h e q unit is in
      rw (elsewhere q unit by.packet by.came by.passed t j line_is stream_is direction_is) refl
  left_alone (Accepted q unit effects) is t j line_is stream_is direction_is =
      let by = accepted_by plan h e q unit effects is in
      rw (elsewhere q unit by.packet by.came by.passed t j line_is stream_is direction_is) refl
  left_alone w is t j line_is stream_is direction_is = refl

  pub none_fails : (w : Verdict) → w ≡ due plan h e → fails_at port stream w ≡ false
  none_fails (Fail q s sub cause) is = by (fails_at port stream (Fail q s sub cause)) refl
    where
      by : (b : Bool) → fails_at port stream (Fail q s sub cause) ≡ b → b ≡ false
      by false here = refl
      by true here =
          let told = failed_by plan h e q s sub cause is in
          let port_is : q ≡ port = same_port q port (grind (arith, nat_tests, here)) in
          let stream_is : s ≡ stream = grind (arith, nat_tests, here) in
          absurd (no_packet told.packet (subst (λ (r : PortName). Came plan h e r told.packet) port_is told.came)
          (told.of_stream ∙ stream_is))
  none_fails w is = refl

  -- no unit of them is accepted
  pub none_accepted : (w : Verdict) → w ≡ due plan h e → (t : SubStream) → t.line ≡ port.line → t.stream ≡ stream
      → t.direction ≡ received_direction port.side → (q : PortName) (unit : UnitName) (effects : List Effect)
      → w ≡ Accepted q unit effects → is_same (received_in q unit) t ≡ false
  none_accepted w is t line_is stream_is direction_is q unit effects this =
      let by = accepted_by plan h e q unit effects (sym this ∙ is) in
      let off = elsewhere q unit by.packet by.came by.passed t unit.draw line_is stream_is direction_is in
      grind (arith, nat_tests, off)
