-- The verdict of an arrival is the one that is due, and the state after it stands for the history with it.
use Rattle.machine_ports.specs.Machine.{BesidePorts}
use Rattle.spec_stream.specs.Stream.{unit_name}
use Rattle.machine_ports.specs.Stands.{beside_at}
use Rattle.spec_links.specs.Due.{through_due}
unfoldable use Rattle.spec_links.specs.Ports.{port_of, goes_through}
use Rattle.machine_ports.proofs.Terms.{if◌then◌else◌, Bool, false, ◌≡◌, true, List, [], ◌∷◌, ◌++◌, Option, Some, None}
use Rattle.machine_ports.proofs.Terms.{Result, Ok, Err, refl, ap, sym, ◌∙◌, subst, arith, Accepted, ArrivedBytes}
use Rattle.machine_ports.proofs.Terms.{arrival_due, arrival_of_event, before_tag, before_tag_of_cut, Came, due}
use Rattle.machine_ports.proofs.Terms.{effects_of, Event, Failed, find, has_stream, Held, History, Insecure}
use Rattle.machine_ports.proofs.Terms.{IsNoOperation, KeyFacts, LinkState, NotKeyed, Packet, packet_that_came}
use Rattle.machine_ports.proofs.Terms.{packet_word, pending_packets, Plan, PortName, StreamsAndPacketsStand}
use Rattle.machine_ports.proofs.Terms.{with_stream_state, receiving_sub_stream, sealed_same, seals_none, ending_due}
use Rattle.machine_ports.proofs.Terms.{stream_state_due, state_after, StreamState, stepped_packet, stepped_cut}
use Rattle.machine_ports.proofs.Terms.{stepped_arrival, PacketOutcome, verdict_of_taken}
use Rattle.event_verdicts.specs.declared.verdict.Verdict.TheVariants as v
use Rattle.ide_prefix.specs.declared.fault.PacketFault.{PacketFault}
use Rattle.ide_prefix.specs.Faults.{packet_place}
use Rattle.ide_prefix.specs.Reading.{CutValue, PlainTlp, IdePacket, cut_of}
use Rattle.machine_ports.proofs.Puts.{find-put, find-put_other}
use Rattle.machine_ports.proofs.Frames.{frame}
use Rattle.machine_ports.proofs.Changes.{Steps, IsOnlyAt, kept_is, not_kept, changes, put_packets, quiet, kept_all}
use Rattle.machine_ports.proofs.Answers.{answer_is, packet_due, taken_at, Says, says}
use Rattle.machine_ports.proofs.Takes.{after_failure, after_held, after_accepted}

only_there : (beside : BesidePorts) (port : PortName) (p : Packet) (t : PacketOutcome)
    → IsOnlyAt port p.prefix.stream (verdict_of_taken beside port p t)
only_there beside port p t q s other = grind arith

seals_nothing : (beside : BesidePorts) (port : PortName) (p : Packet) (t : PacketOutcome)
    → seals_none (verdict_of_taken beside port p t) ≡ true
seals_nothing beside port p t = grind arith

module _ (plan : Plan) (facts : KeyFacts plan) (st : LinkState) (h : History) (e : Event) (still : IsNoOperation e)
    (stands : StreamsAndPacketsStand plan st h) where
  after : (port : PortName) (p : Packet) → Came plan h e port p → (t : PacketOutcome) → Says plan h port p t
      → verdict_of_taken (beside_at plan h) port p t ≡ due plan h e
      → state_after (stream_state_due plan h port p.prefix.stream) p t
      ≡ stream_state_due plan ((e, verdict_of_taken (beside_at plan h) port p t) ∷ h) port p.prefix.stream
  after port p came Insecure said is =
      sym (frame plan facts h e (v.Insecure port p.prefix.stream) (is, stands.cause) port p.prefix.stream
      (still port.line p.prefix.stream) refl refl)
  after port p came NotKeyed said is =
      sym (frame plan facts h e (v.NotKeyed port p.prefix.stream p.prefix.sub) (is, stands.cause) port p.prefix.stream
      (still port.line p.prefix.stream) refl refl)
  after port p came (Failed cause) said is = after_failure plan facts h e port p cause (is, stands.cause)
      (still port.line p.prefix.stream) said
  after port p came (Held j n) said is =
      after_held plan facts h e port p j n (record {
        law = (is, stands.cause);
        still = still port.line p.prefix.stream;
        secure = said.0;
        on = said.1;
        next = said.2;
        came = packet_that_came plan h e port p came;
      })
  after port p came (Accepted j n unit) said is =
      subst (λ (ps : List Packet). verdict_of_taken (beside_at plan h) port p (Accepted j n ps) ≡ due plan h e
      → state_after (stream_state_due plan h port p.prefix.stream) p (Accepted j n ps)
      ≡ stream_state_due plan ((e, verdict_of_taken (beside_at plan h) port p (Accepted j n ps)) ∷ h) port
      p.prefix.stream)
      (sym said.3)
      (λ due_is. after_accepted plan facts h e port p j n
      (effects_of plan h port (unit_name p j n)
      (pending_packets plan h (receiving_sub_stream port p) j ++ p ∷ [])) (record {
        law = (due_is, stands.cause);
        still = still port.line p.prefix.stream;
        secure = said.0;
        on = said.1;
        next = said.2;
        came = packet_that_came plan h e port p came;
      })) is

  -- a packet of a stream that the port has
  standing_takes : (port : PortName) (p : Packet) → Came plan h e port p → packet_due plan h port p ≡ due plan h e
      → let x = stream_state_due plan h port p.prefix.stream in
      has_stream plan port p.prefix.stream ≡ true → find plan st port p.prefix.stream ≡ Some x
      → Steps plan h e (stepped_packet plan (beside_at plan h) st port p (Some x))
  standing_takes port p came is known found =
      let stream = p.prefix.stream in
      let t = taken_at plan h port p in
      let w = verdict_of_taken (beside_at plan h) port p t in
      let due_is : w ≡ due plan h e = answer_is plan h port p ∙ is in
      let new = state_after (stream_state_due plan h port stream) p t in
      changes plan facts st (with_stream_state plan st port stream new) h e w port stream new stands due_is still known
      (only_there (beside_at plan h) port p t)
      (find-put plan st port stream new (rw found refl)) (find-put_other plan st port stream new)
      (after port p came t (says plan h port p) due_is)
      (put_packets plan st port stream new ∙
      (stands.packets ∙ ap kept_all (sym (sealed_same plan h e w (seals_nothing (beside_at plan h) port p t)))))

  by_found : (port : PortName) (p : Packet) → Came plan h e port p
      → ending_due plan h port (before_tag_of_cut plan h port (Ok (IdePacket p))) ≡ due plan h e
      → (o : Option StreamState)
      → find plan st port p.prefix.stream ≡ o → Steps plan h e (stepped_packet plan (beside_at plan h) st port p o)
  by_found port p came is None found = quiet plan facts st h e (v.Unknown (port_of plan port) p.prefix.stream) stands
      refl (rw (not_kept plan st h port p.prefix.stream stands found) at is) still
  by_found port p came is (Some x) found =
      let kept = kept_is plan st h port p.prefix.stream x stands found in
      subst (λ (y : StreamState). find plan st port p.prefix.stream ≡ Some y
      → Steps plan h e (stepped_packet plan (beside_at plan h) st port p (Some y))) (sym kept.same)
      (standing_takes port p came (rw kept.known at is) kept.known) found

  by_cut : (a : ArrivedBytes) → arrival_of_event plan h e ≡ Some a → (r : Result CutValue PacketFault)
      → cut_of a.bytes ≡ r → ending_due plan h a.port (before_tag_of_cut plan h a.port r) ≡ due plan h e
      → Steps plan h e (stepped_cut plan (beside_at plan h) st a.port r)
  by_cut a arrival (Err f) cut is = quiet plan facts st h e
      (v.Malformed (port_of plan a.port) (packet_word f) (packet_place f)) stands refl is still
  by_cut a arrival (Ok PlainTlp) cut is = quiet plan facts st h e (v.Plain (port_of plan a.port)) stands refl is still
  by_cut a arrival (Ok (IdePacket p)) cut is =
      by_found a.port p (record { bytes = a.bytes; arrival = arrival; cut = cut }) is
      (find plan st a.port p.prefix.stream) refl

  pub arrives : (o : Option ArrivedBytes) → arrival_of_event plan h e ≡ o → arrival_due plan h o ≡ due plan h e
      → Steps plan h e (stepped_arrival plan (beside_at plan h) st o)
  unfolding before_tag
  arrives None arrival is = quiet plan facts st h e v.Nothing stands refl is still
  arrives (Some a) arrival is = by (goes_through plan a.port a.bytes) is
    where
      by : (b : Bool) → ending_due plan h a.port (if b then Err (through_due plan a.port)
          else before_tag_of_cut plan h a.port (cut_of a.bytes)) ≡ due plan h e
          → Steps plan h e (if b then (through_due plan a.port, st)
          else stepped_cut plan (beside_at plan h) st a.port (cut_of a.bytes))
      by true is = quiet plan facts st h e (through_due plan a.port) stands refl is still
      by false is = by_cut a arrival (cut_of a.bytes) refl is
