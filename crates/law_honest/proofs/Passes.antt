-- A pass brings the packet that it names to the other end of the line on which it was sealed.
use Rattle.law_sealing.proofs.Terms.{◌==◌, [], nat_tests, false, ◌≡◌, ℕ, ◌+◌, ◌∷◌, true, false, Some, ap, sym, ◌∙◌}
use Rattle.law_sealing.proofs.Terms.{arith, slice_get, is_some, Plan, History, base, Sealed, PortName}
use Rattle.law_sealing.proofs.Terms.{SealedPacket, Packet, Prefix, packet_bytes, CauseLaw, DrawFacts}
use Rattle.law_sealing.proofs.Terms.{ahead_of_packet, sent_bytes, sealing_is, sending_port, all_live, IsLive}
use Rattle.law_sealing.proofs.Terms.{sub_stream_of, stream_plan}
unfoldable use Rattle.law_sealing.proofs.Terms.{sealed_packets, arrival_of_event}
use Rattle.std.specs.Prelude.{◌-◌}
use Rattle.ide_types.specs.Fits.{FitsPlan}
use Rattle.script_events.specs.declared.event.Event.TheVariants as event
unfoldable use Rattle.spec_links.specs.Ports.{end_reached}
use Rattle.spec_links.specs.Plan.{partner}
use Rattle.spec_links.proofs.Ends.{own_end, id_is, stream_is_there}
use Rattle.law_key_facts.proofs.SealedKeys.{each_more, live_all, live_on}
use Rattle.law_sealing.proofs.{draws}
use Rattle.law_sealing.proofs.OfPlans.{streams_fit}
use Rattle.law_sealing.proofs.Below.{is_cut}
use Rattle.law_sealing.proofs.Places.{IsPlaced, placed}
use Rattle.law_honest.specs.Statements.{PassLawHolds}
use Rattle.law_honest.proofs.Coming.{came_is_coming}

-- each packet that was sealed is of a stream of its line
abbrev IsKnown : Plan → SealedPacket → Type 0
IsKnown plan d = is_some (stream_plan plan d.port.line d.stream) ≡ true

known : (plan : Plan) → DrawFacts plan → (h : History) → CauseLaw plan h → (i : ℕ) (x : SealedPacket × Packet)
    → slice_get (sealed_packets plan h) i ≡ Some x → IsKnown plan x.0
unfolding sealed_packets
known plan facts [] cause i x is = absurd cc
known plan facts ((e, Sealed ds) ∷ h) cause i x is =
    let sealing = sealing_is plan h e ds cause.0 in
    let port = sealing.sending.port in
    let stream = sealing.sending.stream in
    let one : (d : SealedPacket) → IsLive plan h port stream d → IsKnown plan d =
    λ d live. facts.known h cause.1 port (sub_stream_of d) d.k d.draw (live_on plan h port stream d live) in
    each_more (IsKnown plan) plan (ahead_of_packet plan (sealed_packets plan h) (base h)) (sent_bytes plan h e) ds
    (sealed_packets plan h)
    (live_all (IsKnown plan) plan h port stream ds one
    (all_live plan h (sending_port plan h e) (sent_bytes plan h e) ds sealing))
    (known plan facts h cause.1) i x is
known plan facts ((e, w) ∷ h) cause i x is = known plan facts h cause.1 i x is

arrives_at : (plan : Plan) → FitsPlan plan → (port : PortName) (stream : ℕ) (p : Packet) → p.prefix.stream ≡ stream
    → is_some (stream_plan plan port.line stream) ≡ true
    → end_reached plan (partner port) (packet_bytes p) ≡ partner port
unfolding end_reached
arrives_at plan fits port stream p stream_is known =
    rw (id_is p, stream_is) (own_end plan fits (partner port) stream
    (sym (stream_is_there plan port.line stream) ∙ known))

pub pass_law : PassLawHolds
unfolding arrival_of_event
pass_law plan fits h cause place x at =
    let is : IsPlaced plan _ x = placed plan (streams_fit plan fits) (draws plan) h cause place x at in
    let stream_is : x.1.prefix.stream ≡ x.0.stream = ap (λ (f : Prefix). f.stream) is.prefix in
    let there = arrives_at plan fits x.0.port x.0.stream x.1 stream_is (known plan (draws plan) h cause place x at) in
    let some : (place + 1 == 0) ≡ false = grind (arith, nat_tests) in
    let number : place + 1 - 1 ≡ place = omega arith in
    came_is_coming plan h (event.Pass (place + 1)) (partner x.0.port) x.0.stream x.1 (record {
      bytes = packet_bytes x.1;
      arrival = rw (some, number, at)
          (ap (λ (q : PortName). Some (record { port = q; bytes = packet_bytes x.1 })) there);
      cut = is_cut x.1 is.fits;
    }) stream_is
