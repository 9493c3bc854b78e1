-- Each step gives the verdict that is due, and its state stands for the history with it.
use Rattle.machine_ports.specs.Stands.{beside_at}
use Rattle.spec_links.specs.Packets.{arrival_at}
use Rattle.machine_ports.proofs.Terms.{◌≡◌, ℕ, Bool, true, false, List, Option, Some, None, option_map, option_and_then}
use Rattle.machine_ports.proofs.Terms.{refl, ap, sym, ◌∙◌, arith, if◌then◌else◌, Alter, altered_arrival, altered_to}
use Rattle.machine_ports.proofs.Terms.{ArrivedBytes, arrival_due, Arrive, arrival_of_event, arrival_at_partner, Cut}
use Rattle.machine_ports.proofs.Terms.{cut_short, due, Dump, dump_due, Event, has_port, History, is_of_packets}
use Rattle.machine_ports.proofs.Terms.{IsNoOperation, KeyFacts, LinkPacket, LinkState, operates, packet_bytes}
use Rattle.machine_ports.proofs.Terms.{packet_numbered, PacketsStand, Pass, whole_arrival, Plan, PortName}
use Rattle.machine_ports.proofs.Terms.{StreamsAndPacketsStand, quiet_test, sealed_packets, Send, shortened_arrival}
use Rattle.machine_ports.proofs.Terms.{packet_verdict, stepped_arrival, Status, step_of}
use Rattle.event_verdicts.specs.declared.verdict.Verdict.TheVariants as v
use Rattle.machine_ports.proofs.Changes.{Steps, none_of_packets, quiet}
use Rattle.machine_ports.proofs.Numbers.{of_numbered}
use Rattle.machine_ports.proofs.Arrivals.{arrives}
use Rattle.machine_ports.proofs.Sends.{sends}
use Rattle.machine_ports.proofs.Replies.{answers, responds}
use Rattle.machine_ports.proofs.Forwards.{forwards}
use Rattle.script_events.specs.declared.event.Event.TheVariants.{Access, Forward}
use Rattle.script_events.specs.declared.event.AccessEvent.TheVariants as ae

pub none_status : (l s : ℕ) → IsNoOperation (Status l s)
unfolding operates
none_status l s line stream = refl

-- the machine finds what the event brings
brought_to : (plan : Plan) → KeyFacts plan → (st : LinkState) (h : History) (e : Event) → is_of_packets e ≡ true
    → StreamsAndPacketsStand plan st h → (o : Option ArrivedBytes) → o ≡ arrival_of_event plan h e
    → arrival_due plan h (arrival_of_event plan h e) ≡ due plan h e
    → Steps plan h e (stepped_arrival plan (beside_at plan h) st o)
brought_to plan facts st h e of stands o found is = arrives plan facts st h e (none_of_packets e of) stands o
    (sym found) (ap (arrival_due plan h) found ∙ is)

given : (plan : Plan) → KeyFacts plan → (st : LinkState) (h : History) (port : PortName) (bytes : List ℕ)
    → StreamsAndPacketsStand plan st h → Steps plan h (Arrive port bytes)
    (if has_port plan port
    then stepped_arrival plan (beside_at plan h) st (Some (arrival_at plan port bytes))
    else (v.Nothing, st))
unfolding arrival_of_event due
given plan facts st h port bytes stands = by_port (has_port plan port) refl
  where
    by_port : (b : Bool) → (if b then Some (arrival_at plan port bytes) else None)
        ≡ arrival_of_event plan h (Arrive port bytes)
        → Steps plan h (Arrive port bytes)
        (if b then stepped_arrival plan (beside_at plan h) st (Some (arrival_at plan port bytes)) else
        (v.Nothing, st))
    by_port true is = brought_to plan facts st h (Arrive port bytes) refl stands
        (Some (arrival_at plan port bytes)) is refl
    by_port false is = brought_to plan facts st h (Arrive port bytes) refl stands None is refl

dumps : (plan : Plan) → KeyFacts plan → (st : LinkState) (h : History) (n : ℕ) → StreamsAndPacketsStand plan st h
    → Steps plan h (Dump n) (packet_verdict n (packet_numbered st.packets n), st)
unfolding due
dumps plan facts st h n stands =
    quiet plan facts st h (Dump n) (packet_verdict n (packet_numbered st.packets n)) stands
    (is_quiet (packet_numbered st.packets n))
    (of_numbered st.packets (sealed_packets plan h) n stands.packets (packet_verdict n) (dump_due n) refl (λ x. refl))
    (none_of_packets (Dump n) refl)
  where
    is_quiet : (o : Option LinkPacket) → quiet_test (packet_verdict n o) ≡ true
    is_quiet o = grind arith

-- ---- all of these events

pub packets_stand : PacketsStand
unfolding step_of due arrival_of_event
packets_stand plan facts st h (Send port bytes more trusted) is stands = sends plan facts st h stands bytes more trusted
    port
packets_stand plan facts st h (Access (ae.Answer link)) is stands = answers plan facts st h stands link
packets_stand plan facts st h (Access (ae.Respond link)) is stands = responds plan facts st h stands link
packets_stand plan facts st h (Forward link d) is stands = forwards plan facts st h stands link d
packets_stand plan facts st h (Pass n) is stands =
    brought_to plan facts st h (Pass n) refl stands _
    (of_numbered st.packets (sealed_packets plan h) n stands.packets (option_and_then (whole_arrival plan))
    (option_map (λ x. arrival_at_partner plan x (packet_bytes x.1))) refl
    (λ x. refl)) refl
packets_stand plan facts st h (Alter n at mask) is stands =
    brought_to plan facts st h (Alter n at mask) refl stands _
    (of_numbered st.packets (sealed_packets plan h) n stands.packets (option_and_then (altered_to plan at mask))
    (option_and_then (altered_arrival plan at mask)) refl
    (λ x. refl)) refl
packets_stand plan facts st h (Cut n len) is stands =
    brought_to plan facts st h (Cut n len) refl stands _
    (of_numbered st.packets (sealed_packets plan h) n stands.packets (option_and_then (cut_short plan len))
    (option_and_then (shortened_arrival plan len)) refl (λ x. refl)) refl
packets_stand plan facts st h (Arrive port bytes) is stands = given plan facts st h port bytes stands
packets_stand plan facts st h (Dump n) is stands = dumps plan facts st h n stands
packets_stand plan facts st h _ is stands = absurd cc
