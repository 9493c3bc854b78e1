-- The facts of what arrives.
use Rattle.std.proofs.Common.{◌≡◌, ◌∷◌, ◌++◌, Bool, true, false, List, [], length, Option, Some, None}
use Rattle.std.proofs.Common.{Result, Ok, Err, if◌then◌else◌, refl, ap, ◌∙◌}
use Rattle.std.proofs.lemmas.List.{length-map}
use Rattle.std.specs.Option.{option_map, option_and_then}
use Rattle.ide_types.specs.declared.port.PortName.{PortName}
use Rattle.ide_types.specs.declared.plan.Plan.{Plan}
use Rattle.ide_prefix.specs.Packet.{Packet, packet_bytes}
use Rattle.ide_prefix.specs.Reading.{CutValue, PlainTlp, IdePacket, cut_of}
use Rattle.ide_prefix.specs.declared.fault.PacketFault.{PacketFault}
use Rattle.script_events.specs.declared.event.Event.{Event}
use Rattle.script_events.specs.declared.event.Event.TheVariants as event
use Rattle.event_verdicts.specs.declared.verdict.SealedPacket.{SealedPacket}
use Rattle.spec_keys.specs.Keys.{Keyed, Off, Loaded, On, on_in}
use Rattle.spec_keys.specs.History.{History, history_status}
use Rattle.spec_stream.specs.Stream.{RxSub, at_sub, live_in, slot_in_set}
use Rattle.spec_stream.specs.Slots.{stream_status}
use Rattle.spec_links.specs.Plan.{SubStream, lane_in}
use Rattle.spec_links.specs.Ports.{goes_through, port_of}
use Rattle.spec_links.specs.History.{ArrivedBytes, altered_arrival, arrival_at_partner, has_failed, port_keys, on_draw}
use Rattle.spec_links.specs.History.{sealed_packets, shortened_arrival}
unfoldable use Rattle.spec_links.specs.History.{arrival_of_event}
use Rattle.machine_ports.specs.Machine.{kept_packet}
use Rattle.machine_ports.specs.Stands.{rx_slot, rx_slots, rx_state_due}
use Rattle.machine_operations.specs.{LinkState, StreamsAndPacketsStand, altered_to, cut_short, whole_arrival}
use Rattle.machine_operations.specs.{stream_state_due}
use Rattle.machine_operations.proofs.{of_numbered}
use Rattle.machine_operations.proofs.Terms.{at_each}
use Rattle.machine_whole.specs.Machine.{Whole, arrival_of}
use Rattle.machine_whole.specs.Stands.{WholeStandsFor}
use Rattle.told_facts.specs.declared.fact.Fact.{Fact}
use Rattle.why_facts.specs.Forms.{arrives_fact, packets_fact, state_fact, unit_facts}
use Rattle.why_facts.specs.Due.{arrival_facts_due, asks_due, asks_under, held_due, packet_due, received_due, sealed_due}
use Rattle.why_facts.specs.Kept.{arrival_facts_in, asks_by_state, asks_live, packet_facts, received_by}
use Rattle.why_facts.specs.Kept.{packet_count_facts}
use Rattle.why_facts.proofs.Sites.{readings_are}
use Rattle.why_facts.proofs.Streams.{of_stream, receiver_is}

-- ---- what an event brings

pub arrival_is : (plan : Plan) (st : LinkState) (h : History) → StreamsAndPacketsStand plan st h → (e : Event)
    → arrival_of plan st e ≡ arrival_of_event plan h e
unfolding arrival_of_event
arrival_is plan st h stands (event.Pass n) =
    of_numbered st.packets (sealed_packets plan h) n stands.packets (option_and_then (whole_arrival plan))
    (option_map (λ x. arrival_at_partner plan x (packet_bytes x.1))) refl (λ x. refl)
arrival_is plan st h stands (event.Alter n at mask) = of_numbered st.packets (sealed_packets plan h) n stands.packets
    (option_and_then (altered_to plan at mask)) (option_and_then (altered_arrival plan at mask)) refl (λ x. refl)
arrival_is plan st h stands (event.Cut n len) = of_numbered st.packets (sealed_packets plan h) n stands.packets
    (option_and_then (cut_short plan len)) (option_and_then (shortened_arrival plan len)) refl (λ x. refl)
arrival_is plan st h stands (event.Arrive port bytes) = refl
arrival_is plan st h stands e = refl

pub sealed_is : (plan : Plan) (w : Whole) (h : History) → WholeStandsFor plan w h → packet_count_facts w
    ≡ sealed_due plan h
sealed_is plan w h stands = ap packets_fact
    (ap length stands.links.ports_stand.packets
    ∙ length-map (sealed_packets plan h) (λ (x : SealedPacket × Packet). kept_packet x.0.port x.1))

-- ---- what a packet asks of memory

asks_keyed : (plan : Plan) (w : Whole) (h : History) → WholeStandsFor plan w h → (port : PortName) (s : SubStream)
    (p : Packet) (a : Keyed)
    → asks_live plan w port p (live_in (rx_slot plan h port s a)) ≡ asks_under plan h port s p (on_in a)
asks_keyed plan w h stands port s p Off = refl
asks_keyed plan w h stands port s p (Loaded j) = refl
asks_keyed plan w h stands port s p (On j) =
    ap (λ r. unit_facts plan r (port_of plan port) p.prefix.sub (held_due plan h port s j) p)
    (readings_are plan w h stands)

asks_is : (plan : Plan) (w : Whole) (h : History) → WholeStandsFor plan w h → (port : PortName) (s : SubStream)
    (p : Packet) (k : Bool)
    → asks_live plan w port p (live_in (slot_in_set (rx_slots plan h port s (port_keys h port s)) k))
    ≡ asks_under plan h port s p (on_draw h port s k)
asks_is plan w h stands port s p true = asks_keyed plan w h stands port s p (port_keys h port s).second
asks_is plan w h stands port s p false = asks_keyed plan w h stands port s p (port_keys h port s).first

unless_failed : {A : Type 0} (b : Bool) (x y z : A) → y ≡ z → (if b then x else y) ≡ (if b then x else z)
unless_failed true x y z same = refl
unless_failed false x y z same = same

asks_there : (plan : Plan) (w : Whole) (h : History) → WholeStandsFor plan w h → (port : PortName) (p : Packet)
    → asks_by_state plan w port (stream_state_due plan h port p.prefix.stream) p
    ≡ asks_due plan h port (lane_in port p.prefix.stream p.prefix.sub) p
unfolding stream_state_due
asks_there plan w h stands port p = unless_failed (has_failed h port p.prefix.stream) _ _ _
    (slots_are ∙ asks_is plan w h stands port (lane_in port p.prefix.stream p.prefix.sub) p p.prefix.k)
  where
    slots_are : asks_live plan w port p (live_in (slot_in_set
        (at_sub (stream_state_due plan h port p.prefix.stream).rx p.prefix.sub).slots p.prefix.k))
        ≡ asks_live plan w port p (live_in (slot_in_set
        (rx_slots plan h port (lane_in port p.prefix.stream p.prefix.sub)
        (port_keys h port (lane_in port p.prefix.stream p.prefix.sub))) p.prefix.k))
    slots_are = ap (λ (x : RxSub). asks_live plan w port p (live_in (slot_in_set x.slots p.prefix.k)))
        (at_each (λ u. rx_state_due plan h port (lane_in port p.prefix.stream u)) p.prefix.sub)

-- ---- arrivals

packet_is : (plan : Plan) (w : Whole) (h : History) → WholeStandsFor plan w h → (port : PortName)
    (r : Result CutValue PacketFault) → packet_facts plan w port r ≡ packet_due plan h port r
packet_is plan w h stands port (Err f) = refl
packet_is plan w h stands port (Ok PlainTlp) = refl
packet_is plan w h stands port (Ok (IdePacket p)) =
    ap (λ (xs : List Fact). arrives_fact plan port p ∷ xs)
    (of_stream plan w.links h stands.links.ports_stand port p.prefix.stream (received_by plan w port p) []
    (received_due plan h port (lane_in port p.prefix.stream p.prefix.sub) p) refl there)
  where
    there : stream_status (stream_state_due plan h port p.prefix.stream)
        ≡ history_status h port.side port.line p.prefix.stream
        → received_by plan w port p (Some (stream_state_due plan h port p.prefix.stream))
        ≡ received_due plan h port (lane_in port p.prefix.stream p.prefix.sub) p
    there same = λ i. state_fact (same i)
        ∷ (receiver_is plan h port p.prefix.stream p.prefix.sub i ++ asks_there plan w h stands port p i)

arrival_facts_are : (plan : Plan) (w : Whole) (h : History) → WholeStandsFor plan w h → (unnamed : List Fact)
    (o : Option ArrivedBytes) → arrival_facts_in plan w unnamed o ≡ arrival_facts_due plan h unnamed o
arrival_facts_are plan w h stands unnamed None = refl
arrival_facts_are plan w h stands unnamed (Some a) =
    unless_failed (goes_through plan a.port a.bytes) _ _ _ (packet_is plan w h stands a.port (cut_of a.bytes))

-- of an event that brings bytes, with what is said if it brings none
pub arriving_is : (plan : Plan) (w : Whole) (h : History) → WholeStandsFor plan w h → (e : Event) (mine due : List Fact)
    → mine ≡ due → arrival_facts_in plan w mine (arrival_of plan w.links e)
    ≡ arrival_facts_due plan h due (arrival_of_event plan h e)
arriving_is plan w h stands e mine due same =
    (λ i. arrival_facts_in plan w (same i) (arrival_is plan w.links h stands.links.ports_stand e i))
    ∙ arrival_facts_are plan w h stands due (arrival_of_event plan h e)
