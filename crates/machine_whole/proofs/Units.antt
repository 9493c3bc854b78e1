-- The unit that an accepted verdict ends is what the receiver's slot holds and the packet that arrived.
use Rattle.std.proofs.Common.{◌≡◌, ℕ, ◌∷◌, ◌++◌, Bool, true, false, not, List, [], Some, Result, Ok, Err, if◌then◌else◌}
use Rattle.std.proofs.Common.{refl, sym, ap, ◌∙◌}
use Rattle.std.specs.Option.{option_map, option_and_then}
use Rattle.ide_types.specs.declared.port.PortName.{PortName}
use Rattle.ide_types.specs.declared.plan.Plan.{Plan}
use Rattle.ide_prefix.specs.Packet.{Packet, packet_bytes}
use Rattle.script_events.specs.declared.event.Event.{Event}
use Rattle.script_events.specs.declared.event.Event.TheVariants as event
use Rattle.event_verdicts.specs.declared.verdict.UnitName.{UnitName}
use Rattle.event_verdicts.specs.declared.verdict.Effect.{Effect}
use Rattle.event_verdicts.specs.declared.verdict.Verdict.{Verdict}
use Rattle.event_verdicts.specs.declared.verdict.Verdict.TheVariants as v
use Rattle.spec_keys.specs.History.{History}
use Rattle.spec_links.specs.Plan.{SubStream, has_stream}
use Rattle.spec_links.specs.History.{sealed_packets, arrival_at_partner, altered_arrival, shortened_arrival}
use Rattle.spec_links.specs.History.{arrived_packet, received_in, packets_in_hold, pending_packets, has_failed, on_draw}
unfoldable use Rattle.spec_links.specs.History.{arrival_of_event}
use Rattle.spec_links.specs.Due.{Ending, effects_of, due, ending_due, before_tag_of_cut, under_keys}
use Rattle.spec_links.specs.Due.{receiving_sub_stream, unit_packets_ended, through_due}
unfoldable use Rattle.spec_links.specs.Due.{before_tag}
use Rattle.spec_links.specs.Ports.{goes_through}
use Rattle.spec_links.specs.Memory.{unit_ended}
use Rattle.spec_links.proofs.Causes.{Came, Passed, AcceptedBy, accepted_by, unit_ending, packet_that_came}
use Rattle.spec_links.proofs.Causes.{received_there, numbered}
use Rattle.machine_operations.specs.{PacketOutcome, Insecure, NotKeyed, Failed, Held, Accepted, LinkState, find}
use Rattle.machine_operations.specs.{verdict_of_taken, whole_arrival, altered_to, cut_short, StreamsAndPacketsStand}
use Rattle.machine_operations.specs.{stream_state_due, state_due_if_planned, beside_at}
use Rattle.machine_operations.proofs.{of_numbered, answer_is, packet_due, taken_at, Says, says}
use Rattle.machine_whole.specs.Machine.{arrival_of, unit_taken, unit_found, unit_cut, unit_in}

-- ---- what an event brings

arrival_is : (plan : Plan) (st : LinkState) (h : History) → StreamsAndPacketsStand plan st h → (e : Event)
    → arrival_of plan st e ≡ arrival_of_event plan h e
unfolding arrival_of_event
arrival_is plan st h stands (event.Pass n) =
    of_numbered st.packets (sealed_packets plan h) n stands.packets (option_and_then (whole_arrival plan))
    (option_map (λ x. arrival_at_partner plan x (packet_bytes x.1))) refl (λ x. refl)
arrival_is plan st h stands (event.Alter n at mask) = of_numbered st.packets (sealed_packets plan h) n stands.packets
    (option_and_then (altered_to plan at mask)) (option_and_then (altered_arrival plan at mask)) refl (λ x. refl)
arrival_is plan st h stands (event.Cut n len) = of_numbered st.packets (sealed_packets plan h) n stands.packets
    (option_and_then (cut_short plan len)) (option_and_then (shortened_arrival plan len)) refl (λ x. refl)
arrival_is plan st h stands (event.Arrive port bytes) = refl
arrival_is plan st h stands e = refl

-- ---- the unit

is_known : (b : Bool) (x y z : Result Ending Verdict) → b ≡ true → (if not b then x else y) ≡ z → y ≡ z
is_known true x y z known is = is
is_known false x y z known is = absurd cc

read_there : (b : Bool) (w : Verdict) (x : Result Ending Verdict) (y : Ending) → (if b then Err w else x) ≡ Ok y
    → x ≡ Ok y
read_there true w x y is = absurd cc
read_there false w x y is = is

-- the packet passed all checks, so that it is accepted
due_accepted : (plan : Plan) (h : History) (e : Event) (port : PortName) (unit : UnitName) (effects : List Effect)
    (by : AcceptedBy plan h e port unit effects)
    → (es : List Effect) × (packet_due plan h port by.packet ≡ v.Accepted port unit es)
unfolding before_tag
due_accepted plan h e port unit effects by =
    let p = by.packet in
    let before = ap (before_tag_of_cut plan h port) (sym by.came.cut)
    ∙ read_there (goes_through plan port by.came.bytes) (through_due plan port) _ _ by.before in
    let keyed : (if has_failed h port p.prefix.stream then Err (v.Insecure port p.prefix.stream)
    else under_keys plan h port p (on_draw h port (receiving_sub_stream port p) p.prefix.k)
    (on_draw h port (receiving_sub_stream port p) (not p.prefix.k))) ≡ Ok (unit_ending p unit) =
    is_known (has_stream plan port p.prefix.stream) _ _ _ by.passed.known before in (
      effects_of plan h port unit (unit_packets_ended plan h port (unit_ending p unit)),
      ap (ending_due plan h port) keyed ∙ rw
          (by.verified, by.counts) refl,
    )

taken_unit : (plan : Plan) (h : History) (port : PortName) (p : Packet) (unit : UnitName) (es : List Effect)
    (t : PacketOutcome)
    → verdict_of_taken (beside_at plan h) port p t ≡ v.Accepted port unit es → Says plan h port p t → unit_taken t
    ≡ pending_packets plan h (receiving_sub_stream port p) unit.draw ++ p ∷ []
taken_unit plan h port p unit es (Accepted j n u) is said =
    let draw : j ≡ unit.draw = cc (is) in
    said.3 ∙ ap (λ (k : ℕ). pending_packets plan h (receiving_sub_stream port p) k ++ p ∷ []) draw
taken_unit plan h port p unit es Insecure is said = absurd cc
taken_unit plan h port p unit es NotKeyed is said = absurd cc
taken_unit plan h port p unit es (Failed cause) is said = absurd cc
taken_unit plan h port p unit es (Held j n) is said = absurd cc

-- the unit by the history
ended_is : (plan : Plan) (h : History) (e : Event) (port : PortName) (unit : UnitName) (p : Packet)
    → Came plan h e port p → Passed plan h port p unit
    → unit_ended plan h e port unit ≡ pending_packets plan h (receiving_sub_stream port p) unit.draw ++ p ∷ []
ended_is plan h e port unit p came passed_it =
    ap (λ (n : ℕ). packets_in_hold plan h (received_in port unit) unit.draw n ++ arrived_packet plan h e ∷ [])
    (numbered plan h port p unit passed_it)
    ∙ (ap (λ (q : Packet). pending_packets plan h (received_in port unit) unit.draw ++ q ∷ [])
    (packet_that_came plan h e port p came)
    ∙ ap (λ (s : SubStream). pending_packets plan h s unit.draw ++ p ∷ [])
    (received_there plan h port p unit passed_it))

found_standing : (plan : Plan) (st : LinkState) (h : History) → StreamsAndPacketsStand plan st h
    → (port : PortName) (p : Packet) → has_stream plan port p.prefix.stream ≡ true
    → unit_found plan port p (find plan st port p.prefix.stream) ≡ unit_taken (taken_at plan h port p)
found_standing plan st h stands port p known =
    let here : state_due_if_planned plan h port p.prefix.stream
    ≡ Some (stream_state_due plan h port p.prefix.stream) = rw known refl in
    ap (unit_found plan port p) (stands.streams port p.prefix.stream ∙ here)

pub unit_is : (plan : Plan) (st : LinkState) (h : History) (e : Event) (port : PortName) (unit : UnitName)
    (effects : List Effect) → StreamsAndPacketsStand plan st h
    → v.Accepted port unit effects ≡ due plan h e → unit_in plan st (arrival_of plan st e)
    ≡ unit_ended plan h e port unit
unit_is plan st h e port unit effects stands is =
    let by = accepted_by plan h e port unit effects is in
    let accepted = due_accepted plan h e port unit effects by in
    ap (unit_in plan st) (arrival_is plan st h stands e ∙ by.came.arrival)
    ∙ (ap (unit_cut plan st port) by.came.cut
    ∙ (found_standing plan st h stands port by.packet by.passed.known
    ∙ (taken_unit plan h port by.packet unit accepted.0 (taken_at plan h port by.packet)
    (answer_is plan h port by.packet ∙ accepted.1) (says plan h port by.packet)
    ∙ sym (ended_is plan h e port unit by.packet by.came by.passed))))
