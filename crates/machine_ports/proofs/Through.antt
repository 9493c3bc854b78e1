-- A step that answers `through` leaves the state: no packet that is looked at gets that answer.
use Rattle.machine_ports.proofs.Terms.{◌≡◌, Bool, true, false, Option, Some, None, Ok, Err, Result, arith, refl}
use Rattle.machine_ports.proofs.Terms.{option_and_then, if◌then◌else◌, Plan, PortName, LinkState, ArrivedBytes}
use Rattle.machine_ports.proofs.Terms.{Packet, has_port, packet_numbered, whole_arrival, altered_to, cut_short, find}
use Rattle.machine_ports.proofs.Terms.{StreamState, stepped_arrival, step_of, Pass, Alter, Cut, Arrive}
use Rattle.ide_prefix.specs.declared.fault.PacketFault.{PacketFault}
use Rattle.ide_prefix.specs.Reading.{CutValue, PlainTlp, IdePacket, cut_of}
use Rattle.event_verdicts.specs.declared.verdict.Verdict.TheVariants as v
use Rattle.spec_links.specs.Due.{through_due}
unfoldable use Rattle.spec_links.specs.Ports.{goes_through}
use Rattle.spec_links.specs.Packets.{arrival_at}
use Rattle.spec_links.specs.Plan.{aggregation_of, is_closed}
use Rattle.machine_ports.specs.Machine.{BesidePorts, stepped_cut, stepped_packet, verdict_of_taken}
use Rattle.machine_ports.specs.Stream.{PacketOutcome, stream_outcome}
use Rattle.machine_ports.specs.Through.{ThroughStays}

not_taken : (beside : BesidePorts) (port q : PortName) (p : Packet) (t : PacketOutcome)
    → verdict_of_taken beside port p t ≡ v.Through q → ⊥
not_taken beside port q p t is = grind arith

packet_stays : (plan : Plan) (beside : BesidePorts) (st : LinkState) (port q : PortName) (p : Packet)
    (o : Option StreamState)
    → (stepped_packet plan beside st port p o).0 ≡ v.Through q → (stepped_packet plan beside st port p o).1 ≡ st
packet_stays plan beside st port q p None is = refl
packet_stays plan beside st port q p (Some x) is = absurd (not_taken beside port q p
    (stream_outcome (aggregation_of plan port.line p.prefix.stream) (is_closed plan port.line p.prefix.stream) x p) is)

cut_stays : (plan : Plan) (beside : BesidePorts) (st : LinkState) (port q : PortName) (r : Result CutValue PacketFault)
    → (stepped_cut plan beside st port r).0 ≡ v.Through q → (stepped_cut plan beside st port r).1 ≡ st
cut_stays plan beside st port q (Err f) is = refl
cut_stays plan beside st port q (Ok PlainTlp) is = refl
cut_stays plan beside st port q (Ok (IdePacket p)) is =
    packet_stays plan beside st port q p (find plan st port p.prefix.stream) is

arrival_stays : (plan : Plan) (beside : BesidePorts) (st : LinkState) (q : PortName) (o : Option ArrivedBytes)
    → (stepped_arrival plan beside st o).0 ≡ v.Through q → (stepped_arrival plan beside st o).1 ≡ st
arrival_stays plan beside st q None is = refl
arrival_stays plan beside st q (Some a) is = by (goes_through plan a.port a.bytes) is
  where
    by : (b : Bool)
        → (if b then (through_due plan a.port, st) else stepped_cut plan beside st a.port (cut_of a.bytes)).0
        ≡ v.Through q
        → (if b then (through_due plan a.port, st) else stepped_cut plan beside st a.port (cut_of a.bytes)).1 ≡ st
    by true is = refl
    by false is = cut_stays plan beside st a.port q (cut_of a.bytes) is

given_stays : (plan : Plan) (beside : BesidePorts) (st : LinkState) (q : PortName) (o : Option ArrivedBytes) (b : Bool)
    → (if b then stepped_arrival plan beside st o else (v.Nothing, st)).0 ≡ v.Through q
    → (if b then stepped_arrival plan beside st o else (v.Nothing, st)).1 ≡ st
given_stays plan beside st q o true is = arrival_stays plan beside st q o is
given_stays plan beside st q o false is = refl

pub through_stays : ThroughStays
unfolding step_of
through_stays plan beside st (Pass n) q brings is = arrival_stays plan beside st q
    (option_and_then (whole_arrival plan) (packet_numbered st.packets n)) is
through_stays plan beside st (Alter n at mask) q brings is = arrival_stays plan beside st q
    (option_and_then (altered_to plan at mask) (packet_numbered st.packets n)) is
through_stays plan beside st (Cut n len) q brings is = arrival_stays plan beside st q
    (option_and_then (cut_short plan len) (packet_numbered st.packets n)) is
through_stays plan beside st (Arrive port bytes) q brings is = given_stays plan beside st q
    (Some (arrival_at plan port bytes)) (has_port plan port) is
through_stays plan beside st e q brings is = absurd cc
