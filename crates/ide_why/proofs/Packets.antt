-- What is read of packets is what the machine keeps.
use Rattle.std.proofs.Common.{◌≡◌, ℕ, Bool, true, false, List, [], ◌∷◌, ◌++◌, length, refl, ap, sym, ◌∙◌}
use Rattle.std.proofs.Common.{Option, Some, None, Result, Ok, Err}
use Rattle.std.specs.Prelude.{if◌then◌else◌}
use Rattle.std.specs.Option.{option_map, option_map_or}
use Rattle.ide_types.specs.declared.port.PortName.{PortName}
use Rattle.ide_types.specs.declared.sub.SubKind.{SubKind}
use Rattle.ide_types.specs.declared.sub.SubKind.TheVariants.{Pr, Npr, Cpl}
use Rattle.ide_types.specs.declared.plan.Plan.{Plan}
use Rattle.tlp_layout.specs.Outgoing.{Outgoing, NoTlp, OnNone, OnStream}
use Rattle.ide_port.specs.Facts.{held_by}
use Rattle.ide_prefix.specs.Packet.{Packet}
use Rattle.ide_prefix.specs.Reading.{CutValue, PlainTlp, IdePacket, cut_of}
use Rattle.ide_prefix.specs.declared.fault.PacketFault.{PacketFault}
use Rattle.tlp_layout.specs.Class.{class_of}
use Rattle.tlp_layout.specs.Tlp.{header}
use Rattle.tlp_layout.specs.declared.head.HeadView.{HeadView}
use Rattle.spec_interfaces.specs.Cause.{owner_id, owners_link}
use Rattle.spec_interfaces.specs.Sites.{Site, sites}
use Rattle.machine_whole.specs.Interfaces.{Face, with_requester}
use Rattle.why_facts.specs.declared.appends.faces.FaceSeen.{FaceSeen}
use Rattle.spec_links.specs.History.{ArrivedBytes}
use Rattle.spec_links.specs.Plan.{is_closed}
use Rattle.spec_links.specs.Ports.{goes_through, port_of}
use Rattle.machine_operations.specs.{LinkState, find}
use Rattle.spec_stream.specs.Slots.{stream_status}
use Rattle.spec_stream.specs.Stream.{LaneSlot, Empty, Programmed, Armed, Live, StreamState, at_sub, live_in}
use Rattle.spec_stream.specs.Stream.{slot_in_set}
use Rattle.sub_stream.specs.Facts.{held_packets, lane_seen, slot_facts, stream_facts}
use Rattle.sub_stream.specs.declared.facts.SlotFacts.{SlotFacts}
use Rattle.machine_whole.specs.Accesses.{face_statuses}
use Rattle.told_facts.specs.declared.fact.Fact.{Fact}
use Rattle.why_facts.specs.Due.{sets_own_t}
use Rattle.why_facts.specs.Forms.{Readings, arrives_fact, at_port, sends_fact, state_fact, unit_facts}
use Rattle.why_facts.specs.Kept.{arrival_facts_in, asks_by_state, asks_live, known_facts, owner_found, owner_in}
use Rattle.why_facts.specs.Kept.{packet_facts, readings_of_whole, received_by, send_facts_in, sent_stream_facts}
use Rattle.world.specs.{WorldStandsFor, WholeLinks, world_of}
use Rattle.spec_keys.specs.History.{History}
use Rattle.ide_why.specs.Facts.{arrival_facts, asks_if, asks_read_facts, known_read, met_facts, owner_facts}
use Rattle.ide_why.specs.Facts.{readings_read, received_read, sending_facts, state_of_whole, stream_sends}
use Rattle.ide_why.specs.Reading.{owner_face, requester_read, statuses_read}
use Rattle.why_facts.specs.{is_live_seen, set_seen}
use Rattle.ide_why.proofs.SeenStreams.{receiver_is, senders_are}

set_is : (closed : Bool) (x : StreamState) (u : SubKind) (k : Bool)
    → set_seen k (lane_seen (stream_facts closed x) u).receiver.sets ≡ slot_facts (slot_in_set (at_sub x.rx u).slots k)
set_is closed x Pr true = refl
set_is closed x Pr false = refl
set_is closed x Npr true = refl
set_is closed x Npr false = refl
set_is closed x Cpl true = refl
set_is closed x Cpl false = refl

-- `known` says of each interface what is known of it, `numbered` its number, and `stand` how those of a link's device
-- stand
module _ (plan : Plan) (s : WholeLinks) (h : History) (stood : WorldStandsFor (world_of plan s) h)
    (known : (link requester : ℕ)
    → known_read (requester_read s link requester) ≡ known_facts (with_requester plan stood.whole.faces link requester))
    (numbered : (link requester : ℕ) → option_map (λ (f : FaceSeen). f.number) (requester_read s link requester)
    ≡ option_map (λ (y : Site × Face). y.0.number) (with_requester plan stood.whole.faces link requester))
    (stand : (link : ℕ) → statuses_read s link
    ≡ face_statuses link (sites plan) stood.whole.faces.list stood.whole.accesses.floors)
  where
    pub state_is : state_of_whole plan s ≡ stood.whole.links
    state_is = sym stood.is.links

    owner_by : (link : ℕ) (o : Option ℕ) (head : HeadView) → owner_id head ≡ o
        → known_read (owner_face s link head) ≡ known_facts (owner_found plan stood.whole.faces link head)
    owner_by link None head of = rw of refl
    owner_by link (Some requester) head of = rw of (known link requester)

    owner_is : (link : ℕ) (head : HeadView)
        → known_read (owner_face s link head) ≡ known_facts (owner_found plan stood.whole.faces link head)
    owner_is link head = owner_by link (owner_id head) head refl

    -- ---- requests

    pub readings_are : readings_read s ≡ readings_of_whole plan stood.whole
    readings_are = λ i. record {
      known = λ link requester. known link requester i;
      numbered = λ link requester. numbered link requester i;
      waiting = λ port. length (stood.is.accesses.reads port i);
      statuses = λ link. stand link i;
    }

    asks_slot : (port : PortName) (p : Packet) (sl : LaneSlot)
        → asks_if plan s port (held_packets sl) p (is_live_seen (slot_facts sl))
        ≡ asks_live plan stood.whole port p (live_in sl)
    asks_slot port p Empty = refl
    asks_slot port p (Programmed draw key) = refl
    asks_slot port p (Armed draw key) = refl
    asks_slot port p (Live x) =
        ap (λ (r : Readings). unit_facts plan r (port_of plan port) p.prefix.sub x.packets p) readings_are

    asks_are : (closed : Bool) (port : PortName) (x : StreamState) (p : Packet)
        → asks_read_facts plan s port (stream_facts closed x) (held_by p.prefix.sub p.prefix.k x) p
        ≡ asks_by_state plan stood.whole port x p
    asks_are closed port x p =
        ap (λ (fs : List Fact). if x.failed then [] else fs)
        (ap (λ (sl : SlotFacts). asks_if plan s port (held_by p.prefix.sub p.prefix.k x) p (is_live_seen sl))
        (set_is closed x p.prefix.sub p.prefix.k)
        ∙ asks_slot port p (slot_in_set (at_sub x.rx p.prefix.sub).slots p.prefix.k))

    -- ---- arrivals

    received_is : (port : PortName) (p : Packet) (o : Option StreamState)
        → received_read plan s port (option_map_or (held_by p.prefix.sub p.prefix.k) o []) p
        (option_map (stream_facts (is_closed plan port.line p.prefix.stream)) o) ≡ received_by plan stood.whole port p o
    received_is port p None = refl
    received_is port p (Some x) =
        (λ i. state_fact (stream_status x)
        ∷ (receiver_is (is_closed plan port.line p.prefix.stream) x p.prefix.sub i
        ++ asks_are (is_closed plan port.line p.prefix.stream) port x p i))

    met_is : (port : PortName) (r : Result CutValue PacketFault)
        → met_facts plan s port r ≡ packet_facts plan stood.whole port r
    met_is port (Err f) = refl
    met_is port (Ok PlainTlp) = refl
    met_is port (Ok (IdePacket p)) =
        ap (λ (fs : List Fact). arrives_fact plan port p ∷ fs)
        (received_is port p (find plan (state_of_whole plan s) port p.prefix.stream)
        ∙ ap (λ (st : LinkState). received_by plan stood.whole port p (find plan st port p.prefix.stream)) state_is)

    pub arrival_is : (unnamed : List Fact) (o : Option ArrivedBytes)
        → arrival_facts plan s unnamed o ≡ arrival_facts_in plan stood.whole unnamed o
    arrival_is unnamed None = refl
    arrival_is unnamed (Some a) =
        ap (λ (fs : List Fact). if goes_through plan a.port a.bytes then at_port plan a.port ∷ [] else fs)
        (met_is a.port (cut_of a.bytes))

    -- ---- sends

    owners_are : (end : PortName) (head : HeadView) → owner_facts plan s end head ≡ owner_in plan stood.whole end head
    owners_are end head =
        ap (λ (fs : List Fact). if sets_own_t plan end then fs else []) (owner_is (owners_link plan end) head)

    sends_are : (end : PortName) (stream : ℕ) (head : HeadView) (o : Option StreamState)
        → stream_sends plan s end stream head (option_map (stream_facts (is_closed plan end.line stream)) o)
        ≡ sent_stream_facts plan stood.whole end stream head o
    sends_are end stream head None = refl
    sends_are end stream head (Some x) =
        (λ i. sends_fact plan end stream (class_of head)
        ∷ (senders_are (is_closed plan end.line stream) x (class_of head) i ++ owners_are end head i))

    pub sending_is : (end : PortName) (o : Outgoing) → sending_facts plan s end o ≡ send_facts_in plan stood.whole end o
    sending_is end (NoTlp f) = refl
    sending_is end OnNone = refl
    sending_is end (OnStream t stream) =
        sends_are end stream (header t) (find plan (state_of_whole plan s) end stream)
        ∙ ap (λ (st : LinkState). sent_stream_facts plan stood.whole end stream (header t) (find plan st end stream))
        state_is
