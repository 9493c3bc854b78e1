-- The facts of what is sent, of answers to reads, and of what is forwarded.
use Rattle.std.proofs.Common.{◌≡◌, ℕ, ◌∷◌, ◌++◌, Bool, true, false, List, [], length, Option, Some, None}
use Rattle.std.proofs.Common.{if◌then◌else◌, refl, ap, ◌∙◌}
use Rattle.std.specs.Option.{option_map}
use Rattle.ide_types.specs.Ports.{host_port}
use Rattle.ide_types.specs.declared.port.PortName.{PortName}
use Rattle.ide_types.specs.declared.port.Side.{Side}
use Rattle.ide_types.specs.declared.port.Side.TheVariants.{Host, Device}
use Rattle.ide_types.specs.declared.sub.SubKind.{SubKind}
use Rattle.ide_types.specs.declared.sub.SubKind.TheVariants.{Cpl}
use Rattle.ide_types.specs.declared.direction.Direction.{Direction}
use Rattle.ide_types.specs.declared.plan.Plan.{Plan}
use Rattle.tlp_layout.specs.declared.head.HeadView.{HeadView}
use Rattle.tlp_layout.specs.Class.{class_of}
use Rattle.tlp_layout.specs.Tlp.{header}
use Rattle.tlp_layout.specs.Outgoing.{Outgoing, NoTlp, OnNone, OnStream}
use Rattle.spec_keys.specs.History.{History, history_status}
use Rattle.spec_stream.specs.Slots.{stream_status}
use Rattle.spec_interfaces.specs.Sites.{Site, site_of_requester}
use Rattle.spec_interfaces.specs.Views.{managed_view}
use Rattle.spec_interfaces.specs.Devices.{interface_at}
use Rattle.spec_interfaces.specs.Cause.{owners_link}
use Rattle.spec_links.specs.{WaitingRead, has_hop, leaving_end, hop_waiting}
use Rattle.spec_links.specs.Hops.{HopTlp}
use Rattle.spec_links.specs.Plan.{has_link, lane_out}
use Rattle.spec_links.specs.Ports.{outgoing_at}
use Rattle.machine_operations.specs.{find, stream_state_due}
use Rattle.machine_whole.specs.Machine.{Whole}
use Rattle.machine_whole.specs.Stands.{WholeStandsFor}
use Rattle.told_facts.specs.declared.fact.Fact.{Fact}
use Rattle.why_facts.specs.Forms.{each_looked_at, face_facts, queue_facts, read_fact, response_facts, sends_fact}
use Rattle.why_facts.specs.Forms.{state_fact, waiting_fact}
use Rattle.why_facts.specs.Due.{completion_due, first_due, forward_facts_due, owner_due, queue_due, reader_due}
use Rattle.why_facts.specs.Due.{send_facts_due, sender_due, senders_due, sets_own_t, site_due, waiting_due}
use Rattle.why_facts.specs.Kept.{completion_facts, first_tlp_facts, forward_facts_in, known_facts, owner_in, queue_in}
use Rattle.why_facts.specs.Kept.{reader_in, send_facts_in, senders_in, sent_stream_facts, waiting_in}
use Rattle.why_facts.proofs.Sites.{known_is, of_owner, readings_are, requester_is, with_face}
use Rattle.why_facts.proofs.Streams.{of_stream, sender_is}

pub if_same : {A : Type 0} (b : Bool) (x y z : A) → x ≡ y → (if b then x else z) ≡ (if b then y else z)
if_same true x y z same = same
if_same false x y z same = refl

-- ---- sends

owner_is : (plan : Plan) (w : Whole) (h : History) → WholeStandsFor plan w h → (end : PortName) (head : HeadView)
    → owner_in plan w end head ≡ owner_due plan h end head
owner_is plan w h stands end head = if_same (sets_own_t plan end) _ _ _
    (of_owner plan h w.faces stands.faces (owners_link plan end) head known_facts (site_due plan h) (known_is plan h))

senders_are : (plan : Plan) (h : History) (port : PortName) (stream : ℕ) (class : SubKind)
    → stream_status (stream_state_due plan h port stream) ≡ history_status h port.side port.line stream
    → senders_in plan port stream class (stream_state_due plan h port stream) ≡ senders_due plan h port stream class
senders_are plan h port stream class same = λ i. state_fact (same i)
    ∷ each_looked_at (λ u. sender_is plan h port stream u i) class

pub send_is : (plan : Plan) (w : Whole) (h : History) → WholeStandsFor plan w h → (end : PortName) (out : Outgoing)
    → send_facts_in plan w end out ≡ send_facts_due plan h end out
send_is plan w h stands end (NoTlp f) = refl
send_is plan w h stands end OnNone = refl
send_is plan w h stands end (OnStream t stream) =
    of_stream plan w.links h stands.links.ports_stand end stream (sent_stream_facts plan w end stream (header t)) []
    (sends_fact plan end stream (class_of (header t))
    ∷ (senders_due plan h end stream (class_of (header t)) ++ owner_due plan h end (header t))) refl there
  where
    there : stream_status (stream_state_due plan h end stream) ≡ history_status h end.side end.line stream
        → sent_stream_facts plan w end stream (header t) (Some (stream_state_due plan h end stream))
        ≡ sends_fact plan end stream (class_of (header t))
        ∷ (senders_due plan h end stream (class_of (header t)) ++ owner_due plan h end (header t))
    there same = λ i. sends_fact plan end stream (class_of (header t))
        ∷ (senders_are plan h end stream (class_of (header t)) same i
        ++ owner_is plan w h stands end (header t) i)

-- ---- answers to reads

completion_is : (plan : Plan) (w : Whole) (h : History) → WholeStandsFor plan w h → (port : PortName) (stream : ℕ)
    → completion_facts plan port stream (find plan w.links port stream) ≡ completion_due plan h port stream
completion_is plan w h stands port stream =
    of_stream plan w.links h stands.links.ports_stand port stream (completion_facts plan port stream) []
    (state_fact (history_status h port.side port.line stream) ∷ sender_due plan h port (lane_out port stream Cpl)) refl
    (λ same i. state_fact (same i) ∷ sender_is plan h port stream Cpl i)

reader_is : (plan : Plan) (w : Whole) (h : History) → WholeStandsFor plan w h → (o : Option Site)
    → reader_in plan w (option_map (with_face plan h) o) ≡ reader_due plan h o
reader_is plan w h stands None = refl
reader_is plan w h stands (Some x) = ap
    (λ (xs : List Fact). face_facts x (interface_at plan h x) (managed_view h x) ++ xs)
    (completion_is plan w h stands (host_port x.link) x.plan.stream)

waiting_is : (plan : Plan) (w : Whole) (h : History) → WholeStandsFor plan w h → (side : Side) (link : ℕ)
    (r : WaitingRead) → waiting_in plan w side link r ≡ waiting_due plan h side link r
waiting_is plan w h stands Host link r = ap (λ (xs : List Fact). read_fact r.came.draw ∷ xs)
    (ap (reader_in plan w) (requester_is plan h w.faces stands.faces link r.read.requester)
    ∙ reader_is plan w h stands (site_of_requester plan link r.read.requester))
waiting_is plan w h stands Device link r = λ i.
    response_facts plan (readings_are plan w h stands i) link r
    (completion_is plan w h stands r.came.end r.came.stream i)

pub queue_is : (plan : Plan) (w : Whole) (h : History) → WholeStandsFor plan w h → (side : Side) (link : ℕ)
    → queue_in plan w side link ≡ queue_due plan h side link
queue_is plan w h stands side link = λ i.
    queue_facts (has_link plan link) (λ r. waiting_is plan w h stands side link r i)
    (stands.accesses.waiting (record { side = side; line = link }) i)

-- ---- forwards

first_is : (plan : Plan) (w : Whole) (h : History) → WholeStandsFor plan w h → (end : PortName) (xs : List HopTlp)
    → first_tlp_facts plan w end xs ≡ first_due plan h end xs
first_is plan w h stands end [] = refl
first_is plan w h stands end (x ∷ xs) = send_is plan w h stands end (outgoing_at plan end x.bytes)

pub forward_is : (plan : Plan) (w : Whole) (h : History) → WholeStandsFor plan w h → (link : ℕ) (d : Direction)
    → forward_facts_in plan w link d ≡ forward_facts_due plan h link d
forward_is plan w h stands link d = if_same (has_hop plan link) _ _ _
    (ap (λ (xs : List HopTlp). waiting_fact (length xs) ∷ first_tlp_facts plan w (leaving_end link d) xs)
    (stands.accesses.carried link d)
    ∙ ap (λ (xs : List Fact). waiting_fact (length (hop_waiting plan h link d)) ∷ xs)
    (first_is plan w h stands (leaving_end link d) (hop_waiting plan h link d)))
