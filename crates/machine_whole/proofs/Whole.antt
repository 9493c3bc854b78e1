-- The whole machine stands for the history: what each part reads of the other is what the history says, so that each
-- step is that of its parts.
use Rattle.std.proofs.Common.{◌≡◌, ℕ, ◌∷◌, [], Bool, true, false, refl, sym, ap, ◌∙◌, subst, List, length}
use Rattle.std.proofs.Common.{if◌then◌else◌}
use Rattle.std.proofs.lemmas.List.{append-nil}
use Rattle.ide_types.specs.declared.port.PortName.{PortName}
use Rattle.ide_types.specs.declared.port.Side.{Side}
use Rattle.ide_types.specs.declared.port.Side.TheVariants.{Host, Device}
use Rattle.ide_types.specs.declared.plan.Plan.{Plan}
use Rattle.tlp_layout.specs.declared.head.HeadView.{HeadView}
use Rattle.script_events.specs.declared.event.Event.{Event}
use Rattle.script_events.specs.declared.event.Event.TheVariants as event
use Rattle.script_events.specs.declared.event.InterfaceEvent.{InterfaceEvent}
use Rattle.event_verdicts.specs.declared.verdict.Verdict.{Verdict}
use Rattle.event_verdicts.specs.declared.verdict.Verdict.TheVariants as v
use Rattle.spec_keys.specs.History.{History, op_of, draws}
unfoldable use Rattle.spec_interfaces.specs.Views.{stream_draw}
use Rattle.spec_interfaces.specs.Cause.{is_peer, owner_id, owner_site, t_due}
use Rattle.spec_interfaces.specs.Devices.{peer_t}
use Rattle.ide_types.specs.Ends.{port_beside_end}
unfoldable use Rattle.spec_links.specs.Due.{t_sealed, due}
use Rattle.spec_links.specs.Ports.{at_switch}
unfoldable use Rattle.spec_links.specs.Ports.{port_of}
use Rattle.spec_interfaces.specs.Views.{grant_at}
use Rattle.machine_whole.specs.Interfaces.{Faces, faces_after, interface_answer, grant_of, peer_t_of}
use Rattle.machine_whole.specs.InterfacesStand.{FacesStandFor, ends_read}
use Rattle.machine_whole.proofs.Faces.{faces_stand}
use Rattle.spec_links.specs.Cause.{CauseLaw}
use Rattle.spec_links.specs.History.{sealed_packets}
use Rattle.spec_links.specs.Memory.{policy_at, effects_under_policy, admitted_writes, shown_if, memory_due}
use Rattle.spec_links.specs.Memory.{waiting_reads}
unfoldable use Rattle.spec_links.specs.Sent.{reads_taken, queued_in}
use Rattle.spec_links.specs.Sent.{claim_completion, completion_at}
unfoldable use Rattle.spec_links.specs.Guarded.{link_happenings}
use Rattle.spec_links.specs.Guarded.{mmio_by_happenings, happens_by_packets}
use Rattle.spec_interfaces.specs.{newest_happened}
unfoldable use Rattle.spec_interfaces.specs.Floors.{device_floor}
use Rattle.spec_interfaces.specs.Sites.{sites}
use Rattle.spec_links.specs.Terms.{MemReadView, claim_of, history_statuses, host_completer}
unfoldable use Rattle.spec_links.specs.{completion_bytes}
use Rattle.machine_operations.specs.{port_completion}
use Rattle.law_reads.proofs.ByNumber.{IsBehind, writes_same, happenings_same}
unfoldable use Rattle.spec_links.specs.Memory.{writes}
use Rattle.trusted_memory.specs.Writes.{Write, newest_first}
unfoldable use Rattle.trusted_memory.specs.Writes.{byte_last_written}
use Rattle.trusted_memory.specs.Regions.{in_one_region}
use Rattle.trusted_memory.specs.Memory.{bytes_from}
use Rattle.script_events.specs.declared.event.InterfaceEvent.TheVariants as ie
use Rattle.machine_operations.specs.{BesidePorts, LinkState, step_of, beside_at, PortsStandFor, forward_of}
use Rattle.machine_operations.proofs.AllSteps.{steps}
use Rattle.machine_operations.proofs.Resets.{begins as first}
use Rattle.machine_whole.specs.Machine.{Whole, t_at_side, t_kept, memory_shown, written_after, beside_of, whole_streams}
use Rattle.machine_whole.specs.Machine.{draw_after, statuses_of, policy_of, completion_from_memory, machine_completion}
use Rattle.machine_whole.specs.Machine.{ended_unit, whole_faces_after, whole_after}
use Rattle.machine_whole.specs.Accesses.{face_statuses, waiting_reads_after, accesses_after, unit_tlps}
use Rattle.machine_whole.specs.Stands.{AccessesStandFor, WholeStandsFor, WholeBegins, WholeSteps}
use Rattle.machine_whole.proofs.Units.{unit_is}
use Rattle.machine_whole.proofs.Streams.{answer_same, draw_same, ends_all, faces_same, streams_are}
unfoldable use Rattle.spec_links.specs.Hops.{accepted_tlps_in_list, forwarded_count}
use Rattle.law_reads.specs.Waiting.{waiting_next}
use Rattle.machine_whole.proofs.Accesses.{AreEnded, waiting_is, floors_are, statuses_are, happened_is, carried_is}

-- ---- what the ports read of the interfaces

t_by_says : (plan : Plan) (fs : Faces) (h : History) → FacesStandFor plan fs h
    → (port : PortName) (side : Side) (head : HeadView) (stream : ℕ) (trusted : Bool)
    → t_at_side plan fs port side head stream trusted
    ≡ t_due plan h port side (owner_site plan port.line head) stream trusted
t_by_says plan fs h stands port Host head stream trusted = refl
t_by_says plan fs h stands port Device head stream trusted = faces_stand.t plan fs h port.line stream (owner_id head)
    stands

t_says : (plan : Plan) (fs : Faces) (h : History) → FacesStandFor plan fs h
    → (port : PortName) (head : HeadView) (stream : ℕ) (trusted : Bool)
    → t_kept plan fs port head stream trusted ≡ t_sealed plan h port head stream trusted
unfolding t_sealed
t_says plan fs h stands port head stream trusted = by (at_switch plan port) (is_peer plan port)
  where
    by : (switch late : Bool) → (if switch then trusted
        else if late then peer_t_of plan fs (if late then (port_beside_end plan.peers port).line else port.line) stream
        (owner_id head)
        else t_at_side plan fs port port.side head stream trusted)
        ≡ (if switch then trusted
        else if late then peer_t plan h (owner_site plan
        (if late then (port_beside_end plan.peers port).line else port.line)
        head) stream
        else t_due plan h port port.side (owner_site plan
        (if late then (port_beside_end plan.peers port).line else port.line)
        head) stream trusted)
    by true late = refl
    by false true = faces_stand.peer plan fs h (port_beside_end plan.peers port).line stream (owner_id head) stands
    by false false = t_by_says plan fs h stands port port.side head stream trusted

memory_says : (plan : Plan) (h : History) (ws : List Write) → ws ≡ writes plan h → (e : InterfaceEvent)
    → memory_shown plan ws e ≡ memory_due plan h e
memory_says plan h ws same (ie.Memory at len) = ap
    (λ (xs : List Write). shown_if (in_one_region plan.memory at len) (bytes_from (byte_last_written xs) at len)) same
memory_says plan h ws same e = refl

answer_says : (plan : Plan) (w : Whole) (h : History) → WholeStandsFor plan w h → (e : InterfaceEvent)
    → interface_answer plan (whole_streams plan w) w.faces e (memory_shown plan w.written e)
    ≡ due plan h (event.Interface e)
unfolding due
answer_says plan w h stands e =
    (λ i. interface_answer plan (streams_are plan w h stands.links stands.draw i) w.faces e
    (memory_says plan h w.written stands.written e i))
    ∙ (answer_same plan h w.faces e (memory_due plan h e)
    ∙ faces_stand.answer plan w.faces h e (memory_due plan h e) stands.faces)

grants_are : (plan : Plan) (fs : Faces) (h : History) → FacesStandFor plan fs h → grant_of plan fs ≡ grant_at plan h
grants_are plan fs h stands = λ i link requester. faces_stand.grant plan fs h link requester stands i

statuses_read : (plan : Plan) (w : Whole) (h : History) → WholeStandsFor plan w h
    → statuses_of plan w ≡ history_statuses plan h
statuses_read plan w h stands =
    λ i link. statuses_are plan h w.faces.list w.accesses.floors stands.faces.faces stands.accesses.floors link i

policy_is : (plan : Plan) (w : Whole) (h : History) → WholeStandsFor plan w h → policy_of plan w ≡ policy_at plan h
policy_is plan w h stands = λ i. record {
  grants = grants_are plan w.faces h stands.faces i;
  waiting = λ port. length (stands.accesses.waiting port i);
  statuses = statuses_read plan w h stands i;
}

-- memory is what the history left
completed_is : (plan : Plan) (w : Whole) (h : History) → WholeStandsFor plan w h → (port : PortName)
    (read : MemReadView)
    → completion_from_memory plan w port read ≡ completion_at plan (sealed_packets plan h) h port read
completed_is plan w h stands port read = by port.side
  where
    cause : CauseLaw plan h
    cause = stands.links.ports_stand.cause

    now : IsBehind plan h (sealed_packets plan h)
    now = ([], append-nil (sealed_packets plan h))

    by : (side : Side)
        → completion_from_memory plan w (record { side = side; line = port.line }) read
        ≡ completion_at plan (sealed_packets plan h) h (record { side = side; line = port.line }) read
    by Host = ap (λ (ws : List Write). completion_bytes host_completer (byte_last_written ws) read)
        (stands.written ∙ sym (writes_same plan h cause (sealed_packets plan h) now))
    by Device = λ i. claim_completion plan port.line ((stands.accesses.happened port.line
        ∙ sym (happenings_same plan h cause (sealed_packets plan h) now port.line)) i) read
        (claim_of (statuses_read plan w h stands i port.line) read.span)

reply_is : (plan : Plan) (w : Whole) (h : History) → WholeStandsFor plan w h → (port : PortName)
    → machine_completion plan w port
    ≡ port_completion plan (policy_at plan h) (completion_at plan (sealed_packets plan h) h port) port
    (waiting_reads plan h port)
reply_is plan w h stands port =
    λ i. port_completion plan (policy_is plan w h stands i) (λ read. completed_is plan w h stands port read i) port
    (stands.accesses.waiting port i)

beside_is : (plan : Plan) (w : Whole) (h : History) → WholeStandsFor plan w h → beside_of plan w ≡ beside_at plan h
beside_is plan w h stands = λ i. record {
  t = λ port head stream trusted. t_says plan w.faces h stands.faces port head stream trusted i;
  effects = λ port. effects_under_policy plan (policy_is plan w h stands i) (port_of plan port);
  answer = λ e. answer_says plan w h stands e i;
  reply = λ port. reply_is plan w h stands port i;
  shows = mmio_by_happenings plan (λ link. stands.accesses.happened link i);
  forward = λ link d. forward_of plan link (stands.accesses.carried link d i);
}

-- ---- draws

draw_is : (h : History) (e : Event) (w : Verdict) → draw_after (op_of h) (draws h) e w (stream_draw h)
    ≡ stream_draw ((e, w) ∷ h)
unfolding stream_draw
draw_is h (event.Establish l s loss) w = refl
draw_is h (event.Refresh l s loss) (v.Refreshed a b j) = refl
draw_is h e w = refl

-- ---- memory

written_is : (plan : Plan) (w : Whole) (h : History) (e : Event) (x : Verdict) → WholeStandsFor plan w h
    → x ≡ due plan h e → written_after plan w e x ≡ writes plan ((e, x) ∷ h)
unfolding writes
written_is plan w h e (v.Accepted port unit effects) stands is =
    (λ i. newest_first (admitted_writes plan (grants_are plan w.faces h stands.faces i) port unit
    (unit_is plan w.links h e port unit effects stands.links.ports_stand is i)) (stands.written i))
written_is plan w h e x stands is = stands.written

-- ---- reads that wait, and the memory of devices' interfaces

units_are : (plan : Plan) (w : Whole) (h : History) (e : Event) (x : Verdict) → WholeStandsFor plan w h
    → x ≡ due plan h e → AreEnded plan h (ended_unit plan w e) e x
units_are plan w h e (v.Accepted port unit effects) stands is =
    unit_is plan w.links h e port unit effects stands.links.ports_stand is
units_are plan w h e x stands is = tt

accesses_are : (plan : Plan) (w : Whole) (h : History) (e : Event) (x : Verdict) (faces : Faces)
    → WholeStandsFor plan w h
    → x ≡ due plan h e → FacesStandFor plan faces ((e, x) ∷ h)
    → AccessesStandFor plan (accesses_after plan w.links w.faces faces (ended_unit plan w e) e x w.accesses)
    ((e, x) ∷ h)
accesses_are plan w h e x faces stands is next =
    let law : CauseLaw plan ((e, x) ∷ h) = (is, stands.links.ports_stand.cause) in
    let units = units_are plan w h e x stands is in
    record {
      waiting = λ port. (λ i. waiting_reads_after plan (statuses_read plan w h stands i) (ended_unit plan w e) e x port
          (stands.accesses.waiting port i))
          ∙ waiting_is plan h e x (ended_unit plan w e) law units port;
      floors = floors_are plan w.links h e x w.faces.list faces.list w.accesses.floors stands.links.ports_stand
          stands.faces.faces next.faces stands.accesses.floors;
      happened = λ link. ap (newest_happened
          (happens_by_packets plan (λ l. face_statuses l (sites plan) w.faces.list w.accesses.floors)
          (ended_unit plan w e) e x
          link)) (stands.accesses.happened link)
          ∙ happened_is plan h e x (ended_unit plan w e) w.faces.list w.accesses.floors stands.faces.faces
          stands.accesses.floors units link;
      carried = λ link d. ap (waiting_next (unit_tlps plan (ended_unit plan w e) x) link d e x)
          (stands.accesses.carried link d)
          ∙ carried_is plan h e x (ended_unit plan w e) law units link d;
    }

-- ---- one step

after_stands : (plan : Plan) (w : Whole) (h : History) (e : Event) (x : Verdict) (links : LinkState)
    → WholeStandsFor plan w h → x ≡ due plan h e → PortsStandFor plan links ((e, x) ∷ h)
    → WholeStandsFor plan (whole_after plan w e x links) ((e, x) ∷ h)
after_stands plan w h e x links stands is next =
    let streams = streams_are plan w h stands.links stands.draw in
    let faces : FacesStandFor plan (whole_faces_after plan w e x links) ((e, x) ∷ h) =
    subst (λ (fs : Faces). FacesStandFor plan fs ((e, x) ∷ h))
    (sym (faces_same plan h (ends_read ((e, x) ∷ h)) e x w.faces is)
    ∙ (λ i. faces_after plan (sym streams i) (sym (ends_all plan links ((e, x) ∷ h) next.ports_stand) i) e x w.faces))
    (faces_stand.step plan w.faces h e x stands.faces) in
    record {
      links = next;
      faces = faces;
      draw = (λ i. draw_after (streams i).op (stands.links.draws_is i) e x (stands.draw i))
          ∙ (draw_same plan h e x (stream_draw h) is ∙ draw_is h e x);
      written = written_is plan w h e x stands is;
      accesses = accesses_are plan w h e x (whole_faces_after plan w e x links) stands is faces;
    }

at_step : (plan : Plan) (w : Whole) (h : History) (e : Event) (b : BesidePorts) → b ≡ beside_at plan h
    → WholeStandsFor plan w h → ((step_of plan b w.links e).0 ≡ due plan h e) × WholeStandsFor plan
    (whole_after plan w e (step_of plan b w.links e).0 (step_of plan b w.links e).1)
    ((e, (step_of plan b w.links e).0) ∷ h)
at_step plan w h e b same stands =
    subst (λ (c : BesidePorts). ((step_of plan c w.links e).0 ≡ due plan h e)
    × WholeStandsFor plan (whole_after plan w e (step_of plan c w.links e).0 (step_of plan c w.links e).1)
    ((e, (step_of plan c w.links e).0) ∷ h))
    (sym same)
    (let next = steps plan w.links h e stands.links in (
      next.0,
      after_stands plan w h e (step_of plan (beside_at plan h) w.links e).0
          (step_of plan (beside_at plan h) w.links e).1 stands next.0 next.1,
    ))

pub whole_steps : WholeSteps
whole_steps plan w h e stands = at_step plan w h e (beside_of plan w) (beside_is plan w h stands) stands

pub whole_begins : WholeBegins
unfolding stream_draw writes reads_taken queued_in device_floor link_happenings accepted_tlps_in_list forwarded_count
whole_begins plan = record {
  links = first plan;
  faces = faces_stand.first plan;
  draw = refl;
  written = refl;
  accesses = record { waiting = λ port. refl; floors = refl; happened = λ link. refl; carried = λ link d. refl };
}
