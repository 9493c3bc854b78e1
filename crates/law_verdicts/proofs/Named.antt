-- A verdict is `none` exactly if something that its event names does not exist; and no event gets one that tells of
-- bytes which arrived but those that bring bytes.
use Rattle.spec_links.proofs.Terms.{Bool, Option, arith, false, refl, true, ℕ, ◌≡◌, StreamStatus, Loss, PortView}
use Rattle.spec_links.proofs.Terms.{finished_verdict, may_establish, may_refresh, operation_verdict, ports_at, inl, inr}
use Rattle.spec_links.proofs.Terms.{ap, sym, subst, ◌∙◌, unless_open, draws, op_of, StreamStage, Work, work_of}
use Rattle.spec_links.proofs.Terms.{key_plan}
use Rattle.spec_links.proofs.Terms.{stream_plan, History, Host, KeyPlan, Plan, Event, Verdict, if◌then◌else◌, is_some}
use Rattle.spec_links.proofs.Terms.{history_status, has_link, List, [], ◌∷◌, Some, None, Result, Ok, Err, length, not}
use Rattle.spec_links.proofs.Terms.{unwrap_or, InterfaceEvent, AllByRecursion, PortName, Packet, SealedPacket, CauseLaw}
use Rattle.spec_links.proofs.Terms.{ArrivedBytes, before_tag_of_cut, Access, WaitingRead, waiting_reads}
use Rattle.spec_links.proofs.Terms.{send_due, site_answer, completion_verdict, outgoing_completion}
use Rattle.spec_links.proofs.Terms.{is_before, judged_by, answer_judged, binding_cause, first_that_holds, refusals}
use Rattle.spec_links.proofs.Terms.{lanes_at, live_key, lane_out, Cpl, dump_due, Site, granted_to, site_of_requester}
use Rattle.spec_links.proofs.Terms.{sealed_packets, packet_by_number}
unfoldable use Rattle.spec_links.proofs.Terms.{due, key_due, before_tag, arrival_of_event}
use Rattle.spec_links.specs.Terms.{CutValue, IdePacket, PlainTlp, PacketFault, cut_of, in_one_region}
use Rattle.spec_links.specs.Due.{through_due, ending_due, forward_first, forward_out, first_answered, response_sent}
use Rattle.spec_links.specs.Due.{response_judged, site_response, target_response}
use Rattle.spec_links.specs.Terms.{Claim, ReadArrival, ReadTarget, Tlp, TlpFault, least_draw, site_on}
use Rattle.ide_types.specs.Ports.{host_port, device_port}
use Rattle.spec_links.specs.Hops.{HopTlp, has_hop, leaving_end}
use Rattle.spec_links.specs.Memory.{hop_waiting, queued_reads, shown_if}
use Rattle.spec_links.specs.Guarded.{mmio_if, mmio_shown, link_happenings}
use Rattle.spec_links.specs.Sent.{reads_taken}
use Rattle.spec_links.specs.Plan.{has_port}
use Rattle.spec_links.specs.Ports.{may_send, outgoing_at, sealing_end, goes_through}
use Rattle.spec_links.specs.Packets.{arrival_at}
use Rattle.tlp_layout.specs.Outgoing.{Outgoing, NoTlp, OnNone, OnStream, stream_taken}
use Rattle.tlp_layout.specs.Class.{class_of}
use Rattle.tlp_layout.specs.Tlp.{header}
use Rattle.ide_types.specs.declared.binding.Binding.{Binding}
use Rattle.ide_types.specs.declared.direction.Direction.{Direction}
use Rattle.event_verdicts.specs.declared.verdict.BlockCause.{BlockCause}
use Rattle.spec_keys.proofs.Performs.{is_cut, performed_is}
use Rattle.std.specs.Option.{option_map, option_map_or}
use Rattle.std.specs.Prelude.{nat_le, ◌&&◌, ◌||◌}
use Rattle.script_events.specs.declared.event.Lost.{Lost}
use Rattle.spec_keys.specs.Due.{lost_at, has_refresh, if_secure}
use Rattle.spec_interfaces.specs.Terms.{View, has_register, kept_report, lock_of, start_answer, bind_answer}
use Rattle.spec_interfaces.specs.Terms.{unbind_answer}
use Rattle.spec_interfaces.specs.Sites.{site_at}
use Rattle.spec_interfaces.specs.Views.{managed_view, stream_draw, number_in}
use Rattle.spec_interfaces.specs.Devices.{around_at_site, interface_at}
use Rattle.spec_interfaces.specs.Peers.{has_peer}
use Rattle.spec_interfaces.specs.Due.{unless_lost, host_status, if_unlocked, verdict_of_lock, lock_answer_at, lock_due}
use Rattle.spec_interfaces.specs.Due.{asked_state, if_locked_or_running, portions, report_verdict, if_locked}
use Rattle.spec_interfaces.specs.Due.{if_reported, if_fresh, started_as, interface_due, on_site, verdict_of_bind}
use Rattle.spec_interfaces.specs.Due.{unbound_as, op_status}
unfoldable use Rattle.spec_interfaces.specs.Due.{interface_verdict_due}
use Rattle.law_delivery.proofs.Wholes.{due_arrives}
use Rattle.law_locks.proofs.{drop_first}
use Rattle.law_locks.proofs.Answered.{reader_there}
use Rattle.law_hops.proofs.Queued.{queued_at}
use Rattle.law_hops.proofs.Claimed.{was_claimed}
use Rattle.law_verdicts.specs.Verdicts.{is_none_at_all, has_named, is_named_at, range_named, names_exist, IsNoneExactly}
use Rattle.script_events.specs.declared.event.Event.TheVariants as event
use Rattle.script_events.specs.declared.event.InterfaceEvent.TheVariants as ie
use Rattle.script_events.specs.declared.event.AccessEvent.TheVariants as ae
use Rattle.ide_types.specs.declared.verdict.InterfaceVerdict.TheVariants as iv
use Rattle.event_verdicts.specs.declared.verdict.Operation.TheVariants as op
use Rattle.event_verdicts.specs.declared.verdict.Verdict.TheVariants as v

-- ---- operations on streams

-- it tells of bytes that came to a stream, to none, or through a switch
abbrev pub is_of_arrival : Verdict → Bool
is_of_arrival (v.Unknown port stream) = true
is_of_arrival (v.Insecure port stream) = true
is_of_arrival (v.NotKeyed port stream sub) = true
is_of_arrival (v.Fail port stream sub cause) = true
is_of_arrival (v.Held port unit) = true
is_of_arrival (v.Accepted port unit effects) = true
is_of_arrival (v.Through port) = true
is_of_arrival w = false

-- it answers an event that brings no bytes, and is not `none`
abbrev IsAnswer : Verdict → Type 0
IsAnswer w = (is_none_at_all w || is_of_arrival w) ≡ false

-- it does if the test holds, else it is `none`
abbrev IsAnswerIf : Bool → Verdict → Type 0
IsAnswerIf true w = IsAnswer w
IsAnswerIf false w = w ≡ v.Nothing

answer_if : (b : Bool) (x : Verdict) → IsAnswer x → IsAnswerIf b (if b then x else v.Nothing)
answer_if true x is = is
answer_if false x is = refl

both_if : (b c : Bool) (x : Verdict) → IsAnswerIf c x → IsAnswerIf (b && c) (if b then x else v.Nothing)
both_if true c x is = is
both_if false c x is = refl

if_either : (b : Bool) (x y : Verdict) → IsAnswer x → IsAnswer y → IsAnswer (if b then x else y)
if_either true x y one two = one
if_either false x y one two = two

cut_some : (x : Verdict) → is_cut x ≡ true → IsAnswer x
cut_some x cut = grind arith

done_some : (line stream : ℕ) (w : Work) → IsAnswer (finished_verdict line stream w)
done_some line stream w = grind arith

performed_some : (ports : PortView) (line stream : ℕ) (loss : Option Loss) (w : Work)
    → IsAnswer (operation_verdict ports line stream loss w)
performed_some ports line stream loss w = elim (performed_is ports line stream loss w) [
  | inl ended ↦ subst IsAnswer (sym ended) (done_some line stream w)
  | inr cut ↦ cut_some (operation_verdict ports line stream loss w) cut
]

establish_some : (kp : KeyPlan) (line : ℕ) (q : StreamStage) (next : ℕ) (x : Verdict) → IsAnswer x
    → IsAnswer (may_establish kp line next q x)
establish_some kp line q next x is = grind arith

refresh_some : (kp : KeyPlan) (q : StreamStage) (next : ℕ) (host : StreamStatus) (ports : PortView) (line stream : ℕ)
    (set : Bool) (x : Verdict) → IsAnswer x
    → IsAnswer (may_refresh kp line next q host (unless_open ports line stream set) x)
refresh_some kp q next host ports line stream set x is = grind arith

-- ---- on interfaces

lost_some : (l : Lost) (n : ℕ) → IsAnswer (lost_at l n)
lost_some l n = grind arith

unless_some : (loss : Option Loss) (n : ℕ) (x : Verdict) → IsAnswer x → IsAnswer (unless_lost loss n x)
unless_some None n x is = is
unless_some (Some loss) n x is = if_either (nat_le 1 loss.exchange && nat_le loss.exchange n)
    (lost_at loss.lost loss.exchange) x (lost_some loss.lost loss.exchange) is

lock_some : (plan : Plan) (h : History) (x : Site) (loss : Option Loss)
    → IsAnswer (lock_due x (asked_state plan h x) loss)
lock_some plan h x loss = by (managed_view h x).view (history_status h Host x.link x.plan.stream)
    (lock_answer_at (around_at_site plan h x) x (interface_at plan h x))
  where
    as_some : (answer : Result (List ℕ) ℕ) → IsAnswer (verdict_of_lock x answer)
    as_some answer = grind arith

    by : (view : View) (s : StreamStatus) (answer : Result (List ℕ) ℕ)
        → IsAnswer (if_unlocked view (if_secure s (unless_lost loss 3 (verdict_of_lock x answer))))
    by view s answer = let q = unless_some loss 3 (verdict_of_lock x answer) (as_some answer) in grind arith

report_some : (plan : Plan) (x : Site) (view : View) (loss : Option Loss) (o : Option (List ℕ))
    → IsAnswer (if_locked_or_running view (report_verdict plan x loss o))
report_some plan x view loss None = let q = unless_some loss 1 (v.RefusedDevice 1 4) refl in grind arith
report_some plan x view loss (Some report) =
    let q = unless_some loss (portions plan.portion (length report)) (v.Interface (iv.Reported x.number report)) refl
    in grind arith

start_some : (x : Site) (view : View) (reported : Bool) (s : StreamStatus) (draw needs : ℕ) (loss : Option Loss)
    (answer : Result (Unit {0}) ℕ)
    → IsAnswer (if_locked view
    (if_reported reported (if_secure s (if_fresh draw needs (unless_lost loss 1 (started_as x draw answer))))))
start_some x view reported s draw needs loss answer =
    let q = unless_some loss 1 (started_as x draw answer) (as_some answer) in grind arith
  where
    as_some : (answer : Result (Unit {0}) ℕ) → IsAnswer (started_as x draw answer)
    as_some answer = grind arith

bind_some : (x : Site) (view : View) (s : StreamStatus) (draw needs line : ℕ) (loss : Option Loss) (answer : Result ℕ ℕ)
    → IsAnswer (if_locked_or_running view
    (if_secure s (if_fresh draw needs (unless_lost loss 1 (verdict_of_bind x line answer)))))
bind_some x view s draw needs line loss answer =
    let q = unless_some loss 1 (verdict_of_bind x line answer) (as_some answer) in grind arith
  where
    as_some : (answer : Result ℕ ℕ) → IsAnswer (verdict_of_bind x line answer)
    as_some answer = grind arith

unbind_some : (x : Site) (view : View) (line : ℕ) (loss : Option Loss) (answer : Result (Unit {0}) ℕ)
    → IsAnswer (if_locked_or_running view (unless_lost loss 1 (unbound_as x line answer)))
unbind_some x view line loss answer =
    let q = unless_some loss 1 (unbound_as x line answer) (as_some answer) in grind arith
  where
    as_some : (answer : Result (Unit {0}) ℕ) → IsAnswer (unbound_as x line answer)
    as_some answer = grind arith

own_exact : (plan : Plan) (h : History) (x : Site) (e : InterfaceEvent) (i : ℕ) → number_in e ≡ Some i
    → IsAnswerIf (has_named plan e x) (interface_due plan h x e)
own_exact plan h x (ie.Lock i loss) n is = lock_some plan h x loss
own_exact plan h x (ie.Report i loss) n is = report_some plan x (managed_view h x).view loss
    (option_map (kept_report x.plan) (lock_of (interface_at plan h x).state))
own_exact plan h x (ie.Start i loss) n is =
    let m = managed_view h x in
    let draw = stream_draw h x.link x.plan.stream in
    start_some x m.view m.reported (host_status h x) draw m.needs loss
    (start_answer (interface_at plan h x).state m.nonce)
own_exact plan h x (ie.Halt i loss) n is = unless_some loss 1 _ refl
own_exact plan h x (ie.State i loss) n is = unless_some loss 1 _ refl
own_exact plan h x (ie.Bind i line stream loss) n is =
    answer_if (has_peer plan.peers x.link line stream) _
    (bind_some x (managed_view h x).view (op_status (op_of h line stream)) (stream_draw h line stream)
    (managed_view h x).needs
    line loss (bind_answer (interface_at plan h x) stream ((around_at_site plan h x).live stream)))
own_exact plan h x (ie.Unbind i line stream loss) n is = answer_if (has_peer plan.peers x.link line stream) _
    (unbind_some x (managed_view h x).view line loss (unbind_answer (interface_at plan h x) stream))
own_exact plan h x (ie.View i) n is = refl
own_exact plan h x (ie.Write i register value) n is = answer_if (has_register x.plan register) _ refl
own_exact plan h x (ie.Flr i) n is = refl
own_exact plan h x (ie.Firmware i) n is = refl
own_exact plan h x (ie.Memory at len) n is = absurd cc

site_exact : (plan : Plan) (h : History) (e : InterfaceEvent) (i : ℕ) → number_in e ≡ Some i
    → IsAnswerIf (is_named_at plan e (Some i)) (on_site (λ x. interface_due plan h x e) (site_at plan i))
site_exact plan h e i is = by (site_at plan i)
  where
    by : (o : Option Site) → IsAnswerIf (option_map_or (has_named plan e) o false)
        (on_site (λ x. interface_due plan h x e) o)
    by None = refl
    by (Some x) = own_exact plan h x e i is

shown_exact : (b : Bool) (bytes : List ℕ) → IsAnswerIf b (shown_if b bytes)
shown_exact true bytes = refl
shown_exact false bytes = refl

-- ---- on ranges of interfaces

mmio_exact : (b : Bool) (bytes : List ℕ) → IsAnswerIf b (mmio_if b bytes)
mmio_exact true bytes = refl
mmio_exact false bytes = refl

range_exact : (plan : Plan) (h : History) (o : Option Site) (bar offset len : ℕ)
    → IsAnswerIf (option_map_or (range_named bar offset len) o false)
    (mmio_shown plan (link_happenings plan h) o bar offset len)
range_exact plan h None bar offset len = refl
range_exact plan h (Some x) bar offset len = mmio_exact (range_named bar offset len x) _

-- ---- sends, answers and forwards

first_some : (xs : List (Bool × Verdict)) (last : Verdict) → AllByRecursion (λ (x : Bool × Verdict). IsAnswer x.1) xs
    → IsAnswer last → IsAnswer (unwrap_or (first_that_holds xs) last)
first_some [] last all ends = ends
first_some ((true, w) ∷ xs) last all ends = all.0
first_some ((false, w) ∷ xs) last all ends = first_some xs last all.1 ends

send_some : (plan : Plan) (h : History) (port : PortName) (o : Outgoing) (more trusted : Bool)
    → IsAnswer (send_due plan h port o more trusted)
send_some plan h port (NoTlp f) more trusted = refl
send_some plan h port OnNone more trusted = refl
send_some plan h port (OnStream t stream) more trusted =
    first_some (refusals (lanes_at plan h port stream) (class_of (header t))) _
    (refl, (refl, (refl, (refl, (refl, (refl, (refl, (refl, tt)))))))) refl

forward_some : (plan : Plan) (h : History) (link : ℕ) (d : Direction) (xs : List HopTlp)
    → IsAnswer (forward_first plan h link d xs)
forward_some plan h link d [] = refl
forward_some plan h link d (x ∷ xs) = send_some plan h (leaving_end link d) (forward_out plan h link d) false x.t

judged_some : (plan : Plan) (h : History) (port : PortName) (interface : ℕ) (bound : Binding) (o : Option BlockCause)
    (out : Outgoing) → IsAnswer (answer_judged plan h port out (judged_by interface bound o))
judged_some plan h port interface bound (Some c) out = refl
judged_some plan h port interface bound None out =
    if_either (is_before (live_key h port (lane_out port bound.stream Cpl)) bound.floor) _ _ refl
    (send_some plan h port out false true)

answer_by_some : (plan : Plan) (h : History) (port : PortName) (interface draw : ℕ) (o : Option Binding)
    (out : Outgoing) → IsAnswer (completion_verdict plan h port interface draw o out)
answer_by_some plan h port interface draw None out = refl
answer_by_some plan h port interface draw (Some bound) out =
    judged_some plan h port interface bound (binding_cause bound (stream_taken out) draw) out

answer_of_if : (plan : Plan) (h : History) (port : PortName) (draw : ℕ) (o : Option Site) (out : Outgoing)
    → IsAnswerIf (is_some o) (site_answer plan h port draw o out)
answer_of_if plan h port draw None out = refl
answer_of_if plan h port draw (Some x) out = answer_by_some plan h port x.number draw (granted_to h (Some x)) out

-- none waits, or the oldest is of an interface of the link
abbrev is_known : Plan → ℕ → List WaitingRead → Bool
is_known plan link [] = true
is_known plan link (r ∷ rs) = is_some (site_of_requester plan link r.read.requester)

answer_first_if : (plan : Plan) (h : History) (link : ℕ) (rs : List WaitingRead)
    → IsAnswerIf (is_known plan link rs)
    (first_answered (λ (r : WaitingRead). site_answer plan h (host_port link) r.came.draw
    (site_of_requester plan link r.read.requester) (outgoing_completion plan h link)) link rs)
answer_first_if plan h link [] = refl
answer_first_if plan h link (r ∷ rs) =
    answer_of_if plan h (host_port link) r.came.draw (site_of_requester plan link r.read.requester)
    (outgoing_completion plan h link)

-- ---- responses

sent_some : (plan : Plan) (h : History) (came : ReadArrival) (r : Result Tlp TlpFault)
    → IsAnswer (response_sent plan h came r)
sent_some plan h came (Err f) = refl
sent_some plan h came (Ok t) =
    first_some (refusals (lanes_at plan h came.end came.stream) (class_of (header t))) _
    (refl, (refl, (refl, (refl, (refl, (refl, (refl, (refl, tt)))))))) refl

response_some : (plan : Plan) (h : History) (came : ReadArrival) (interface : ℕ) (r : Result Tlp TlpFault)
    (o : Result Claim BlockCause) → IsAnswer (response_judged plan h came interface r o)
response_some plan h came interface r (Err c) = refl
response_some plan h came interface r (Ok c) =
    if_either (is_before (live_key h came.end (lane_out came.end came.stream Cpl)) (least_draw c came)) _ _ refl
    (sent_some plan h came r)

site_response_if : (plan : Plan) (h : History) (link : ℕ) (r : WaitingRead) (target : ReadTarget) (o : Option Site)
    → IsAnswerIf (is_some o) (site_response plan h link r target o)
site_response_if plan h link r target None = refl
site_response_if plan h link r target (Some x) = response_some plan h r.came x.number _ _

abbrev has_target : Plan → ℕ → Option ReadTarget → Bool
has_target plan link None = false
has_target plan link (Some target) = is_some (site_on plan link target.interface)

target_response_if : (plan : Plan) (h : History) (link : ℕ) (r : WaitingRead) (o : Option ReadTarget)
    → IsAnswerIf (has_target plan link o) (target_response plan h link r o)
target_response_if plan h link r None = refl
target_response_if plan h link r (Some target) =
    site_response_if plan h link r target (site_on plan link target.interface)

-- none waits, or the oldest is of an interface of the link
abbrev is_targeted : Plan → ℕ → List WaitingRead → Bool
is_targeted plan link [] = true
is_targeted plan link (r ∷ rs) = has_target plan link r.target

response_first_if : (plan : Plan) (h : History) (link : ℕ) (rs : List WaitingRead)
    → IsAnswerIf (is_targeted plan link rs)
    (first_answered (λ (r : WaitingRead). target_response plan h link r r.target) link rs)
response_first_if plan h link [] = refl
response_first_if plan h link (r ∷ rs) = target_response_if plan h link r r.target

-- ---- events that bring no bytes

dump_exact : (n : ℕ) (o : Option (SealedPacket × Packet)) → IsAnswerIf (is_some o) (dump_due n o)
dump_exact n None = refl
dump_exact n (Some x) = refl

-- what the event names exists; and of an answer and a response, if a read waits, so does the interface of the oldest
abbrev is_answered : Plan → History → Event → Bool
is_answered plan h (event.Access (ae.Answer link)) = has_link plan link
    && is_known plan link (waiting_reads plan h (host_port link))
is_answered plan h (event.Access (ae.Respond link)) = has_link plan link
    && is_targeted plan link (waiting_reads plan h (device_port link))
is_answered plan h e = names_exist plan h e

no_port : (b : Bool) (a : ArrivedBytes) → (if b then Some a else None) ≡ None → IsAnswerIf b v.Nothing
no_port true a is = absurd cc
no_port false a is = refl

answered : (plan : Plan) (h : History) (e : Event) → arrival_of_event plan h e ≡ None
    → IsAnswerIf (is_answered plan h e) (due plan h e)
unfolding due key_due interface_verdict_due arrival_of_event
answered plan h (event.Establish line stream lose) none =
    answer_if (is_some (stream_plan plan line stream)) _
    (establish_some (key_plan plan) line (op_of h line stream) (draws h) _
    (performed_some (ports_at h) line stream lose (work_of op.Establish (op_of h line stream) (draws h))))
answered plan h (event.Refresh line stream lose) none =
    answer_if (has_refresh (key_plan plan) line stream) _
    (refresh_some (key_plan plan) (op_of h line stream) (draws h) (history_status h Host line stream) (ports_at h) line
    stream (work_of op.Refresh (op_of h line stream) (draws h)).set _ (performed_some (ports_at h) line stream lose
    (work_of op.Refresh (op_of h line stream) (draws h))))
answered plan h (event.Stop line stream lose) none = answer_if (is_some (stream_plan plan line stream)) _
    (performed_some (ports_at h) line stream lose (work_of op.Stop (op_of h line stream) (draws h)))
answered plan h (event.Status line stream) none = answer_if (is_some (stream_plan plan line stream)) _ refl
answered plan h (event.Reset link ends) none = answer_if (has_link plan link) _ refl
answered plan h (event.Interface (ie.Memory at len)) none = shown_exact (in_one_region plan.memory at len) _
answered plan h (event.Interface (ie.Lock i loss)) none = site_exact plan h (ie.Lock i loss) i refl
answered plan h (event.Interface (ie.Report i loss)) none = site_exact plan h (ie.Report i loss) i refl
answered plan h (event.Interface (ie.Start i loss)) none = site_exact plan h (ie.Start i loss) i refl
answered plan h (event.Interface (ie.Halt i loss)) none = site_exact plan h (ie.Halt i loss) i refl
answered plan h (event.Interface (ie.State i loss)) none = site_exact plan h (ie.State i loss) i refl
answered plan h (event.Interface (ie.Bind i line stream loss)) none = site_exact plan h (ie.Bind i line stream loss) i
    refl
answered plan h (event.Interface (ie.Unbind i line stream loss)) none = site_exact plan h (ie.Unbind i line stream loss)
    i refl
answered plan h (event.Interface (ie.View i)) none = site_exact plan h (ie.View i) i refl
answered plan h (event.Interface (ie.Write i register value)) none = site_exact plan h (ie.Write i register value) i
    refl
answered plan h (event.Interface (ie.Flr i)) none = site_exact plan h (ie.Flr i) i refl
answered plan h (event.Interface (ie.Firmware i)) none = site_exact plan h (ie.Firmware i) i refl
answered plan h (event.Access (ae.Answer link)) none =
    both_if (has_link plan link) (is_known plan link (waiting_reads plan h (host_port link))) _
    (answer_first_if plan h link (waiting_reads plan h (host_port link)))
answered plan h (event.Access (ae.Respond link)) none =
    both_if (has_link plan link) (is_targeted plan link (waiting_reads plan h (device_port link))) _
    (response_first_if plan h link (waiting_reads plan h (device_port link)))
answered plan h (event.Access (ae.Mmio i bar offset len)) none = range_exact plan h (site_at plan i) bar offset len
answered plan h (event.Forward link d) none =
    answer_if (has_hop plan link) _ (forward_some plan h link d (hop_waiting plan h link d))
answered plan h (event.Send port bytes more trusted) none =
    answer_if (may_send plan port) _
    (send_some plan h (sealing_end plan port bytes) (outgoing_at plan (sealing_end plan port bytes) bytes) more
    trusted)
answered plan h (event.Dump n) none = dump_exact n (packet_by_number (sealed_packets plan h) n)
answered plan h (event.Pass n) none = rw none refl
answered plan h (event.Alter n at mask) none = rw none refl
answered plan h (event.Cut n len) none = rw none refl
answered plan h (event.Arrive port bytes) none =
    rw none (no_port (has_port plan port) (arrival_at plan port bytes) none)
answered plan h event.Absent none = refl

-- so no such event gets a verdict of bytes that arrived
pub others : (plan : Plan) (h : History) (e : Event) → arrival_of_event plan h e ≡ None
    → is_of_arrival (due plan h e) ≡ false
others plan h e none = by (is_answered plan h e) (due plan h e) (answered plan h e none)
  where
    by : (b : Bool) (w : Verdict) → IsAnswerIf b w → is_of_arrival w ≡ false
    by true w is = grind (arith, is)
    by false w is = ap is_of_arrival is

-- ---- events that bring bytes

packet_not : (plan : Plan) (h : History) (port : PortName) (p : Packet)
    → v.Nothing ≡ ending_due plan h port (before_tag_of_cut plan h port (Ok (IdePacket p))) → ⊥
packet_not plan h port p is = grind arith

packet_some : (plan : Plan) (h : History) (port : PortName) (p : Packet)
    → is_none_at_all (ending_due plan h port (before_tag_of_cut plan h port (Ok (IdePacket p)))) ≡ false
packet_some plan h port p = by (ending_due plan h port (before_tag_of_cut plan h port (Ok (IdePacket p)))) refl
  where
    by : (w : Verdict) → w ≡ ending_due plan h port (before_tag_of_cut plan h port (Ok (IdePacket p)))
        → is_none_at_all w ≡ false
    by v.Nothing is = absurd (packet_not plan h port p is)
    by w is = refl

cut_value_some : (plan : Plan) (h : History) (port : PortName) (r : Result CutValue PacketFault)
    → is_none_at_all (ending_due plan h port (before_tag_of_cut plan h port r)) ≡ false
cut_value_some plan h port (Err f) = refl
cut_value_some plan h port (Ok PlainTlp) = refl
cut_value_some plan h port (Ok (IdePacket p)) = packet_some plan h port p

arrival_some : (plan : Plan) (h : History) (a : ArrivedBytes)
    → is_none_at_all (ending_due plan h a.port (before_tag plan h a)) ≡ false
unfolding before_tag
arrival_some plan h a = by (goes_through plan a.port a.bytes)
  where
    by : (b : Bool) → is_none_at_all (ending_due plan h a.port
        (if b then Err (through_due plan a.port) else before_tag_of_cut plan h a.port (cut_of a.bytes))) ≡ false
    by true = refl
    by false = cut_value_some plan h a.port (cut_of a.bytes)

port_some : (b : Bool) (a c : ArrivedBytes) → (if b then Some a else None) ≡ Some c → b ≡ true
port_some true a c is = refl
port_some false a c is = absurd cc

names_bytes : (plan : Plan) (h : History) (e : Event) (a : ArrivedBytes) → arrival_of_event plan h e ≡ Some a
    → names_exist plan h e ≡ true
unfolding arrival_of_event
names_bytes plan h (event.Pass n) a is = ap is_some is
names_bytes plan h (event.Alter n at mask) a is = ap is_some is
names_bytes plan h (event.Cut n len) a is = ap is_some is
names_bytes plan h (event.Arrive port bytes) a is = port_some (has_port plan port) (arrival_at plan port bytes) a is
names_bytes plan h e a is = absurd cc

-- ---- all events

-- the requester of the oldest read is an interface of the link
reads_known : (plan : Plan) (h : History) (link : ℕ) → CauseLaw plan h
    → is_known plan link (waiting_reads plan h (host_port link)) ≡ true
reads_known plan h link cause = by (waiting_reads plan h (host_port link)) refl
  where
    port : PortName
    port = host_port link

    by : (rs : List WaitingRead) → waiting_reads plan h (host_port link) ≡ rs → is_known plan link rs ≡ true
    by [] is = refl
    by (r ∷ rs) is = reader_there plan h cause link (reads_taken h port) r
        (drop_first (reads_taken h port) (queued_reads plan h port) r rs is)

-- the oldest read of a device is of an interface of the link
reads_targeted : (plan : Plan) (h : History) (link : ℕ) → CauseLaw plan h
    → is_targeted plan link (waiting_reads plan h (device_port link)) ≡ true
reads_targeted plan h link cause = by (waiting_reads plan h (device_port link)) refl
  where
    port : PortName
    port = device_port link

    by : (rs : List WaitingRead) → waiting_reads plan h (device_port link) ≡ rs → is_targeted plan link rs ≡ true
    by [] is = refl
    by (r ∷ rs) is =
        let q = queued_at plan h cause port (reads_taken h port) r
        (drop_first (reads_taken h port) (queued_reads plan h port) r rs is) in
        let was = was_claimed plan h link r q in
        ap (has_target plan link) was.target ∙ ap is_some was.there

all_answered : (plan : Plan) (h : History) (e : Event) → CauseLaw plan h → is_answered plan h e ≡ names_exist plan h e
all_answered plan h (event.Access (ae.Answer link)) cause =
    let known = reads_known plan h link cause in grind (arith, known)
all_answered plan h (event.Access (ae.Respond link)) cause =
    let known = reads_targeted plan h link cause in grind (arith, known)
all_answered plan h e cause = refl

due_exact : (plan : Plan) (h : History) (e : Event) → CauseLaw plan h
    → is_none_at_all (due plan h e) ≡ not (names_exist plan h e)
due_exact plan h e cause = by (arrival_of_event plan h e) refl
  where
    exactly : (b : Bool) (w : Verdict) → IsAnswerIf b w → is_none_at_all w ≡ not b
    exactly true w is = grind (arith, is)
    exactly false w is = ap is_none_at_all is

    by : (o : Option ArrivedBytes) → arrival_of_event plan h e ≡ o
        → is_none_at_all (due plan h e) ≡ not (names_exist plan h e)
    by None none = exactly (is_answered plan h e) (due plan h e) (answered plan h e none)
        ∙ ap not (all_answered plan h e cause)
    by (Some a) came = ap is_none_at_all (due_arrives plan h e a came)
        ∙ (arrival_some plan h a ∙ ap not (sym (names_bytes plan h e a came)))

pub none_exactly : (plan : Plan) (h : History) (e : Event) (w : Verdict) → CauseLaw plan ((e, w) ∷ h)
    → IsNoneExactly plan h e w
none_exactly plan h e w cause = ap is_none_at_all cause.0 ∙ due_exact plan h e cause.1
