-- What the interfaces read of the ports is what the history says of streams, also of those that the plan does not have.
use Rattle.std.proofs.Common.{◌≡◌, inl, inr, ℕ, ◌∷◌, ◌&&◌, Bool, true, false, [], None, refl, sym, ap, ◌∙◌, arith}
use Rattle.std.proofs.Common.{if◌then◌else◌, Option, Some, List, ◌==◌}
use Rattle.std.proofs.lemmas.Bool.{cases_Bool}
use Rattle.std.specs.Prelude.{is_some, nat_lt, slice_get, suc, ◌+◌, ◌-◌, ◌≤◌, ◌||◌}
use Rattle.ide_types.specs.declared.port.Side.{Side}
use Rattle.ide_types.specs.declared.port.Side.TheVariants.{Host, Device}
use Rattle.ide_types.specs.declared.sub.SubKind.TheVariants.{Pr, Npr, Cpl}
use Rattle.ide_types.specs.declared.plan.Plan.{Plan}
use Rattle.spec_keys.specs.Places.{KeyPlace, key_place_at}
use Rattle.spec_keys.specs.Keys.{Keys}
use Rattle.spec_keys.specs.History.{History, op_of, place_keys, keeps_live, has_key, has_all, history_status, draws}
use Rattle.ide_types.specs.Ports.{keyed_status, host_port, device_port}
unfoldable use Rattle.spec_keys.specs.History.{failed_there}
use Rattle.spec_links.specs.Plan.{stream_plan}
use Rattle.spec_links.specs.Cause.{CauseLaw}
use Rattle.machine_operations.specs.{LinkState, find_op, port_at, machine_status, status_if_planned}
use Rattle.machine_operations.specs.{StreamsAndPacketsStand, state_due_if_planned, PortsStandFor}
use Rattle.machine_operations.proofs.{unplanned_keys}
use Rattle.spec_keys.specs.Operations.{StreamStage, Idle, Reach, reach_of, work_of}
use Rattle.spec_keys.specs.Terms.{Operation}
unfoldable use Rattle.spec_keys.specs.Due.{key_due}
unfoldable use Rattle.spec_links.specs.Due.{due}
use Rattle.machine_whole.specs.Interfaces.{Streams, Face, Faces, with_each, next_face, faces_after, EndsRead}
use Rattle.machine_whole.specs.Interfaces.{asked_state_of_face, asked_due_of, answer_to, interface_answer, find_face}
use Rattle.spec_interfaces.specs.Sites.{Site, sites}
use Rattle.spec_interfaces.specs.Views.{Managed, managed_after, view_broken, stream_draw, is_bind_asked, number_in}
use Rattle.script_events.specs.declared.event.Event.{Event}
use Rattle.script_events.specs.declared.event.Event.TheVariants as event
use Rattle.event_verdicts.specs.declared.verdict.Operation.TheVariants as op
use Rattle.event_verdicts.specs.declared.verdict.Verdict.{Verdict}
use Rattle.event_verdicts.specs.declared.verdict.Verdict.TheVariants as v
use Rattle.machine_whole.specs.Machine.{draw_after, Whole, op_or_idle, machine_secure, live_if, live_draw_at_end}
use Rattle.machine_whole.specs.Machine.{ends_in, whole_streams}
use Rattle.machine_operations.proofs.Statuses.{status_is}
use Rattle.machine_whole.specs.InterfacesStand.{streams_at, secure_of, ends_read}
use Rattle.spec_interfaces.specs.Devices.{is_secure}
use Rattle.machine_whole.proofs.Accesses.{posted_draw_is}
use Rattle.ide_types.specs.declared.port.PortName.{PortName}
use Rattle.ide_types.specs.Lines.{peer_line}
use Rattle.ide_types.specs.Ends.{peer_has_id}
use Rattle.ide_types.specs.declared.plan.PeerPlan.{PeerPlan}
use Rattle.spec_interfaces.specs.Peers.{has_peer, live_at}
unfoldable use Rattle.spec_interfaces.specs.Peers.{peer_end}
use Rattle.spec_interfaces.specs.Due.{asked_due, bind_due}
use Rattle.spec_links.proofs.Ends.{stream_is_there}
use Rattle.script_events.specs.declared.event.InterfaceEvent.{InterfaceEvent}
use Rattle.script_events.specs.declared.event.InterfaceEvent.TheVariants as ie
use Rattle.std.specs.Option.{option_map_or}
use Rattle.std.proofs.lemmas.Bool.Decides.{nat_tests}

-- ---- a stream that the plan does not have

not_keyed : (plan : Plan) (h : History) → CauseLaw plan h → (p : KeyPlace) → is_some (stream_plan plan p.line p.stream)
    ≡ false → keeps_live (place_keys h p) ≡ false
not_keyed plan h cause p none = ap (λ (ks : Keys). keeps_live ks) (unplanned_keys plan h cause p none)

no_key_there : (plan : Plan) (h : History) → CauseLaw plan h → (side : Side) (line stream : ℕ)
    → is_some (stream_plan plan line stream) ≡ false → has_key (place_keys h) side line stream ≡ false
no_key_there plan h cause side line stream none =
    let at : (p : KeyPlace) → is_some (stream_plan plan p.line p.stream) ≡ false → keeps_live (place_keys h p)
    ≡ false = not_keyed plan h cause in
    rw (
      at (key_place_at side line stream false Pr) none,
      at (key_place_at side line stream false Npr) none,
      at (key_place_at side line stream false Cpl) none,
      at (key_place_at side line stream true Pr) none,
      at (key_place_at side line stream true Npr) none,
      at (key_place_at side line stream true Cpl) none,
    ) refl

not_all_there : (plan : Plan) (h : History) → CauseLaw plan h → (side : Side) (line stream : ℕ)
    → is_some (stream_plan plan line stream) ≡ false → has_all (place_keys h) side line stream ≡ false
not_all_there plan h cause side line stream none = rw
    (not_keyed plan h cause (key_place_at side line stream false Pr) none)
    refl

both_false : (a b : Bool) → b ≡ false → (a && b) ≡ false
both_false a b e = grind arith

not_failed : (plan : Plan) (h : History) → CauseLaw plan h → (side : Side) (line stream : ℕ)
    → is_some (stream_plan plan line stream) ≡ false → failed_there h side line stream ≡ false
unfolding failed_there
not_failed plan [] cause side line stream none = refl
not_failed plan ((e, w) ∷ h) cause side line stream none = both_false _
    (has_key (place_keys ((e, w) ∷ h)) side line stream) (no_key_there plan ((e, w) ∷ h) cause side line stream none)

unplanned_status : (plan : Plan) (h : History) → CauseLaw plan h → (side : Side) (line stream : ℕ)
    → is_some (stream_plan plan line stream) ≡ false → history_status h side line stream
    ≡ keyed_status false false false
unplanned_status plan h cause side line stream none =
    λ i. keyed_status (not_failed plan h cause side line stream none i)
    (no_key_there plan h cause side line stream none i)
    (not_all_there plan h cause side line stream none i)

-- ---- all streams

pub status_all : (plan : Plan) (st : LinkState) (h : History) → StreamsAndPacketsStand plan st h
    → (side : Side) (line stream : ℕ) → machine_status plan st side line stream ≡ history_status h side line stream
status_all plan st h stands side line stream = elim (cases_Bool (is_some (stream_plan plan line stream))) [
  | inl known ↦ status_is plan st h stands side line stream known
  | inr none ↦
      let here : state_due_if_planned plan h (port_at side line) stream ≡ None = rw none refl in
      ap status_if_planned (stands.streams (port_at side line) stream ∙ here) ∙ sym
      (unplanned_status plan h stands.cause side line stream none)
]

-- what the manager knows of the streams that the plan has; of others nothing is asked
abbrev pub seen_ops : Plan → History → ℕ → ℕ → StreamStage
seen_ops plan h line stream = if is_some (stream_plan plan line stream) then op_of h line stream else Idle

abbrev pub seen_at : Plan → History → Streams
seen_at plan h = record (streams_at h) { op = seen_ops plan h }

ops_all : (plan : Plan) (st : LinkState) (h : History) → PortsStandFor plan st h → (line stream : ℕ)
    → op_or_idle (find_op plan st line stream) ≡ seen_ops plan h line stream
ops_all plan st h stands line stream = ap op_or_idle (stands.ops_is line stream)
    ∙ by (is_some (stream_plan plan line stream))
  where
    by : (b : Bool) → op_or_idle (if b then Some (op_of h line stream) else None)
        ≡ (if b then op_of h line stream else Idle)
    by true = refl
    by false = refl

pub secure_all : (plan : Plan) (st : LinkState) (h : History) → StreamsAndPacketsStand plan st h
    → machine_secure plan st ≡ secure_of h
secure_all plan st h stands = λ i line stream. is_secure (status_all plan st h stands Device line stream i)

live_all : (plan : Plan) (st : LinkState) (h : History) → StreamsAndPacketsStand plan st h
    → (end : PortName) (stream : ℕ) → live_draw_at_end plan st end stream ≡ live_at h end stream
live_all plan st h stands end stream = λ i. live_if
    (is_secure (status_all plan st h stands end.side end.line stream i)) (posted_draw_is plan st h stands end stream i)

pub ends_all : (plan : Plan) (st : LinkState) (h : History) → StreamsAndPacketsStand plan st h → ends_in plan st
    ≡ ends_read h
ends_all plan st h stands = λ i. record {
  secure = secure_all plan st h stands i;
  live = λ end stream. live_all plan st h stands end stream i;
}

pub streams_are : (plan : Plan) (w : Whole) (h : History) → PortsStandFor plan w.links h → w.draw ≡ stream_draw h
    → whole_streams plan w ≡ seen_at plan h
streams_are plan w h stands draw = λ i. record {
  secure = secure_all plan w.links h stands.ports_stand i;
  live = λ end stream. live_all plan w.links h stands.ports_stand end stream i;
  host = λ line stream. status_all plan w.links h stands.ports_stand Host line stream i;
  draw = draw i;
  op = λ line stream. ops_all plan w.links h stands line stream i;
  drawn = stands.draws_is i;
}

-- ---- an operation on a stream that the plan does not have comes to no exchange

comes_none : (has : Bool) (o : Operation) (x y : Verdict) → x ≡ (if has then y else v.Nothing) → has ≡ false
    → reach_of o x ≡ None
comes_none true o x y is none = absurd cc
comes_none false o x y is none = ap (reach_of o) is

begins_same : (planned : Bool) (o : Operation) (q : StreamStage) (next : ℕ) (r : Option Reach)
    → (planned ≡ false → r ≡ None) → ((work_of o (if planned then q else Idle) next).begins && is_some r)
    ≡ ((work_of o q next).begins && is_some r)
begins_same true o q next r none = refl
begins_same false o q next r none = rw (none refl)
    (none_and (work_of o Idle next).begins ∙ sym (none_and (work_of o q next).begins))
  where
    none_and : (b : Bool) → (b && false) ≡ false
    none_and b = grind arith

managed_same : (plan : Plan) (h : History) (e : Event) (w : Verdict) → w ≡ due plan h e → (x : Site) (m : Managed)
    → managed_after (seen_ops plan h) (draws h) x e w m ≡ managed_after (op_of h) (draws h) x e w m
unfolding due key_due
managed_same plan h (event.Stop line stream loss) w is x m =
    ap (λ (b : Bool). if ((line == x.link) && (stream == x.plan.stream) && b)
    || (is_bind_asked line m.asked && is_some (reach_of op.Stop w))
    then record m { view = view_broken m.view } else m)
    (begins_same (is_some (stream_plan plan line stream)) op.Stop (op_of h line stream) (draws h) (reach_of op.Stop w)
    (comes_none (is_some (stream_plan plan line stream)) op.Stop w _ is))
managed_same plan h (event.Interface e) w is x m = refl
managed_same plan h (event.Reset link ends) (v.Reset l) is x m = refl
managed_same plan h e w is x m = refl

each_same : (plan : Plan) (h : History) (after : EndsRead) (used : ℕ → ℕ) (e : Event) (w : Verdict)
    → w ≡ due plan h e → (xs : List Site) (fs : List Face)
    → with_each (next_face plan (seen_at plan h) after used e w) xs fs
    ≡ with_each (next_face plan (streams_at h) after used e w) xs fs
each_same plan h after used e w is [] fs = refl
each_same plan h after used e w is (x ∷ xs) [] = refl
each_same plan h after used e w is (x ∷ xs) (f ∷ fs) =
    let first = managed_same plan h e w is x f.managed in
    let rest = each_same plan h after used e w is xs fs in
    λ i. record {
      tdi = (next_face plan (streams_at h) after used e w x f).tdi;
      managed = first i;
    } ∷ rest i

pub faces_same : (plan : Plan) (h : History) (after : EndsRead) (e : Event) (w : Verdict) (fs : Faces)
    → w ≡ due plan h e → faces_after plan (seen_at plan h) after e w fs ≡ faces_after plan (streams_at h) after e w fs
faces_same plan h after e w fs is =
    let list = each_same plan h after fs.used e w is (sites plan) fs.list in
    λ i. record { list = list i; used = (faces_after plan (streams_at h) after e w fs).used }

-- ---- what is asked of an interface

-- an end that is there is of the line
abbrev is_of_line : Option PortName → ℕ → Bool
is_of_line o line = option_map_or (λ (e : PortName). e.line == line) o false

-- a stream between devices that ends at a link is one of the plan's, on its line
peer_known : (ps : List PeerPlan) (n link line id : ℕ) → is_of_line (peer_end ps n link id) line ≡ true
    → (24 + n ≤ line) × (peer_has_id (slice_get ps (line - 24 - n)) id ≡ true)
unfolding peer_end
peer_known [] n link line id is = absurd cc
peer_known (p ∷ ps) n link line id is =
    by ((p.id == id) && (p.near == link)) ((p.id == id) && (p.far == link)) refl refl
    (peer_known ps (n + 1) link line id) is
  where
    here : (24 + n == line) ≡ true → (p.id == id) ≡ true
        → (24 + n ≤ line) × (peer_has_id (slice_get (p ∷ ps) (line - 24 - n)) id ≡ true)
    here at same =
        let le : 24 + n ≤ line = grind (arith, nat_tests, at) in
        let first : line - 24 - n ≡ 0 = grind (arith, nat_tests, at) in
        (le, rw first same)

    first_of : (a b : Bool) → (a && b) ≡ true → a ≡ true
    first_of a b is = grind arith

    by : (near far : Bool) → ((p.id == id) && (p.near == link)) ≡ near → ((p.id == id) && (p.far == link)) ≡ far
        → (is_of_line (peer_end ps (n + 1) link id) line ≡ true
        → (24 + (n + 1) ≤ line) × (peer_has_id (slice_get ps (line - 24 - (n + 1))) id ≡ true))
        → is_of_line (if near then Some (host_port (peer_line n))
        else if far then Some (device_port (peer_line n)) else peer_end ps (n + 1) link id) line ≡ true
        → (24 + n ≤ line) × (peer_has_id (slice_get (p ∷ ps) (line - 24 - n)) id ≡ true)
    by true far near_is far_is more is = here is (first_of (p.id == id) (p.near == link) near_is)
    by false true near_is far_is more is = here is (first_of (p.id == id) (p.far == link) far_is)
    by false false near_is far_is more is =
        let rest = more is in
        let le = rest.0 in
        let next : line - 24 - n ≡ suc (line - 24 - (n + 1)) = omega (arith, le) in
        (omega (arith, le), rw next rest.1)

pub peer_planned : (plan : Plan) (link line stream : ℕ) → has_peer plan.peers link line stream ≡ true
    → is_some (stream_plan plan line stream) ≡ true
peer_planned plan link line stream is =
    let known = peer_known plan.peers 0 link line stream is in
    let le = known.0 in
    let place : line - 24 - 0 ≡ line - 24 = omega arith in
    let a : nat_lt line 8 ≡ false = grind (arith, nat_tests, le) in
    let b : nat_lt line 16 ≡ false = grind (arith, nat_tests, le) in
    let c : nat_lt line 24 ≡ false = grind (arith, nat_tests, le) in
    stream_is_there plan line stream
    ∙ rw (a, b, c) (ap (λ (k : ℕ). peer_has_id (slice_get plan.peers k) stream) (sym place) ∙ known.1)

-- so what is due of an operation on an interface reads of the manager's streams only those that the plan has
asked_same : (plan : Plan) (h : History) (used : ℕ → ℕ) (x : Site) (f : Face) (e : InterfaceEvent)
    → asked_due plan x (asked_state_of_face plan (seen_at plan h) used x f) e
    ≡ asked_due plan x (asked_state_of_face plan (streams_at h) used x f) e
asked_same plan h used x f (ie.Bind i line stream loss) =
    by (has_peer plan.peers x.link line stream) (λ is. peer_planned plan x.link line stream is)
  where
    by : (b : Bool) → (b ≡ true → is_some (stream_plan plan line stream) ≡ true)
        → (if b then bind_due x (asked_state_of_face plan (seen_at plan h) used x f) line stream loss else v.Nothing)
        ≡ (if b then bind_due x (asked_state_of_face plan (streams_at h) used x f) line stream loss else v.Nothing)
    by true known = rw (known refl) refl
    by false known = refl
asked_same plan h used x f (ie.Unbind i line stream loss) = refl
asked_same plan h used x f e = refl

pub answer_same : (plan : Plan) (h : History) (fs : Faces) (e : InterfaceEvent) (given : Verdict)
    → interface_answer plan (seen_at plan h) fs e given ≡ interface_answer plan (streams_at h) fs e given
answer_same plan h fs e given = of_number (number_in e)
  where
    of_face : (o : Option (Site × Face))
        → asked_due_of plan (seen_at plan h) fs.used e o ≡ asked_due_of plan (streams_at h) fs.used e o
    of_face None = refl
    of_face (Some y) = asked_same plan h fs.used y.0 y.1 e

    of_number : (o : Option ℕ) → answer_to plan (seen_at plan h) fs e o given
        ≡ answer_to plan (streams_at h) fs e o given
    of_number None = refl
    of_number (Some i) = of_face (find_face (λ x. x.number == i) (sites plan) fs.list)

pub draw_same : (plan : Plan) (h : History) (e : Event) (w : Verdict) (draw : ℕ → ℕ → ℕ) → w ≡ due plan h e
    → draw_after (seen_ops plan h) (draws h) e w draw ≡ draw_after (op_of h) (draws h) e w draw
unfolding due key_due
draw_same plan h (event.Establish l s loss) w draw is =
    let same = begins_same (is_some (stream_plan plan l s)) op.Establish (op_of h l s) (draws h)
    (reach_of op.Establish w) (comes_none (is_some (stream_plan plan l s)) op.Establish w _ is) in
    λ i line stream. if (l == line) && (s == stream) && same i then draws h else draw line stream
draw_same plan h (event.Refresh l s loss) (v.Refreshed a b j) draw is = refl
draw_same plan h e w draw is = refl
