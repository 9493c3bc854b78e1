-- What verdicts show is what the history gives.
use Rattle.std.proofs.Common.{◌≡◌, ℕ, ◌+◌, ◌==◌, ◌&&◌, Bool, true, false, Option, Some, None, List, [], ◌∷◌, ◌⊎◌, inl}
use Rattle.std.proofs.Common.{inr, refl, ap, sym, subst, ◌∙◌, arith, if◌then◌else◌, Result, Ok, Err}
use Rattle.std.proofs.lemmas.Bool.Decides.{nat_tests}
use Rattle.std.specs.Prelude.{is_some, nat_le, not}
use Rattle.std.specs.Option.{option_map}
use Rattle.ide_types.specs.declared.status.StreamStatus.{StreamStatus}
use Rattle.spec_keys.proofs.Tests.{same-true}
use Rattle.spec_keys.proofs.Terms.{StreamStage, Establishing, Up, work_of, reach_of, op_after_reach, last_exchange_of}
use Rattle.spec_keys.proofs.Terms.{is_hosted, Operation, op_after_reset, StreamOperations, manager_after_operation}
use Rattle.spec_keys.proofs.Terms.{PortName, length, whole, new_reach, may_establish, may_refresh, unless_open, KeyPlan}
use Rattle.spec_keys.proofs.Terms.{Host, history_status, operation_verdict, finished_verdict, ports_at, PortView, draws}
use Rattle.spec_keys.proofs.Terms.{Reach}
use Rattle.spec_links.specs.Plan.{key_plan, stream_plan}
use Rattle.spec_keys.specs.Due.{has_refresh}
use Rattle.spec_keys.proofs.Owners.{same_place}
use Rattle.spec_keys.proofs.Performs.{is_cut, performed_is}
use Rattle.spec_keys.specs.History.{op_of}
unfoldable use Rattle.spec_keys.specs.History.{manager}
unfoldable use Rattle.spec_keys.specs.Due.{key_due}
use Rattle.spec_links.specs.Cause.{CauseLaw}
unfoldable use Rattle.spec_links.specs.Due.{due}
use Rattle.spec_interfaces.specs.Terms.{Plan, History, Event, InterfaceEvent, Verdict, Loss, View, DeviceTdi, lost_at}
use Rattle.spec_interfaces.specs.Terms.{Call, interface_after_call, lock_answer, state_code, if_secure, WriteRegister}
use Rattle.spec_interfaces.specs.Terms.{LevelReset, FirmwareUpdate, start_answer, bind_answer, unbind_answer}
use Rattle.spec_interfaces.specs.Terms.{kept_report, lock_of}
use Rattle.spec_interfaces.specs.Exchanges.{is_lost_at, changes_device}
use Rattle.spec_interfaces.specs.Due.{unless_lost, code_after, if_unlocked, verdict_of_lock, if_locked, if_reported}
use Rattle.spec_interfaces.specs.Due.{if_fresh, started_as, if_locked_or_running, interface_due, host_status}
use Rattle.spec_interfaces.specs.Due.{lock_answer_at, report_verdict, portions, verdict_of_bind, unbound_as, op_status}
use Rattle.spec_interfaces.specs.Peers.{has_peer}
use Rattle.spec_interfaces.specs.Views.{Managed, managed_view, needs_then, on_halt, is_number, view_at, needs_at}
use Rattle.spec_interfaces.specs.Views.{number_in}
use Rattle.spec_interfaces.specs.Devices.{interface_at, interface_asked, interface_if_called, around_at_site, used_at}
use Rattle.spec_interfaces.specs.Devices.{has_secure_stream}
use Rattle.spec_interfaces.proofs.Views.{managed_own}
use Rattle.spec_interfaces.proofs.Floors.{number_at}
use Rattle.interface_state.specs.Machine.{is_unlocked, are_lock_flags, is_page, error_code, nonce_answer}
use Rattle.interface_state.specs.Bars.{any_overlap, bars_of}
use Rattle.interface_state.specs.declared.error_codes.ErrorCode.TheVariants.{InvalidRequest, InvalidInterfaceState}
use Rattle.interface_state.specs.declared.error_codes.ErrorCode.TheVariants.{InvalidDeviceConfiguration}
use Rattle.law_locks.proofs.TrueViews.{interface_own}
use Rattle.law_outcomes.proofs.AfterInterfaces.{due_at}
use Rattle.spec_interfaces.specs.Sites.{Site, nonce_behind}
unfoldable use Rattle.spec_interfaces.specs.Views.{stream_draw}
use Rattle.law_outcomes.specs.Shown.{ShowsUp, ShowsInterface, ShowsTruth, IsLostOr, code_at}
use Rattle.law_outcomes.proofs.AfterKeys.{if_own}
use Rattle.event_verdicts.specs.declared.verdict.Operation.TheVariants as op
use Rattle.script_events.specs.declared.event.Event.TheVariants as event
use Rattle.script_events.specs.declared.event.InterfaceEvent.TheVariants as ie
use Rattle.event_verdicts.specs.declared.verdict.Verdict.TheVariants as v
use Rattle.ide_types.specs.declared.verdict.InterfaceVerdict.TheVariants as iv

-- ---- the draw of a stream that is being established

abbrev IsDrawn : StreamStage → ℕ → Type 0
IsDrawn (Establishing j n) draw = draw ≡ j
IsDrawn q draw = Unit {0}

-- the state of a stream after an event of an operation on it, or on another stream, in state `own`
abbrev stage_after : (is_own hosted : Bool) → Operation → (own q : StreamStage) → ℕ → Option Reach → StreamStage
stage_after is_own hosted o own q next None = q
stage_after is_own hosted o own q next (Some r) = if is_own then op_after_reach hosted (work_of o own next) r else q

ops_after : (m : StreamOperations) (o : Operation) (line stream : ℕ) (r : Option Reach) (a b : ℕ)
    → (manager_after_operation m o line stream r).ops a b
    ≡ stage_after ((a == line) && (b == stream)) (is_hosted line) o (m.ops line stream) (m.ops a b) (length m.begun) r
ops_after m o line stream None a b = refl
ops_after m o line stream (Some r) a b = refl

establish_drawn : (is_own hosted : Bool) (own q : StreamStage) (next draw : ℕ) (o : Option Reach)
    → (is_own ≡ true → own ≡ q) → IsDrawn q draw
    → IsDrawn (stage_after is_own hosted op.Establish own q next o)
    (if is_own && ((work_of op.Establish own next).begins && is_some o) then next else draw)
establish_drawn false hosted own q next draw None same is = is
establish_drawn false hosted own q next draw (Some r) same is = is
establish_drawn true hosted own q next draw o same is =
    let e = same refl in
    subst (λ (u : StreamStage). IsDrawn (stage_after true hosted op.Establish u q next o)
    (if true && ((work_of op.Establish u next).begins && is_some o) then next else draw)) (sym e)
    (by q o is)
  where
    by : (q : StreamStage) (o : Option Reach) → IsDrawn q draw
        → IsDrawn (stage_after true hosted op.Establish q q next o)
        (if (work_of op.Establish q next).begins && is_some o then next else draw)
    by q None is = grind (arith, nat_tests)
    by q (Some r) is = grind (arith, nat_tests)

not_establishing : (hosted : Bool) (o : Operation) (q : StreamStage) (next draw : ℕ) (r : Reach)
    → (o ≡ op.Establish → ⊥) → IsDrawn (op_after_reach hosted (work_of o q next) r) draw
not_establishing hosted op.Establish q next draw r other = absurd (other refl)
not_establishing hosted op.Refresh q next draw r other = grind (arith, nat_tests)
not_establishing hosted op.Stop q next draw r other = grind (arith, nat_tests)

other_drawn : (is_own hosted : Bool) (o : Operation) (own q : StreamStage) (next draw : ℕ) (r : Option Reach)
    → (o ≡ op.Establish → ⊥) → IsDrawn q draw → IsDrawn (stage_after is_own hosted o own q next r) draw
other_drawn is_own hosted o own q next draw None other is = is
other_drawn false hosted o own q next draw (Some r) other is = is
other_drawn true hosted o own q next draw (Some r) other is = not_establishing hosted o own next draw r other

-- the draw does not matter where a refresh ends
refreshed_drawn : (is_own hosted : Bool) (own q : StreamStage) (next draw j : ℕ) (r : Reach)
    → IsDrawn q draw → IsDrawn (stage_after is_own hosted op.Refresh own q next (Some r)) (if is_own then j else draw)
refreshed_drawn false hosted own q next draw j r is = is
refreshed_drawn true hosted own q next draw j r is = not_establishing hosted op.Refresh own next j r (λ e. absurd cc)

reset_drawn : (ends : List PortName) (line : ℕ) (q : StreamStage) (draw : ℕ) → IsDrawn q draw
    → IsDrawn (op_after_reset ends line q) draw
reset_drawn ends line q draw is = grind arith

turned : (a b x y : ℕ) → ((x == a) && (y == b)) ≡ ((a == x) && (b == y))
turned a b x y = grind (arith, nat_tests)

same_stage : (ops : ℕ → ℕ → StreamStage) (a b x y : ℕ) → ((a == x) && (b == y)) ≡ true → ops x y ≡ ops a b
same_stage ops a b x y is = let same = same_place a b x y is in (λ i. ops (sym same.0 i) (sym same.1 i))

and_three : (a b c : Bool) → (a && (b && c)) ≡ ((a && b) && c)
and_three a b c = grind arith

drawn_at : (h : History) (line stream : ℕ) → IsDrawn (op_of h line stream) (stream_draw h line stream)
unfolding manager stream_draw
drawn_at [] line stream = tt
drawn_at ((event.Establish l s loss, w) ∷ h) line stream =
    rw (ops_after (manager h) op.Establish l s (reach_of op.Establish w) line stream, turned line stream l s)
    (establish_drawn ((line == l) && (stream == s)) (is_hosted l) (op_of h l s) (op_of h line stream) (draws h)
    (stream_draw h line stream) (reach_of op.Establish w) (same_stage (op_of h) line stream l s)
    (drawn_at h line stream))
drawn_at ((event.Refresh l s loss, v.Refreshed a b j) ∷ h) line stream =
    rw (
      ops_after (manager h) op.Refresh l s (reach_of op.Refresh (v.Refreshed a b j)) line stream,
      turned line stream l s,
    )
    (refreshed_drawn ((line == l) && (stream == s)) (is_hosted l) (op_of h l s) (op_of h line stream) (draws h)
    (stream_draw h line stream) j (whole a op.Refresh) (drawn_at h line stream))
drawn_at ((event.Refresh l s loss, w) ∷ h) line stream =
    rw (ops_after (manager h) op.Refresh l s (reach_of op.Refresh w) line stream)
    (other_drawn ((line == l) && (stream == s)) (is_hosted l) op.Refresh (op_of h l s) (op_of h line stream) (draws h)
    (stream_draw h line stream) (reach_of op.Refresh w) (λ e. absurd cc) (drawn_at h line stream))
drawn_at ((event.Stop l s loss, w) ∷ h) line stream =
    rw (ops_after (manager h) op.Stop l s (reach_of op.Stop w) line stream)
    (other_drawn ((line == l) && (stream == s)) (is_hosted l) op.Stop (op_of h l s) (op_of h line stream) (draws h)
    (stream_draw h line stream) (reach_of op.Stop w) (λ e. absurd cc) (drawn_at h line stream))
drawn_at ((event.Reset l ends, v.Reset k) ∷ h) line stream =
    reset_drawn ends line (op_of h line stream) (stream_draw h line stream) (drawn_at h line stream)
drawn_at (_ ∷ h) line stream = drawn_at h line stream

-- ---- establishes and refreshes

-- the stream and the draw that it shows
record ShowsOwn (line stream l s draw j : ℕ) : Type 0 where
  line_is : l ≡ line
  stream_is : s ≡ stream
  draw_is : j ≡ draw

finished_established : (line stream next : ℕ) (q : StreamStage)
    → finished_verdict line stream (work_of op.Establish q next)
    ≡ v.Established line stream (work_of op.Establish q next).draw
finished_established line stream next q = grind arith

finished_refreshed : (line stream next : ℕ) (q : StreamStage)
    → finished_verdict line stream (work_of op.Refresh q next)
    ≡ v.Refreshed line stream (work_of op.Refresh q next).draw
finished_refreshed line stream next q = grind arith

own_established : (plan : KeyPlan) (b : Bool) (line stream next : ℕ) (q : StreamStage) (draw : ℕ) (l s j : ℕ)
    (x : Verdict) → (x ≡ v.Established line stream draw) ⊎ (is_cut x ≡ true)
    → v.Established l s j ≡ (if b then may_establish plan line next q x else v.Nothing)
    → ShowsOwn line stream l s draw j
own_established plan b line stream next q draw l s j x (inl ended) is =
    let same : v.Established l s j ≡ v.Established line stream draw = grind (arith, is, ended) in
    record { line_is = cc; stream_is = cc; draw_is = cc }
own_established plan b line stream next q draw l s j x (inr cut) is = absurd (grind (arith, is, cut))

own_refreshed : (plan : KeyPlan) (b : Bool) (line stream next : ℕ) (q : StreamStage) (host : StreamStatus)
    (ports : PortView) (set : Bool) (draw : ℕ) (l s j : ℕ)
    (x : Verdict) → (x ≡ v.Refreshed line stream draw) ⊎ (is_cut x ≡ true)
    → v.Refreshed l s j ≡ (if b then may_refresh plan line next q host (unless_open ports line stream set) x
    else v.Nothing)
    → ShowsOwn line stream l s draw j
own_refreshed plan b line stream next q host ports set draw l s j x (inl ended) is =
    let same : v.Refreshed l s j ≡ v.Refreshed line stream draw = grind (arith, is, ended) in
    record { line_is = cc; stream_is = cc; draw_is = cc }
own_refreshed plan b line stream next q host ports set draw l s j x (inr cut) is = absurd (grind (arith, is, cut))

by_end : (x y z : Verdict) → y ≡ z → (x ≡ y) ⊎ (is_cut x ≡ true) → (x ≡ z) ⊎ (is_cut x ≡ true)
by_end x y z same (inl ended) = inl (ended ∙ same)
by_end x y z same (inr cut) = inr cut

established_own : (plan : Plan) (h : History) (line stream : ℕ) (loss : Option Loss) (l s j : ℕ)
    → v.Established l s j ≡ due plan h (event.Establish line stream loss)
    → ShowsOwn line stream l s (work_of op.Establish (op_of h line stream) (draws h)).draw j
unfolding due key_due
established_own plan h line stream loss l s j is =
    let w = work_of op.Establish (op_of h line stream) (draws h) in
    own_established (key_plan plan) (is_some (stream_plan plan line stream)) line stream (draws h) (op_of h line stream)
    w.draw l s j (operation_verdict (ports_at h) line stream loss w)
    (by_end _ _ _ (finished_established line stream (draws h) (op_of h line stream))
    (performed_is (ports_at h) line stream loss w)) is

refreshed_own : (plan : Plan) (h : History) (line stream : ℕ) (loss : Option Loss) (l s j : ℕ)
    → v.Refreshed l s j ≡ due plan h (event.Refresh line stream loss)
    → ShowsOwn line stream l s (work_of op.Refresh (op_of h line stream) (draws h)).draw j
unfolding due key_due
refreshed_own plan h line stream loss l s j is =
    let w = work_of op.Refresh (op_of h line stream) (draws h) in
    own_refreshed (key_plan plan) (has_refresh (key_plan plan) line stream) line stream (draws h)
    (op_of h line stream) (history_status h Host line stream) (ports_at h) w.set w.draw l s j
    (operation_verdict (ports_at h) line stream loss w)
    (by_end _ _ _ (finished_refreshed line stream (draws h) (op_of h line stream))
    (performed_is (ports_at h) line stream loss w)) is

establish_up : (hosted : Bool) (q : StreamStage) (next : ℕ) → op_after_reach hosted (work_of op.Establish q next)
    (new_reach (last_exchange_of hosted op.Establish + 1) (last_exchange_of hosted op.Establish + 1))
    ≡ Up false (work_of op.Establish q next).draw
establish_up hosted q next = grind (arith, nat_tests)

refresh_up : (hosted : Bool) (q : StreamStage) (next : ℕ) → op_after_reach hosted (work_of op.Refresh q next)
    (new_reach (last_exchange_of hosted op.Refresh + 1) (last_exchange_of hosted op.Refresh + 1))
    ≡ Up (work_of op.Refresh q next).set (work_of op.Refresh q next).draw
refresh_up hosted q next = grind (arith, nat_tests)

up_after_establish : (h : History) (line stream : ℕ) (loss : Option Loss) (s j : ℕ)
    → op_of ((event.Establish line stream loss, v.Established line s j) ∷ h) line stream
    ≡ Up false (work_of op.Establish (op_of h line stream) (draws h)).draw
unfolding manager
up_after_establish h line stream loss s j =
    if_own line stream _ _ ∙ establish_up (is_hosted line) (op_of h line stream) (draws h)

up_after_refresh : (h : History) (line stream : ℕ) (loss : Option Loss) (s j : ℕ)
    → op_of ((event.Refresh line stream loss, v.Refreshed line s j) ∷ h) line stream
    ≡ Up (work_of op.Refresh (op_of h line stream) (draws h)).set
    (work_of op.Refresh (op_of h line stream) (draws h)).draw
unfolding manager
up_after_refresh h line stream loss s j =
    if_own line stream _ _ ∙ refresh_up (is_hosted line) (op_of h line stream) (draws h)

begun_draw : (q : StreamStage) (next draw : ℕ) → IsDrawn q draw
    → (if (work_of op.Establish q next).begins && true then next else draw) ≡ (work_of op.Establish q next).draw
begun_draw q next draw is = grind arith

draw_established : (h : History) (line stream : ℕ) (loss : Option Loss) (l s j : ℕ)
    → stream_draw ((event.Establish line stream loss, v.Established l s j) ∷ h) line stream
    ≡ (work_of op.Establish (op_of h line stream) (draws h)).draw
unfolding stream_draw
draw_established h line stream loss l s j =
    rw (same-true line, same-true stream)
    (begun_draw (op_of h line stream) (draws h) (stream_draw h line stream) (drawn_at h line stream))

draw_refreshed : (h : History) (line stream : ℕ) (loss : Option Loss) (l s j : ℕ)
    → stream_draw ((event.Refresh line stream loss, v.Refreshed l s j) ∷ h) line stream ≡ j
unfolding stream_draw
draw_refreshed h line stream loss l s j = if_own line stream _ _

shows_established : (plan : Plan) (h : History) (line stream : ℕ) (loss : Option Loss) (l s j : ℕ)
    → v.Established l s j ≡ due plan h (event.Establish line stream loss)
    → ShowsUp ((event.Establish line stream loss, v.Established l s j) ∷ h) line stream l s j
shows_established plan h line stream loss l s j is =
    let own = established_own plan h line stream loss l s j is in
    record {
      line_is = own.line_is;
      stream_is = own.stream_is;
      set = false;
      up = (λ i. op_of ((event.Establish line stream loss, v.Established (own.line_is i) s j) ∷ h) line stream)
          ∙ (up_after_establish h line stream loss s j ∙ (λ i. Up false (sym own.draw_is i)));
      draw_is = own.draw_is ∙ sym (draw_established h line stream loss l s j);
    }

shows_refreshed : (plan : Plan) (h : History) (line stream : ℕ) (loss : Option Loss) (l s j : ℕ)
    → v.Refreshed l s j ≡ due plan h (event.Refresh line stream loss)
    → ShowsUp ((event.Refresh line stream loss, v.Refreshed l s j) ∷ h) line stream l s j
shows_refreshed plan h line stream loss l s j is =
    let own = refreshed_own plan h line stream loss l s j is in
    record {
      line_is = own.line_is;
      stream_is = own.stream_is;
      set = (work_of op.Refresh (op_of h line stream) (draws h)).set;
      up = (λ i. op_of ((event.Refresh line stream loss, v.Refreshed (own.line_is i) s j) ∷ h) line stream)
          ∙ (up_after_refresh h line stream loss s j
          ∙ (λ i. Up (work_of op.Refresh (op_of h line stream) (draws h)).set (sym own.draw_is i)));
      draw_is = sym (draw_refreshed h line stream loss l s j);
    }

-- ---- statuses and packets

status_is : (plan : Plan) (h : History) (line stream : ℕ) (w : Verdict)
    → w ≡ due plan h (event.Status line stream) → ShowsTruth plan h (event.Status line stream) w
unfolding due
status_is plan h line stream w is = λ has. rw has at is

dump_is : (plan : Plan) (h : History) (n : ℕ) (w : Verdict) → w ≡ due plan h (event.Dump n)
    → ShowsTruth plan h (event.Dump n) w
unfolding due
dump_is plan h n w is = λ x found. rw found at is

-- ---- interfaces

lost_one : (loss : Loss) → (nat_le 1 loss.exchange && nat_le loss.exchange 1) ≡ true
    → is_lost_at (lost_at loss.lost loss.exchange) 1 ≡ true
lost_one loss is = grind (arith, nat_tests)

lost_or : (loss : Option Loss) (w shown : Verdict) → w ≡ unless_lost loss 1 shown → IsLostOr w shown
lost_or None w shown is = inr is
lost_or (Some loss) w shown is = by (nat_le 1 loss.exchange && nat_le loss.exchange 1) refl is
  where
    by : (b : Bool) → (nat_le 1 loss.exchange && nat_le loss.exchange 1) ≡ b
        → w ≡ (if b then lost_at loss.lost loss.exchange else shown) → IsLostOr w shown
    by true e is = inl (ap (λ (u : Verdict). is_lost_at u 1) is ∙ lost_one loss e)
    by false e is = inr is

lost_shown : (w : Verdict) (shown after : Verdict) → shown ≡ after → IsLostOr w shown → IsLostOr w after
lost_shown w shown after same (inl lost) = inl lost
lost_shown w shown after same (inr is) = inr (is ∙ same)

halt_shown : (plan : Plan) (h : History) (x : Site) (i : ℕ) (loss : Option Loss) (w : Verdict) → x.number ≡ i
    → IsLostOr w (v.Interface (iv.Halted x.number (needs_then (managed_view h x) (draws h))))
    → IsLostOr w (v.Interface (iv.Halted i (needs_at ((event.Interface (ie.Halt i loss), w) ∷ h) x)))
halt_shown plan h x i loss w number (inl lost) = inl lost
halt_shown plan h x i loss w number (inr is) =
    let after = managed_own h (ie.Halt i loss) w x (rw number (same-true i)) in
    let needs : needs_at ((event.Interface (ie.Halt i loss), w) ∷ h) x ≡ needs_then (managed_view h x) (draws h) =
    ap (λ (m : Managed). m.needs) after
    ∙ ap (λ (u : Verdict). (on_halt (draws h) (managed_view h x) u).needs) is in
    inr (is ∙ (λ k. v.Interface (iv.Halted (number k) (sym needs k))))

-- what is done to the device shows the state after it
code_shown : (plan : Plan) (h : History) (x : Site) (e : InterfaceEvent) (w : Verdict) (call : Call)
    → is_number (number_in e) x.number ≡ true
    → interface_asked (around_at_site plan h x) x e w (interface_at plan h x)
    ≡ interface_if_called (changes_device w) call (interface_at plan h x)
    → changes_device w ≡ true
    → code_after (interface_at plan h x) call ≡ code_at plan ((event.Interface e, w) ∷ h) x
code_shown plan h x e w call own asked changes =
    sym (ap (λ (t : DeviceTdi). state_code t.state)
    (interface_own plan h e w x own ∙ (asked ∙ called (changes_device w) changes)))
  where
    called : (b : Bool) → b ≡ true → interface_if_called b call (interface_at plan h x)
        ≡ interface_after_call (interface_at plan h x) call
    called b is = rw is refl

pub lock_shown : (x : Site) (view : View) (s : StreamStatus) (loss : Option Loss) (answer : Result (List ℕ) ℕ) (n : ℕ)
    (nonce : List ℕ)
    → v.Interface (iv.Locked n nonce) ≡ if_unlocked view (if_secure s (unless_lost loss 3 (verdict_of_lock x answer)))
    → (n ≡ x.number) × (answer ≡ Ok nonce)
lock_shown x view s loss answer n nonce is = (grind arith, grind arith)

pub answer_drawn : (t : DeviceTdi) (flags offset : ℕ) (secure : Bool) (drawn : Option (List ℕ)) (nonce : List ℕ)
    → lock_answer t flags offset secure drawn ≡ Ok nonce → drawn ≡ Some nonce
answer_drawn t flags offset secure drawn nonce is =
    by (not (is_unlocked t.state)) (not (are_lock_flags flags && is_page offset))
    (not (secure && not (any_overlap (bars_of t.plan t.registers)))) drawn is
  where
    by : (a b c : Bool) (drawn : Option (List ℕ))
        → (if a then Err (error_code InvalidInterfaceState)
        else if b then Err (error_code InvalidRequest)
        else if c then Err (error_code InvalidDeviceConfiguration)
        else nonce_answer drawn) ≡ Ok nonce → drawn ≡ Some nonce
    by true b c drawn is = absurd cc
    by false true c drawn is = absurd cc
    by false false true drawn is = absurd cc
    by false false false None is = absurd cc
    by false false false (Some n) is = let same : n ≡ nonce = cc in ap Some same

start_shown : (x : Site) (view : View) (reported : Bool) (s : StreamStatus) (d needs : ℕ) (loss : Option Loss)
    (answer : Result (Unit {0}) ℕ) (n draw : ℕ)
    → v.Interface (iv.Started n draw)
    ≡ if_locked view
    (if_reported reported (if_secure s (if_fresh d needs (unless_lost loss 1 (started_as x d answer)))))
    → (n ≡ x.number) × (draw ≡ d)
start_shown x view reported s d needs loss answer n draw is = (grind arith, grind arith)

fresh_shown : (x : Site) (view : View) (reported : Bool) (s : StreamStatus) (d needs : ℕ) (loss : Option Loss)
    (answer : Result (Unit {0}) ℕ) (draw needed : ℕ)
    → v.Interface (iv.RefusedRefreshFirst draw needed)
    ≡ if_locked view
    (if_reported reported (if_secure s (if_fresh d needs (unless_lost loss 1 (started_as x d answer)))))
    → (draw ≡ d) × (needed ≡ needs)
fresh_shown x view reported s d needs loss answer draw needed is = (grind arith, grind arith)

-- ---- a view that allows no such operation

lock_view : (x : Site) (view u : View) (s : StreamStatus) (loss : Option Loss) (answer : Result (List ℕ) ℕ)
    → v.Interface (iv.RefusedWrongState u) ≡ if_unlocked view
    (if_secure s (unless_lost loss 3 (verdict_of_lock x answer)))
    → u ≡ view
lock_view x view u s loss answer is = grind arith

report_view : (plan : Plan) (x : Site) (view u : View) (loss : Option Loss) (o : Option (List ℕ))
    → v.Interface (iv.RefusedWrongState u) ≡ if_locked_or_running view (report_verdict plan x loss o) → u ≡ view
report_view plan x view u loss None is = grind arith
report_view plan x view u loss (Some report) is =
    by (portions plan.portion (length report)) is
  where
    by : (last : ℕ) → v.Interface (iv.RefusedWrongState u)
        ≡ if_locked_or_running view (unless_lost loss last (v.Interface (iv.Reported x.number report))) → u ≡ view
    by last is = grind arith

start_view : (x : Site) (view u : View) (reported : Bool) (s : StreamStatus) (d needs : ℕ) (loss : Option Loss)
    (answer : Result (Unit {0}) ℕ)
    → v.Interface (iv.RefusedWrongState u)
    ≡ if_locked view
    (if_reported reported (if_secure s (if_fresh d needs (unless_lost loss 1 (started_as x d answer)))))
    → u ≡ view
start_view x view u reported s d needs loss answer is = grind arith

bind_view : (x : Site) (b : Bool) (view u : View) (s : StreamStatus) (d needs line : ℕ) (loss : Option Loss)
    (answer : Result ℕ ℕ)
    → v.Interface (iv.RefusedWrongState u)
    ≡ (if b then if_locked_or_running view
    (if_secure s (if_fresh d needs (unless_lost loss 1 (verdict_of_bind x line answer)))) else v.Nothing)
    → u ≡ view
bind_view x b view u s d needs line loss answer is = grind arith

unbind_view : (x : Site) (b : Bool) (view u : View) (line : ℕ) (loss : Option Loss) (answer : Result (Unit {0}) ℕ)
    → v.Interface (iv.RefusedWrongState u)
    ≡ (if b then if_locked_or_running view (unless_lost loss 1 (unbound_as x line answer)) else v.Nothing)
    → u ≡ view
unbind_view x b view u line loss answer is = grind arith

-- ---- all of them

own_is : (i j n : ℕ) → Some j ≡ Some i → n ≡ i → n ≡ j
own_is i j n named is = cc

shows_interface : (plan : Plan) (h : History) (x : Site) (e : InterfaceEvent) (w : Verdict) (i : ℕ)
    → number_in e ≡ Some i → x.number ≡ i → w ≡ interface_due plan h x e
    → ShowsInterface plan h ((event.Interface e, w) ∷ h) x e w
shows_interface plan h x (ie.View j) w i named number is =
    is ∙ ap (λ (n : ℕ). v.Interface (iv.View n (view_at h x))) (own_is i j x.number named number)
shows_interface plan h x (ie.State j loss) w i named number is =
    lost_shown w _ _ (ap (λ (n : ℕ). v.Interface (iv.State n (code_at plan h x))) (own_is i j x.number named number))
    (lost_or loss w _ is)
shows_interface plan h x (ie.Halt j loss) w i named number is =
    halt_shown plan h x j loss w (own_is i j x.number named number) (lost_or loss w _ is)
shows_interface plan h x (ie.Write j register value) w i named number is = λ has.
    let n = own_is i j x.number named number in
    let shown : w ≡ v.Interface (iv.Written x.number
    (code_after (interface_at plan h x) (WriteRegister register value))) = rw has at is in
    shown ∙ (λ k. v.Interface (iv.Written (n k)
    (code_shown plan h x (ie.Write j register value) w (WriteRegister register value) (rw n (same-true j)) refl
    (ap changes_device shown) k)))
shows_interface plan h x (ie.Flr j) w i named number is =
    let n = own_is i j x.number named number in
    is ∙ (λ k. v.Interface (iv.Flr (n k)
    (code_shown plan h x (ie.Flr j) w LevelReset (rw n (same-true j)) refl (ap changes_device is) k)))
shows_interface plan h x (ie.Firmware j) w i named number is =
    let n = own_is i j x.number named number in
    is ∙ (λ k. v.Interface (iv.Firmware (n k)
    (code_shown plan h x (ie.Firmware j) w FirmwareUpdate (rw n (same-true j)) refl (ap changes_device is) k)))
shows_interface plan h x (ie.Lock j loss) (v.Interface (iv.Locked n nonce)) i named number is =
    let shown = lock_shown x (view_at h x) (host_status h x) loss
    (lock_answer_at (around_at_site plan h x) x (interface_at plan h x)) n nonce is in (
      shown.0 ∙ own_is i j x.number named number,
      answer_drawn (interface_at plan h x) x.plan.flags x.plan.offset (has_secure_stream h x)
          (nonce_behind plan x.link (used_at plan h x.link)) nonce shown.1,
    )
shows_interface plan h x (ie.Start j loss) (v.Interface (iv.Started n draw)) i named number is =
    let shown = start_shown x (view_at h x) (managed_view h x).reported (host_status h x)
    (stream_draw h x.link x.plan.stream) (needs_at h x) loss
    (start_answer (interface_at plan h x).state (managed_view h x).nonce) n draw is in
    (shown.0 ∙ own_is i j x.number named number, shown.1)
shows_interface plan h x (ie.Start j loss) (v.Interface (iv.RefusedRefreshFirst draw needed)) i named number is =
    fresh_shown x (view_at h x) (managed_view h x).reported (host_status h x)
    (stream_draw h x.link x.plan.stream) (needs_at h x) loss
    (start_answer (interface_at plan h x).state (managed_view h x).nonce) draw needed is
shows_interface plan h x (ie.Lock j loss) (v.Interface (iv.RefusedWrongState u)) i named number is =
    lock_view x (view_at h x) u (host_status h x) loss
    (lock_answer_at (around_at_site plan h x) x (interface_at plan h x)) is
shows_interface plan h x (ie.Report j loss) (v.Interface (iv.RefusedWrongState u)) i named number is =
    report_view plan x (view_at h x) u loss
    (option_map (kept_report x.plan) (lock_of (interface_at plan h x).state)) is
shows_interface plan h x (ie.Start j loss) (v.Interface (iv.RefusedWrongState u)) i named number is =
    start_view x (view_at h x) u (managed_view h x).reported (host_status h x)
    (stream_draw h x.link x.plan.stream) (needs_at h x) loss
    (start_answer (interface_at plan h x).state (managed_view h x).nonce) is
shows_interface plan h x (ie.Bind j line stream loss) (v.Interface (iv.RefusedWrongState u)) i named number is =
    bind_view x (has_peer plan.peers x.link line stream) (view_at h x) u (op_status (op_of h line stream))
    (stream_draw h line stream) (needs_at h x) line loss
    (bind_answer (interface_at plan h x) stream ((around_at_site plan h x).live stream)) is
shows_interface plan h x (ie.Unbind j line stream loss) (v.Interface (iv.RefusedWrongState u)) i named number is =
    unbind_view x (has_peer plan.peers x.link line stream) (view_at h x) u line loss
    (unbind_answer (interface_at plan h x) stream) is
shows_interface plan h x (ie.Memory at len) w i named number is = absurd cc
shows_interface plan h x e w i named number is = tt

pub shows_truth : (plan : Plan) (h : History) (e : Event) (w : Verdict) → CauseLaw plan ((e, w) ∷ h)
    → ShowsTruth plan h e w
shows_truth plan h (event.Status line stream) w cause = status_is plan h line stream w cause.0
shows_truth plan h (event.Dump n) w cause = dump_is plan h n w cause.0
shows_truth plan h (event.Establish line stream loss) (v.Established l s j) cause =
    shows_established plan h line stream loss l s j cause.0
shows_truth plan h (event.Refresh line stream loss) (v.Refreshed l s j) cause =
    shows_refreshed plan h line stream loss l s j cause.0
shows_truth plan h (event.Interface e) w cause = λ i x named at.
    shows_interface plan h x e w i named (number_at plan i x at) (cause.0 ∙ due_at plan h x e i named at)
shows_truth plan h e w cause = tt
