-- The verdicts of operations tell of no packet.
use Rattle.spec_links.proofs.Terms.{Bool, Option, arith, false, refl, true, ℕ, ◌≡◌, StreamStatus, Loss, PortView}
use Rattle.spec_links.proofs.Terms.{finished_verdict, key_due, may_establish, may_refresh, operation_verdict, ports_at}
use Rattle.spec_links.proofs.Terms.{inl, inr, ap, ◌∙◌, unless_open, draws, op_of, StreamStage, Work, work_of, due}
use Rattle.spec_links.proofs.Terms.{is_quiet, key_plan, stream_plan, Establish, History, Host, KeyPlan, Plan, Refresh}
use Rattle.spec_links.proofs.Terms.{Stop, Verdict, if◌then◌else◌, is_some, history_status, List, Some, None, Result}
use Rattle.spec_links.proofs.Terms.{length, Interface, InterfaceEvent, memory_due}
use Rattle.spec_keys.proofs.Performs.{is_cut, performed_is}
use Rattle.std.specs.Option.{option_map}
use Rattle.std.specs.Prelude.{nat_le, ◌&&◌}
use Rattle.script_events.specs.declared.event.Lost.{Lost}
use Rattle.spec_keys.specs.Due.{lost_at, has_refresh, if_secure}
use Rattle.spec_links.specs.Memory.{shown_if}
use Rattle.spec_links.specs.Guarded.{mmio_if, mmio_shown, mmio_due, link_happenings}
use Rattle.spec_interfaces.specs.{Happened}
use Rattle.trusted_memory.specs.Regions.{in_one_region}
use Rattle.spec_interfaces.specs.Terms.{View, has_register, kept_report, lock_of, start_answer}
use Rattle.spec_interfaces.specs.Terms.{bind_answer, unbind_answer}
use Rattle.spec_interfaces.specs.Sites.{Site, site_at}
use Rattle.spec_interfaces.specs.Views.{managed_view, stream_draw, number_in}
use Rattle.spec_interfaces.specs.Devices.{around_at_site, interface_at}
use Rattle.spec_interfaces.specs.Peers.{has_peer}
use Rattle.spec_interfaces.specs.Due.{unless_lost, host_status, if_unlocked, verdict_of_lock, lock_answer_at, lock_due}
use Rattle.spec_interfaces.specs.Due.{asked_state, if_locked_or_running, portions, report_verdict, if_locked}
use Rattle.spec_interfaces.specs.Due.{if_reported, if_fresh, started_as, interface_due, on_site, with_number}
use Rattle.spec_interfaces.specs.Due.{verdict_of_bind, unbound_as, op_status}
unfoldable use Rattle.spec_interfaces.specs.Due.{interface_verdict_due as due_of}
use Rattle.script_events.specs.declared.event.InterfaceEvent.TheVariants as ie
use Rattle.ide_types.specs.declared.verdict.InterfaceVerdict.TheVariants as iv
use Rattle.event_verdicts.specs.declared.verdict.Operation.TheVariants as op
use Rattle.event_verdicts.specs.declared.verdict.Verdict.TheVariants as v

pub if_quiet : (b : Bool) (x y : Verdict) → is_quiet x ≡ true → is_quiet y ≡ true → is_quiet (if b then x else y) ≡ true
if_quiet true x y one two = one
if_quiet false x y one two = two

cut_quiet : (x : Verdict) → is_cut x ≡ true → is_quiet x ≡ true
cut_quiet x cut = grind arith

done_quiet : (line stream : ℕ) (w : Work) → is_quiet (finished_verdict line stream w) ≡ true
done_quiet line stream w = grind arith

performed_quiet : (ports : PortView) (line stream : ℕ) (loss : Option Loss) (w : Work)
    → is_quiet (operation_verdict ports line stream loss w) ≡ true
performed_quiet ports line stream loss w = elim (performed_is ports line stream loss w) [
  | inl ended ↦ ap is_quiet ended ∙ done_quiet line stream w
  | inr cut ↦ cut_quiet (operation_verdict ports line stream loss w) cut
]

establish_quiet : (kp : KeyPlan) (q : StreamStage) (line next : ℕ) (x : Verdict) → is_quiet x ≡ true
    → is_quiet (may_establish kp line next q x) ≡ true
establish_quiet kp q line next x is = grind arith

refresh_quiet : (kp : KeyPlan) (q : StreamStage) (next : ℕ) (host : StreamStatus) (ports : PortView) (line stream : ℕ)
    (set : Bool) (x : Verdict) → is_quiet x ≡ true
    → is_quiet (may_refresh kp line next q host (unless_open ports line stream set) x) ≡ true
refresh_quiet kp q next host ports line stream set x is = grind arith

pub establish_due_quiet : (plan : Plan) (h : History) (line stream : ℕ) (lose : Option Loss)
    → is_quiet (due plan h (Establish line stream lose)) ≡ true
unfolding due key_due
establish_due_quiet plan h line stream lose =
    if_quiet (is_some (stream_plan plan line stream)) _ v.Nothing
    (establish_quiet (key_plan plan) (op_of h line stream) line (draws h) _
    (performed_quiet (ports_at h) line stream lose (work_of op.Establish (op_of h line stream) (draws h))))
    refl

pub refresh_due_quiet : (plan : Plan) (h : History) (line stream : ℕ) (lose : Option Loss)
    → is_quiet (due plan h (Refresh line stream lose)) ≡ true
unfolding due key_due
refresh_due_quiet plan h line stream lose =
    if_quiet (has_refresh (key_plan plan) line stream) _ v.Nothing
    (refresh_quiet (key_plan plan) (op_of h line stream) (draws h) (history_status h Host line stream) (ports_at h) line
    stream (work_of op.Refresh (op_of h line stream) (draws h)).set _ (performed_quiet (ports_at h) line stream lose
    (work_of op.Refresh (op_of h line stream) (draws h)))) refl

pub stop_due_quiet : (plan : Plan) (h : History) (line stream : ℕ) (lose : Option Loss)
    → is_quiet (due plan h (Stop line stream lose)) ≡ true
unfolding due key_due
stop_due_quiet plan h line stream lose = if_quiet (is_some (stream_plan plan line stream)) _ v.Nothing
    (performed_quiet (ports_at h) line stream lose (work_of op.Stop (op_of h line stream) (draws h))) refl

-- ---- interfaces

lost_quiet : (l : Lost) (n : ℕ) → is_quiet (lost_at l n) ≡ true
lost_quiet l n = grind arith

unless_lost_quiet : (loss : Option Loss) (n : ℕ) (x : Verdict) → is_quiet x ≡ true → is_quiet (unless_lost loss n x)
    ≡ true
unless_lost_quiet None n x is = is
unless_lost_quiet (Some loss) n x is = if_quiet (nat_le 1 loss.exchange && nat_le loss.exchange n)
    (lost_at loss.lost loss.exchange) x (lost_quiet loss.lost loss.exchange) is

lock_quiet : (plan : Plan) (h : History) (x : Site) (loss : Option Loss)
    → is_quiet (lock_due x (asked_state plan h x) loss) ≡ true
lock_quiet plan h x loss = by (managed_view h x).view (history_status h Host x.link x.plan.stream)
    (lock_answer_at (around_at_site plan h x) x (interface_at plan h x))
  where
    as_quiet : (answer : Result (List ℕ) ℕ) → is_quiet (verdict_of_lock x answer) ≡ true
    as_quiet answer = grind arith

    by : (view : View) (s : StreamStatus) (answer : Result (List ℕ) ℕ)
        → is_quiet (if_unlocked view (if_secure s (unless_lost loss 3 (verdict_of_lock x answer)))) ≡ true
    by view s answer = let q = unless_lost_quiet loss 3 (verdict_of_lock x answer) (as_quiet answer) in grind arith

report_quiet : (plan : Plan) (x : Site) (view : View) (loss : Option Loss) (o : Option (List ℕ))
    → is_quiet (if_locked_or_running view (report_verdict plan x loss o)) ≡ true
report_quiet plan x view loss None = let q = unless_lost_quiet loss 1 (v.RefusedDevice 1 4) refl in grind arith
report_quiet plan x view loss (Some report) =
    let q = unless_lost_quiet loss (portions plan.portion (length report)) (v.Interface (iv.Reported x.number report))
    refl in grind arith

start_quiet : (x : Site) (view : View) (reported : Bool) (s : StreamStatus) (draw needs : ℕ) (loss : Option Loss)
    (answer : Result (Unit {0}) ℕ)
    → is_quiet (if_locked view
    (if_reported reported (if_secure s (if_fresh draw needs (unless_lost loss 1 (started_as x draw answer))))))
    ≡ true
start_quiet x view reported s draw needs loss answer = let q = unless_lost_quiet loss 1 (started_as x draw answer)
    (as_quiet answer) in grind arith
  where
    as_quiet : (answer : Result (Unit {0}) ℕ) → is_quiet (started_as x draw answer) ≡ true
    as_quiet answer = grind arith

bind_quiet : (x : Site) (view : View) (s : StreamStatus) (draw needs line : ℕ) (loss : Option Loss)
    (answer : Result ℕ ℕ)
    → is_quiet (if_locked_or_running view
    (if_secure s (if_fresh draw needs (unless_lost loss 1 (verdict_of_bind x line answer))))) ≡ true
bind_quiet x view s draw needs line loss answer = let q = unless_lost_quiet loss 1 (verdict_of_bind x line answer)
    (as_quiet answer) in grind arith
  where
    as_quiet : (answer : Result ℕ ℕ) → is_quiet (verdict_of_bind x line answer) ≡ true
    as_quiet answer = grind arith

unbind_quiet : (x : Site) (view : View) (line : ℕ) (loss : Option Loss) (answer : Result (Unit {0}) ℕ)
    → is_quiet (if_locked_or_running view (unless_lost loss 1 (unbound_as x line answer))) ≡ true
unbind_quiet x view line loss answer = let q = unless_lost_quiet loss 1 (unbound_as x line answer)
    (as_quiet answer) in grind arith
  where
    as_quiet : (answer : Result (Unit {0}) ℕ) → is_quiet (unbound_as x line answer) ≡ true
    as_quiet answer = grind arith

own_quiet : (plan : Plan) (h : History) (x : Site) (e : InterfaceEvent) → is_quiet (interface_due plan h x e) ≡ true
own_quiet plan h x (ie.Lock i loss) = lock_quiet plan h x loss
own_quiet plan h x (ie.Report i loss) = report_quiet plan x (managed_view h x).view loss
    (option_map (kept_report x.plan) (lock_of (interface_at plan h x).state))
own_quiet plan h x (ie.Start i loss) =
    let m = managed_view h x in
    let draw = stream_draw h x.link x.plan.stream in
    start_quiet x m.view m.reported (host_status h x) draw m.needs loss
    (start_answer (interface_at plan h x).state m.nonce)
own_quiet plan h x (ie.Halt i loss) = unless_lost_quiet loss 1 _ refl
own_quiet plan h x (ie.State i loss) = unless_lost_quiet loss 1 _ refl
own_quiet plan h x (ie.Bind i line stream loss) =
    if_quiet (has_peer plan.peers x.link line stream) _ v.Nothing
    (bind_quiet x (managed_view h x).view (op_status (op_of h line stream)) (stream_draw h line stream)
    (managed_view h x).needs
    line loss (bind_answer (interface_at plan h x) stream ((around_at_site plan h x).live stream))) refl
own_quiet plan h x (ie.Unbind i line stream loss) = if_quiet (has_peer plan.peers x.link line stream) _ v.Nothing
    (unbind_quiet x (managed_view h x).view line loss (unbind_answer (interface_at plan h x) stream)) refl
own_quiet plan h x (ie.View i) = refl
own_quiet plan h x (ie.Write i register value) = if_quiet (has_register x.plan register) _ v.Nothing refl refl
own_quiet plan h x (ie.Flr i) = refl
own_quiet plan h x (ie.Firmware i) = refl
own_quiet plan h x (ie.Memory at len) = refl

site_quiet : (plan : Plan) (h : History) (e : InterfaceEvent) (o : Option Site)
    → is_quiet (on_site (λ x. interface_due plan h x e) o) ≡ true
site_quiet plan h e None = refl
site_quiet plan h e (Some x) = own_quiet plan h x e

number_quiet : (plan : Plan) (h : History) (e : InterfaceEvent) (o : Option ℕ) (given : Verdict) → is_quiet given ≡ true
    → is_quiet (with_number plan h e o given) ≡ true
number_quiet plan h e None given is = is
number_quiet plan h e (Some i) given is = site_quiet plan h e (site_at plan i)

shown_quiet : (b : Bool) (bytes : List ℕ) → is_quiet (shown_if b bytes) ≡ true
shown_quiet b bytes = grind arith

memory_quiet : (plan : Plan) (h : History) (e : InterfaceEvent) → is_quiet (memory_due plan h e) ≡ true
memory_quiet plan h (ie.Memory at len) = shown_quiet (in_one_region plan.memory at len) _
memory_quiet plan h e = refl

pub interface_due_quiet : (plan : Plan) (h : History) (e : InterfaceEvent) → is_quiet (due plan h (Interface e)) ≡ true
unfolding due due_of
interface_due_quiet plan h e = number_quiet plan h e (number_in e) (memory_due plan h e) (memory_quiet plan h e)

-- ---- guarded memory

mmio_if_quiet : (b : Bool) (bytes : List ℕ) → is_quiet (mmio_if b bytes) ≡ true
mmio_if_quiet b bytes = grind arith

mmio_shown_quiet : (plan : Plan) (happened_at : ℕ → List Happened) (o : Option Site) (bar offset len : ℕ)
    → is_quiet (mmio_shown plan happened_at o bar offset len) ≡ true
mmio_shown_quiet plan happened_at None bar offset len = refl
mmio_shown_quiet plan happened_at (Some x) bar offset len = mmio_if_quiet _ _

pub mmio_quiet : (plan : Plan) (h : History) (i bar offset len : ℕ) → is_quiet (mmio_due plan h i bar offset len) ≡ true
mmio_quiet plan h i bar offset len = mmio_shown_quiet plan (link_happenings plan h) (site_at plan i) bar offset len
