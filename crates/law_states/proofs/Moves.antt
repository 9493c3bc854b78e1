-- What a pair makes of a view.
use Rattle.std.proofs.Common.{◌≡◌, ℕ, ◌≤◌, ◌==◌, ◌&&◌, ◌||◌, ◌∷◌, Bool, true, false, not, List}
use Rattle.std.proofs.Common.{Option, Some, length, if◌then◌else◌, refl, sym, subst, arith, inl, inr}
use Rattle.std.proofs.lemmas.Bool.{true≢false}
use Rattle.std.proofs.lemmas.Bool.Decides.{nat_tests}
use Rattle.std.specs.Prelude.{nat_le, is_some}
use Rattle.spec_links.specs.Cause.{CauseLaw}
unfoldable use Rattle.spec_links.specs.Due.{due}
use Rattle.spec_links.specs.Plan.{stream_plan}
unfoldable use Rattle.spec_keys.specs.Due.{key_due}
use Rattle.spec_keys.specs.Due.{operation_verdict, finished_verdict, ports_at}
use Rattle.spec_keys.specs.Operations.{Stopping, work_of, reach_of}
use Rattle.spec_keys.proofs.Performs.{is_cut, performed_is}
use Rattle.event_verdicts.specs.declared.verdict.Operation.TheVariants as op
use Rattle.spec_interfaces.specs.Terms.{Plan, View, Event}
use Rattle.spec_interfaces.specs.Terms.{InterfaceEvent, Loss, Verdict, History, StreamStage, op_of, draws, PortName}
use Rattle.spec_interfaces.specs.Sites.{Site, site_at}
use Rattle.spec_interfaces.specs.Views.{Managed, on_lock, on_report, on_start, on_halt, on_state, on_bind, view_broken}
use Rattle.spec_interfaces.specs.Views.{on_operation, number_in, is_number, stop_breaks, view_at, peer_of}
use Rattle.spec_interfaces.specs.Views.{managed_after}
unfoldable use Rattle.spec_interfaces.specs.Views.{managed_view}
use Rattle.spec_interfaces.specs.Due.{asked_state}
use Rattle.law_states.specs.Views.{MovesView, is_stopping, has_begun, stops_stream, was_bind_asked}
use Rattle.law_states.proofs.Asked.{AskedIs, asked_is, at_place}
use Rattle.law_states.proofs.Told.{OfRefusals, OfDone, due_tells}
use Rattle.law_states.proofs.Shown.{own_number}
use Rattle.script_events.specs.declared.event.Event.TheVariants as event
use Rattle.script_events.specs.declared.event.InterfaceEvent.TheVariants as ie
use Rattle.event_verdicts.specs.declared.verdict.Verdict.TheVariants as v
use Rattle.ide_types.specs.declared.verdict.InterfaceVerdict.TheVariants as iv

-- ---- which event tells what

abbrev is_lock_of : ℕ → InterfaceEvent → Bool
is_lock_of j (ie.Lock i loss) = i == j
is_lock_of j e = false

abbrev is_start_of : ℕ → InterfaceEvent → Bool
is_start_of j (ie.Start i loss) = i == j
is_start_of j e = false

abbrev is_halt_of : ℕ → InterfaceEvent → Bool
is_halt_of j (ie.Halt i loss) = i == j
is_halt_of j e = false

abbrev is_state_of : ℕ → InterfaceEvent → Bool
is_state_of j (ie.State i loss) = i == j
is_state_of j e = false

-- a verdict that tells of a lock, a start, a halt or a state comes of an event that asks for it, of the same number
abbrev fits : InterfaceEvent → Verdict → Bool
fits e (v.Interface (iv.Locked j nonce)) = is_lock_of j e
fits e (v.Interface (iv.Started j draw)) = is_start_of j e
fits e (v.Interface (iv.Halted j needs)) = is_halt_of j e
fits e (v.Interface (iv.State j state)) = is_state_of j e
fits e w = true

abbrev FitsEvent : InterfaceEvent → Verdict → Type 0
FitsEvent e w = fits e w ≡ true

of_refusals : (e : InterfaceEvent) → OfRefusals (FitsEvent e)
of_refusals e = record {
  view = λ view. refl;
  report = refl;
  fresh = λ draw needs. refl;
  secure = λ s. refl;
  request = λ n. refl;
  reply = λ n. refl;
  device = λ n code. refl;
  nothing = refl;
}

done : (plan : Plan) (h : History) (e : InterfaceEvent) (j : ℕ) (x : Site) → number_in e ≡ Some j
    → site_at plan j ≡ Some x → OfDone (FitsEvent e) x (asked_state plan h x) e
done plan h (ie.Lock i loss) j x named at = λ nonce. own_number plan i j x named at
done plan h (ie.Report i loss) j x named at = λ report. refl
done plan h (ie.Start i loss) j x named at = own_number plan i j x named at
done plan h (ie.Halt i loss) j x named at = own_number plan i j x named at
done plan h (ie.State i loss) j x named at = own_number plan i j x named at
done plan h (ie.Bind i line stream loss) j x named at = refl
done plan h (ie.Unbind i line stream loss) j x named at = refl
done plan h (ie.View i) j x named at = refl
done plan h (ie.Write i register value) j x named at = refl
done plan h (ie.Flr i) j x named at = refl
done plan h (ie.Firmware i) j x named at = refl
done plan h (ie.Memory at len) j x named known = refl

fits_due : (plan : Plan) (h : History) (e : InterfaceEvent) (w : Verdict) → w ≡ due plan h (event.Interface e)
    → fits e w ≡ true
fits_due plan h e w is = due_tells (FitsEvent e) (of_refusals e) plan h e w is (λ bytes. refl) (done plan h e)

-- ---- events on interfaces

lock_moves : (h : History) (i : ℕ) (loss : Option Loss) (w : Verdict) (x : Site) (m : Managed)
    → fits (ie.Lock i loss) w ≡ true
    → MovesView h (event.Interface (ie.Lock i loss)) w x m.view (if i == x.number then on_lock m w else m).view
lock_moves h i loss w x m fit = record {
  locked = λ is. grind (arith, nat_tests);
  started = λ is. grind (arith, nat_tests);
  halted = λ is. grind (arith, nat_tests);
  lost = λ is. grind (arith, nat_tests);
  wrong = λ is. grind (arith, nat_tests);
  stopped = λ is. absurd (true≢false (sym is));
  reset = λ is. absurd (true≢false (sym is));
  stayed = λ a b c d e f g. grind (arith, nat_tests);
}

start_moves : (h : History) (i : ℕ) (loss : Option Loss) (w : Verdict) (x : Site) (m : Managed)
    → fits (ie.Start i loss) w ≡ true
    → MovesView h (event.Interface (ie.Start i loss)) w x m.view (if i == x.number then on_start m w else m).view
start_moves h i loss w x m fit = record {
  locked = λ is. grind (arith, nat_tests);
  started = λ is. grind (arith, nat_tests);
  halted = λ is. grind (arith, nat_tests);
  lost = λ is. grind (arith, nat_tests);
  wrong = λ is. grind (arith, nat_tests);
  stopped = λ is. absurd (true≢false (sym is));
  reset = λ is. absurd (true≢false (sym is));
  stayed = λ a b c d e f g. grind (arith, nat_tests);
}

halt_moves : (h : History) (i : ℕ) (loss : Option Loss) (w : Verdict) (x : Site) (m : Managed) (drawn : ℕ)
    → fits (ie.Halt i loss) w ≡ true
    → MovesView h (event.Interface (ie.Halt i loss)) w x m.view (if i == x.number then on_halt drawn m w else m).view
halt_moves h i loss w x m drawn fit = record {
  locked = λ is. grind (arith, nat_tests);
  started = λ is. grind (arith, nat_tests);
  halted = λ is. grind (arith, nat_tests);
  lost = λ is. grind (arith, nat_tests);
  wrong = λ is. grind (arith, nat_tests);
  stopped = λ is. absurd (true≢false (sym is));
  reset = λ is. absurd (true≢false (sym is));
  stayed = λ a b c d e f g. grind (arith, nat_tests);
}

state_moves : (h : History) (i : ℕ) (loss : Option Loss) (w : Verdict) (x : Site) (m : Managed)
    → fits (ie.State i loss) w ≡ true
    → MovesView h (event.Interface (ie.State i loss)) w x m.view (if i == x.number then on_state m w else m).view
state_moves h i loss w x m fit = record {
  locked = λ is. grind (arith, nat_tests);
  started = λ is. grind (arith, nat_tests);
  halted = λ is. grind (arith, nat_tests);
  lost = λ is. grind (arith, nat_tests);
  wrong = λ is. grind (arith, nat_tests);
  stopped = λ is. absurd (true≢false (sym is));
  reset = λ is. absurd (true≢false (sym is));
  stayed = λ a b c d e f g. grind (arith, nat_tests);
}

-- any other event
abbrev leaves_view : InterfaceEvent → Bool
leaves_view (ie.Lock i loss) = false
leaves_view (ie.Start i loss) = false
leaves_view (ie.Halt i loss) = false
leaves_view (ie.State i loss) = false
leaves_view e = true

other_moves : (h : History) (e : InterfaceEvent) (w : Verdict) (x : Site) (view next : View) → leaves_view e ≡ true
    → fits e w ≡ true → next ≡ view → MovesView h (event.Interface e) w x view next
other_moves h e w x view next other fit same = record {
  locked = λ is. grind (arith, nat_tests);
  started = λ is. grind (arith, nat_tests);
  halted = λ is. grind (arith, nat_tests);
  lost = λ is. grind (arith, nat_tests);
  wrong = λ is. grind (arith, nat_tests);
  stopped = λ is. absurd (true≢false (sym is));
  reset = λ is. absurd (true≢false (sym is));
  stayed = λ a b c d e f g. same;
}

report_view : (b : Bool) (m : Managed) (w : Verdict) → (if b then on_report m w else m).view ≡ m.view
report_view b m w = grind arith

bind_view : (b : Bool) (line : ℕ) (m : Managed) (w : Verdict) → (if b then on_bind line m w else m).view ≡ m.view
bind_view b line m w = grind arith

same_view : (b : Bool) (m : Managed) → (if b then m else m).view ≡ m.view
same_view b m = grind arith

interface_moves : (h : History) (e : InterfaceEvent) (w : Verdict) (x : Site) (m : Managed) (drawn : ℕ)
    → fits e w ≡ true → MovesView h (event.Interface e) w x m.view
    (if is_number (number_in e) x.number then on_operation drawn e w m else m).view
interface_moves h (ie.Lock i loss) w x m drawn fit = lock_moves h i loss w x m fit
interface_moves h (ie.Start i loss) w x m drawn fit = start_moves h i loss w x m fit
interface_moves h (ie.Halt i loss) w x m drawn fit = halt_moves h i loss w x m drawn fit
interface_moves h (ie.State i loss) w x m drawn fit = state_moves h i loss w x m fit
interface_moves h (ie.Report i loss) w x m drawn fit =
    other_moves h (ie.Report i loss) w x m.view _ refl fit (report_view (i == x.number) m w)
interface_moves h (ie.Bind i line stream loss) w x m drawn fit =
    other_moves h (ie.Bind i line stream loss) w x m.view _ refl fit (bind_view (i == x.number) line m w)
interface_moves h e w x m drawn fit =
    other_moves h e w x m.view _ refl fit (same_view (is_number (number_in e) x.number) m)

-- ---- stops

cut_reaches : (w : Verdict) → is_cut w ≡ true → is_some (reach_of op.Stop w) ≡ is_stopping w
cut_reaches w is = grind arith

there_reaches : (b : Bool) (w : Verdict) → is_some (reach_of op.Stop w) ≡ is_stopping w
    → is_some (reach_of op.Stop (if b then w else v.Nothing)) ≡ is_stopping (if b then w else v.Nothing)
there_reaches true w is = is
there_reaches false w is = refl

stop_work : (o : StreamStage) (next line stream : ℕ) → (w : Verdict)
    → w ≡ finished_verdict line stream (work_of op.Stop o next) → is_some (reach_of op.Stop w) ≡ is_stopping w
stop_work (Stopping n) next line stream w is = rw is refl
stop_work o next line stream w is = rw is refl

-- what is due of a stop is no other operation's end
stop_reaches : (plan : Plan) (h : History) (line stream : ℕ) (loss : Option Loss)
    → is_some (reach_of op.Stop (due plan h (event.Stop line stream loss)))
    ≡ is_stopping (due plan h (event.Stop line stream loss))
unfolding due key_due
stop_reaches plan h line stream loss =
    let work = work_of op.Stop (op_of h line stream) (draws h) in
    there_reaches (is_some (stream_plan plan line stream)) _
    (elim (performed_is (ports_at h) line stream loss work) [
      | inl ended ↦ stop_work (op_of h line stream) (draws h) line stream _ ended
      | inr cut ↦ cut_reaches (operation_verdict (ports_at h) line stream loss work) cut
    ])

begins_not : (o : StreamStage) (next : ℕ) → (work_of op.Stop o next).begins ≡ not (has_begun o)
begins_not (Stopping n) next = refl
begins_not o next = refl

breaks_same : (a b begins reach least listed begun stopping asked : Bool) → reach ≡ stopping → begins ≡ not begun
    → (least ≡ true → listed ≡ asked)
    → ((a && b && (begins && reach)) || ((least && listed) && reach))
    ≡ (stopping && ((a && b && not begun) || (least && asked)))
breaks_same a b begins reach true listed begun stopping asked one two three = rw (one, two, three refl) (grind arith)
breaks_same a b begins reach false listed begun stopping asked one two three = rw (one, two) (grind arith)

broken_if : (b c : Bool) (m : Managed) → b ≡ c → c ≡ true
    → (if b then record m { view = view_broken m.view } else m).view ≡ view_broken m.view
broken_if b c m one two = rw (one, two) refl

left_if : (b c : Bool) (m : Managed) → b ≡ c → c ≡ false
    → (if b then record m { view = view_broken m.view } else m).view ≡ m.view
left_if b c m one two = rw (one, two) refl

least_is : (line : ℕ) → nat_le 24 line ≡ true → 24 ≤ line
least_is line is = grind (arith, nat_tests)

stop_moves : (plan : Plan) (h : History) (line stream : ℕ) (loss : Option Loss) (w : Verdict) (x : Site)
    → w ≡ due plan h (event.Stop line stream loss) → AskedIs h x (managed_view h x).asked
    → MovesView h (event.Stop line stream loss) w x (view_at h x)
    (managed_after (op_of h) (draws h) x (event.Stop line stream loss) w (managed_view h x)).view
stop_moves plan h line stream loss w x is asked =
    let same : stop_breaks (op_of h) (draws h) x line stream w (managed_view h x)
    ≡ stops_stream h (event.Stop line stream loss) w x =
    breaks_same (line == x.link) (stream == x.plan.stream) (work_of op.Stop (op_of h line stream) (draws h)).begins
    (is_some (reach_of op.Stop w)) (nat_le 24 line) (at_place (managed_view h x).asked (peer_of line))
    (has_begun (op_of h line stream)) (is_stopping w) (was_bind_asked h x line)
    (subst (λ (z : Verdict). is_some (reach_of op.Stop z) ≡ is_stopping z) (sym is)
    (stop_reaches plan h line stream loss))
    (begins_not (op_of h line stream) (draws h)) (λ le. asked.is line (least_is line le)) in
    record {
      locked = λ is. absurd (true≢false (sym is));
      started = λ is. absurd (true≢false (sym is));
      halted = λ is. absurd (true≢false (sym is));
      lost = λ is. absurd (true≢false (sym is));
      wrong = λ is. absurd (true≢false (sym is));
      stopped = λ is. broken_if _ _ (managed_view h x) same is;
      reset = λ is. absurd (true≢false (sym is));
      stayed = λ a b c d e f g. left_if _ _ (managed_view h x) same f;
    }

-- ---- the pair

reset_moves : (h : History) (k l : ℕ) (ends : List PortName) (x : Site) (m : Managed)
    → MovesView h (event.Reset l ends) (v.Reset k) x m.view
    (if l == x.link then record m { view = view_broken m.view } else m).view
reset_moves h k l ends x m = record {
  locked = λ is. absurd (true≢false (sym is));
  started = λ is. absurd (true≢false (sym is));
  halted = λ is. absurd (true≢false (sym is));
  lost = λ is. absurd (true≢false (sym is));
  wrong = λ is. absurd (true≢false (sym is));
  stopped = λ is. absurd (true≢false (sym is));
  reset = λ is. broken_if _ _ m refl is;
  stayed = λ a b c d e f g. left_if _ _ m refl g;
}

by_event : (plan : Plan) (h : History) (e : Event) (w : Verdict) (x : Site) → w ≡ due plan h e
    → AskedIs h x (managed_view h x).asked
    → MovesView h e w x (view_at h x) (managed_after (op_of h) (draws h) x e w (managed_view h x)).view
by_event plan h (event.Interface e) w x is asked =
    interface_moves h e w x (managed_view h x) (draws h) (fits_due plan h e w is)
by_event plan h (event.Stop line stream loss) w x is asked = stop_moves plan h line stream loss w x is asked
by_event plan h (event.Reset l ends) (v.Reset k) x is asked =
    reset_moves h k l ends x (managed_view h x)
by_event plan h e w x is asked = record {
  locked = λ is. absurd (true≢false (sym is));
  started = λ is. absurd (true≢false (sym is));
  halted = λ is. absurd (true≢false (sym is));
  lost = λ is. absurd (true≢false (sym is));
  wrong = λ is. absurd (true≢false (sym is));
  stopped = λ is. absurd (true≢false (sym is));
  reset = λ is. absurd (true≢false (sym is));
  stayed = λ a b c d e f g. refl;
}

pub moves_view : (plan : Plan) (h : History) (e : Event) (w : Verdict) (x : Site) → length plan.peers ≤ 8
    → site_at plan x.number ≡ Some x → CauseLaw plan ((e, w) ∷ h)
    → MovesView h e w x (view_at h x) (view_at ((e, w) ∷ h) x)
unfolding managed_view
moves_view plan h e w x few at cause = by_event plan h e w x cause.0 (asked_is plan h x few at cause.1)
