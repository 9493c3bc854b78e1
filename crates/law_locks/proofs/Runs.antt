-- Each key serves one lock of an interface. While the lock stands under which a draw was admitted, the manager has the
-- interface started; the halt that ends it makes every draw so far too small for the next start.
use Rattle.std.proofs.Common.{◌≡◌, ◌⊎◌, ℕ, ◌<◌, ◌≤◌, ◌==◌, ◌∷◌, ◌++◌, Bool, true, false, [], Option, Some}
use Rattle.std.proofs.Common.{Result, if◌then◌else◌, refl, sym, ap, ◌∙◌, inl, inr, subst, arith}
use Rattle.std.proofs.lemmas.Bool.{cases_Bool}
use Rattle.std.proofs.lemmas.Bool.Decides.{nat_tests}
use Rattle.spec_interfaces.specs.Terms.{Plan, StreamStatus, View, Unlocked, Locked, Running, Doubt, Broken, Event}
use Rattle.spec_interfaces.specs.Terms.{InterfaceEvent, Loss, Verdict, History, start_answer, op_of, draws, if_secure}
use Rattle.spec_interfaces.specs.Sites.{Site, site_at}
use Rattle.spec_interfaces.specs.Exchanges.{carries}
use Rattle.spec_interfaces.specs.Views.{Managed, on_lock, on_report, on_start, on_halt, on_state, on_bind, view_broken}
use Rattle.spec_interfaces.specs.Views.{number_in, is_number, stop_breaks, view_at, floor_at, stream_draw}
unfoldable use Rattle.spec_interfaces.specs.Views.{managed_view}
use Rattle.spec_interfaces.specs.Devices.{locks_accepted, interface_at}
use Rattle.spec_interfaces.specs.Due.{interface_due, unless_lost, if_unlocked, if_locked, if_reported, if_fresh}
use Rattle.spec_interfaces.specs.Due.{started_as, host_status}
use Rattle.spec_interfaces.specs.Cause.{InterfaceCause}
use Rattle.spec_interfaces.proofs.Rests.{locks_it, locks_stay}
use Rattle.spec_interfaces.proofs.Views.{managed_step, managed_own, managed_other, due_own, not_carried}
use Rattle.spec_keys.specs.Operations.{Begun}
use Rattle.spec_keys.specs.History.{begun_of_draw}
unfoldable use Rattle.spec_keys.specs.History.{manager}
use Rattle.spec_keys.proofs.Owners.{begun_below, after_longer}
use Rattle.script_events.specs.declared.event.Event.TheVariants as event
use Rattle.script_events.specs.declared.event.InterfaceEvent.TheVariants as ie
use Rattle.event_verdicts.specs.declared.verdict.Verdict.TheVariants as v
use Rattle.ide_types.specs.declared.verdict.InterfaceVerdict.TheVariants as iv

-- ---- what the manager keeps since a draw was admitted

-- the lock stands under which it was: the interface was started, and not halted since
pub record IsStillStarted (m : Managed) : Type 0 where
  pub started : m.started ≡ true
  pub locked : m.view ≡ Unlocked → ⊥

-- it is past: the draw is less than the next start needs, and than the floor of one that came since
pub record IsPast (m : Managed) (j : ℕ) : Type 0 where
  pub needs : j < m.needs
  pub floor : m.view ≡ Running → j < m.floor

abbrev pub Since : Plan → ℕ → ℕ → History → Site → Type 0
Since plan locks j h x = ((locks_accepted plan h x ≡ locks) × IsStillStarted (managed_view h x))
    ⊎ IsPast (managed_view h x) j

-- ---- pairs that change nothing of it

record Leaves (m n : Managed) : Type 0 where
  unlocked : n.view ≡ Unlocked → m.view ≡ Unlocked
  running : n.view ≡ Running → m.view ≡ Running
  started : n.started ≡ m.started
  floor : n.floor ≡ m.floor
  needs : n.needs ≡ m.needs

stands_on : (m n : Managed) → Leaves m n → IsStillStarted m → IsStillStarted n
stands_on m n leaves stands =
    record { started = leaves.started ∙ stands.started; locked = λ is. stands.locked (leaves.unlocked is) }

past_on : (m n : Managed) (j : ℕ) → Leaves m n → IsPast m j → IsPast n j
past_on m n j leaves past = record {
  needs = omega (arith, leaves.needs, past.needs);
  floor = λ is. let less = past.floor (leaves.running is) in omega (arith, leaves.floor, less);
}

still : (plan : Plan) (locks j : ℕ) (h : History) (e : Event) (w : Verdict) (x : Site) → locks_it x e w ≡ false
    → Leaves (managed_view h x) (managed_view ((e, w) ∷ h) x) → Since plan locks j h x
    → Since plan locks j ((e, w) ∷ h) x
still plan locks j h e w x none leaves (inl same) =
    inl (locks_stay plan h e w x none ∙ same.0, stands_on (managed_view h x) _ leaves same.1)
still plan locks j h e w x none leaves (inr past) = inr (past_on (managed_view h x) _ j leaves past)

same_leaves : (m n : Managed) → n ≡ m → Leaves m n
same_leaves m n same = record {
  unlocked = λ is. sym (ap (λ (k : Managed). k.view) same) ∙ is;
  running = λ is. sym (ap (λ (k : Managed). k.view) same) ∙ is;
  started = ap (λ (k : Managed). k.started) same;
  floor = ap (λ (k : Managed). k.floor) same;
  needs = ap (λ (k : Managed). k.needs) same;
}

as_leaves : (m n k : Managed) → n ≡ k → Leaves m k → Leaves m n
as_leaves m n k same leaves = subst (Leaves m) (sym same) leaves

report_leaves : (m : Managed) (w : Verdict) → Leaves m (on_report m w)
report_leaves m (v.Interface (iv.Reported i report)) =
    record { unlocked = λ is. is; running = λ is. is; started = refl; floor = refl; needs = refl }
report_leaves m (v.Interface w) = same_leaves m m refl
report_leaves m w = same_leaves m m refl

state_unlocked : (m : Managed) (w : Verdict) → (on_state m w).view ≡ Unlocked → m.view ≡ Unlocked
state_unlocked m w is = grind (arith, is)

state_running : (m : Managed) (w : Verdict) → (on_state m w).view ≡ Running → m.view ≡ Running
state_running m w is = grind (arith, is)

state_same : (m : Managed) (w : Verdict) → ((on_state m w).started ≡ m.started) × ((on_state m w).floor ≡ m.floor)
    × ((on_state m w).needs ≡ m.needs)
state_same m w = (grind arith, grind arith, grind arith)

state_leaves : (m : Managed) (w : Verdict) → Leaves m (on_state m w)
state_leaves m w = let same = state_same m w in record {
  unlocked = state_unlocked m w;
  running = state_running m w;
  started = same.0;
  floor = same.1;
  needs = same.2;
}

bind_leaves : (line : ℕ) (m : Managed) (w : Verdict) → Leaves m (on_bind line m w)
bind_leaves line m w = record {
  unlocked = λ is. grind (arith, is);
  running = λ is. grind (arith, is);
  started = grind arith;
  floor = grind arith;
  needs = grind arith;
}

broken_leaves : (m : Managed) (b : Bool) → Leaves m (if b then record m { view = view_broken m.view } else m)
broken_leaves m b = record {
  unlocked = λ is. grind (arith, is);
  running = λ is. grind (arith, is);
  started = grind arith;
  floor = grind arith;
  needs = grind arith;
}

-- ---- lock

lock_past : (m : Managed) (j : ℕ) (w : Verdict) → IsPast m j → IsPast (on_lock m w) j
lock_past m j w past =
    let needs = past.needs in
    let floor = past.floor in
    record { needs = grind (arith, needs); floor = λ is. grind (arith, is, floor) }

not_unlocked : (m : Managed) (z w : Verdict) → w ≡ if_unlocked m.view z → (m.view ≡ Unlocked → ⊥)
    → (on_lock m w ≡ m) × (carries w 3 ≡ false)
not_unlocked m z w is locked = by m.view refl is
  where
    refused : (view : View) → w ≡ v.Interface (iv.RefusedWrongState view) → (on_lock m w ≡ m) × (carries w 3 ≡ false)
    refused view is = (ap (on_lock m) is, ap (λ (u : Verdict). carries u 3) is)

    by : (view : View) → m.view ≡ view → w ≡ if_unlocked view z → (on_lock m w ≡ m) × (carries w 3 ≡ false)
    by Unlocked at is = absurd (locked at)
    by Locked at is = refused Locked is
    by Running at is = refused Running is
    by Doubt at is = refused Doubt is
    by Broken at is = refused Broken is

lock_turn : (plan : Plan) (locks j : ℕ) (h : History) (i : ℕ) (loss : Option Loss) (w : Verdict) (x : Site)
    → (i == x.number) ≡ true → w ≡ interface_due plan h x (ie.Lock i loss) → Since plan locks j h x
    → Since plan locks j ((event.Interface (ie.Lock i loss), w) ∷ h) x
lock_turn plan locks j h i loss w x own due (inl same) =
    let stays = not_unlocked (managed_view h x) _ w due same.1.locked in
    still plan locks j h (event.Interface (ie.Lock i loss)) w x (not_carried (i == x.number) (carries w 3) stays.1)
    (same_leaves (managed_view h x) _ (managed_own h (ie.Lock i loss) w x own ∙ stays.0)) (inl same)
lock_turn plan locks j h i loss w x own due (inr past) =
    inr (subst (λ (m : Managed). IsPast m j) (sym (managed_own h (ie.Lock i loss) w x own))
    (lock_past (managed_view h x) j w past))

-- ---- start

start_stands : (m : Managed) (w : Verdict) → IsStillStarted m → IsStillStarted (on_start m w)
start_stands m w stands =
    let started = stands.started in
    let locked = stands.locked in
    record { started = grind (arith, started); locked = λ is. locked (grind (arith, is)) }

started_needs : (x : Site) (view : View) (reported : Bool) (s : StreamStatus) (draw needs : ℕ) (loss : Option Loss)
    (answer : Result (Unit {0}) ℕ) (i d : ℕ) → v.Interface (iv.Started i d)
    ≡ if_locked view (if_reported reported
    (if_secure s (if_fresh draw needs (unless_lost loss 1 (started_as x draw answer))))) → needs ≤ d
started_needs x view reported s draw needs loss answer i d is = grind (arith, nat_tests, is)

start_past : (m : Managed) (j draw : ℕ) (x : Site) (s : StreamStatus) (loss : Option Loss)
    (answer : Result (Unit {0}) ℕ) (w : Verdict) → w ≡ if_locked m.view
    (if_reported m.reported (if_secure s (if_fresh draw m.needs (unless_lost loss 1 (started_as x draw answer)))))
    → IsPast m j → IsPast (on_start m w) j
start_past m j draw x s loss answer (v.Interface (iv.Started i d)) is past =
    let le = started_needs x m.view m.reported s draw m.needs loss answer i d is in
    record { needs = past.needs; floor = λ view. omega (arith, le, past.needs) }
start_past m j draw x s loss answer w is past =
    let needs = past.needs in
    let floor = past.floor in
    record { needs = grind (arith, needs); floor = λ view. grind (arith, view, floor) }

-- ---- halt

halt_turns : (m : Managed) (j drawn : ℕ) (w : Verdict) → j < drawn → IsStillStarted m
    → IsStillStarted (on_halt drawn m w) ⊎ IsPast (on_halt drawn m w) j
halt_turns m j drawn (v.Interface (iv.Halted i needs)) less stands =
    inr (record { needs = rw stands.started less; floor = λ is. absurd cc })
halt_turns m j drawn w less stands =
    let started = stands.started in
    let locked = stands.locked in
    inl (record { started = grind (arith, started); locked = λ is. locked (grind (arith, is)) })

halt_past : (m : Managed) (j drawn : ℕ) (w : Verdict) → j < drawn → IsPast m j → IsPast (on_halt drawn m w) j
halt_past m j drawn w less past =
    let needs = past.needs in
    let floor = past.floor in
    record { needs = grind (arith, needs, less); floor = λ is. grind (arith, is, floor) }

-- ---- the pair

-- a draw that was made stays made
abbrev pub IsMade : History → ℕ → Begun → Type 0
IsMade h j b = begun_of_draw (manager h).begun j ≡ Some b

made_later : (h : History) (e : Event) (w : Verdict) (j : ℕ) (b : Begun) → IsMade h j b → IsMade ((e, w) ∷ h) j b
unfolding manager
made_later h e w j b is = after_longer (manager h) e w j b is

own_turn : (plan : Plan) (locks j : ℕ) (h : History) (e : InterfaceEvent) (w : Verdict) (x : Site)
    → site_at plan x.number ≡ Some x → is_number (number_in e) x.number ≡ true
    → InterfaceCause plan ((event.Interface e, w) ∷ h) → j < draws h → Since plan locks j h x
    → Since plan locks j ((event.Interface e, w) ∷ h) x
own_turn plan locks j h (ie.Lock i loss) w x at own cause less since =
    lock_turn plan locks j h i loss w x own (due_own plan h x (ie.Lock i loss) i w at refl own cause.0) since
own_turn plan locks j h (ie.Report i loss) w x at own cause less since =
    still plan locks j h (event.Interface (ie.Report i loss)) w x refl
    (as_leaves (managed_view h x) _ _ (managed_own h (ie.Report i loss) w x own) (report_leaves (managed_view h x) w))
    since
own_turn plan locks j h (ie.Start i loss) w x at own cause less (inl same) =
    inl (
      locks_stay plan h (event.Interface (ie.Start i loss)) w x refl ∙ same.0,
      subst IsStillStarted (sym (managed_own h (ie.Start i loss) w x own)) (start_stands (managed_view h x) w same.1),
    )
own_turn plan locks j h (ie.Start i loss) w x at own cause less (inr past) =
    inr (subst (λ (m : Managed). IsPast m j) (sym (managed_own h (ie.Start i loss) w x own))
    (start_past (managed_view h x) j (stream_draw h x.link x.plan.stream) x (host_status h x) loss
    (start_answer (interface_at plan h x).state (managed_view h x).nonce) w
    (due_own plan h x (ie.Start i loss) i w at refl own cause.0) past))
own_turn plan locks j h (ie.Halt i loss) w x at own cause less (inl same) =
    elim (halt_turns (managed_view h x) j (draws h) w less same.1) [
      | inl stands ↦ inl (
        locks_stay plan h (event.Interface (ie.Halt i loss)) w x refl ∙ same.0,
        subst IsStillStarted (sym (managed_own h (ie.Halt i loss) w x own)) stands,
      )
      | inr past ↦ inr (subst (λ (m : Managed). IsPast m j) (sym (managed_own h (ie.Halt i loss) w x own)) past)
    ]
own_turn plan locks j h (ie.Halt i loss) w x at own cause less (inr past) =
    inr (subst (λ (m : Managed). IsPast m j) (sym (managed_own h (ie.Halt i loss) w x own))
    (halt_past (managed_view h x) j (draws h) w less past))
own_turn plan locks j h (ie.State i loss) w x at own cause less since =
    still plan locks j h (event.Interface (ie.State i loss)) w x refl
    (as_leaves (managed_view h x) _ _ (managed_own h (ie.State i loss) w x own) (state_leaves (managed_view h x) w))
    since
own_turn plan locks j h (ie.Bind i line stream loss) w x at own cause less since =
    still plan locks j h (event.Interface (ie.Bind i line stream loss)) w x refl
    (as_leaves (managed_view h x) _ _ (managed_own h (ie.Bind i line stream loss) w x own)
    (bind_leaves line (managed_view h x) w)) since
own_turn plan locks j h e w x at own cause less since =
    still plan locks j h (event.Interface e) w x refl (same_leaves (managed_view h x) _ (managed_own h e w x own)) since

pub other_not : (x : Site) (e : InterfaceEvent) (w : Verdict) → is_number (number_in e) x.number ≡ false
    → locks_it x (event.Interface e) w ≡ false
other_not x (ie.Lock i loss) w other = rw other refl
other_not x e w other = refl

turn : (plan : Plan) (locks j : ℕ) (h : History) (e : Event) (w : Verdict) (x : Site) → site_at plan x.number ≡ Some x
    → InterfaceCause plan ((e, w) ∷ h) → j < draws h → Since plan locks j h x → Since plan locks j ((e, w) ∷ h) x
turn plan locks j h (event.Interface e) w x at cause less since =
    elim (cases_Bool (is_number (number_in e) x.number)) [
      | inl own ↦ own_turn plan locks j h e w x at own cause less since
      | inr other ↦
          still plan locks j h (event.Interface e) w x (other_not x e w other)
          (same_leaves (managed_view h x) _ (managed_other h e w x other)) since
    ]
turn plan locks j h (event.Stop line stream loss) w x at cause less since =
    still plan locks j h (event.Stop line stream loss) w x refl
    (as_leaves (managed_view h x) _ _ (managed_step h (event.Stop line stream loss) w x)
    (broken_leaves (managed_view h x) (stop_breaks (op_of h) (draws h) x line stream w (managed_view h x)))) since
turn plan locks j h (event.Reset link ends) (v.Reset l) x at cause less since =
    still plan locks j h (event.Reset link ends) (v.Reset l) x refl
    (as_leaves (managed_view h x) _ _ (managed_step h (event.Reset link ends) (v.Reset l) x)
    (broken_leaves (managed_view h x) (link == x.link))) since
turn plan locks j h e w x at cause less since =
    still plan locks j h e w x refl (same_leaves (managed_view h x) _ (managed_step h e w x)) since

-- ---- all pairs since

pub record Later (plan : Plan) (locks j : ℕ) (b : Begun) (h : History) (x : Site) : Type 0 where
  pub made : IsMade h j b
  pub since : Since plan locks j h x

pub later : (plan : Plan) (locks j : ℕ) (b : Begun) (since older : History) (x : Site) → site_at plan x.number ≡ Some x
    → InterfaceCause plan (since ++ older) → Later plan locks j b older x → Later plan locks j b (since ++ older) x
later plan locks j b [] older x at cause before = before
later plan locks j b ((e, w) ∷ since) older x at cause before =
    let known = later plan locks j b since older x at cause.1 before in
    record {
      made = made_later (since ++ older) e w j b known.made;
      since = turn plan locks j (since ++ older) e w x at cause
          (begun_below (manager (since ++ older)).begun j b known.made) known.since;
    }

-- from where a draw was admitted of an interface to where it is admitted again
pub one_lock : (plan : Plan) (j : ℕ) (b : Begun) (since older : History) (x : Site) → site_at plan x.number ≡ Some x
    → InterfaceCause plan (since ++ older) → begun_of_draw (manager older).begun j ≡ Some b
    → (managed_view older x).started ≡ true → view_at older x ≡ Running → view_at (since ++ older) x ≡ Running
    → floor_at (since ++ older) x ≤ j → locks_accepted plan (since ++ older) x ≡ locks_accepted plan older x
one_lock plan j b since older x at cause made started runs again floor =
    by (later plan (locks_accepted plan older x) j b since older x at cause (record {
      made = made;
      since = inl (refl, record { started = started; locked = λ is. apart (sym is ∙ runs) });
    })).since
  where
    apart : Unlocked ≡ Running → ⊥
    apart e = absurd cc

    by : Since plan (locks_accepted plan older x) j (since ++ older) x
        → locks_accepted plan (since ++ older) x ≡ locks_accepted plan older x
    by (inl same) = same.0
    by (inr past) = let less = past.floor again in absurd (omega (arith, less, floor))
