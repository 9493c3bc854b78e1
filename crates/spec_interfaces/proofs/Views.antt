-- What the manager's view says of the device and of what it sealed, pair by pair.
use Rattle.std.proofs.Common.{◌≡◌, ◌≢◌, ℕ, ◌<◌, ◌≤◌, ◌==◌, ◌&&◌, ◌∷◌, ◌⊎◌, inl, inr, Bool, true, false, [], Option}
use Rattle.std.proofs.Common.{Some, None, Result, Ok, Err, if◌then◌else◌, refl, sym, ap, ◌∙◌, subst, arith}
use Rattle.std.proofs.lemmas.Bool.Decides.{nat_tests}
use Rattle.std.proofs.lemmas.Bool.{cases_Bool}
use Rattle.std.specs.Prelude.{nat_lt, nat_le, slice_set}
use Rattle.spec_interfaces.specs.Terms.{StreamStatus, Plan, View, Unlocked, Locked, Running, Doubt, Broken, Event}
use Rattle.spec_interfaces.specs.Terms.{InterfaceEvent, Loss, Verdict, History, op_of, draws, lost_at, if_secure}
use Rattle.spec_interfaces.specs.Terms.{DeviceTdi, start_answer, StopInterface}
use Rattle.spec_interfaces.specs.Sites.{Site, site_at}
use Rattle.spec_interfaces.specs.Exchanges.{carries, is_asked_at}
use Rattle.spec_interfaces.specs.Views.{Managed, on_lock, on_report, on_start, on_halt, on_state, needs_then, view_told}
use Rattle.spec_interfaces.specs.Views.{view_broken, on_operation, number_in, is_number, stop_breaks, on_bind, peer_of}
use Rattle.spec_interfaces.specs.Views.{managed_after, managed_view, view_at, floor_at, needs_at, stream_draw}
use Rattle.spec_interfaces.specs.Devices.{interface_if_called, is_run, runs_at, interface_at, locks_accepted, devices}
use Rattle.spec_interfaces.specs.Due.{interface_verdict_due, interface_due, unless_lost, host_status, if_unlocked}
use Rattle.spec_interfaces.specs.Due.{if_locked, if_reported, if_fresh, started_as}
use Rattle.spec_interfaces.specs.Cause.{InterfaceCause, PairFits}
use Rattle.spec_interfaces.specs.Laws.{OfTrusted, IsAtRest, InRun, IsRunning, ViewHolds, ViewsHold}
use Rattle.spec_interfaces.proofs.Rests.{starts, rests_on, locks_it, locks_stay}
use Rattle.spec_interfaces.proofs.Trusted.{trusted_lead, trusted_on, all_made}
use Rattle.script_events.specs.declared.event.Lost.{Lost}
use Rattle.script_events.specs.declared.event.Lost.TheVariants.{Request, Reply}
use Rattle.spec_keys.specs.Laws.{KeyCauseLaw}
use Rattle.spec_keys.specs.Places.{KeyPlan}
use Rattle.script_events.specs.declared.event.Event.TheVariants as event
use Rattle.script_events.specs.declared.event.InterfaceEvent.TheVariants as ie
use Rattle.ide_types.specs.declared.status.StreamStatus.TheVariants as status
use Rattle.event_verdicts.specs.declared.verdict.Verdict.TheVariants as v
use Rattle.ide_types.specs.declared.verdict.InterfaceVerdict.TheVariants as iv

-- all that is known at a pair
record Known (plan : Plan) (kp : KeyPlan) (h : History) (e : Event) (w : Verdict) (x : Site) : Type 0 where
  keys : KeyCauseLaw kp ((e, w) ∷ h)
  fit : PairFits plan h e w
  holds : ViewHolds plan h x

-- ---- it goes on resting, and running

not_both : (b : Bool) → b ≡ false → b ≡ true → ⊥
not_both b one two = absurd cc

rest_on : (plan : Plan) (kp : KeyPlan) (h : History) (e : Event) (w : Verdict) (x : Site) → Known plan kp h e w x
    → runs_at plan ((e, w) ∷ h) x ≡ false
    → needs_at h x ≤ needs_at ((e, w) ∷ h) x → IsAtRest plan h x → IsAtRest plan ((e, w) ∷ h) x
rest_on plan kp h e w x known rests le at = record {
  rests = rests;
  below = trusted_on plan kp h e w x (λ g d. d.draw < needs_at ((e, w) ∷ h) x) known.keys known.fit
      (λ d fresh. absurd (not_both (runs_at plan h x) at.rests fresh.runs))
      (trusted_lead plan x (λ g d. d.draw < needs_at h x) (λ g d. d.draw < needs_at ((e, w) ∷ h) x) h
      (λ g d lt. omega arith) at.below);
}

run_on : (plan : Plan) (kp : KeyPlan) (h : History) (e : Event) (w : Verdict) (x : Site) → Known plan kp h e w x
    → (managed_view ((e, w) ∷ h) x).started ≡ (managed_view h x).started → floor_at ((e, w) ∷ h) x ≡ floor_at h x
    → locks_accepted plan ((e, w) ∷ h) x ≡ locks_accepted plan h x → IsRunning plan h x → IsRunning plan ((e, w) ∷ h) x
run_on plan kp h e w x known started floor locks at = record {
  was_started = started ∙ at.was_started;
  since = subst (λ (f : ℕ). OfTrusted plan x (λ g d. f ≤ d.draw → InRun plan x (locks_accepted plan ((e, w) ∷ h) x) g)
      ((e, w) ∷ h)) (sym floor)
      (subst (λ (k : ℕ). OfTrusted plan x (λ g d. floor_at h x ≤ d.draw → InRun plan x k g) ((e, w) ∷ h)) (sym locks)
      (trusted_on plan kp h e w x (λ g d. floor_at h x ≤ d.draw → InRun plan x (locks_accepted plan h x) g) known.keys
      known.fit
      (λ d fresh le. record { runs = fresh.runs; same_lock = refl }) at.since));
}

-- ---- views are apart

unlocked_runs_not : (s : View) → s ≡ Unlocked → s ≡ Running → ⊥
unlocked_runs_not s one two = grind arith

doubt_unlocked_not : (s : View) → s ≡ Doubt → s ≡ Unlocked → ⊥
doubt_unlocked_not s one two = grind arith

doubt_locked_not : (s : View) → s ≡ Doubt → s ≡ Locked → ⊥
doubt_locked_not s one two = grind arith

doubt_runs_not : (s : View) → s ≡ Doubt → s ≡ Running → ⊥
doubt_runs_not s one two = grind arith

-- ---- pairs that leave the view or break it

-- what the manager keeps is as before, but that the view may be broken
record Leaves (m n : Managed) : Type 0 where
  view : (n.view ≡ m.view) ⊎ (n.view ≡ Broken)
  started : n.started ≡ m.started
  floor : n.floor ≡ m.floor
  needs : n.needs ≡ m.needs

left_view : (m n : Managed) → Leaves m n → (s : View) → s ≢ Broken → n.view ≡ s → m.view ≡ s
left_view m n leaves s whole is = by leaves.view
  where
    by : (n.view ≡ m.view) ⊎ (n.view ≡ Broken) → m.view ≡ s
    by (inl same) = sym same ∙ is
    by (inr broken) = absurd (whole (sym is ∙ broken))

still : (plan : Plan) (kp : KeyPlan) (h : History) (e : Event) (w : Verdict) (x : Site) → Known plan kp h e w x
    → starts x e w ≡ false → locks_it x e w ≡ false
    → Leaves (managed_view h x) (managed_view ((e, w) ∷ h) x) → ViewHolds plan ((e, w) ∷ h) x
still plan kp h e w x known none unlocked leaves =
    let rest : IsAtRest plan h x → IsAtRest plan ((e, w) ∷ h) x =
    λ at. rest_on plan kp h e w x known (rests_on plan h e w x none at.rests) (omega (arith, leaves.needs)) at in
    record {
      unlocked = λ is. rest (known.holds.unlocked (left_view _ _ leaves Unlocked (λ e. absurd cc) is));
      locked = λ is. rest (known.holds.locked (left_view _ _ leaves Locked (λ e. absurd cc) is));
      unstarted = λ is. rest (known.holds.unstarted (sym leaves.started ∙ is));
      running = λ is. run_on plan kp h e w x known leaves.started leaves.floor (locks_stay plan h e w x unlocked)
          (known.holds.running (left_view _ _ leaves Running (λ e. absurd cc) is));
    }

leaves_same : (m n : Managed) → n ≡ m → Leaves m n
leaves_same m n same = record {
  view = inl (ap (λ (k : Managed). k.view) same);
  started = ap (λ (k : Managed). k.started) same;
  floor = ap (λ (k : Managed). k.floor) same;
  needs = ap (λ (k : Managed). k.needs) same;
}

-- ---- what the manager keeps after a pair

pub managed_step : (h : History) (e : Event) (w : Verdict) (x : Site) → managed_view ((e, w) ∷ h) x
    ≡ managed_after (op_of h) (draws h) x e w (managed_view h x)
unfolding managed_view
managed_step h e w x = refl

if_is : {A : Type 0} (b : Bool) (m n : A) → b ≡ true → (if b then m else n) ≡ m
if_is b m n is = rw is refl

if_not : {A : Type 0} (b : Bool) (m n : A) → b ≡ false → (if b then m else n) ≡ n
if_not b m n is = rw is refl

-- by an event on the interface
pub managed_own : (h : History) (e : InterfaceEvent) (w : Verdict) (x : Site) → is_number (number_in e) x.number ≡ true
    → managed_view ((event.Interface e, w) ∷ h) x ≡ on_operation (draws h) e w (managed_view h x)
managed_own h e w x own = managed_step h (event.Interface e) w x ∙ if_is (is_number (number_in e) x.number) _ _ own

pub managed_other : (h : History) (e : InterfaceEvent) (w : Verdict) (x : Site)
    → is_number (number_in e) x.number ≡ false → managed_view ((event.Interface e, w) ∷ h) x ≡ managed_view h x
managed_other h e w x other = managed_step h (event.Interface e) w x ∙ if_not (is_number (number_in e) x.number) _ _
    other

-- ---- what is due of an event on the interface

pub same_number : (i n : ℕ) → (i == n) ≡ true → i ≡ n
same_number i n is = grind (arith, nat_tests)

pub due_own : (plan : Plan) (h : History) (x : Site) (e : InterfaceEvent) (i : ℕ) (w : Verdict) → site_at plan x.number
    ≡ Some x → number_in e ≡ Some i → (i == x.number) ≡ true
    → w ≡ interface_verdict_due plan h e w → w ≡ interface_due plan h x e
unfolding interface_verdict_due
due_own plan h x e i w at named is cause =
    let found : site_at plan i ≡ Some x = subst (λ (n : ℕ). site_at plan n ≡ Some x) (sym (same_number i x.number is))
    at in
    rw (named, found) at cause

-- ---- lock

lock_needs : (m : Managed) (w : Verdict) → (on_lock m w).needs ≡ m.needs
lock_needs m w = grind arith

lock_runs_not : (m : Managed) (w : Verdict) → m.view ≡ Unlocked → (on_lock m w).view ≡ Running → ⊥
lock_runs_not m w is runs = grind arith

unlocked_or : (view : View) → (view ≡ Unlocked) ⊎
    ((z : Verdict) → if_unlocked view z ≡ v.Interface (iv.RefusedWrongState view))
unlocked_or Unlocked = inl refl
unlocked_or Locked = inr (λ z. refl)
unlocked_or Running = inr (λ z. refl)
unlocked_or Doubt = inr (λ z. refl)
unlocked_or Broken = inr (λ z. refl)

pub not_carried : (b c : Bool) → c ≡ false → (b && c) ≡ false
not_carried b c none = grind arith

lock_turn : (plan : Plan) (kp : KeyPlan) (h : History) (i : ℕ) (loss : Option Loss) (w : Verdict) (x : Site)
    → Known plan kp h (event.Interface (ie.Lock i loss)) w x → (i == x.number) ≡ true
    → w ≡ interface_due plan h x (ie.Lock i loss) → ViewHolds plan ((event.Interface (ie.Lock i loss), w) ∷ h) x
lock_turn plan kp h i loss w x known own cause = by (unlocked_or (managed_view h x).view)
  where
    by : ((managed_view h x).view ≡ Unlocked) ⊎
        ((z : Verdict) → if_unlocked (managed_view h x).view z
        ≡ v.Interface (iv.RefusedWrongState (managed_view h x).view))
        → ViewHolds plan ((event.Interface (ie.Lock i loss), w) ∷ h) x
    by (inl unlocked) =
        let at = known.holds.unlocked unlocked in
        let m = managed_own h (ie.Lock i loss) w x own in
        let needs : needs_at ((event.Interface (ie.Lock i loss), w) ∷ h) x
        ≡ needs_at h x = ap (λ (k : Managed). k.needs) m ∙ lock_needs (managed_view h x) w in
        let rest = rest_on plan kp h (event.Interface (ie.Lock i loss)) w x known
        (rests_on plan h (event.Interface (ie.Lock i loss)) w x refl at.rests) (omega (arith, needs)) at in
        record {
          unlocked = λ is. rest;
          locked = λ is. rest;
          unstarted = λ is. rest;
          running = λ is. absurd (lock_runs_not (managed_view h x) w unlocked
              (sym (ap (λ (k : Managed). k.view) m) ∙ is));
        }
    by (inr refused) =
        let is = cause ∙ refused _ in
        still plan kp h (event.Interface (ie.Lock i loss)) w x known refl
        (not_carried (i == x.number) (carries w 3) (ap (λ (z : Verdict). carries z 3) is))
        (leaves_same _ _ (managed_own h (ie.Lock i loss) w x own
        ∙ ap (λ (z : Verdict). on_lock (managed_view h x) z) is))

-- ---- start

record Refuses (m : Managed) (w : Verdict) : Type 0 where
  same : on_start m w ≡ m
  none : carries w 1 ≡ false

-- it was asked, and the view is in doubt, broken, or Running from this draw on
record Asks (m : Managed) (draw : ℕ) (w : Verdict) : Type 0 where
  was : m.view ≡ Locked
  started : (on_start m w).started ≡ true
  view : ((on_start m w).view ≡ Doubt) ⊎ ((on_start m w).view ≡ Broken)
      ⊎ (((on_start m w).view ≡ Running) × ((on_start m w).floor ≡ draw) × (m.needs ≤ draw))

start_done : (m : Managed) (draw : ℕ) (x : Site) (answer : Result (Unit {0}) ℕ) → m.view ≡ Locked → m.needs ≤ draw
    → Asks m draw (started_as x draw answer)
start_done m draw x (Ok done) locked le = record { was = locked; started = refl; view = inr (inr (refl, refl, le)) }
start_done m draw x (Err code) locked le = record { was = locked; started = refl; view = inr (inl refl) }

only_one : (n : ℕ) → (nat_le 1 n && nat_le n 1) ≡ true → n ≡ 1
only_one n e = grind (arith, nat_tests)

lost_asks : (m : Managed) (draw : ℕ) (l : Lost) → m.view ≡ Locked → Asks m draw (lost_at l 1)
lost_asks m draw Request locked = record { was = locked; started = refl; view = inl refl }
lost_asks m draw Reply locked = record { was = locked; started = refl; view = inl refl }

start_lost : (m : Managed) (draw : ℕ) (x : Site) (loss : Loss) (w : Verdict) (b : Bool)
    → (nat_le 1 loss.exchange && nat_le loss.exchange 1) ≡ b → m.view ≡ Locked → Asks m draw w
    → Asks m draw (if b then lost_at loss.lost loss.exchange else w)
start_lost m draw x loss w false e locked asks = asks
start_lost m draw x loss w true e locked asks = subst (λ (n : ℕ). Asks m draw (lost_at loss.lost n))
    (sym (only_one loss.exchange e)) (lost_asks m draw loss.lost locked)

start_asks : (m : Managed) (draw : ℕ) (x : Site) (loss : Option Loss) (answer : Result (Unit {0}) ℕ) → m.view ≡ Locked
    → m.needs ≤ draw → Asks m draw (unless_lost loss 1 (started_as x draw answer))
start_asks m draw x None answer locked le = start_done m draw x answer locked le
start_asks m draw x (Some loss) answer locked le = start_lost m draw x loss _
    (nat_le 1 loss.exchange && nat_le loss.exchange 1) refl locked (start_done m draw x answer locked le)

abbrev StartsAs : Managed → ℕ → Verdict → Type 0
StartsAs m draw w = Refuses m w ⊎ Asks m draw w

if_fresh_starts : (m : Managed) (draw : ℕ) (w : Verdict) (b : Bool) → nat_lt draw m.needs ≡ b
    → (m.needs ≤ draw → Asks m draw w)
    → StartsAs m draw (if b then v.Interface (iv.RefusedRefreshFirst draw m.needs) else w)
if_fresh_starts m draw w true e asks = inl (record { same = refl; none = refl })
if_fresh_starts m draw w false e asks = inr (asks (grind (arith, nat_tests)))

if_secure_starts : (m : Managed) (draw : ℕ) (s : StreamStatus) (w : Verdict) → StartsAs m draw w
    → StartsAs m draw (if_secure s w)
if_secure_starts m draw status.Secure w starts = starts
if_secure_starts m draw s w starts = inl (record { same = refl; none = refl })

if_reported_starts : (m : Managed) (draw : ℕ) (b : Bool) (w : Verdict) → StartsAs m draw w
    → StartsAs m draw (if_reported b w)
if_reported_starts m draw true w starts = starts
if_reported_starts m draw false w starts = inl (record { same = refl; none = refl })

if_locked_starts : (m : Managed) (draw : ℕ) (view : View) (w : Verdict) → (view ≡ Locked → StartsAs m draw w)
    → StartsAs m draw (if_locked view w)
if_locked_starts m draw Locked w starts = starts refl
if_locked_starts m draw view w starts = inl (record { same = refl; none = refl })

start_of : (m : Managed) (draw : ℕ) (x : Site) (s : StreamStatus) (loss : Option Loss) (answer : Result (Unit {0}) ℕ)
    → StartsAs m draw (if_locked m.view
    (if_reported m.reported (if_secure s (if_fresh draw m.needs (unless_lost loss 1 (started_as x draw answer))))))
start_of m draw x s loss answer =
    if_locked_starts m draw m.view _ (λ locked. if_reported_starts m draw m.reported _ (if_secure_starts m draw s _
    (if_fresh_starts m draw _ (nat_lt draw m.needs) refl (start_asks m draw x loss answer locked))))

-- a start was asked, and the view is another than before it
asked_holds : (plan : Plan) (h : History) (x : Site) (s : View) → (s ≡ Unlocked → ⊥) → (s ≡ Locked → ⊥)
    → view_at h x ≡ s → (managed_view h x).started ≡ true → (s ≡ Running → IsRunning plan h x) → ViewHolds plan h x
asked_holds plan h x s open_not locked_not is started running = record {
  unlocked = λ e. absurd (open_not (sym is ∙ e));
  locked = λ e. absurd (locked_not (sym is ∙ e));
  unstarted = λ e. absurd (not_both (managed_view h x).started e started);
  running = λ e. running (sym is ∙ e);
}

start_turn : (plan : Plan) (kp : KeyPlan) (h : History) (i : ℕ) (loss : Option Loss) (w : Verdict) (x : Site)
    → Known plan kp h (event.Interface (ie.Start i loss)) w x → (i == x.number) ≡ true
    → w ≡ interface_due plan h x (ie.Start i loss) → ViewHolds plan ((event.Interface (ie.Start i loss), w) ∷ h) x
start_turn plan kp h i loss w x known own cause =
    by (subst (λ (z : Verdict). StartsAs (managed_view h x) (stream_draw h x.link x.plan.stream) z) (sym cause)
    (start_of (managed_view h x) (stream_draw h x.link x.plan.stream) x (host_status h x) loss
    (start_answer (interface_at plan h x).state (managed_view h x).nonce)))
  where
    by : StartsAs (managed_view h x) (stream_draw h x.link x.plan.stream) w
        → ViewHolds plan ((event.Interface (ie.Start i loss), w) ∷ h) x
    by (inl refuses) =
        still plan kp h (event.Interface (ie.Start i loss)) w x known
        (not_carried (i == x.number) (carries w 1) refuses.none) refl
        (leaves_same _ _ (managed_own h (ie.Start i loss) w x own ∙ refuses.same))
    by (inr asks) =
        let at = known.holds.locked asks.was in
        let m = managed_own h (ie.Start i loss) w x own in
        let started = ap (λ (k : Managed). k.started) m ∙ asks.started in
        elim asks.view [
          | inl doubt ↦ asked_holds plan ((event.Interface (ie.Start i loss), w) ∷ h) x Doubt (λ e. absurd cc)
              (λ e. absurd cc) (ap (λ (k : Managed). k.view) m ∙ doubt) started (λ e. absurd cc)
          | inr more ↦ elim more [
            | inl broken ↦ asked_holds plan ((event.Interface (ie.Start i loss), w) ∷ h) x Broken (λ e. absurd cc)
                (λ e. absurd cc) (ap (λ (k : Managed). k.view) m ∙ broken) started (λ e. absurd cc)
            | inr runs ↦
                let floor : floor_at ((event.Interface (ie.Start i loss), w) ∷ h) x
                ≡ stream_draw h x.link x.plan.stream = ap (λ (k : Managed). k.floor) m ∙ runs.1 in
                let le : needs_at h x ≤ stream_draw h x.link x.plan.stream = runs.2 in
                asked_holds plan ((event.Interface (ie.Start i loss), w) ∷ h) x Running (λ e. absurd cc)
                (λ e. absurd cc) (ap (λ (k : Managed). k.view) m ∙ runs.0) started (λ e. record {
                  was_started = started;
                  since = trusted_lead plan x (λ g d. d.draw < needs_at h x)
                      (λ g d. floor_at ((event.Interface (ie.Start i loss), w) ∷ h) x ≤ d.draw
                      → InRun plan x (locks_accepted plan ((event.Interface (ie.Start i loss), w) ∷ h) x) g) h
                      (λ g d lt above. absurd (omega (arith, floor, le, lt, above))) at.below;
                })
          ]
        ]

-- ---- halt

record Stopped (m : Managed) (drawn : ℕ) (w : Verdict) : Type 0 where
  carried : carries w 1 ≡ true
  view : (on_halt drawn m w).view ≡ Unlocked
  needs : (on_halt drawn m w).needs ≡ needs_then m drawn

record Missed (m : Managed) (drawn : ℕ) (w : Verdict) : Type 0 where
  view : (on_halt drawn m w).view ≡ Doubt
  started : (on_halt drawn m w).started ≡ m.started
  needs : (on_halt drawn m w).needs ≡ m.needs

abbrev HaltsAs : Managed → ℕ → Verdict → Type 0
HaltsAs m drawn w = Stopped m drawn w ⊎ Missed m drawn w

lost_halts : (m : Managed) (drawn : ℕ) (l : Lost) → HaltsAs m drawn (lost_at l 1)
lost_halts m drawn Request = inr (record { view = refl; started = refl; needs = refl })
lost_halts m drawn Reply = inr (record { view = refl; started = refl; needs = refl })

some_halts : (m : Managed) (drawn n k : ℕ) (loss : Loss) (b : Bool) → (nat_le 1 loss.exchange && nat_le loss.exchange 1)
    ≡ b
    → HaltsAs m drawn (if b then lost_at loss.lost loss.exchange else v.Interface (iv.Halted n k))
some_halts m drawn n k loss false e = inl (record { carried = refl; view = refl; needs = refl })
some_halts m drawn n k loss true e = subst (λ (q : ℕ). HaltsAs m drawn (lost_at loss.lost q))
    (sym (only_one loss.exchange e)) (lost_halts m drawn loss.lost)

halt_of : (m : Managed) (drawn n k : ℕ) (loss : Option Loss) → HaltsAs m drawn
    (unless_lost loss 1 (v.Interface (iv.Halted n k)))
halt_of m drawn n k None = inl (record { carried = refl; view = refl; needs = refl })
halt_of m drawn n k (Some loss) = some_halts m drawn n k loss (nat_le 1 loss.exchange && nat_le loss.exchange 1) refl

stopped_interface : (b c : Bool) (tdi : DeviceTdi) → b ≡ true → c ≡ true → is_run
    (if b then interface_if_called c StopInterface tdi else tdi).state ≡ false
stopped_interface b c tdi own carried = rw (own, carried) refl

stopped_rests : (plan : Plan) (h : History) (i : ℕ) (loss : Option Loss) (w : Verdict) (x : Site)
    → (i == x.number) ≡ true → carries w 1 ≡ true → runs_at plan ((event.Interface (ie.Halt i loss), w) ∷ h) x ≡ false
unfolding devices
stopped_rests plan h i loss w x own carried = stopped_interface (i == x.number) (carries w 1) (interface_at plan h x)
    own carried

-- what it needs once it is halted is above all that it sealed
needs_above : (plan : Plan) (kp : KeyPlan) (h : History) (x : Site) → KeyCauseLaw kp h → InterfaceCause plan h
    → ViewHolds plan h x → (b : Bool) → (managed_view h x).started ≡ b
    → OfTrusted plan x (λ g d. d.draw < (if b then draws h else needs_at h x)) h
needs_above plan kp h x keys all holds true e = all_made plan kp h x keys all
needs_above plan kp h x keys all holds false e = (holds.unstarted e).below

halt_turn : (plan : Plan) (kp : KeyPlan) (h : History) (i : ℕ) (loss : Option Loss) (w : Verdict) (x : Site)
    → Known plan kp h (event.Interface (ie.Halt i loss)) w x → InterfaceCause plan h → (i == x.number) ≡ true
    → w ≡ interface_due plan h x (ie.Halt i loss) → ViewHolds plan ((event.Interface (ie.Halt i loss), w) ∷ h) x
halt_turn plan kp h i loss w x known all own cause =
    by (subst (λ (z : Verdict). HaltsAs (managed_view h x) (draws h) z) (sym cause)
    (halt_of (managed_view h x) (draws h) x.number (needs_then (managed_view h x) (draws h)) loss))
  where
    by : HaltsAs (managed_view h x) (draws h) w → ViewHolds plan ((event.Interface (ie.Halt i loss), w) ∷ h) x
    by (inl stopped) =
        let m = managed_own h (ie.Halt i loss) w x own in
        let needs = ap (λ (k : Managed). k.needs) m ∙ stopped.needs in
        let view = ap (λ (k : Managed). k.view) m ∙ stopped.view in
        let rest : IsAtRest plan ((event.Interface (ie.Halt i loss), w) ∷ h) x = record {
          rests = stopped_rests plan h i loss w x own stopped.carried;
          below = subst (λ (n : ℕ). OfTrusted plan x (λ g d. d.draw < n) h) (sym needs)
              (needs_above plan kp h x known.keys.2 all known.holds (managed_view h x).started refl);
        } in
        record {
          unlocked = λ is. rest;
          locked = λ is. rest;
          unstarted = λ is. rest;
          running = λ is. absurd
              (unlocked_runs_not _ view is);
        }
    by (inr missed) =
        let m = managed_own h (ie.Halt i loss) w x own in
        let view = ap (λ (k : Managed). k.view) m ∙ missed.view in
        let needs = ap (λ (k : Managed). k.needs) m ∙ missed.needs in
        let started = ap (λ (k : Managed). k.started) m ∙ missed.started in
        record {
          unlocked = λ is. absurd (doubt_unlocked_not _ view is);
          locked = λ is. absurd (doubt_locked_not _ view is);
          unstarted = λ is.
              let at = known.holds.unstarted (sym started ∙ is) in
              rest_on plan kp h (event.Interface (ie.Halt i loss)) w x known
              (rests_on plan h (event.Interface (ie.Halt i loss)) w x refl at.rests) (omega (arith, needs)) at;
          running = λ is. absurd (doubt_runs_not _ view is);
        }

-- ---- all pairs

told_or : (view : View) (state : ℕ) → (view_told view state ≡ view) ⊎ (view_told view state ≡ Broken)
told_or view state = grind arith

broken_or : (view : View) → (view_broken view ≡ view) ⊎ (view_broken view ≡ Broken)
broken_or view = grind arith

state_leaves : (m : Managed) (w : Verdict) → Leaves m (on_state m w)
state_leaves m (v.Interface (iv.State i state)) = record
    { view = told_or m.view state; started = refl; floor = refl; needs = refl }
state_leaves m (v.Interface w) = leaves_same m m refl
state_leaves m w = leaves_same m m refl

report_leaves : (m : Managed) (w : Verdict) → Leaves m (on_report m w)
report_leaves m (v.Interface (iv.Reported i report)) = record
    { view = inl refl; started = refl; floor = refl; needs = refl }
report_leaves m (v.Interface w) = leaves_same m m refl
report_leaves m w = leaves_same m m refl

bind_leaves : (line : ℕ) (m : Managed) (w : Verdict) → Leaves m (on_bind line m w)
bind_leaves line m w = if_asked (is_asked_at w 1)
  where
    if_asked : (b : Bool) → Leaves m (if b then record m { asked = slice_set m.asked (peer_of line) true } else m)
    if_asked true = record { view = inl refl; started = refl; floor = refl; needs = refl }
    if_asked false = leaves_same m m refl

if_broken : (b : Bool) (m : Managed) → Leaves m (if b then record m { view = view_broken m.view } else m)
if_broken true m = record { view = broken_or m.view; started = refl; floor = refl; needs = refl }
if_broken false m = leaves_same m m refl

by_leaves : (h : History) (e : Event) (w : Verdict) (x : Site)
    → Leaves (managed_view h x) (managed_after (op_of h) (draws h) x e w (managed_view h x))
    → Leaves (managed_view h x) (managed_view ((e, w) ∷ h) x)
by_leaves h e w x leaves = rw (managed_step h e w x) leaves

-- an event that leaves what is kept of the interface
if_leaves : (b : Bool) (m n : Managed) → Leaves m n → Leaves m (if b then n else m)
if_leaves true m n leaves = leaves
if_leaves false m n leaves = leaves_same m m refl

not_own : (b c : Bool) → b ≡ false → (b && c) ≡ false
not_own b c none = grind arith

turn : (plan : Plan) (kp : KeyPlan) (h : History) (e : Event) (w : Verdict) (x : Site) → site_at plan x.number ≡ Some x
    → InterfaceCause plan h → Known plan kp h e w x → ViewHolds plan ((e, w) ∷ h) x
turn plan kp h (event.Interface (ie.Lock i loss)) w x at all known = elim (cases_Bool (i == x.number)) [
  | inl own ↦ lock_turn plan kp h i loss w x known own (due_own plan h x (ie.Lock i loss) i w at refl own known.fit)
  | inr other ↦ still plan kp h (event.Interface (ie.Lock i loss)) w x known refl
      (not_own (i == x.number) (carries w 3) other) (leaves_same _ _ (managed_other h (ie.Lock i loss) w x other))
]
turn plan kp h (event.Interface (ie.Start i loss)) w x at all known = elim (cases_Bool (i == x.number)) [
  | inl own ↦ start_turn plan kp h i loss w x known own (due_own plan h x (ie.Start i loss) i w at refl own known.fit)
  | inr other ↦ still plan kp h (event.Interface (ie.Start i loss)) w x known
      (not_own (i == x.number) (carries w 1) other) refl (leaves_same _ _ (managed_other h (ie.Start i loss) w x other))
]
turn plan kp h (event.Interface (ie.Halt i loss)) w x at all known = elim (cases_Bool (i == x.number)) [
  | inl own ↦ halt_turn plan kp h i loss w x known all own (due_own plan h x (ie.Halt i loss) i w at refl own known.fit)
  | inr other ↦ still plan kp h (event.Interface (ie.Halt i loss)) w x known refl refl
      (leaves_same _ _ (managed_other h (ie.Halt i loss) w x other))
]
turn plan kp h (event.Interface (ie.Report i loss)) w x at all known =
    still plan kp h (event.Interface (ie.Report i loss)) w x known refl refl
    (by_leaves h (event.Interface (ie.Report i loss)) w x
    (if_leaves (i == x.number) _ _ (report_leaves (managed_view h x) w)))
turn plan kp h (event.Interface (ie.State i loss)) w x at all known =
    still plan kp h (event.Interface (ie.State i loss)) w x known refl refl
    (by_leaves h (event.Interface (ie.State i loss)) w x
    (if_leaves (i == x.number) _ _ (state_leaves (managed_view h x) w)))
turn plan kp h (event.Interface (ie.Bind i line stream loss)) w x at all known =
    still plan kp h (event.Interface (ie.Bind i line stream loss)) w x known refl refl
    (by_leaves h (event.Interface (ie.Bind i line stream loss)) w x
    (if_leaves (i == x.number) _ _ (bind_leaves line (managed_view h x) w)))
turn plan kp h (event.Interface e) w x at all known =
    still plan kp h (event.Interface e) w x known refl refl
    (by_leaves h (event.Interface e) w x
    (if_leaves (is_number (number_in e) x.number) _ _ (leaves_same (managed_view h x) (managed_view h x) refl)))
turn plan kp h (event.Stop line stream loss) w x at all known =
    still plan kp h (event.Stop line stream loss) w x known refl refl (by_leaves h (event.Stop line stream loss) w x
    (if_broken (stop_breaks (op_of h) (draws h) x line stream w (managed_view h x)) (managed_view h x)))
turn plan kp h (event.Reset link ends) (v.Reset l) x at all known =
    still plan kp h (event.Reset link ends) (v.Reset l) x known refl refl
    (by_leaves h (event.Reset link ends) (v.Reset l) x (if_broken (link == x.link) (managed_view h x)))
turn plan kp h e w x at all known = still plan kp h e w x known refl refl
    (by_leaves h e w x (leaves_same (managed_view h x) (managed_view h x) refl))

at_first : (plan : Plan) (x : Site) → ViewHolds plan [] x
unfolding managed_view devices
at_first plan x =
    let rest : IsAtRest plan [] x = record { rests = refl; below = tt } in
    record { unlocked = λ is. rest; locked = λ is. rest; unstarted = λ is. rest; running = λ is. absurd cc }

pub views_hold : ViewsHold
views_hold plan kp [] keys all x at = at_first plan x
views_hold plan kp ((e, w) ∷ h) keys all x at =
    turn plan kp h e w x at all.1 (record { keys = keys; fit = all.0; holds = views_hold plan kp h keys.2 all.1 x at })
