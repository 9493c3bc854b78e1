-- What the manager counts as asked since a lock: it has every stream that the interface is bound to. A lock that is
-- asked, which counts none, finds the interface without bindings.
use Rattle.law_sealing.proofs.Terms.{◌≡◌, ℕ, ◌+◌, ◌<◌, ◌≤◌, ◌==◌, ◌&&◌, zero, suc, Bool, true}
use Rattle.law_sealing.proofs.Terms.{false, List, [], ◌∷◌, length, Option, Some, refl, ap, sym, subst, ◌∙◌, arith}
use Rattle.law_sealing.proofs.Terms.{nat_tests, if◌then◌else◌, eq-eqb, Plan, PortName, History, Event}
use Rattle.law_sealing.proofs.Terms.{Verdict, CauseLaw}
use Rattle.std.specs.Prelude.{nat_le, slice_get, slice_set, unwrap_or}
use Rattle.std.proofs.lemmas.Bool.{and_parts}
use Rattle.std.proofs.Common.{⊎_elim}
use Rattle.ide_types.specs.Ports.{host_port, device_port}
use Rattle.ide_types.specs.Lines.{peer_line}
use Rattle.ide_types.specs.Fits.{FitsPlan}
use Rattle.ide_types.specs.declared.plan.PeerPlan.{PeerPlan}
unfoldable use Rattle.spec_interfaces.specs.Peers.{peer_end}
use Rattle.spec_keys.specs.History.{op_of, draws}
use Rattle.interface_state.specs.Bindings.{floor_on}
use Rattle.interface_state.specs.declared.states.TdiState.{TdiState}
use Rattle.interface_state.specs.Machine.{is_locked, state_code}
use Rattle.spec_interfaces.specs.Terms.{Loss, InterfaceEvent, View, Unlocked, Locked, Running, Doubt, Broken}
use Rattle.spec_interfaces.specs.Sites.{Site, site_at}
use Rattle.spec_interfaces.specs.Exchanges.{carries, is_asked_at}
use Rattle.spec_interfaces.specs.Views.{Managed, view_at, is_bind_asked, on_lock, on_report, on_start, on_halt}
use Rattle.spec_interfaces.specs.Views.{on_state}
use Rattle.spec_interfaces.specs.Views.{on_operation, number_in, is_number, peer_of, stop_breaks, view_broken}
unfoldable use Rattle.spec_interfaces.specs.Views.{managed_view}
unfoldable use Rattle.spec_interfaces.specs.Devices.{devices}
use Rattle.spec_interfaces.specs.Devices.{interface_at}
use Rattle.law_locks.specs.Locks.{IsTrueOf}
use Rattle.spec_interfaces.specs.Due.{if_unlocked}
use Rattle.spec_interfaces.proofs.Locks.{bound_at}
use Rattle.spec_interfaces.proofs.Views.{due_own, managed_own}
use Rattle.law_memory.proofs.Causes.{interface_cause}
use Rattle.law_locks.proofs.TrueViews.{true_views}
use Rattle.law_bindings.proofs.Calls.{none_has}
use Rattle.law_bindings.proofs.Asks.{bound_came, bind_has_line, has_line}
use Rattle.script_events.specs.declared.event.Event.TheVariants as event
use Rattle.script_events.specs.declared.event.InterfaceEvent.TheVariants as ie
use Rattle.event_verdicts.specs.declared.verdict.Verdict.TheVariants as v
use Rattle.ide_types.specs.declared.verdict.InterfaceVerdict.TheVariants as iv

-- ---- lists of tests

abbrev stands_at : List Bool → ℕ → Bool
stands_at bs n = unwrap_or (slice_get bs n) false

set_stays : (bs : List Bool) (k n : ℕ) → stands_at bs n ≡ true → stands_at (slice_set bs k true) n ≡ true
set_stays [] k n is = is
set_stays (b ∷ bs) zero zero is = refl
set_stays (b ∷ bs) zero (suc n) is = is
set_stays (b ∷ bs) (suc k) zero is = is
set_stays (b ∷ bs) (suc k) (suc n) is = set_stays bs k n is

set_there : (bs : List Bool) (k : ℕ) → k < length bs → stands_at (slice_set bs k true) k ≡ true
set_there [] k less = absurd (omega (arith, less))
set_there (b ∷ bs) zero less = refl
set_there (b ∷ bs) (suc k) less = set_there bs k (omega (arith, less))

set_length : (bs : List Bool) (k : ℕ) → length (slice_set bs k true) ≡ length bs
set_length [] k = refl
set_length (b ∷ bs) zero = refl
set_length (b ∷ bs) (suc k) = ap suc (set_length bs k)

-- ---- over a pair

same_asked : (m : Managed) (w : Verdict) (drawn : ℕ) → ((on_report m w).asked ≡ m.asked)
    × ((on_start m w).asked ≡ m.asked) × ((on_halt drawn m w).asked ≡ m.asked) × ((on_state m w).asked ≡ m.asked)
same_asked m w drawn = (grind arith, grind arith, grind arith, grind arith)

module _ (P : List Bool → Type 0) (sets : (bs : List Bool) (k : ℕ) → P bs → P (slice_set bs k true)) where
  bind_keeps : (b : Bool) (m : Managed) (k : ℕ) → P m.asked
      → P (if b then record m { asked = slice_set m.asked k true } else m).asked
  bind_keeps true m k is = sets m.asked k is
  bind_keeps false m k is = is

  operation_keeps : (drawn n : ℕ) (e : InterfaceEvent) (w : Verdict) (m : Managed) → is_number (number_in e) n ≡ true
      → ((i : ℕ) (loss : Option Loss) → e ≡ ie.Lock i loss → (i == n) ≡ true → P (on_lock m w).asked)
      → P m.asked → P (on_operation drawn e w m).asked
  operation_keeps drawn n (ie.Lock i loss) w m own locks is = locks i loss refl own
  operation_keeps drawn n (ie.Report i loss) w m own locks is = subst P (sym (same_asked m w drawn).0) is
  operation_keeps drawn n (ie.Start i loss) w m own locks is = subst P (sym (same_asked m w drawn).1) is
  operation_keeps drawn n (ie.Halt i loss) w m own locks is = subst P (sym (same_asked m w drawn).2) is
  operation_keeps drawn n (ie.State i loss) w m own locks is = subst P (sym (same_asked m w drawn).3) is
  operation_keeps drawn n (ie.Bind i line stream loss) w m own locks is =
      bind_keeps (is_asked_at w 1) m (peer_of line) is
  operation_keeps drawn n e w m own locks is = is

  broken_keeps : (b : Bool) (m : Managed) → P m.asked
      → P (if b then record m { view = view_broken m.view } else m).asked
  broken_keeps true m is = is
  broken_keeps false m is = is

  pair_keeps : (h : History) (e : Event) (w : Verdict) (x : Site)
      → ((i : ℕ) (loss : Option Loss) → e ≡ event.Interface (ie.Lock i loss) → (i == x.number) ≡ true
      → P (on_lock (managed_view h x) w).asked)
      → P (managed_view h x).asked → P (managed_view ((e, w) ∷ h) x).asked
  unfolding managed_view
  pair_keeps h (event.Interface e) w x locks is =
      by (is_number (number_in e) x.number) refl
    where
      by : (b : Bool) → is_number (number_in e) x.number ≡ b
          → P (if b then on_operation (draws h) e w (managed_view h x) else managed_view h x).asked
      by true own = operation_keeps (draws h) x.number e w (managed_view h x) own
          (λ i loss same. locks i loss (ap event.Interface same)) is
      by false other = is
  pair_keeps h (event.Stop line stream loss) w x locks is =
      broken_keeps (stop_breaks (op_of h) (draws h) x line stream w (managed_view h x)) (managed_view h x) is
  pair_keeps h (event.Reset link ends) (v.Reset l) x locks is = broken_keeps (link == x.link) (managed_view h x) is
  pair_keeps h e w x locks is = is

-- ---- it counts up to eight

lock_length : (m : Managed) (w : Verdict) → length m.asked ≡ 8 → length (on_lock m w).asked ≡ 8
lock_length m w is = grind (arith, is)

counts_eight : (h : History) (x : Site) → length (managed_view h x).asked ≡ 8
unfolding managed_view
counts_eight [] x = refl
counts_eight ((e, w) ∷ h) x =
    pair_keeps (λ bs. length bs ≡ 8) (λ bs k is. set_length bs k ∙ is) h e w x
    (λ i loss same own. lock_length (managed_view h x) w (counts_eight h x)) (counts_eight h x)

-- ---- the lines of streams between devices

pub record IsPeerLine (line n most : ℕ) : Type 0 where
  pub least : 24 + n ≤ line
  pub below : line < 24 + n + most

pub in_peers : (ps : List PeerPlan) (n link id : ℕ) (e : PortName) → peer_end ps n link id ≡ Some e
    → IsPeerLine e.line n (length ps)
unfolding peer_end
in_peers [] n link id e is = absurd cc
in_peers (p ∷ ps) n link id e is =
    by ((p.id == id) && (p.near == link)) ((p.id == id) && (p.far == link)) (in_peers ps (n + 1) link id e) is
  where
    here : (port : PortName) → port.line ≡ peer_line n → Some port ≡ Some e → IsPeerLine e.line n (length (p ∷ ps))
    here port line is =
        let same : port ≡ e = cc (is) in
        subst (λ (q : PortName). IsPeerLine q.line n (length (p ∷ ps))) same
        (record { least = omega (arith, line); below = omega (arith, line) })

    later : IsPeerLine e.line (n + 1) (length ps) → IsPeerLine e.line n (length (p ∷ ps))
    later at = record { least = omega (arith, at.least); below = omega (arith, at.below) }

    by : (a b : Bool) → (peer_end ps (n + 1) link id ≡ Some e → IsPeerLine e.line (n + 1) (length ps))
        → (if a then Some (host_port (peer_line n)) else if b then Some (device_port (peer_line n))
        else peer_end ps (n + 1) link id) ≡ Some e → IsPeerLine e.line n (length (p ∷ ps))
    by true b rest is = here (host_port (peer_line n)) refl is
    by false true rest is = here (device_port (peer_line n)) refl is
    by false false rest is = later (rest is)

-- ---- it counts each binding

stays_counted : (line : ℕ) (bs : List Bool) (k : ℕ) → is_bind_asked line bs ≡ true
    → is_bind_asked line (slice_set bs k true) ≡ true
stays_counted line bs k is =
    let parts = and_parts (nat_le 24 line) (stands_at bs (peer_of line)) is in
    rw (parts.0, set_stays bs k (peer_of line) parts.1) refl

pub none_locked : (s : TdiState) → state_code s ≡ 0 → is_locked s ≡ false
none_locked s is = grind (arith, is)

-- a lock is asked of an interface that has no bindings
lock_counts : (plan : Plan) (h : History) (w : Verdict) (x : Site) (i : ℕ) (loss : Option Loss) (line stream floor : ℕ)
    → site_at plan x.number ≡ Some x → CauseLaw plan ((event.Interface (ie.Lock i loss), w) ∷ h)
    → (i == x.number) ≡ true → floor_on stream (interface_at plan h x).bindings ≡ Some floor
    → is_bind_asked line (managed_view h x).asked ≡ true
    → is_bind_asked line (on_lock (managed_view h x) w).asked ≡ true
lock_counts plan h w x i loss line stream floor known cause own has is =
    let causes = interface_cause plan ((event.Interface (ie.Lock i loss), w) ∷ h) cause in
    by (view_at h x) (true_views plan h causes.1 x known) _ (due_own plan h x (ie.Lock i loss) i w known refl own
    causes.0)
  where
    same : (view : View) → w ≡ v.Interface (iv.RefusedWrongState view)
        → is_bind_asked line (on_lock (managed_view h x) w).asked ≡ true
    same view refused =
        ap (λ (u : Verdict). is_bind_asked line (on_lock (managed_view h x) u).asked) refused ∙ is

    by : (view : View) → IsTrueOf view (interface_at plan h x).state → (z : Verdict) → w ≡ if_unlocked view z
        → is_bind_asked line (on_lock (managed_view h x) w).asked ≡ true
    by Unlocked true_of z due =
        absurd (none_has stream floor (interface_at plan h x).bindings ((bound_at plan h x).locked
        (none_locked (interface_at plan h x).state true_of)) has)
    by Locked true_of z due = same Locked due
    by Running true_of z due = same Running due
    by Doubt true_of z due = same Doubt due
    by Broken true_of z due = same Broken due

asked_there : (w : Verdict) → carries w 1 ≡ true → is_asked_at w 1 ≡ true
asked_there w is = rw is refl

-- a bind that is asked is counted
bind_counts : (h : History) (line stream : ℕ) (loss : Option Loss) (w : Verdict) (x : Site) → carries w 1 ≡ true
    → 24 ≤ line → line < 32
    → is_bind_asked line (managed_view ((event.Interface (ie.Bind x.number line stream loss), w) ∷ h) x).asked ≡ true
bind_counts h line stream loss w x reached least below =
    let at : nat_le 24 line ≡ true = grind (arith, nat_tests, least) in
    let few = counts_eight h x in
    ap (λ (m : Managed). is_bind_asked line m.asked)
    (managed_own h (ie.Bind x.number line stream loss) w x (eq-eqb x.number x.number refl))
    ∙ rw (asked_there w reached, at) (set_there (managed_view h x).asked (peer_of line) (omega (
      arith,
      few,
      least,
      below,
    )))

pub counted : (plan : Plan) → FitsPlan plan → (h : History) → CauseLaw plan h → (x : Site)
    → site_at plan x.number ≡ Some x → (stream floor : ℕ)
    → floor_on stream (interface_at plan h x).bindings ≡ Some floor → (end : PortName)
    → peer_end plan.peers 0 x.link stream ≡ Some end → is_bind_asked end.line (managed_view h x).asked ≡ true
unfolding devices
counted plan fits [] cause x known stream floor has end at = absurd (none_has stream floor [] refl has)
counted plan fits ((e, w) ∷ h) cause x known stream floor has end at =
    ⊎_elim (λ old.
    pair_keeps (λ bs. is_bind_asked end.line bs ≡ true) (stays_counted end.line) h e w x
    (λ i loss same own. lock_counts plan h w x i loss end.line stream floor known
    (subst (λ (f : Event). CauseLaw plan ((f, w) ∷ h)) same cause) own old.was
    (counted plan fits h cause.1 x known stream floor old.was end at))
    (counted plan fits h cause.1 x known stream floor old.was end at)) (λ new.
    let law = subst (λ (f : Event). CauseLaw plan ((f, w) ∷ h)) new.event cause in
    let line = has_line plan x.link new.line stream end
    (bind_has_line plan h x.number new.line stream new.loss w x known law (eq-eqb x.number x.number refl) new.reached)
    at in
    let range = in_peers plan.peers 0 x.link stream end at in
    subst (λ (f : Event). is_bind_asked end.line (managed_view ((f, w) ∷ h) x).asked ≡ true) (sym new.event)
    (subst (λ (l : ℕ). is_bind_asked l (managed_view ((event.Interface (ie.Bind x.number new.line stream new.loss), w)
    ∷ h) x).asked ≡ true) (sym line)
    (bind_counts h new.line stream new.loss w x new.reached (omega (arith, line, range.least))
    (omega (arith, line, range.below, fits.peers_most)))))
    (bound_came plan h e w x stream floor has)
