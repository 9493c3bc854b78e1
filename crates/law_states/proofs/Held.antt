-- A start has the nonce of the lock that stands.
use Rattle.std.proofs.Common.{◌≡◌, ℕ, ◌==◌, ◌&&◌, ◌∷◌, ◌⊎◌, inl, inr, Bool, true, false, List, [], Option, Some}
use Rattle.std.proofs.Common.{None, Result, Ok, Err, if◌then◌else◌, refl, sym, ap, ◌∙◌, subst, arith}
use Rattle.std.proofs.lemmas.Bool.{cases_Bool, true≢false, and_parts}
use Rattle.std.specs.Prelude.{nat_le}
use Rattle.spec_links.specs.Cause.{CauseLaw}
unfoldable use Rattle.spec_links.specs.Due.{due}
use Rattle.spec_interfaces.specs.Terms.{Plan, View, Unlocked, Locked, Running, Doubt, Broken, StreamStatus, Event}
use Rattle.spec_interfaces.specs.Terms.{Loss, Verdict, History, Lock, TdiState, ConfigUnlocked}
use Rattle.spec_interfaces.specs.Terms.{ConfigLocked, Run, Error, StreamStage, op_of, draws, lost_at, if_secure}
use Rattle.spec_interfaces.specs.Sites.{Site, site_at}
use Rattle.spec_interfaces.specs.Exchanges.{carries}
use Rattle.spec_interfaces.specs.Views.{Managed, on_lock, on_report, on_start, on_halt, on_state, on_bind, view_broken}
use Rattle.spec_interfaces.specs.Views.{number_in, is_number, stop_breaks, view_at}
use Rattle.spec_interfaces.specs.Views.{managed_after}
unfoldable use Rattle.spec_interfaces.specs.Views.{managed_view}
use Rattle.spec_interfaces.specs.Devices.{interface_at, is_stream_left}
unfoldable use Rattle.spec_interfaces.specs.Devices.{devices}
use Rattle.spec_interfaces.specs.Due.{unless_lost, if_locked, verdict_of_lock, if_unlocked}
use Rattle.spec_interfaces.specs.Cause.{InterfaceCause}
use Rattle.spec_interfaces.proofs.Views.{due_own}
use Rattle.interface_state.specs.Machine.{is_unlocked}
use Rattle.law_memory.proofs.Causes.{interface_cause}
use Rattle.law_locks.specs.Locks.{IsTrueOf}
use Rattle.law_locks.proofs.TrueViews.{true_views}
use Rattle.law_states.specs.States.{state_at, is_lock_sent, is_start_sent, is_lockable, locks, starts, unlocks, fails}
use Rattle.law_states.specs.States.{MovesState}
unfoldable use Rattle.law_states.specs.States.{nonce_locked}
use Rattle.law_states.proofs.Quiet.{none_left}
use Rattle.law_states.proofs.Turns.{HasNonce, TurnOf, turn, lock_given, lock_refused, answer_at}
use Rattle.law_states.proofs.Turns.{drawn_at}
use Rattle.script_events.specs.declared.event.Lost.{Lost}
use Rattle.script_events.specs.declared.event.Lost.TheVariants.{Request, Reply}
use Rattle.script_events.specs.declared.event.Event.TheVariants as event
use Rattle.script_events.specs.declared.event.InterfaceEvent.TheVariants as ie
use Rattle.event_verdicts.specs.declared.verdict.Verdict.TheVariants as v
use Rattle.ide_types.specs.declared.verdict.InterfaceVerdict.TheVariants as iv

-- ---- a start that is sent

locked_if_carried : (view : View) (w : Verdict) → carries (if_locked view w) 1 ≡ true → view ≡ Locked
locked_if_carried Locked w is = refl
locked_if_carried Unlocked w is = absurd (true≢false (sym is))
locked_if_carried Running w is = absurd (true≢false (sym is))
locked_if_carried Doubt w is = absurd (true≢false (sym is))
locked_if_carried Broken w is = absurd (true≢false (sym is))

start_sent : (plan : Plan) (h : History) (e : Event) (w : Verdict) (x : Site) → site_at plan x.number ≡ Some x
    → InterfaceCause plan ((e, w) ∷ h) → is_start_sent e w x ≡ true → view_at h x ≡ Locked
start_sent plan h (event.Interface (ie.Start i loss)) w x at cause sent =
    let parts = and_parts (i == x.number) (carries w 1) sent in
    let due_is = due_own plan h x (ie.Start i loss) i w at refl parts.0 cause.0 in
    locked_if_carried (view_at h x) _ (sym (ap (λ (z : Verdict). carries z 1) due_is) ∙ parts.1)
start_sent plan h e w x at cause sent = absurd (true≢false (sym sent))

-- ---- what the manager keeps

-- the verdict tells of the lock with this nonce
record IsToldLocked (e : Event) (w : Verdict) (x : Site) (nonce : List ℕ) : Type 0 where
  i : ℕ
  loss : Option Loss
  told : ℕ
  own : (i == x.number) ≡ true
  is_lock : e ≡ event.Interface (ie.Lock i loss)
  is : w ≡ v.Interface (iv.Locked told nonce)

-- it was so before
record WasSo (m n : Managed) : Type 0 where
  view : n.view ≡ Locked → m.view ≡ Locked
  nonce : n.nonce ≡ m.nonce

same_so : (m : Managed) → WasSo m m
same_so m = record { view = λ e. e; nonce = refl }

start_so : (m : Managed) (w : Verdict) → WasSo m (on_start m w)
start_so m w = record { view = λ is. grind arith; nonce = grind arith }

halt_so : (drawn : ℕ) (m : Managed) (w : Verdict) → WasSo m (on_halt drawn m w)
halt_so drawn m w = record { view = λ is. grind arith; nonce = grind arith }

state_so : (m : Managed) (w : Verdict) → WasSo m (on_state m w)
state_so m w = record { view = λ is. grind arith; nonce = grind arith }

report_so : (m : Managed) (w : Verdict) → WasSo m (on_report m w)
report_so m w = record { view = λ is. grind arith; nonce = grind arith }

bind_so : (line : ℕ) (m : Managed) (w : Verdict) → WasSo m (on_bind line m w)
bind_so line m w = record { view = λ is. grind arith; nonce = grind arith }

broken_so : (b : Bool) (m : Managed) → WasSo m (if b then record m { view = view_broken m.view } else m)
broken_so b m = record { view = λ is. grind arith; nonce = grind arith }

if_so : (b : Bool) (m n : Managed) → WasSo m n → WasSo m (if b then n else m)
if_so true m n so = so
if_so false m n so = same_so m

abbrev Keeps : Event → Verdict → Site → Managed → Managed → Type 0
Keeps e w x m n = WasSo m n ⊎ IsToldLocked e w x n.nonce

lock_so : (i : ℕ) (loss : Option Loss) (x : Site) (m : Managed) (w : Verdict) → (i == x.number) ≡ true
    → Keeps (event.Interface (ie.Lock i loss)) w x m (on_lock m w)
lock_so i loss x m (v.Interface (iv.Locked told nonce)) own =
    inr (record { i = i; loss = loss; told = told; own = own; is_lock = refl; is = refl })
lock_so i loss x m (v.Interface w) own = inl (record { view = λ is. is; nonce = refl })
lock_so i loss x m w own = inl (record { view = λ is. grind arith; nonce = grind arith })

managed_keeps : (ops : ℕ → ℕ → StreamStage) (drawn : ℕ) (x : Site) (e : Event) (w : Verdict) (m : Managed)
    → Keeps e w x m (managed_after ops drawn x e w m)
managed_keeps ops drawn x (event.Interface (ie.Lock i loss)) w m = by (i == x.number) refl
  where
    by : (b : Bool) → (i == x.number) ≡ b
        → Keeps (event.Interface (ie.Lock i loss)) w x m (if b then on_lock m w else m)
    by true own = lock_so i loss x m w own
    by false other = inl (same_so m)
managed_keeps ops drawn x (event.Interface (ie.Report i loss)) w m = inl (if_so (i == x.number) m _ (report_so m w))
managed_keeps ops drawn x (event.Interface (ie.Start i loss)) w m = inl (if_so (i == x.number) m _ (start_so m w))
managed_keeps ops drawn x (event.Interface (ie.Halt i loss)) w m = inl (if_so (i == x.number) m _ (halt_so drawn m w))
managed_keeps ops drawn x (event.Interface (ie.State i loss)) w m = inl (if_so (i == x.number) m _ (state_so m w))
managed_keeps ops drawn x (event.Interface (ie.Bind i line stream loss)) w m =
    inl (if_so (i == x.number) m _ (bind_so line m w))
managed_keeps ops drawn x (event.Interface e) w m = inl (if_so (is_number (number_in e) x.number) m m (same_so m))
managed_keeps ops drawn x (event.Stop line stream loss) w m =
    inl (broken_so (stop_breaks ops drawn x line stream w m) m)
managed_keeps ops drawn x (event.Reset link ends) (v.Reset l) m = inl (broken_so (link == x.link) m)
managed_keeps ops drawn x e w m = inl (same_so m)

-- ---- the verdict `locked`

secure_passes : (s : StreamStatus) (w : Verdict) (j : ℕ) (nonce : List ℕ)
    → if_secure s w ≡ v.Interface (iv.Locked j nonce) → w ≡ v.Interface (iv.Locked j nonce)
secure_passes s w j nonce is = grind arith

unlocked_passes : (view : View) (w : Verdict) (j : ℕ) (nonce : List ℕ)
    → if_unlocked view w ≡ v.Interface (iv.Locked j nonce) → w ≡ v.Interface (iv.Locked j nonce)
unlocked_passes view w j nonce is = grind arith

loss_passes : (b : Bool) (l : Lost) (n : ℕ) (w : Verdict) (j : ℕ) (nonce : List ℕ)
    → (if b then lost_at l n else w) ≡ v.Interface (iv.Locked j nonce) → w ≡ v.Interface (iv.Locked j nonce)
loss_passes false l n w j nonce is = is
loss_passes true Request n w j nonce is = absurd cc
loss_passes true Reply n w j nonce is = absurd cc

unlost_passes : (loss : Option Loss) (k : ℕ) (w : Verdict) (j : ℕ) (nonce : List ℕ)
    → unless_lost loss k w ≡ v.Interface (iv.Locked j nonce) → w ≡ v.Interface (iv.Locked j nonce)
unlost_passes None k w j nonce is = is
unlost_passes (Some loss) k w j nonce is =
    loss_passes (nat_le 1 loss.exchange && nat_le loss.exchange k) loss.lost loss.exchange w j nonce is

lock_told : (x : Site) (answer : Result (List ℕ) ℕ) (j : ℕ) (nonce : List ℕ)
    → verdict_of_lock x answer ≡ v.Interface (iv.Locked j nonce) → answer ≡ Ok nonce
lock_told x (Ok n) j nonce is = cc
lock_told x (Err code) j nonce is = absurd cc

told_answer : (plan : Plan) (h : History) (e : Event) (w : Verdict) (x : Site) (nonce : List ℕ)
    → site_at plan x.number ≡ Some x → InterfaceCause plan ((e, w) ∷ h) → IsToldLocked e w x nonce
    → answer_at plan h x ≡ Ok nonce
told_answer plan h e w x nonce at cause told =
    let fit = subst (λ (k : Event). InterfaceCause plan ((k, w) ∷ h)) told.is_lock cause in
    let due_is = due_own plan h x (ie.Lock told.i told.loss) told.i w at refl told.own fit.0 in
    lock_told x (answer_at plan h x) told.told nonce
    (unlost_passes told.loss 3 _ told.told nonce
    (secure_passes _ _ told.told nonce (unlocked_passes (view_at h x) _ told.told nonce (sym due_is ∙ told.is))))

-- ---- the nonce of a view Locked

-- while the view is Locked the manager keeps the nonce of the lock that stands
abbrev KeepsNonce : Plan → History → Site → Type 0
KeepsNonce plan h x = view_at h x ≡ Locked → HasNonce plan h x

turn_at : (plan : Plan) (h : History) (e : Event) (w : Verdict) (x : Site) → site_at plan x.number ≡ Some x
    → CauseLaw plan ((e, w) ∷ h) → KeepsNonce plan h x → TurnOf plan h e w x (state_at plan ((e, w) ∷ h) x)
unfolding devices
turn_at plan h e w x at cause keeps =
    turn plan h e w x
    (λ i is. subst (λ (k : Event). is_stream_left plan h k w x (interface_at plan h x) ≡ false) (sym is)
    (none_left plan h i w x (interface_at plan h x)
    (subst (λ (k : Event). w ≡ due plan h k) is cause.0)))
    (λ sent. keeps (start_sent plan h e w x at (interface_cause plan ((e, w) ∷ h) cause) sent))

locked_apart : (one two : Lock) (nonce other : List ℕ) → ConfigLocked one nonce ≡ ConfigLocked two other
    → nonce ≡ other
locked_apart one two nonce other is = cc

some_same : (a b : List ℕ) → Some a ≡ Some b → a ≡ b
some_same a b is = cc

ok_same : (a b : List ℕ) (r : Result (List ℕ) ℕ) → r ≡ Ok a → r ≡ Ok b → a ≡ b
ok_same a b r one two = cc

refused_not : (a : List ℕ) (c : ℕ) (answer : Result (List ℕ) ℕ) → answer ≡ Err c → answer ≡ Ok a → ⊥
refused_not a c answer one two = absurd cc

started_not : (lock new : Lock) (nonce : List ℕ) (s : TdiState) → s ≡ Run lock → s ≡ ConfigLocked new nonce → ⊥
started_not lock new nonce s one two = absurd cc

unlocked_not : (new : Lock) (nonce : List ℕ) (s : TdiState) → s ≡ ConfigUnlocked → s ≡ ConfigLocked new nonce → ⊥
unlocked_not new nonce s one two = absurd cc

failed_not : (new : Lock) (nonce : List ℕ) (s : TdiState) → s ≡ Error → s ≡ ConfigLocked new nonce → ⊥
failed_not new nonce s one two = absurd cc

-- CONFIG_LOCKED after a pair stood before it, or was made by it
stood_or : (plan : Plan) (h : History) (e : Event) (w : Verdict) (x : Site) (next : TdiState) (lock : Lock)
    (nonce : List ℕ) → TurnOf plan h e w x next → next ≡ ConfigLocked lock nonce
    → ((locks plan h e w x ≡ false) × (state_at plan h x ≡ ConfigLocked lock nonce))
    ⊎ ((locks plan h e w x ≡ true) × (drawn_at plan h x ≡ Some nonce))
stood_or plan h e w x next lock nonce t is = elim (cases_Bool (locks plan h e w x)) [
  | inl locked ↦
      let taken = t.locked locked in
      inr (locked, taken.is_next ∙ ap Some (locked_apart taken.lock lock taken.nonce nonce (sym taken.is ∙ is)))
  | inr unlocked ↦ elim (cases_Bool (starts plan h e w x)) [
    | inl started ↦ let s = t.started started in absurd (started_not s.lock lock nonce next s.is is)
    | inr rests ↦ elim (cases_Bool (unlocks e w x)) [
      | inl freed ↦ absurd (unlocked_not lock nonce next (t.unlocked freed) is)
      | inr kept ↦ elim (cases_Bool (fails plan h e w x)) [
        | inl failed ↦ absurd (failed_not lock nonce next (t.failed failed) is)
        | inr sound ↦ inl (unlocked, sym (t.stayed unlocked rests kept sound) ∙ is)
      ]
    ]
  ]
]

not_unlocked : (s : TdiState) → IsTrueOf Locked s → is_unlocked s ≡ true → ⊥
not_unlocked ConfigUnlocked (inl e) is = absurd cc
not_unlocked ConfigUnlocked (inr e) is = absurd cc
not_unlocked (ConfigLocked lock nonce) true_of is = absurd cc
not_unlocked (Run lock) true_of is = absurd cc
not_unlocked Error true_of is = absurd cc

is_free : (a u b c d : Bool) → (a && (u && b && c && d)) ≡ true → u ≡ true
is_free a u b c d is = grind (arith, is)

sent_if_told : (e : Event) (w : Verdict) (x : Site) (nonce : List ℕ) → IsToldLocked e w x nonce
    → is_lock_sent e w x ≡ true
sent_if_told e w x nonce told = rw (told.is_lock, told.is, told.own) refl

and_false : (a b : Bool) → a ≡ true → (a && b) ≡ false → b ≡ false
and_false a b one two = grind arith

and_second : (a b : Bool) → (a && b) ≡ true → b ≡ true
and_second a b is = grind arith

-- a lock that is told was taken
told_locks : (plan : Plan) (h : History) (e : Event) (w : Verdict) (x : Site) (nonce : List ℕ)
    → site_at plan x.number ≡ Some x → InterfaceCause plan ((e, w) ∷ h) → IsToldLocked e w x nonce
    → locks plan h e w x ≡ false → ⊥
told_locks plan h e w x nonce at cause told none =
    let refused = lock_refused plan h x
    (and_false (is_lock_sent e w x) (is_lockable plan h x) (sent_if_told e w x nonce told) none) in
    refused_not nonce refused.code (answer_at plan h x) refused.is (told_answer plan h e w x nonce at cause told)

-- with the nonce that is told
told_next : (plan : Plan) (h : History) (e : Event) (w : Verdict) (x : Site) (nonce : List ℕ)
    → site_at plan x.number ≡ Some x → InterfaceCause plan ((e, w) ∷ h) → IsToldLocked e w x nonce
    → locks plan h e w x ≡ true → (other : List ℕ) → drawn_at plan h x ≡ Some other → nonce ≡ other
told_next plan h e w x nonce at cause told locked other drawn =
    let given = lock_given plan h x (and_second (is_lock_sent e w x) (is_lockable plan h x) locked) in
    ok_same nonce given.nonce (answer_at plan h x) (told_answer plan h e w x nonce at cause told) given.is
    ∙ some_same given.nonce other (sym given.is_next ∙ drawn)

keeps_step : (plan : Plan) (h : History) (e : Event) (w : Verdict) (x : Site) → site_at plan x.number ≡ Some x
    → CauseLaw plan ((e, w) ∷ h) → KeepsNonce plan h x
    → KeepsNonce plan ((e, w) ∷ h) x
unfolding managed_view
keeps_step plan h e w x at cause keeps locked lock nonce is =
    by (managed_keeps (op_of h) (draws h) x e w (managed_view h x))
    (stood_or plan h e w x _ lock nonce (turn_at plan h e w x at cause keeps) is)
  where
    by : Keeps e w x (managed_view h x) (managed_view ((e, w) ∷ h) x)
        → ((locks plan h e w x ≡ false) × (state_at plan h x ≡ ConfigLocked lock nonce))
        ⊎ ((locks plan h e w x ≡ true) × (drawn_at plan h x ≡ Some nonce))
        → (managed_view ((e, w) ∷ h) x).nonce ≡ nonce
    by (inl so) (inl stood) = so.nonce ∙ keeps (so.view locked) lock nonce stood.1
    by (inl so) (inr made) =
        let true_of = subst (λ (k : View). IsTrueOf k (state_at plan h x)) (so.view locked)
        (true_views plan h (interface_cause plan h cause.1) x at) in
        absurd (not_unlocked (state_at plan h x) true_of (is_free (is_lock_sent e w x) _ _ _ _ made.0))
    by (inr told) (inl stood) =
        absurd (told_locks plan h e w x _ at (interface_cause plan ((e, w) ∷ h) cause) told stood.0)
    by (inr told) (inr made) =
        told_next plan h e w x _ at (interface_cause plan ((e, w) ∷ h) cause) told made.0 nonce made.1

pub keeps_nonce : (plan : Plan) (h : History) → CauseLaw plan h → (x : Site) → site_at plan x.number ≡ Some x
    → KeepsNonce plan h x
unfolding managed_view
keeps_nonce plan [] cause x at = λ locked. absurd cc
keeps_nonce plan ((e, w) ∷ h) cause x at = keeps_step plan h e w x at cause (keeps_nonce plan h cause.1 x at)

-- CONFIG_LOCKED after a pair stood before it, or was made by it
pub made_or : (plan : Plan) (h : History) (e : Event) (w : Verdict) (x : Site) → site_at plan x.number ≡ Some x
    → CauseLaw plan ((e, w) ∷ h) → (lock : Lock) (nonce : List ℕ) → state_at plan ((e, w) ∷ h) x
    ≡ ConfigLocked lock nonce → ((locks plan h e w x ≡ false) × (state_at plan h x ≡ ConfigLocked lock nonce))
    ⊎ ((locks plan h e w x ≡ true) × (drawn_at plan h x ≡ Some nonce))
made_or plan h e w x at cause lock nonce is =
    stood_or plan h e w x _ lock nonce (turn_at plan h e w x at cause (keeps_nonce plan h cause.1 x at)) is

-- the nonce that a lock tells is the one that it took
pub told_nonce : (plan : Plan) (h : History) (e : Event) (w : Verdict) (x : Site) (j : ℕ) (nonce taken : List ℕ)
    → site_at plan x.number ≡ Some x → CauseLaw plan ((e, w) ∷ h) → locks plan h e w x ≡ true
    → w ≡ v.Interface (iv.Locked j nonce) → drawn_at plan h x ≡ Some taken → nonce ≡ taken
told_nonce plan h (event.Interface (ie.Lock i loss)) w x j nonce taken at cause locked is drawn =
    let own = (and_parts (i == x.number) (carries w 3)
    (and_parts ((i == x.number) && carries w 3) (is_lockable plan h x) locked).0).0 in
    told_next plan h (event.Interface (ie.Lock i loss)) w x nonce at
    (interface_cause plan ((event.Interface (ie.Lock i loss), w) ∷ h) cause)
    (record { i = i; loss = loss; told = j; own = own; is_lock = refl; is = is }) locked taken drawn
told_nonce plan h e w x j nonce taken at cause locked is drawn =
    absurd (true≢false (sym (and_parts false (is_lockable plan h x) locked).0))

-- ---- the nonce of the last lock

nonce_of_lock : (plan : Plan) (h : History) → CauseLaw plan h → (x : Site) → site_at plan x.number ≡ Some x
    → (lock : Lock) (nonce : List ℕ) → state_at plan h x ≡ ConfigLocked lock nonce → nonce_locked plan h x ≡ Some nonce
unfolding devices nonce_locked
nonce_of_lock plan [] cause x at lock nonce is = absurd cc
nonce_of_lock plan ((e, w) ∷ h) cause x at lock nonce is =
    by (stood_or plan h e w x _ lock nonce (turn_at plan h e w x at cause (keeps_nonce plan h cause.1 x at)) is)
    (nonce_of_lock plan h cause.1 x at lock nonce)
  where
    by : ((locks plan h e w x ≡ false) × (state_at plan h x ≡ ConfigLocked lock nonce))
        ⊎ ((locks plan h e w x ≡ true) × (drawn_at plan h x ≡ Some nonce))
        → (state_at plan h x ≡ ConfigLocked lock nonce → nonce_locked plan h x ≡ Some nonce)
        → (if locks plan h e w x then drawn_at plan h x else nonce_locked plan h x) ≡ Some nonce
    by (inl stood) before = rw stood.0 (before stood.1)
    by (inr made) before = rw made.0 made.1

-- ---- the law

pub moves_state : (plan : Plan) (h : History) (e : Event) (w : Verdict) (x : Site) → site_at plan x.number ≡ Some x
    → CauseLaw plan ((e, w) ∷ h) → MovesState plan h e w x (state_at plan ((e, w) ∷ h) x)
moves_state plan h e w x at cause =
    let t = turn_at plan h e w x at cause (keeps_nonce plan h cause.1 x at) in
    record {
      locked = t.locked;
      started = λ is.
          let s = t.started is in
          record {
            nonce = s.nonce;
            lock = s.lock;
            was = s.was;
            of_lock = nonce_of_lock plan h cause.1 x at s.lock s.nonce s.was;
            sent = s.of_lock;
            is = s.is;
          };
      unlocked = t.unlocked;
      failed = t.failed;
      stayed = t.stayed;
    }
