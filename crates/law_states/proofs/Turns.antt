-- What a pair makes of the state of an interface.
use Rattle.std.proofs.Common.{◌≡◌, ℕ, ◌==◌, ◌&&◌, ◌||◌, inl, inr, Bool, true, false, not, List, Option, Some}
use Rattle.std.proofs.Common.{None, Result, Ok, Err, if◌then◌else◌, refl, sym, ap, ◌∙◌, subst, arith}
use Rattle.std.proofs.lemmas.Bool.{cases_Bool, true≢false}
use Rattle.std.proofs.lemmas.Bool.Decides.{nat_tests}
use Rattle.std.proofs.lemmas.Slice.Eq.{bytes_eq-Decides}
use Rattle.std.specs.Prelude.{is_some}
use Rattle.std.specs.Str.{bytes_eq}
use Rattle.ide_types.specs.declared.interface.InterfacePlan.{InterfacePlan}
use Rattle.spec_interfaces.specs.Terms.{Plan, Event, InterfaceEvent, Verdict, History, Lock, DeviceTdi, TdiState}
use Rattle.spec_interfaces.specs.Terms.{ConfigUnlocked, ConfigLocked, Run, Error, lock_of, lock_answer, Call}
use Rattle.spec_interfaces.specs.Terms.{StartInterface, StopInterface, WriteRegister, LevelReset, FirmwareUpdate}
use Rattle.spec_interfaces.specs.Terms.{StreamLeft, BindStream, UnbindStream, has_bit}
use Rattle.spec_interfaces.specs.Terms.{interface_after_call, bind_answer, unbind_answer, changes_listed}
use Rattle.spec_interfaces.specs.Sites.{Site, nonce_behind}
use Rattle.spec_interfaces.specs.Exchanges.{carries, changes_device}
use Rattle.spec_interfaces.specs.Views.{is_number, number_in, managed_view}
use Rattle.spec_interfaces.specs.Devices.{around_at_site, interface_if_called, lock_call, next_interface}
use Rattle.spec_interfaces.specs.Devices.{interface_at, is_stream_left, reset_call, has_secure_stream, used_at}
use Rattle.spec_interfaces.proofs.Locks.{layout_at, lock_stands}
use Rattle.interface_state.specs.Bars.{bars_of, any_overlap}
use Rattle.interface_state.specs.Machine.{new_lock, interface_after_lock, after_start}
use Rattle.interface_state.specs.Machine.{after_change, nonce_answer, are_lock_flags, is_page, is_unlocked, is_locked}
use Rattle.interface_state.specs.Machine.{lock_flags}
use Rattle.interface_state.proofs.Bound.{bound_state, unbound_state}
use Rattle.law_states.specs.States.{state_at, is_start_sent}
use Rattle.law_states.specs.States.{is_lockable, is_config_locked, locks, starts, unlocks, fails, IsLockTaken}
use Rattle.script_events.specs.declared.event.Event.TheVariants as event
use Rattle.script_events.specs.declared.event.InterfaceEvent.TheVariants as ie
use Rattle.event_verdicts.specs.declared.verdict.Verdict.TheVariants as v

-- ---- one of five

-- a start with the nonce of the lock
pub record HasStarted (s : TdiState) (sent : List ℕ) (next : TdiState) : Type 0 where
  pub nonce : List ℕ
  pub lock : Lock
  pub was : s ≡ ConfigLocked lock nonce
  pub of_lock : sent ≡ nonce
  pub is : next ≡ Run lock

pub record MovesBy (s next : TdiState) (ls st un fa : Bool) (Taken Started : Type 0) : Type 0 where
  pub locked : ls ≡ true → Taken
  pub started : st ≡ true → Started
  pub unlocked : un ≡ true → next ≡ ConfigUnlocked
  pub failed : fa ≡ true → next ≡ Error
  pub stayed : ls ≡ false → st ≡ false → un ≡ false → fa ≡ false → next ≡ s

pub not_both : {A : Type 0} (b : Bool) → b ≡ true → b ≡ false → A
not_both b one two = absurd cc

it_stays : {s next : TdiState} {ls st un fa : Bool} {T S : Type 0} → ls ≡ false → st ≡ false → un ≡ false → fa ≡ false
    → next ≡ s → MovesBy s next ls st un fa T S
it_stays {s} {next} {ls} {st} {un} {fa} l k u f is = record {
  locked = λ e. not_both ls e l;
  started = λ e. not_both st e k;
  unlocked = λ e. not_both un e u;
  failed = λ e. not_both fa e f;
  stayed = λ a b c d. is;
}

it_locks : {s next : TdiState} {ls st un fa : Bool} {T S : Type 0} → ls ≡ true → st ≡ false → un ≡ false → fa ≡ false
    → T → MovesBy s next ls st un fa T S
it_locks {s} {next} {ls} {st} {un} {fa} l k u f is = record {
  locked = λ e. is;
  started = λ e. not_both st e k;
  unlocked = λ e. not_both un e u;
  failed = λ e. not_both fa e f;
  stayed = λ a b c d. not_both ls l a;
}

it_starts : {s next : TdiState} {ls st un fa : Bool} {T S : Type 0} → ls ≡ false → st ≡ true → un ≡ false → fa ≡ false
    → S → MovesBy s next ls st un fa T S
it_starts {s} {next} {ls} {st} {un} {fa} l k u f is = record {
  locked = λ e. not_both ls e l;
  started = λ e. is;
  unlocked = λ e. not_both un e u;
  failed = λ e. not_both fa e f;
  stayed = λ a b c d. not_both st k b;
}

it_unlocks : {s next : TdiState} {ls st un fa : Bool} {T S : Type 0} → ls ≡ false → st ≡ false → un ≡ true → fa ≡ false
    → next ≡ ConfigUnlocked → MovesBy s next ls st un fa T S
it_unlocks {s} {next} {ls} {st} {un} {fa} l k u f is = record {
  locked = λ e. not_both ls e l;
  started = λ e. not_both st e k;
  unlocked = λ e. is;
  failed = λ e. not_both fa e f;
  stayed = λ a b c d. not_both un u c;
}

it_fails : {s next : TdiState} {ls st un fa : Bool} {T S : Type 0} → ls ≡ false → st ≡ false → un ≡ false → fa ≡ true
    → next ≡ Error → MovesBy s next ls st un fa T S
it_fails {s} {next} {ls} {st} {un} {fa} l k u f is = record {
  locked = λ e. not_both ls e l;
  started = λ e. not_both st e k;
  unlocked = λ e. not_both un e u;
  failed = λ e. is;
  stayed = λ a b c d. not_both fa f d;
}

-- the nonce of a start is that of the lock that stands
abbrev pub HasNonce : Plan → History → Site → Type 0
HasNonce plan h x = (lock : Lock) (nonce : List ℕ) → state_at plan h x ≡ ConfigLocked lock nonce
    → (managed_view h x).nonce ≡ nonce

abbrev pub TurnOf : Plan → History → Event → Verdict → Site → TdiState → Type 0
TurnOf plan h e w x next =
    MovesBy (state_at plan h x) next (locks plan h e w x) (starts plan h e w x) (unlocks e w x) (fails plan h e w x)
    (IsLockTaken plan h x next) (HasStarted (state_at plan h x) (managed_view h x).nonce next)

-- ---- LOCK_INTERFACE

abbrev answer_by : Bool → Bool → Bool → Option (List ℕ) → (a b c : ℕ) → Result (List ℕ) ℕ
answer_by u f s drawn a b c = if not u then Err a else if not f then Err b else if not s then Err c else
    nonce_answer drawn

pub record IsGiven (drawn : Option (List ℕ)) (answer : Result (List ℕ) ℕ) : Type 0 where
  pub nonce : List ℕ
  pub is_next : drawn ≡ Some nonce
  pub is : answer ≡ Ok nonce

pub record IsRefused (answer : Result (List ℕ) ℕ) : Type 0 where
  pub code : ℕ
  pub is : answer ≡ Err code

given_by : (u f s : Bool) (drawn : Option (List ℕ)) (a b c : ℕ) → (u && f && s && is_some drawn) ≡ true
    → IsGiven drawn (answer_by u f s drawn a b c)
given_by true true true (Some nonce) a b c is = record { nonce = nonce; is_next = refl; is = refl }
given_by true true true None a b c is = absurd cc
given_by true true false drawn a b c is = absurd cc
given_by true false s drawn a b c is = absurd cc
given_by false f s drawn a b c is = absurd cc

refused_by : (u f s : Bool) (drawn : Option (List ℕ)) (a b c : ℕ) → (u && f && s && is_some drawn) ≡ false
    → IsRefused (answer_by u f s drawn a b c)
refused_by true true true (Some nonce) a b c is = absurd cc
refused_by true true true None a b c is = record { code = _; is = refl }
refused_by true true false drawn a b c is = record { code = _; is = refl }
refused_by true false s drawn a b c is = record { code = _; is = refl }
refused_by false f s drawn a b c is = record { code = _; is = refl }

abbrev pub drawn_at : Plan → History → Site → Option (List ℕ)
drawn_at plan h x = nonce_behind plan x.link (used_at plan h x.link)

abbrev pub answer_at : Plan → History → Site → Result (List ℕ) ℕ
answer_at plan h x = lock_answer (interface_at plan h x) x.plan.flags x.plan.offset (has_secure_stream h x)
    (drawn_at plan h x)

-- by the ranges of the topology
overlap_at : (plan : Plan) (h : History) (x : Site)
    → any_overlap (bars_of (interface_at plan h x).plan (interface_at plan h x).registers)
    ≡ any_overlap (bars_of x.plan (interface_at plan h x).registers)
overlap_at plan h x = ap (λ (p : InterfacePlan). any_overlap (bars_of p (interface_at plan h x).registers))
    (layout_at plan h x)

pub lock_given : (plan : Plan) (h : History) (x : Site) → is_lockable plan h x ≡ true
    → IsGiven (drawn_at plan h x) (answer_at plan h x)
lock_given plan h x is =
    let t = interface_at plan h x in
    given_by (is_unlocked t.state) (are_lock_flags x.plan.flags && is_page x.plan.offset)
    (has_secure_stream h x && not (any_overlap (bars_of t.plan t.registers))) (drawn_at plan h x) _ _ _
    (subst (λ (b : Bool). (is_unlocked t.state && (are_lock_flags x.plan.flags && is_page x.plan.offset)
    && (has_secure_stream h x && not b) && is_some (drawn_at plan h x)) ≡ true) (sym (overlap_at plan h x)) is)

pub lock_refused : (plan : Plan) (h : History) (x : Site) → is_lockable plan h x ≡ false
    → IsRefused (answer_at plan h x)
lock_refused plan h x is =
    let t = interface_at plan h x in
    refused_by (is_unlocked t.state) (are_lock_flags x.plan.flags && is_page x.plan.offset)
    (has_secure_stream h x && not (any_overlap (bars_of t.plan t.registers))) (drawn_at plan h x) _ _ _
    (subst (λ (b : Bool). (is_unlocked t.state && (are_lock_flags x.plan.flags && is_page x.plan.offset)
    && (has_secure_stream h x && not b) && is_some (drawn_at plan h x)) ≡ false) (sym (overlap_at plan h x)) is)

lock_state : (t : DeviceTdi) (new : Lock) (answer : Result (List ℕ) ℕ) (nonce : List ℕ) → answer ≡ Ok nonce
    → (interface_after_lock t new answer).state ≡ ConfigLocked new nonce
lock_state t new answer nonce is = rw is refl

lock_leaves : (t : DeviceTdi) (new : Lock) (answer : Result (List ℕ) ℕ) (code : ℕ) → answer ≡ Err code
    → (interface_after_lock t new answer).state ≡ t.state
lock_leaves t new answer code is = rw is refl

abbrev lock_at : Plan → History → Site → Lock
lock_at plan h x = new_lock (interface_at plan h x) x.plan.flags x.plan.stream x.plan.offset

none_fails : (a b c left : Bool) → left ≡ false → c ≡ false → (a && b && (c || left)) ≡ false
none_fails a b c left none fine = grind (arith, none, fine)

lock_turn : (plan : Plan) (h : History) (x : Site) (own c fa : Bool) (S : Type 0) → fa ≡ false
    → let next = (if own then interface_if_called c (lock_call (around_at_site plan h x) x) (interface_at plan h x) else
    interface_at plan h x).state in
    MovesBy (state_at plan h x) next (own && c && is_lockable plan h x) false false fa (IsLockTaken plan h x next) S
lock_turn plan h x true true fa S none = elim (cases_Bool (is_lockable plan h x)) [
  | inl is ↦
      let given = lock_given plan h x is in
      it_locks is refl refl none (record {
        nonce = given.nonce;
        is_next = given.is_next;
        lock = lock_at plan h x;
        kept = refl;
        is = lock_state (interface_at plan h x) (lock_at plan h x) (answer_at plan h x) given.nonce given.is;
      })
  | inr not_so ↦
      let refused = lock_refused plan h x not_so in
      it_stays not_so refl refl none
      (lock_leaves (interface_at plan h x) (lock_at plan h x) (answer_at plan h x) refused.code refused.is)
]
lock_turn plan h x true false fa S none = it_stays refl refl refl none refl
lock_turn plan h x false c fa S none = it_stays refl refl refl none refl

-- ---- START_INTERFACE

same_bytes : (a b : List ℕ) → a ≡ b → bytes_eq a b ≡ true
same_bytes a b is = (bytes_eq-Decides a b).1 is

started_state : (lock : Lock) (held sent : List ℕ) → sent ≡ held
    → after_start (ConfigLocked lock held) sent ≡ Run lock
started_state lock held sent is = rw (same_bytes sent held is) refl

start_by : (s : TdiState) (sent : List ℕ) (own c fa : Bool) (T : Type 0) → fa ≡ false
    → ((own && c) ≡ true → (lock : Lock) (nonce : List ℕ) → s ≡ ConfigLocked lock nonce → sent ≡ nonce)
    → (next : TdiState) → next ≡ (if own then (if c then after_start s sent else s) else s)
    → MovesBy s next false (own && c && is_config_locked s) false fa T (HasStarted s sent next)
start_by (ConfigLocked lock nonce) sent true true fa T none fits next is =
    it_starts refl refl refl none (record {
      nonce = nonce;
      lock = lock;
      was = refl;
      of_lock = fits refl lock nonce refl;
      is = is ∙ started_state lock nonce sent (fits refl lock nonce refl);
    })
start_by ConfigUnlocked sent true true fa T none fits next is = it_stays refl refl refl none is
start_by (Run lock) sent true true fa T none fits next is = it_stays refl refl refl none is
start_by Error sent true true fa T none fits next is = it_stays refl refl refl none is
start_by s sent true false fa T none fits next is = it_stays refl refl refl none is
start_by s sent false c fa T none fits next is = it_stays refl refl refl none is

if_called : (b : Bool) (c : Call) (t : DeviceTdi) → (interface_if_called b c t).state
    ≡ (if b then (interface_after_call t c).state else t.state)
if_called true c t = refl
if_called false c t = refl

own_state : (own b : Bool) (c : Call) (t : DeviceTdi) → (if own then interface_if_called b c t else t).state
    ≡ (if own then (if b then (interface_after_call t c).state else t.state) else t.state)
own_state true b c t = if_called b c t
own_state false b c t = refl

-- ---- STOP_INTERFACE

stop_by : (s : TdiState) (own c fa : Bool) (T S : Type 0) → fa ≡ false
    → (next : TdiState) → next ≡ (if own then (if c then ConfigUnlocked else s) else s)
    → MovesBy s next false false (own && c || false) fa T S
stop_by s true true fa T S none next is = it_unlocks refl refl refl none is
stop_by s true false fa T S none next is = it_stays refl refl refl none is
stop_by s false c fa T S none next is = it_stays refl refl refl none is

-- ---- what a lock forbids, and streams that leave Secure

-- it fails by a change if that is listed, `l` by the lock that stands, `m` by the topology
fail_by : (s : TdiState) (b l m : Bool) (T S : Type 0) → (is_locked s ≡ true → l ≡ m)
    → (fa : Bool) → fa ≡ (is_locked s && (b && m)) → (next : TdiState) → next ≡ (if b then after_change l s else s)
    → MovesBy s next false false false fa T S
fail_by s false l m T S same fa f next is = it_stays refl refl refl (grind (arith, f)) is
fail_by ConfigUnlocked true true m T S same fa f next is = it_stays refl refl refl f is
fail_by ConfigUnlocked true false m T S same fa f next is = it_stays refl refl refl f is
fail_by Error true true m T S same fa f next is = it_stays refl refl refl f is
fail_by Error true false m T S same fa f next is = it_stays refl refl refl f is
fail_by (ConfigLocked lock nonce) true true m T S same fa f next is = it_fails refl refl refl (f ∙ sym (same refl)) is
fail_by (ConfigLocked lock nonce) true false m T S same fa f next is =
    it_stays refl refl refl (f ∙ sym (same refl)) is
fail_by (Run lock) true true m T S same fa f next is = it_fails refl refl refl (f ∙ sym (same refl)) is
fail_by (Run lock) true false m T S same fa f next is = it_stays refl refl refl (f ∙ sym (same refl)) is

-- a reset of its link, and of another that leaves a stream that it is bound to
reset_by : (t : DeviceTdi) (own left : Bool) (T S : Type 0) → let next = (interface_if_called (own || left)
    (reset_call own) t).state in
    MovesBy t.state next false false own (is_locked t.state && not own && left) T S
reset_by t true left T S = it_unlocks refl refl refl (grind (arith, nat_tests)) refl
reset_by t false true T S = fail_by t.state true true true T S (λ e. refl) _ (grind arith) _ refl
reset_by t false false T S = it_stays refl refl refl (grind arith) refl

-- ---- the pair

-- the flags of the lock that stands are the topology's
flags_at : (plan : Plan) (h : History) (x : Site) → is_locked (state_at plan h x) ≡ true
    → lock_flags (state_at plan h x) ≡ x.plan.flags
flags_at plan h x is =
    by (state_at plan h x) is (λ l stands. ap (λ (k : Lock). k.flags) (lock_stands plan h x l stands))
  where
    by : (s : TdiState) → is_locked s ≡ true → ((l : Lock) → lock_of s ≡ Some l → l.flags ≡ x.plan.flags)
        → lock_flags s ≡ x.plan.flags
    by ConfigUnlocked is of = absurd (true≢false (sym is))
    by (ConfigLocked lock nonce) is of = of lock refl
    by (Run lock) is of = of lock refl
    by Error is of = absurd (true≢false (sym is))

forbids_own : (k own c m left : Bool) → left ≡ false
    → (k && true && ((own && c && m) || left)) ≡ (k && ((own && c) && m))
forbids_own k own c m left none = grind (arith, none)

forbids_all : (k own c left : Bool) → left ≡ false → (k && true && ((own && c) || left)) ≡ (k && ((own && c) && true))
forbids_all k own c left none = grind (arith, none)

both_if : (own c : Bool) (s t : TdiState) → (if own then (if c then s else t) else t) ≡ (if own && c then s else t)
both_if true c s t = refl
both_if false c s t = refl

stays_all : (own c : Bool) (s : TdiState) → (if own then (if c then s else s) else s) ≡ s
stays_all true true s = refl
stays_all true false s = refl
stays_all false c s = refl

same_interface : (b : Bool) (t : DeviceTdi) → (if b then t else t) ≡ t
same_interface true t = refl
same_interface false t = refl

forbids_left : (k left : Bool) → (k && true && (false || left)) ≡ (k && (left && true))
forbids_left k left = grind arith

abbrev pub left_at : Plan → History → Event → Verdict → Site → Bool
left_at plan h e w x = is_stream_left plan h e w x (interface_at plan h x)

abbrev pub next_at : Plan → History → Event → Verdict → Site → TdiState
next_at plan h e w x =
    (next_interface (around_at_site plan h x) (left_at plan h e w x) x e w (interface_at plan h x)).state

pub interface_turn : (plan : Plan) (h : History) (e : InterfaceEvent) (w : Verdict) (x : Site)
    → left_at plan h (event.Interface e) w x ≡ false
    → (is_start_sent (event.Interface e) w x ≡ true → HasNonce plan h x)
    → TurnOf plan h (event.Interface e) w x (next_at plan h (event.Interface e) w x)
interface_turn plan h (ie.Lock i loss) w x none fits =
    lock_turn plan h x (i == x.number) (carries w 3) (fails plan h (event.Interface (ie.Lock i loss)) w x)
    (HasStarted (state_at plan h x) (managed_view h x).nonce (next_at plan h (event.Interface (ie.Lock i loss)) w x))
    (none_fails (is_locked (state_at plan h x)) true false _ none refl)
interface_turn plan h (ie.Start i loss) w x none fits =
    start_by (state_at plan h x) (managed_view h x).nonce (i == x.number) (carries w 1)
    (fails plan h (event.Interface (ie.Start i loss)) w x)
    (IsLockTaken plan h x (next_at plan h (event.Interface (ie.Start i loss)) w x))
    (none_fails (is_locked (state_at plan h x)) true false _ none refl) fits _
    (own_state (i == x.number) (carries w 1) (StartInterface (managed_view h x).nonce) (interface_at plan h x))
interface_turn plan h (ie.Halt i loss) w x none fits =
    stop_by (state_at plan h x) (i == x.number) (carries w 1) (fails plan h (event.Interface (ie.Halt i loss)) w x)
    _ _ (none_fails (is_locked (state_at plan h x)) true false _ none refl) _
    (own_state (i == x.number) (carries w 1) StopInterface (interface_at plan h x))
interface_turn plan h (ie.Write i register value) w x none fits =
    let t = interface_at plan h x in
    fail_by (state_at plan h x) ((i == x.number) && changes_device w)
    (changes_listed (lock_flags t.state) t.registers register value)
    (changes_listed x.plan.flags t.registers register value) _ _
    (λ locked. ap (λ (f : ℕ). changes_listed f t.registers register value) (flags_at plan h x locked)) _
    (forbids_own (is_locked t.state) (i == x.number) (changes_device w) _ _ none) _
    (own_state (i == x.number) (changes_device w) (WriteRegister register value) t
    ∙ both_if (i == x.number) (changes_device w) _ t.state)
interface_turn plan h (ie.Flr i) w x none fits =
    let t = interface_at plan h x in
    fail_by (state_at plan h x) ((i == x.number) && changes_device w) true true _ _ (λ locked. refl) _
    (forbids_all (is_locked t.state) (i == x.number) (changes_device w) _ none) _
    (own_state (i == x.number) (changes_device w) LevelReset t ∙ both_if (i == x.number) (changes_device w) _ t.state)
interface_turn plan h (ie.Firmware i) w x none fits =
    let t = interface_at plan h x in
    fail_by (state_at plan h x) ((i == x.number) && changes_device w) (has_bit 0 (lock_flags t.state))
    (has_bit 0 x.plan.flags) _ _
    (λ locked. ap (λ (f : ℕ). has_bit 0 f) (flags_at plan h x locked)) _
    (forbids_own (is_locked t.state) (i == x.number) (changes_device w) _ _ none) _
    (own_state (i == x.number) (changes_device w) FirmwareUpdate t
    ∙ both_if (i == x.number) (changes_device w) _ t.state)
interface_turn plan h (ie.Bind i line stream loss) w x none fits =
    let t = interface_at plan h x in
    let live = (around_at_site plan h x).live stream in
    it_stays refl refl refl (none_fails (is_locked t.state) true false _ none refl)
    (own_state (i == x.number) (carries w 1) (BindStream stream live) t
    ∙ rw (bound_state t stream (bind_answer t stream live)) (stays_all (i == x.number) (carries w 1) t.state))
interface_turn plan h (ie.Unbind i line stream loss) w x none fits =
    let t = interface_at plan h x in
    it_stays refl refl refl (none_fails (is_locked t.state) true false _ none refl)
    (own_state (i == x.number) (carries w 1) (UnbindStream stream) t
    ∙ rw (unbound_state t stream (unbind_answer t stream)) (stays_all (i == x.number) (carries w 1) t.state))
interface_turn plan h e w x none fits =
    it_stays refl refl refl (none_fails (is_locked (state_at plan h x)) true false _ none refl)
    (ap (λ (t : DeviceTdi). t.state) (same_interface (is_number (number_in e) x.number) (interface_at plan h x)))

pub turn : (plan : Plan) (h : History) (e : Event) (w : Verdict) (x : Site)
    → ((i : InterfaceEvent) → e ≡ event.Interface i → left_at plan h e w x ≡ false)
    → (is_start_sent e w x ≡ true → HasNonce plan h x) → TurnOf plan h e w x (next_at plan h e w x)
turn plan h (event.Interface e) w x none fits = interface_turn plan h e w x (none e refl) fits
turn plan h (event.Reset l ends) (v.Reset k) x none fits =
    reset_by (interface_at plan h x) (l == x.link) (left_at plan h (event.Reset l ends) (v.Reset k) x) _ _
turn plan h e w x none fits = fail_by (state_at plan h x) (left_at plan h e w x) true true _ _ (λ locked. refl) _
    (forbids_left (is_locked (state_at plan h x)) (left_at plan h e w x)) _
    (if_called (left_at plan h e w x) StreamLeft (interface_at plan h x))
