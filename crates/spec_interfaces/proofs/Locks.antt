-- What a lock of an interface keeps, pair by pair.
use Rattle.std.proofs.Common.{◌≡◌, ℕ, ◌==◌, ◌&&◌, ◌||◌, ◌∷◌, ◌⊎◌, inl, inr, Bool, true, false, List, [], Some, Result}
use Rattle.std.proofs.Common.{Ok, Err, if◌then◌else◌, refl, sym, ap, ◌∙◌, arith}
use Rattle.std.proofs.lemmas.Bool.Decides.{nat_tests}
use Rattle.std.specs.Prelude.{is_ok}
use Rattle.spec_interfaces.specs.Terms.{Plan, Event, InterfaceEvent, Verdict, History, Registers, Lock, DeviceTdi}
use Rattle.spec_interfaces.specs.Terms.{lock_of, lock_answer, Call, LockInterface, StartInterface, StopInterface}
use Rattle.spec_interfaces.specs.Terms.{WriteRegister, LevelReset, FirmwareUpdate, StreamLeft, LinkReset}
use Rattle.spec_interfaces.specs.Terms.{interface_after_call, BindStream, UnbindStream, TdiState, bind_answer}
use Rattle.spec_interfaces.specs.Terms.{unbind_answer}
use Rattle.interface_state.specs.Machine.{new_lock, interface_after_lock, interface_after_bind, unbound_with}
use Rattle.interface_state.specs.Machine.{KeepsListed}
use Rattle.interface_state.specs.Held.{IsBound}
use Rattle.interface_state.proofs.Bound.{bound_state, unbound_state, bindings_end}
use Rattle.interface_state.proofs.ListedParts.{listed_is_kept}
use Rattle.spec_interfaces.specs.Sites.{Site}
use Rattle.spec_interfaces.specs.Exchanges.{carries, changes_device}
use Rattle.spec_interfaces.specs.Views.{is_number, number_in}
use Rattle.spec_interfaces.specs.Devices.{Around, around_at_site, interface_if_called, lock_call, reset_call}
use Rattle.spec_interfaces.specs.Devices.{interface_asked, next_interface, accepts_lock, is_stream_left, devices}
use Rattle.spec_interfaces.specs.Devices.{interface_at, registers_locked, is_lock_accepted}
use Rattle.script_events.specs.declared.event.Event.TheVariants as event
use Rattle.script_events.specs.declared.event.InterfaceEvent.TheVariants as ie
use Rattle.event_verdicts.specs.declared.verdict.Verdict.TheVariants as v

-- ---- what calls leave

abbrev is_lock : Call → Bool
is_lock (LockInterface flags stream offset secure drawn) = true
is_lock _ = false

-- no call but LOCK_INTERFACE makes a lock
after_stood : (tdi : DeviceTdi) (c : Call) (l : Lock) → is_lock c ≡ false
    → lock_of (interface_after_call tdi c).state ≡ Some l → lock_of tdi.state ≡ Some l
after_stood tdi (BindStream stream live) l other is =
    sym (ap (λ (s : TdiState). lock_of s) (bound_state tdi stream (bind_answer tdi stream live))) ∙ is
after_stood tdi (UnbindStream stream) l other is =
    sym (ap (λ (s : TdiState). lock_of s) (unbound_state tdi stream (unbind_answer tdi stream))) ∙ is
after_stood tdi c l other is = grind (arith, nat_tests)

locked_layout : (tdi : DeviceTdi) (new : Lock) (answer : Result (List ℕ) ℕ) → (interface_after_lock tdi new answer).plan
    ≡ tdi.plan
locked_layout tdi new answer = grind arith

bound_layout : (tdi : DeviceTdi) (stream : ℕ) (answer : Result ℕ ℕ) → (interface_after_bind tdi stream answer).plan
    ≡ tdi.plan
bound_layout tdi stream (Ok draw) = refl
bound_layout tdi stream (Err code) = refl

unbound_layout : (tdi : DeviceTdi) (stream : ℕ) (answer : Result (Unit {0}) ℕ)
    → (unbound_with tdi stream answer).plan ≡ tdi.plan
unbound_layout tdi stream (Ok done) = refl
unbound_layout tdi stream (Err code) = refl

after_layout : (tdi : DeviceTdi) (c : Call) → (interface_after_call tdi c).plan ≡ tdi.plan
after_layout tdi (LockInterface flags stream offset secure drawn) = locked_layout tdi (new_lock tdi flags stream offset)
    (lock_answer tdi flags offset secure drawn)
after_layout tdi (StartInterface nonce) = refl
after_layout tdi StopInterface = refl
after_layout tdi (BindStream stream live) = bound_layout tdi stream (bind_answer tdi stream live)
after_layout tdi (UnbindStream stream) = unbound_layout tdi stream (unbind_answer tdi stream)
after_layout tdi (WriteRegister register value) = refl
after_layout tdi LevelReset = refl
after_layout tdi FirmwareUpdate = refl
after_layout tdi StreamLeft = refl
after_layout tdi LinkReset = refl

called_stood : (b : Bool) (c : Call) (tdi : DeviceTdi) (l : Lock) → is_lock c ≡ false
    → lock_of (interface_if_called b c tdi).state ≡ Some l → lock_of tdi.state ≡ Some l
called_stood true c tdi l other is = after_stood tdi c l other is
called_stood false c tdi l other is = is

called_layout : (b : Bool) (c : Call) (tdi : DeviceTdi) → (interface_if_called b c tdi).plan ≡ tdi.plan
called_layout true c tdi = after_layout tdi c
called_layout false c tdi = refl

called_listed : (b : Bool) (c : Call) (tdi : DeviceTdi) → KeepsListed tdi.registers tdi.state
    → KeepsListed (interface_if_called b c tdi).registers (interface_if_called b c tdi).state
called_listed true c tdi keeps = listed_is_kept tdi c keeps
called_listed false c tdi keeps = keeps

-- ---- what a pair leaves

-- P of what the pair leaves, if each call keeps it
abbrev Keeps : (DeviceTdi → Type 0) → Type 0
Keeps P = (b : Bool) (c : Call) (tdi : DeviceTdi) → P tdi → P (interface_if_called b c tdi)

if_keeps : (P : DeviceTdi → Type 0) (b : Bool) (s t : DeviceTdi) → P s → P t → P (if b then s else t)
if_keeps P true s t one two = one
if_keeps P false s t one two = two

asked_keeps : (P : DeviceTdi → Type 0) → Keeps P → (a : Around) (x : Site) (e : InterfaceEvent) (w : Verdict)
    (tdi : DeviceTdi)
    → P tdi → P (interface_asked a x e w tdi)
asked_keeps P keeps a x (ie.Lock i loss) w tdi p = keeps (carries w 3) (lock_call a x) tdi p
asked_keeps P keeps a x (ie.Start i loss) w tdi p = keeps (carries w 1) (StartInterface a.nonce) tdi p
asked_keeps P keeps a x (ie.Halt i loss) w tdi p = keeps (carries w 1) StopInterface tdi p
asked_keeps P keeps a x (ie.Bind i line stream loss) w tdi p = keeps (carries w 1)
    (BindStream stream (a.live stream)) tdi p
asked_keeps P keeps a x (ie.Unbind i line stream loss) w tdi p = keeps (carries w 1) (UnbindStream stream) tdi p
asked_keeps P keeps a x (ie.Write i register value) w tdi p = keeps (changes_device w) (WriteRegister register value)
    tdi p
asked_keeps P keeps a x (ie.Flr i) w tdi p = keeps (changes_device w) LevelReset tdi p
asked_keeps P keeps a x (ie.Firmware i) w tdi p = keeps (changes_device w) FirmwareUpdate tdi p
asked_keeps P keeps a x e w tdi p = p

pub next_keeps : (P : DeviceTdi → Type 0) → Keeps P
    → (a : Around) (left : Bool) (x : Site) (e : Event) (w : Verdict) (tdi : DeviceTdi) → P tdi
    → P (next_interface a left x e w tdi)
next_keeps P keeps a left x (event.Interface e) w tdi p = if_keeps P (is_number (number_in e) x.number)
    (interface_asked a x e w tdi) tdi (asked_keeps P keeps a x e w tdi p) p
next_keeps P keeps a left x (event.Reset link ends) (v.Reset l) tdi p =
    keeps ((link == x.link) || left) (reset_call (link == x.link)) tdi p
next_keeps P keeps a left x e w tdi p = keeps left StreamLeft tdi p

-- ---- locks

-- the lock that stands after a pair stood before it, or was made by it
abbrev pub Made : Around → Site → Event → Verdict → DeviceTdi → Lock → Type 0
Made a x e w tdi l = ((lock_of tdi.state ≡ Some l) × (accepts_lock a x e w tdi ≡ false))
    ⊎ ((accepts_lock a x e w tdi ≡ true) × (l ≡ new_lock tdi x.plan.flags x.plan.stream x.plan.offset))

given_made : (tdi : DeviceTdi) (new l : Lock) (answer : Result (List ℕ) ℕ)
    → lock_of (interface_after_lock tdi new answer).state ≡ Some l
    → ((lock_of tdi.state ≡ Some l) × (is_ok answer ≡ false)) ⊎ ((is_ok answer ≡ true) × (l ≡ new))
given_made tdi new l (Ok nonce) is = inr (refl, grind arith)
given_made tdi new l (Err code) is = inl (is, refl)

lock_made : (a : Around) (x : Site) (b c : Bool) (tdi : DeviceTdi) (l : Lock)
    → lock_of (if b then interface_if_called c (lock_call a x) tdi else tdi).state ≡ Some l
    → let accepts = b && c && is_ok (lock_answer tdi x.plan.flags x.plan.offset a.secure a.drawn) in
    ((lock_of tdi.state ≡ Some l) × (accepts ≡ false)) ⊎
    ((accepts ≡ true) × (l ≡ new_lock tdi x.plan.flags x.plan.stream x.plan.offset))
lock_made a x false c tdi l is = inl (is, refl)
lock_made a x true false tdi l is = inl (is, refl)
lock_made a x true true tdi l is = given_made tdi (new_lock tdi x.plan.flags x.plan.stream x.plan.offset) l
    (lock_answer tdi x.plan.flags x.plan.offset a.secure a.drawn) is

if_stood : (b : Bool) (s t : DeviceTdi) (l : Lock) → (lock_of s.state ≡ Some l → lock_of t.state ≡ Some l)
    → lock_of (if b then s else t).state ≡ Some l → lock_of t.state ≡ Some l
if_stood true s t l stood is = stood is
if_stood false s t l stood is = is

reset_locks_none : (own : Bool) → is_lock (reset_call own) ≡ false
reset_locks_none own = grind arith

pub next_made : (a : Around) (left : Bool) (x : Site) (e : Event) (w : Verdict) (tdi : DeviceTdi) (l : Lock)
    → lock_of (next_interface a left x e w tdi).state ≡ Some l → Made a x e w tdi l
next_made a left x (event.Interface (ie.Lock i loss)) w tdi l is = lock_made a x (i == x.number) (carries w 3) tdi l is
next_made a left x (event.Interface (ie.Start i loss)) w tdi l is =
    inl (if_stood (i == x.number) _ tdi l (called_stood (carries w 1) (StartInterface a.nonce) tdi l refl) is, refl)
next_made a left x (event.Interface (ie.Halt i loss)) w tdi l is =
    inl (if_stood (i == x.number) _ tdi l (called_stood (carries w 1) StopInterface tdi l refl) is, refl)
next_made a left x (event.Interface (ie.Bind i line stream loss)) w tdi l is =
    inl (
      if_stood (i == x.number) _ tdi l (called_stood (carries w 1) (BindStream stream (a.live stream)) tdi l refl) is,
      refl,
    )
next_made a left x (event.Interface (ie.Unbind i line stream loss)) w tdi l is =
    inl (if_stood (i == x.number) _ tdi l (called_stood (carries w 1) (UnbindStream stream) tdi l refl) is, refl)
next_made a left x (event.Interface (ie.Write i register value)) w tdi l is =
    inl (
      if_stood (i == x.number) _ tdi l (called_stood (changes_device w) (WriteRegister register value) tdi l refl) is,
      refl,
    )
next_made a left x (event.Interface (ie.Flr i)) w tdi l is =
    inl (if_stood (i == x.number) _ tdi l (called_stood (changes_device w) LevelReset tdi l refl) is, refl)
next_made a left x (event.Interface (ie.Firmware i)) w tdi l is =
    inl (if_stood (i == x.number) _ tdi l (called_stood (changes_device w) FirmwareUpdate tdi l refl) is, refl)
next_made a left x (event.Interface e) w tdi l is = inl
    (if_stood (is_number (number_in e) x.number) tdi tdi l (λ h. h) is, refl)
next_made a left x (event.Reset link ends) (v.Reset l2) tdi l is =
    inl (
      called_stood ((link == x.link) || left) (reset_call (link == x.link)) tdi l (reset_locks_none (link == x.link))
          is,
      refl,
    )
next_made a left x e w tdi l is = inl (called_stood left StreamLeft tdi l refl is, refl)

-- ---- all pairs

pub layout_at : (plan : Plan) (h : History) (x : Site) → (interface_at plan h x).plan ≡ x.plan
unfolding devices
layout_at plan [] x = refl
layout_at plan ((e, w) ∷ h) x =
    next_keeps (λ t. t.plan ≡ x.plan) (λ b c t is. called_layout b c t ∙ is) (around_at_site plan h x)
    (is_stream_left plan h e w x (interface_at plan h x)) x e w
    (interface_at plan h x) (layout_at plan h x)

pub listed_at : (plan : Plan) (h : History) (x : Site) → KeepsListed (interface_at plan h x).registers
    (interface_at plan h x).state
unfolding devices
listed_at plan [] x = tt
listed_at plan ((e, w) ∷ h) x =
    next_keeps (λ t. KeepsListed t.registers t.state) called_listed (around_at_site plan h x)
    (is_stream_left plan h e w x
    (interface_at plan h x)) x e w
    (interface_at plan h x) (listed_at plan h x)

called_bound : (b : Bool) (c : Call) (tdi : DeviceTdi) → IsBound tdi.state tdi.bindings
    → IsBound (interface_if_called b c tdi).state (interface_if_called b c tdi).bindings
called_bound true c tdi is = bindings_end.later tdi c is
called_bound false c tdi is = is

pub bound_at : (plan : Plan) (h : History) (x : Site) → IsBound (interface_at plan h x).state
    (interface_at plan h x).bindings
unfolding devices
bound_at plan [] x = bindings_end.first x.plan
bound_at plan ((e, w) ∷ h) x = next_keeps (λ t. IsBound t.state t.bindings) called_bound (around_at_site plan h x)
    (is_stream_left plan h e w x (interface_at plan h x)) x e w (interface_at plan h x) (bound_at plan h x)

-- the lock that stands is that of the topology, with the registers at the last one that was accepted
abbrev pub lock_with : Site → Registers → Lock
lock_with x registers = record
    { flags = x.plan.flags; stream = x.plan.stream; offset = x.plan.offset; registers = registers }

lock_step : (plan : Plan) (h : History) (e : Event) (w : Verdict) (x : Site) (l : Lock)
    → (lock_of (interface_at plan h x).state ≡ Some l → l ≡ lock_with x (registers_locked plan h x))
    → Made (around_at_site plan h x) x e w (interface_at plan h x) l
    → l ≡ lock_with x (if is_lock_accepted plan h (devices plan h) e w x then (interface_at plan h x).registers else
    registers_locked
    plan h x)
lock_step plan h e w x l before (inl stood) = rw stood.1 (before stood.0)
lock_step plan h e w x l before (inr made) = rw made.0 made.1

pub lock_stands : (plan : Plan) (h : History) (x : Site) (l : Lock) → lock_of (interface_at plan h x).state ≡ Some l → l
    ≡ lock_with x (registers_locked plan h x)
unfolding devices registers_locked
lock_stands plan [] x l is = absurd cc
lock_stands plan ((e, w) ∷ h) x l is =
    lock_step plan h e w x l (lock_stands plan h x l)
    (next_made (around_at_site plan h x) (is_stream_left plan h e w x (interface_at plan h x)) x e w
    (interface_at plan h x)
    l is)
