-- What a binding outlasts: each call but an unbind of it leaves it while the interface is locked or in RUN, and as long
-- as no lock is accepted it was so before.
use Rattle.std.proofs.Common.{◌≡◌, ◌⊎◌, inl, inr, ℕ, ◌==◌, ◌&&◌, ◌||◌, Bool, true, false, List, [], ◌∷◌, ◌++◌, refl}
use Rattle.std.proofs.Common.{sym, arith}
use Rattle.std.specs.Prelude.{not, if◌then◌else◌, Result, Ok, Err}
use Rattle.std.proofs.lemmas.Bool.{true≢false}
use Rattle.std.proofs.lemmas.Bool.Decides.{nat_tests}
use Rattle.ide_types.specs.declared.plan.Plan.{Plan}
use Rattle.ide_types.specs.declared.binding.Binding.{Binding}
use Rattle.interface_state.specs.declared.states.TdiState.{TdiState}
use Rattle.interface_state.specs.declared.states.TdiState.TheVariants.{ConfigLocked}
use Rattle.interface_state.specs.declared.states.Lock.{Lock}
use Rattle.interface_state.specs.Bindings.{binds, without}
use Rattle.interface_state.specs.RegisterValues.{changes_listed}
use Rattle.interface_state.specs.Machine.{DeviceTdi, Call, interface_after_call, is_locked, bindings_after, state_code}
use Rattle.interface_state.specs.Machine.{after_failure, after_start, after_change, firmware_updated, lock_flags}
use Rattle.interface_state.specs.Machine.{bind_answer, interface_after_bind, unbind_answer, unbound_with, lock_answer}
use Rattle.interface_state.specs.Machine.{interface_after_lock, new_lock}
use Rattle.interface_state.specs.Machine as call
use Rattle.spec_keys.specs.History.{History}
use Rattle.spec_interfaces.specs.Terms.{Event, InterfaceEvent, Verdict}
use Rattle.spec_interfaces.specs.Sites.{Site}
use Rattle.spec_interfaces.specs.Exchanges.{carries, changes_device}
use Rattle.spec_interfaces.specs.Views.{is_number, number_in}
unfoldable use Rattle.spec_interfaces.specs.Devices.{devices}
use Rattle.spec_interfaces.specs.Devices.{Around, around_at_site, interface_at, interface_if_called, interface_asked}
use Rattle.spec_interfaces.specs.Devices.{lock_call, reset_call, next_interface, is_stream_left}
use Rattle.law_bindings.specs.Asked.{is_unbound_by, is_unbound_in, AreBound}
use Rattle.law_bindings.proofs.Calls.{unbinds}
use Rattle.law_locks.proofs.AllLaws.{own_number}
use Rattle.law_bindings.proofs.Tells.{tells_binding}
use Rattle.spec_links.specs.Cause.{CauseLaw}
use Rattle.law_memory.proofs.Found.{cause_at}
use Rattle.spec_interfaces.specs.Laws.{IsLocked}
use Rattle.spec_interfaces.specs.Sites.{site_at}
use Rattle.spec_interfaces.proofs.Locks.{next_made}
use Rattle.spec_interfaces.specs.Devices.{is_bound_at, accepts_lock, locks_accepted, one_if}
use Rattle.interface_state.specs.Machine.{lock_of}
use Rattle.interface_state.specs.declared.states.TdiState.TheVariants.{ConfigUnlocked, Run, Error}
use Rattle.ide_types.specs.declared.verdict.InterfaceVerdict.TheVariants as iv
use Rattle.std.proofs.Common.{subst, ◌≤◌, ◌+◌, ◌∙◌, Some, ap}
use Rattle.law_bytes.proofs.NoOtherRun.{locks_grow}
use Rattle.spec_keys.proofs.Tests.{neither-true}
use Rattle.script_events.specs.declared.event.Event.TheVariants as event
use Rattle.script_events.specs.declared.event.InterfaceEvent.TheVariants as ie
use Rattle.event_verdicts.specs.declared.verdict.Verdict.TheVariants as v

-- ---- lists of bindings

left_stays : (stream : ℕ) (t : DeviceTdi) (next : TdiState) → is_locked next ≡ true → binds stream t.bindings ≡ true
    → binds stream (bindings_after t next) ≡ true
left_stays stream t next locked is = rw locked is

added_stays : (stream : ℕ) (bs : List Binding) (b : Binding) → binds stream bs ≡ true → binds stream (bs ++ b ∷ [])
    ≡ true
added_stays stream [] b is = absurd (true≢false (sym is))
added_stays stream (c ∷ bs) b is = by (c.stream == stream) is (added_stays stream bs b)
  where
    by : (d : Bool) → (d || binds stream bs) ≡ true → (binds stream bs ≡ true → binds stream (bs ++ b ∷ []) ≡ true)
        → (d || binds stream (bs ++ b ∷ [])) ≡ true
    by true is later = refl
    by false is later = later is

without_stays : (stream s : ℕ) (bs : List Binding) → (s == stream) ≡ false → binds stream bs ≡ true
    → binds stream (without s bs) ≡ true
without_stays stream s [] other is = absurd (true≢false (sym is))
without_stays stream s (b ∷ bs) other is =
    by (b.stream == s) refl (b.stream == stream) refl is (without_stays stream s bs other)
  where
    apart : (b.stream == s) ≡ true → (b.stream == stream) ≡ true → ⊥
    apart one two = grind (arith, nat_tests, one, two, other)

    by : (c : Bool) → (b.stream == s) ≡ c → (d : Bool) → (b.stream == stream) ≡ d → (d || binds stream bs) ≡ true
        → (binds stream bs ≡ true → binds stream (without s bs) ≡ true)
        → binds stream (if not c then b ∷ without s bs else without s bs) ≡ true
    by true at true on is later = absurd (apart at on)
    by true at false off is later = later is
    by false at true on is later = rw on refl
    by false at false off is later = rw off (later is)

-- ---- over a call

lock_stays : (stream : ℕ) (t : DeviceTdi) (lock : Lock) (answer : Result (List ℕ) ℕ) → binds stream t.bindings ≡ true
    → binds stream (interface_after_lock t lock answer).bindings ≡ true
lock_stays stream t lock (Err code) is = is
lock_stays stream t lock (Ok nonce) is = left_stays stream t (ConfigLocked lock nonce) refl is

bind_stays : (stream s : ℕ) (t : DeviceTdi) (answer : Result ℕ ℕ) → binds stream t.bindings ≡ true
    → binds stream (interface_after_bind t s answer).bindings ≡ true
bind_stays stream s t (Err code) is = is
bind_stays stream s t (Ok draw) is = added_stays stream t.bindings (record { stream = s; floor = draw }) is

unbind_stays : (stream s : ℕ) (t : DeviceTdi) (answer : Result (Unit {0}) ℕ) → (s == stream) ≡ false
    → binds stream t.bindings ≡ true → binds stream (unbound_with t s answer).bindings ≡ true
unbind_stays stream s t (Err code) other is = is
unbind_stays stream s t (Ok done) other is = without_stays stream s t.bindings other is

call_stays : (stream : ℕ) (t : DeviceTdi) (c : Call) → unbinds c stream ≡ false
    → is_locked (interface_after_call t c).state ≡ true → binds stream t.bindings ≡ true
    → binds stream (interface_after_call t c).bindings ≡ true
call_stays stream t (call.LockInterface flags s offset secure drawn) other locked is =
    lock_stays stream t (new_lock t flags s offset) (lock_answer t flags offset secure drawn) is
call_stays stream t (call.StartInterface nonce) other locked is =
    left_stays stream t (after_start t.state nonce) locked is
call_stays stream t call.StopInterface other locked is = absurd (true≢false (sym locked))
call_stays stream t (call.BindStream s said) other locked is = bind_stays stream s t (bind_answer t s said) is
call_stays stream t (call.UnbindStream s) other locked is = unbind_stays stream s t (unbind_answer t s) other is
call_stays stream t (call.WriteRegister register value) other locked is = left_stays stream t
    (after_change (changes_listed (lock_flags t.state) t.registers register value) t.state) locked is
call_stays stream t call.LevelReset other locked is = left_stays stream t (after_failure t.state) locked is
call_stays stream t call.FirmwareUpdate other locked is = left_stays stream t (firmware_updated t.state) locked is
call_stays stream t call.StreamLeft other locked is = left_stays stream t (after_failure t.state) locked is
call_stays stream t call.LinkReset other locked is = absurd (true≢false (sym locked))

called_stays : (stream : ℕ) (b : Bool) (c : Call) (t : DeviceTdi) → (b ≡ true → unbinds c stream ≡ false)
    → is_locked (interface_if_called b c t).state ≡ true → binds stream t.bindings ≡ true
    → binds stream (interface_if_called b c t).bindings ≡ true
called_stays stream true c t other locked is = call_stays stream t c (other refl) locked is
called_stays stream false c t other locked is = is

-- ---- over a pair

not_so : (a b c : Bool) → a ≡ true → (a && b && c) ≡ false → c ≡ true → b ≡ false
not_so a b c one none three = grind (arith, one, none, three)

asked_stays : (stream : ℕ) (a : Around) (x : Site) (e : InterfaceEvent) (w : Verdict) (t : DeviceTdi)
    → is_number (number_in e) x.number ≡ true → is_unbound_by x stream (event.Interface e) w ≡ false
    → is_locked (interface_asked a x e w t).state ≡ true → binds stream t.bindings ≡ true
    → binds stream (interface_asked a x e w t).bindings ≡ true
asked_stays stream a x (ie.Lock i loss) w t own none locked is =
    called_stays stream (carries w 3) (lock_call a x) t (λ c. refl) locked is
asked_stays stream a x (ie.Start i loss) w t own none locked is =
    called_stays stream (carries w 1) (call.StartInterface a.nonce) t (λ c. refl) locked is
asked_stays stream a x (ie.Halt i loss) w t own none locked is =
    called_stays stream (carries w 1) call.StopInterface t (λ c. refl) locked is
asked_stays stream a x (ie.Bind i line s loss) w t own none locked is =
    called_stays stream (carries w 1) (call.BindStream s (a.live s)) t (λ c. refl) locked is
asked_stays stream a x (ie.Unbind i line s loss) w t own none locked is =
    called_stays stream (carries w 1) (call.UnbindStream s) t
    (λ c. not_so (i == x.number) (s == stream) (carries w 1) own none c) locked is
asked_stays stream a x (ie.Write i register value) w t own none locked is =
    called_stays stream (changes_device w) (call.WriteRegister register value) t (λ c. refl) locked is
asked_stays stream a x (ie.Flr i) w t own none locked is =
    called_stays stream (changes_device w) call.LevelReset t (λ c. refl) locked is
asked_stays stream a x (ie.Firmware i) w t own none locked is =
    called_stays stream (changes_device w) call.FirmwareUpdate t (λ c. refl) locked is
asked_stays stream a x e w t own none locked is = is

reset_plain : (own : Bool) (stream : ℕ) → unbinds (reset_call own) stream ≡ false
reset_plain true stream = refl
reset_plain false stream = refl

next_stays : (stream : ℕ) (a : Around) (left : Bool) (x : Site) (e : Event) (w : Verdict) (t : DeviceTdi)
    → is_unbound_by x stream e w ≡ false → is_locked (next_interface a left x e w t).state ≡ true
    → binds stream t.bindings ≡ true → binds stream (next_interface a left x e w t).bindings ≡ true
next_stays stream a left x (event.Interface e) w t none locked is = by (is_number (number_in e) x.number) refl locked
  where
    by : (b : Bool) → is_number (number_in e) x.number ≡ b
        → is_locked (if b then interface_asked a x e w t else t).state ≡ true
        → binds stream (if b then interface_asked a x e w t else t).bindings ≡ true
    by true own locked = asked_stays stream a x e w t own none locked is
    by false other locked = is
next_stays stream a left x (event.Reset l ends) (v.Reset k) t none locked is =
    called_stays stream ((l == x.link) || left) (reset_call (l == x.link)) t (λ c. reset_plain (l == x.link) stream)
    locked is
next_stays stream a left x e w t none locked is = called_stays stream left call.StreamLeft t (λ c. refl) locked is

either_locked : (s : TdiState) → (state_code s ≡ 1) ⊎ (state_code s ≡ 2) → is_locked s ≡ true
either_locked s (inl is) = grind (arith, is)
either_locked s (inr is) = grind (arith, is)

stays_bound : (plan : Plan) (h : History) (e : Event) (w : Verdict) (x : Site) (stream : ℕ)
    → is_unbound_by x stream e w ≡ false → IsLocked plan ((e, w) ∷ h) x → is_bound_at plan h x stream ≡ true
    → is_bound_at plan ((e, w) ∷ h) x stream ≡ true
unfolding devices
stays_bound plan h e w x stream none locked is =
    next_stays stream (around_at_site plan h x) (is_stream_left plan h e w x (interface_at plan h x)) x e w
    (interface_at plan h x) none (either_locked (interface_at plan ((e, w) ∷ h) x).state locked) is

-- ---- the lock that stands stood before the pair, if the pair brings none

locked_some : (s : TdiState) → (state_code s ≡ 1) ⊎ (state_code s ≡ 2) → (l : Lock) × (lock_of s ≡ Some l)
locked_some (ConfigLocked lock nonce) is = (lock, refl)
locked_some (Run lock) is = (lock, refl)
locked_some ConfigUnlocked (inl is) = absurd cc
locked_some ConfigUnlocked (inr is) = absurd cc
locked_some Error (inl is) = absurd cc
locked_some Error (inr is) = absurd cc

some_locked : (s : TdiState) (l : Lock) → lock_of s ≡ Some l → (state_code s ≡ 1) ⊎ (state_code s ≡ 2)
some_locked (ConfigLocked lock nonce) l is = inl refl
some_locked (Run lock) l is = inr refl
some_locked ConfigUnlocked l is = absurd cc
some_locked Error l is = absurd cc

was_locked : (plan : Plan) (h : History) (e : Event) (w : Verdict) (x : Site)
    → accepts_lock (around_at_site plan h x) x e w (interface_at plan h x) ≡ false → IsLocked plan ((e, w) ∷ h) x
    → IsLocked plan h x
unfolding devices
was_locked plan h e w x none locked =
    let lock = locked_some (interface_at plan ((e, w) ∷ h) x).state locked in
    elim (next_made (around_at_site plan h x) (is_stream_left plan h e w x (interface_at plan h x)) x e w
    (interface_at plan h x) lock.0 lock.1) [
      | inl stood ↦ some_locked (interface_at plan h x).state lock.0 stood.0
      | inr made ↦ absurd (true≢false (sym made.0 ∙ none))
    ]

none_accepted : (plan : Plan) (h : History) (e : Event) (w : Verdict) (x : Site)
    → locks_accepted plan ((e, w) ∷ h) x ≤ locks_accepted plan h x
    → accepts_lock (around_at_site plan h x) x e w (interface_at plan h x) ≡ false
unfolding devices
none_accepted plan h e w x most = by (accepts_lock (around_at_site plan h x) x e w (interface_at plan h x)) most
  where
    by : (b : Bool) → locks_accepted plan h x + one_if b ≤ locks_accepted plan h x → b ≡ false
    by true most = absurd (omega (arith, most))
    by false most = refl

-- ---- since a bound verdict

bound_since : (plan : Plan) (since g : History) (x : Site) (stream : ℕ) → is_bound_at plan g x stream ≡ true
    → locks_accepted plan (since ++ g) x ≤ locks_accepted plan g x → IsLocked plan (since ++ g) x
    → is_unbound_in x stream since ≡ false → is_bound_at plan (since ++ g) x stream ≡ true
bound_since plan [] g x stream is most locked none = is
bound_since plan ((e, w) ∷ since) g x stream is most locked none =
    let k = since ++ g in
    let grown = locks_grow plan since g x in
    let more = locks_grow plan ((e, w) ∷ []) k x in
    let parts = neither-true (is_unbound_by x stream e w) (is_unbound_in x stream since) none in
    let taken = none_accepted plan k e w x (omega (arith, most, grown)) in
    stays_bound plan k e w x stream parts.0 locked
    (bound_since plan since g x stream is (omega (arith, most, more)) (was_locked plan k e w x taken locked) parts.1)

same_site : (plan : Plan) (i : ℕ) (x y : Site) → site_at plan i ≡ Some x → site_at plan i ≡ Some y → x ≡ y
same_site plan i x y one two = let same : Some x ≡ Some y = sym one ∙ two in cc (same)

pub are_bound : (plan : Plan) (h : History) → CauseLaw plan h → AreBound plan h
are_bound plan h cause i x stream at was =
    let pair : Event × Verdict = (
      event.Interface (ie.Bind x.number was.line stream was.loss),
      v.Interface (iv.Bound was.number was.shown),
    ) in
    let known = own_number plan i x at in
    let turned = tells_binding plan was.older (event.Interface (ie.Bind x.number was.line stream was.loss))
    (v.Interface (iv.Bound was.number was.shown)) (cause_at plan was.since (pair ∷ was.older) h was.came cause) in
    let same = same_site plan x.number turned.interface x turned.known known in
    let bound = subst (λ (y : Site). is_bound_at plan (pair ∷ was.older) y stream ≡ true) same turned.is in
    let grown = locks_grow plan (pair ∷ []) was.older x in
    let locks = ap (λ (g : History). locks_accepted plan g x) was.came in
    ap (λ (g : History). is_bound_at plan g x stream) (sym was.came)
    ∙ bound_since plan was.since (pair ∷ was.older) x stream bound (omega (arith, locks, was.same_lock, grown))
    (subst (λ (g : History). IsLocked plan g x) (sym was.came) was.locked) was.not_unbound
