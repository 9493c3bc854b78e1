-- What an event on an interface binds it to. A lock and a bind take a stream only if it is Secure then, and no other
-- call takes one; what ends a lock ends all bindings.
use Rattle.std.proofs.Common.{◌≡◌, ◌⊎◌, ⊎_elim, inl, inr, ℕ, ◌==◌, ◌&&◌, ◌||◌, Bool, true, false, List, [], ◌∷◌, ◌++◌}
use Rattle.std.proofs.Common.{refl, ap, sym, ◌∙◌, arith}
use Rattle.std.specs.Prelude.{not, if◌then◌else◌, is_some, is_ok, Option, Some, None, Result, Ok, Err}
use Rattle.std.proofs.lemmas.Bool.{true≢false, eqb-true, or_left, or_right, and_parts}
use Rattle.script_events.specs.declared.event.Event.{Event}
use Rattle.script_events.specs.declared.event.Event.TheVariants as event
use Rattle.script_events.specs.declared.event.InterfaceEvent.{InterfaceEvent}
use Rattle.script_events.specs.declared.event.InterfaceEvent.TheVariants as ie
use Rattle.event_verdicts.specs.declared.verdict.Verdict.{Verdict}
use Rattle.ide_types.specs.declared.binding.Binding.{Binding}
use Rattle.interface_state.specs.declared.states.TdiState.{TdiState}
use Rattle.interface_state.specs.declared.states.TdiState.TheVariants.{ConfigUnlocked, ConfigLocked}
use Rattle.interface_state.specs.declared.states.Lock.{Lock}
use Rattle.interface_state.specs.Bindings.{binds, without, is_binding_on}
use Rattle.interface_state.specs.Machine.{DeviceTdi, Call, interface_after_call, is_locked}
use Rattle.interface_state.specs.Machine.{bind_answer, interface_after_bind, unbind_answer, unbound_with}
use Rattle.interface_state.specs.Machine.{lock_answer, interface_after_lock, new_lock, lock_flags, bindings_after}
use Rattle.interface_state.specs.Machine.{after_start, after_change, after_failure, firmware_updated}
use Rattle.interface_state.specs.RegisterValues.{changes_listed}
use Rattle.interface_state.specs.Machine as call
use Rattle.spec_interfaces.specs.Devices.{Around, interface_if_called, interface_asked, lock_call, accepts_lock}
use Rattle.spec_interfaces.specs.Exchanges.{carries, changes_device}
use Rattle.spec_interfaces.specs.Sites.{Site}

-- ---- bindings

-- each is to a stream that is Secure
abbrev pub AreLive : (ℕ → Option ℕ) → List Binding → Type 0
AreLive live bs = (stream : ℕ) → binds stream bs ≡ true → is_some (live stream) ≡ true

pub no_binding : (live : ℕ → Option ℕ) (bs : List Binding) → bs ≡ [] → AreLive live bs
no_binding live bs none stream is = absurd (true≢false (sym is ∙ ap (λ (cs : List Binding). binds stream cs) none))

ended_or : (live : ℕ → Option ℕ) (b : Bool) (bs : List Binding) → AreLive live bs → AreLive live (if b then [] else bs)
ended_or live true bs are = no_binding live [] refl
ended_or live false bs are = are

left_live : (live : ℕ → Option ℕ) (tdi : DeviceTdi) (next : TdiState) → AreLive live tdi.bindings
    → AreLive live (bindings_after tdi next)
left_live live tdi next are = ended_or live (not (is_locked next) && is_locked tdi.state) tdi.bindings are

or_either : (a b : Bool) → (a || b) ≡ true → (a ≡ true) ⊎ (b ≡ true)
or_either true b is = inl refl
or_either false b is = inr is

bound_either : (stream : ℕ) (bs : List Binding) (b : Binding) → binds stream (bs ++ b ∷ []) ≡ true
    → (binds stream bs ≡ true) ⊎ ((b.stream == stream) ≡ true)
bound_either stream [] b is = ⊎_elim inr (λ none. absurd (true≢false (sym none)))
    (or_either (b.stream == stream) false is)
bound_either stream (c ∷ bs) b is =
    ⊎_elim (λ here. inl (or_left (c.stream == stream) (binds stream bs) here))
    (λ later. ⊎_elim (λ among. inl (or_right (c.stream == stream) (binds stream bs) among)) inr
    (bound_either stream bs b later))
    (or_either (c.stream == stream) (binds stream (bs ++ b ∷ [])) is)

filtered_by : (stream : ℕ) (keep : Bool) (b : Binding) (bs kept : List Binding)
    → (binds stream kept ≡ true → binds stream bs ≡ true)
    → binds stream (if keep then b ∷ kept else kept) ≡ true → binds stream (b ∷ bs) ≡ true
filtered_by stream true b bs kept later is =
    ⊎_elim (or_left (b.stream == stream) (binds stream bs))
    (λ among. or_right (b.stream == stream) (binds stream bs) (later among))
    (or_either (b.stream == stream) (binds stream kept) is)
filtered_by stream false b bs kept later is = or_right (b.stream == stream) (binds stream bs) (later is)

bound_without : (stream other : ℕ) (bs : List Binding) → binds stream (without other bs) ≡ true → binds stream bs ≡ true
bound_without stream other [] is = is
bound_without stream other (b ∷ bs) is =
    filtered_by stream (not (is_binding_on other b)) b bs (without other bs) (bound_without stream other bs) is

-- a bind is accepted only if the stream is Secure
answer_live : (tdi : DeviceTdi) (stream draw : ℕ) (live : Option ℕ) → bind_answer tdi stream live ≡ Ok draw
    → is_some live ≡ true
answer_live tdi stream draw None is = grind arith
answer_live tdi stream draw (Some floor) is = refl

bind_live : (live : ℕ → Option ℕ) (tdi : DeviceTdi) (stream : ℕ) (answer : Result ℕ ℕ)
    → ((draw : ℕ) → answer ≡ Ok draw → is_some (live stream) ≡ true) → AreLive live tdi.bindings
    → AreLive live (interface_after_bind tdi stream answer).bindings
bind_live live tdi stream (Err code) given are s is = are s is
bind_live live tdi stream (Ok draw) given are s is =
    ⊎_elim (are s) (λ here. ap (λ n. is_some (live n)) (sym (eqb-true stream s here)) ∙ given draw refl)
    (bound_either s tdi.bindings (record { stream = stream; floor = draw }) is)

unbind_live : (live : ℕ → Option ℕ) (tdi : DeviceTdi) (stream : ℕ) (answer : Result (Unit {0}) ℕ)
    → AreLive live tdi.bindings → AreLive live (unbound_with tdi stream answer).bindings
unbind_live live tdi stream (Err code) are s is = are s is
unbind_live live tdi stream (Ok done) are s is = are s (bound_without s stream tdi.bindings is)

lock_live : (live : ℕ → Option ℕ) (tdi : DeviceTdi) (lock : Lock) (answer : Result (List ℕ) ℕ)
    → AreLive live tdi.bindings → AreLive live (interface_after_lock tdi lock answer).bindings
lock_live live tdi lock (Err code) are = are
lock_live live tdi lock (Ok nonce) are = left_live live tdi (ConfigLocked lock nonce) are

-- a call that names what the device says of a stream
abbrev FitsCall : (ℕ → Option ℕ) → Call → Type 0
FitsCall live (call.BindStream stream said) = said ≡ live stream
FitsCall live c = Unit {0}

called_live : (live : ℕ → Option ℕ) (tdi : DeviceTdi) (c : Call) → FitsCall live c → AreLive live tdi.bindings
    → AreLive live (interface_after_call tdi c).bindings
called_live live tdi (call.LockInterface flags stream offset secure drawn) fits are =
    lock_live live tdi (new_lock tdi flags stream offset) (lock_answer tdi flags offset secure drawn) are
called_live live tdi (call.StartInterface nonce) fits are = left_live live tdi (after_start tdi.state nonce) are
called_live live tdi call.StopInterface fits are = left_live live tdi ConfigUnlocked are
called_live live tdi (call.BindStream stream said) fits are = bind_live live tdi stream (bind_answer tdi stream said)
    (λ draw is. ap is_some (sym fits) ∙ answer_live tdi stream draw said is) are
called_live live tdi (call.UnbindStream stream) fits are = unbind_live live tdi stream (unbind_answer tdi stream) are
called_live live tdi (call.WriteRegister register value) fits are = left_live live tdi
    (after_change (changes_listed (lock_flags tdi.state) tdi.registers register value) tdi.state) are
called_live live tdi call.LevelReset fits are = left_live live tdi (after_failure tdi.state) are
called_live live tdi call.FirmwareUpdate fits are = left_live live tdi (firmware_updated tdi.state) are
called_live live tdi call.StreamLeft fits are = left_live live tdi (after_failure tdi.state) are
called_live live tdi call.LinkReset fits are = no_binding live [] refl

-- ---- an event on an interface

called_if : (live : ℕ → Option ℕ) (b : Bool) (c : Call) (tdi : DeviceTdi) → FitsCall live c → AreLive live tdi.bindings
    → AreLive live (interface_if_called b c tdi).bindings
called_if live true c tdi fits are = called_live live tdi c fits are
called_if live false c tdi fits are = are

asked_live : (live : ℕ → Option ℕ) (a : Around) (x : Site) (e : InterfaceEvent) (w : Verdict) (tdi : DeviceTdi)
    → a.live ≡ live → AreLive live tdi.bindings → AreLive live (interface_asked a x e w tdi).bindings
asked_live live a x (ie.Lock i loss) w tdi says are = called_if live (carries w 3) (lock_call a x) tdi tt are
asked_live live a x (ie.Start i loss) w tdi says are =
    called_if live (carries w 1) (call.StartInterface a.nonce) tdi tt are
asked_live live a x (ie.Halt i loss) w tdi says are = called_if live (carries w 1) call.StopInterface tdi tt are
asked_live live a x (ie.Bind i line stream loss) w tdi says are =
    called_if live (carries w 1) (call.BindStream stream (a.live stream)) tdi (λ j. says j stream) are
asked_live live a x (ie.Unbind i line stream loss) w tdi says are =
    called_if live (carries w 1) (call.UnbindStream stream) tdi tt are
asked_live live a x (ie.Write i register value) w tdi says are =
    called_if live (changes_device w) (call.WriteRegister register value) tdi tt are
asked_live live a x (ie.Flr i) w tdi says are = called_if live (changes_device w) call.LevelReset tdi tt are
asked_live live a x (ie.Firmware i) w tdi says are = called_if live (changes_device w) call.FirmwareUpdate tdi tt are
asked_live live a x (ie.Report i loss) w tdi says are = are
asked_live live a x (ie.State i loss) w tdi says are = are
asked_live live a x (ie.View i) w tdi says are = are
asked_live live a x (ie.Memory at len) w tdi says are = are

pub next_live : (live : ℕ → Option ℕ) (b : Bool) (a : Around) (x : Site) (e : InterfaceEvent) (w : Verdict)
    (tdi : DeviceTdi)
    → a.live ≡ live → AreLive live tdi.bindings → AreLive live (if b then interface_asked a x e w tdi else tdi).bindings
next_live live true a x e w tdi says are = asked_live live a x e w tdi says are
next_live live false a x e w tdi says are = are

-- ---- the lock

-- a lock is accepted only if the stream is Secure
given_secure : (tdi : DeviceTdi) (flags offset : ℕ) (secure : Bool) (drawn : Option (List ℕ))
    → is_ok (lock_answer tdi flags offset secure drawn) ≡ true → secure ≡ true
given_secure tdi flags offset true drawn is = refl
given_secure tdi flags offset false drawn is = grind arith

pub accepts_secure : (a : Around) (x : Site) (e : Event) (w : Verdict) (tdi : DeviceTdi)
    → accepts_lock a x e w tdi ≡ true → a.secure ≡ true
accepts_secure a x (event.Interface (ie.Lock i loss)) w tdi is =
    let given = is_ok (lock_answer tdi x.plan.flags x.plan.offset a.secure a.drawn) in
    given_secure tdi x.plan.flags x.plan.offset a.secure a.drawn (and_parts ((i == x.number) && carries w 3) given is).1
accepts_secure a x e w tdi is = absurd (true≢false (sym is))
