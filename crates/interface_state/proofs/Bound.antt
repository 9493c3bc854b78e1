-- An interface is bound to streams between two devices in CONFIG_LOCKED and RUN alone, and to eight at the most.
use Rattle.std.proofs.Common.{◌≡◌, ◌≤◌, ℕ, Bool, true, false, not, nat_lt, List, [], ◌∷◌, length, filter, Option, Some}
use Rattle.std.proofs.Common.{None, Result, Ok, Err, refl, ap, arith, length-append}
use Rattle.std.proofs.lemmas.Bool.Decides.{nat_tests}
use Rattle.ide_types.specs.declared.binding.Binding.{Binding}
use Rattle.interface_state.specs.declared.states.TdiState.{TdiState}
use Rattle.interface_state.specs.declared.states.TdiState.TheVariants.{ConfigUnlocked, ConfigLocked, Run, Error}
use Rattle.interface_state.specs.Bindings.{is_binding_on, without}
use Rattle.interface_state.specs.Machine.{DeviceTdi, is_locked, bindings_left, with_state, with_bindings, new_lock}
use Rattle.interface_state.specs.Machine.{interface_after_lock, lock_answer, bind_answer, interface_after_bind}
use Rattle.interface_state.specs.Machine.{unbind_answer, unbound_with, Call, LockInterface, StartInterface}
use Rattle.interface_state.specs.Machine.{StopInterface, BindStream, UnbindStream, WriteRegister, LevelReset}
use Rattle.interface_state.specs.Machine.{FirmwareUpdate, StreamLeft, LinkReset, interface_after_call}
use Rattle.interface_state.specs.Held.{IsBound}
use Rattle.interface_state.specs.Laws.{BindingsEnd}

-- ---- bindings leave the state

pub bound_state : (tdi : DeviceTdi) (stream : ℕ) (answer : Result ℕ ℕ) → (interface_after_bind tdi stream answer).state
    ≡ tdi.state
bound_state tdi stream (Ok draw) = refl
bound_state tdi stream (Err code) = refl

pub unbound_state : (tdi : DeviceTdi) (stream : ℕ) (answer : Result (Unit {0}) ℕ)
    → (unbound_with tdi stream answer).state ≡ tdi.state
unbound_state tdi stream (Ok done) = refl
unbound_state tdi stream (Err code) = refl

-- ---- a state that is entered

left_same : (state : TdiState) (bs : List Binding) → bindings_left state state bs ≡ bs
left_same ConfigUnlocked bs = refl
left_same (ConfigLocked lock nonce) bs = refl
left_same (Run lock) bs = refl
left_same Error bs = refl

-- the state that it is in already
pub entered_same : (tdi : DeviceTdi) → with_state tdi tdi.state ≡ tdi
entered_same tdi = ap (with_bindings tdi) (left_same tdi.state tdi.bindings)

-- without a lock no binding is left, if there was none without a lock before
left_none : (state next : TdiState) (bs : List Binding) → (is_locked state ≡ false → bs ≡ [])
    → is_locked next ≡ false → bindings_left state next bs ≡ []
left_none state next bs old e = grind (arith, nat_tests)

left_few : (state next : TdiState) (bs : List Binding) → length bs ≤ 8 → length (bindings_left state next bs) ≤ 8
left_few state next bs few = grind (arith, nat_tests)

pub left_bound : (state next : TdiState) (bs : List Binding) → IsBound state bs
    → IsBound next (bindings_left state next bs)
left_bound state next bs b = record { locked = left_none state next bs b.locked; few = left_few state next bs b.few }

-- ---- a stream that is bound, or no longer bound

-- only where a lock stands, and with room for it
pub may_bind : (tdi : DeviceTdi) (stream draw : ℕ) (live : Option ℕ) → bind_answer tdi stream live ≡ Ok draw
    → (is_locked tdi.state ≡ true) × (nat_lt (length tdi.bindings) 8 ≡ true)
may_bind tdi stream draw None e = grind (arith, nat_tests)
may_bind tdi stream draw (Some live) e = grind (arith, nat_tests)

one_more : (tdi : DeviceTdi) (stream : ℕ) (live : Option ℕ) (answer : Result ℕ ℕ) → bind_answer tdi stream live ≡ answer
    → IsBound tdi.state tdi.bindings
    → IsBound (interface_after_bind tdi stream answer).state (interface_after_bind tdi stream answer).bindings
one_more tdi stream live (Ok draw) e b =
    let may = may_bind tdi stream draw live e in
    let long = length-append tdi.bindings (record { stream = stream; floor = draw } ∷ []) in
    record { locked = λ none. grind arith; few = grind (arith, nat_tests) }
one_more tdi stream live (Err code) e b = b

fewer : (f : Binding → Bool) (bs : List Binding) → length (filter f bs) ≤ length bs
fewer f [] = omega arith
fewer f (b ∷ bs) = let less = fewer f bs in grind arith

none_without : (stream : ℕ) (bs : List Binding) → bs ≡ [] → without stream bs ≡ []
none_without stream bs e = ap (λ (x : List Binding). without stream x) e

pub bound_without : (state : TdiState) (bs : List Binding) (stream : ℕ) → IsBound state bs
    → IsBound state (without stream bs)
bound_without state bs stream b =
    let less = fewer (λ x. not (is_binding_on stream x)) bs in
    let few = b.few in
    record { locked = λ none. none_without stream bs (b.locked none); few = omega arith }

one_less : (tdi : DeviceTdi) (stream : ℕ) (answer : Result (Unit {0}) ℕ) → IsBound tdi.state tdi.bindings
    → IsBound (unbound_with tdi stream answer).state (unbound_with tdi stream answer).bindings
one_less tdi stream (Ok done) b = bound_without tdi.state tdi.bindings stream b
one_less tdi stream (Err code) b = b

-- ---- each call

locked_bound : (tdi : DeviceTdi) (flags stream offset : ℕ) (answer : Result (List ℕ) ℕ) → IsBound tdi.state tdi.bindings
    → IsBound (interface_after_lock tdi (new_lock tdi flags stream offset) answer).state
    (interface_after_lock tdi (new_lock tdi flags stream offset) answer).bindings
locked_bound tdi flags stream offset (Ok nonce) b = left_bound tdi.state _ tdi.bindings b
locked_bound tdi flags stream offset (Err code) b = b

later : (tdi : DeviceTdi) (call : Call) → IsBound tdi.state tdi.bindings
    → IsBound (interface_after_call tdi call).state (interface_after_call tdi call).bindings
later tdi (LockInterface flags stream offset secure drawn) b =
    locked_bound tdi flags stream offset (lock_answer tdi flags offset secure drawn) b
later tdi (StartInterface nonce) b = left_bound tdi.state _ tdi.bindings b
later tdi StopInterface b = left_bound tdi.state _ tdi.bindings b
later tdi (BindStream stream live) b = one_more tdi stream live (bind_answer tdi stream live) refl b
later tdi (UnbindStream stream) b = one_less tdi stream (unbind_answer tdi stream) b
later tdi (WriteRegister register value) b = left_bound tdi.state _ tdi.bindings b
later tdi LevelReset b = left_bound tdi.state _ tdi.bindings b
later tdi FirmwareUpdate b = left_bound tdi.state _ tdi.bindings b
later tdi StreamLeft b = left_bound tdi.state _ tdi.bindings b
later tdi LinkReset b = record { locked = λ e. refl; few = omega arith }

pub bindings_end : BindingsEnd
bindings_end = record { first = λ plan. record { locked = λ e. refl; few = omega arith }; later = later }
