-- How a lock is made, and RUN is entered.
use Rattle.std.proofs.Common.{◌≡◌, ℕ, Bool, true, not, ◌&&◌, ◌⊎◌, inl, inr, List, Option, Some, Result, Ok, Err}
use Rattle.std.proofs.Common.{if◌then◌else◌, refl, sym, ap, ◌∙◌, arith}
use Rattle.std.proofs.lemmas.Bool.Decides.{nat_tests}
use Rattle.std.specs.Str.{bytes_eq}
use Rattle.std.proofs.lemmas.Slice.Eq.{bytes_eq-Decides}
use Rattle.interface_state.specs.declared.states.Lock.{Lock}
use Rattle.interface_state.specs.declared.states.TdiState.{TdiState}
use Rattle.interface_state.specs.declared.states.TdiState.TheVariants.{ConfigUnlocked, ConfigLocked, Run, Error}
use Rattle.interface_state.specs.RegisterValues.{has_bit, changes_listed}
use Rattle.interface_state.specs.Bars.{any_overlap, bars_of}
use Rattle.interface_state.specs.Machine.{lock_of, DeviceTdi, is_unlocked, lock_flags, are_lock_flags, is_page}
use Rattle.interface_state.specs.Machine.{nonce_answer, lock_answer, new_lock, interface_after_lock, after_start}
use Rattle.interface_state.specs.Machine.{after_change, LockInterface, StartInterface, StopInterface, WriteRegister}
use Rattle.interface_state.specs.Machine.{LevelReset, FirmwareUpdate, StreamLeft, LinkReset, BindStream, UnbindStream}
use Rattle.interface_state.specs.Machine.{bind_answer, unbind_answer}
use Rattle.interface_state.proofs.Bound.{bound_state, unbound_state}
use Rattle.interface_state.specs.Laws.{EntersLock, LockIsEntered, EntersRun, RunIsEntered}

is_unlocked-true : (state : TdiState) → is_unlocked state ≡ true → state ≡ ConfigUnlocked
is_unlocked-true state e = grind (arith, nat_tests)

both_left : (a b : Bool) → (a && b) ≡ true → a ≡ true
both_left a b e = grind (arith, nat_tests)

-- a lock that is not refused: each test was passed
passed : (a b c : Bool) (x y z : ℕ) (drawn : Option (List ℕ)) (n : List ℕ)
    → (if not a then Err x else if not b then Err y else if not c then Err z else nonce_answer drawn) ≡ Ok n
    → (a ≡ true) × (c ≡ true) × (drawn ≡ Some n)
passed a b c x y z drawn n e = grind (arith, nat_tests)

-- a lock that stands after a change or a failure stood before it
stood : (b : Bool) (state next : TdiState) (lock : Lock) → lock_of next ≡ Some lock → after_change b state ≡ next
    → state ≡ next
stood b state next lock is e = grind (arith, nat_tests)

-- ---- CONFIG_LOCKED

locked_state : (tdi : DeviceTdi) (lock new : Lock) (nonce : List ℕ) (answer : Result (List ℕ) ℕ)
    → (interface_after_lock tdi new answer).state ≡ ConfigLocked lock nonce
    → (tdi.state ≡ ConfigLocked lock nonce) ⊎ ((answer ≡ Ok nonce) × (new ≡ lock))
locked_state tdi lock new nonce answer e = grind (arith, nat_tests)

started_locked : (state : TdiState) (asked nonce : List ℕ) (lock : Lock) → after_start state asked
    ≡ ConfigLocked lock nonce → state ≡ ConfigLocked lock nonce
started_locked state asked nonce lock e = grind (arith, nat_tests)

-- only the answer Ok enters the lock, and it comes if every refusal fails, the state among them
enters : (tdi : DeviceTdi) (flags stream offset : ℕ) (secure : Bool) (drawn : Option (List ℕ)) (lock : Lock)
    (nonce : List ℕ)
    → lock_answer tdi flags offset secure drawn ≡ Ok nonce → new_lock tdi flags stream offset ≡ lock
    → EntersLock tdi (LockInterface flags stream offset secure drawn) lock nonce
enters tdi flags stream offset secure drawn lock nonce is new =
    let apart = not (any_overlap (bars_of tdi.plan tdi.registers)) in
    let tests = passed (is_unlocked tdi.state) (are_lock_flags flags && is_page offset) (secure && apart) 0x0004 0x0001
    0x0104 drawn nonce is in
    let of_flags : flags ≡ lock.flags = ap (λ (l : Lock). l.flags) new in
    let of_stream : stream ≡ lock.stream = ap (λ (l : Lock). l.stream) new in
    let of_offset : offset ≡ lock.offset = ap (λ (l : Lock). l.offset) new in
    let is_secure : secure ≡ true = both_left secure apart tests.1 in
    let is_drawn : drawn ≡ Some nonce = tests.2 in
    record {
      from = is_unlocked-true tdi.state tests.0;
      asked = cc;
      kept = sym (ap (λ (l : Lock). l.registers) new);
    }

-- call by call: no other call than LOCK_INTERFACE ends in CONFIG_LOCKED if it did not begin there
pub lock_is_entered : LockIsEntered
lock_is_entered tdi (LockInterface flags stream offset secure drawn) lock nonce e =
    elim (locked_state tdi lock (new_lock tdi flags stream offset) nonce
    (lock_answer tdi flags offset secure drawn) e) [
      | inl stands ↦ inl stands
      | inr entered ↦ inr (enters tdi flags stream offset secure drawn lock nonce entered.0 entered.1)
    ]
lock_is_entered tdi (StartInterface asked) lock nonce e = inl (started_locked tdi.state asked nonce lock e)
lock_is_entered tdi StopInterface lock nonce e = cc
lock_is_entered tdi (BindStream stream live) lock nonce e =
    inl (sym (bound_state tdi stream (bind_answer tdi stream live)) ∙ e)
lock_is_entered tdi (UnbindStream stream) lock nonce e =
    inl (sym (unbound_state tdi stream (unbind_answer tdi stream)) ∙ e)
lock_is_entered tdi (WriteRegister register value) lock nonce e =
    inl (stood (changes_listed (lock_flags tdi.state) tdi.registers register value) tdi.state (ConfigLocked lock nonce)
    lock refl e)
lock_is_entered tdi LevelReset lock nonce e = inl (stood true tdi.state (ConfigLocked lock nonce) lock refl e)
lock_is_entered tdi FirmwareUpdate lock nonce e = inl
    (stood (has_bit 0 (lock_flags tdi.state)) tdi.state (ConfigLocked lock nonce) lock refl e)
lock_is_entered tdi StreamLeft lock nonce e = inl (stood true tdi.state (ConfigLocked lock nonce) lock refl e)
lock_is_entered tdi LinkReset lock nonce e = cc

-- ---- RUN

locked_run : (tdi : DeviceTdi) (lock new : Lock) (answer : Result (List ℕ) ℕ)
    → (interface_after_lock tdi new answer).state ≡ Run lock → tdi.state ≡ Run lock
locked_run tdi lock new answer e = grind (arith, nat_tests)

runs : (lock held : Lock) (nonce asked : List ℕ) (b : Bool) → bytes_eq asked nonce ≡ b
    → (if b then Run held else ConfigLocked held nonce) ≡ Run lock → ConfigLocked held nonce ≡ ConfigLocked lock asked
runs lock held nonce asked b same e = grind (arith, nat_tests, bytes_eq-Decides asked nonce)

started_run : (tdi : DeviceTdi) (state : TdiState) (nonce : List ℕ) (lock : Lock) → tdi.state ≡ state
    → after_start state nonce ≡ Run lock → (tdi.state ≡ Run lock) ⊎ EntersRun tdi (StartInterface nonce) lock
started_run tdi ConfigUnlocked nonce lock is e = cc
started_run tdi (ConfigLocked held kept) nonce lock is e = inr
    (record { nonce = nonce; from = is ∙ runs lock held kept nonce (bytes_eq nonce kept) refl e; asked = refl })
started_run tdi (Run held) nonce lock is e = inl (is ∙ e)
started_run tdi Error nonce lock is e = cc

-- call by call: no other call than START_INTERFACE ends in RUN if it did not begin there
pub run_is_entered : RunIsEntered
run_is_entered tdi (LockInterface flags stream offset secure drawn) lock e =
    inl (locked_run tdi lock (new_lock tdi flags stream offset) (lock_answer tdi flags offset secure drawn) e)
run_is_entered tdi (StartInterface nonce) lock e = started_run tdi tdi.state nonce lock refl e
run_is_entered tdi StopInterface lock e = cc
run_is_entered tdi (BindStream stream live) lock e =
    inl (sym (bound_state tdi stream (bind_answer tdi stream live)) ∙ e)
run_is_entered tdi (UnbindStream stream) lock e = inl (sym (unbound_state tdi stream (unbind_answer tdi stream)) ∙ e)
run_is_entered tdi (WriteRegister register value) lock e =
    inl (stood (changes_listed (lock_flags tdi.state) tdi.registers register value) tdi.state (Run lock) lock refl e)
run_is_entered tdi LevelReset lock e = inl (stood true tdi.state (Run lock) lock refl e)
run_is_entered tdi FirmwareUpdate lock e = inl
    (stood (has_bit 0 (lock_flags tdi.state)) tdi.state (Run lock) lock refl e)
run_is_entered tdi StreamLeft lock e = inl (stood true tdi.state (Run lock) lock refl e)
run_is_entered tdi LinkReset lock e = cc
