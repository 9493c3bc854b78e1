-- What a write changes of the listed registers.
use Rattle.std.proofs.Common.{◌≡◌, ◌≢◌, ℕ, ◌<◌, Bool, true, false, List, length, Option, Some}
use Rattle.std.proofs.Common.{Result, Ok, Err, if◌then◌else◌, refl, sym, ap, ◌∙◌, arith, slice_set, slice_index}
use Rattle.std.proofs.lemmas.Bool.Decides.{nat_tests}
use Rattle.std.specs.Str.{bytes_eq}
use Rattle.std.specs.Option.{option_map_or}
use Rattle.std.proofs.lemmas.List.{set-get_or, get_or-set_same}
use Rattle.ide_types.specs.declared.register.Register.{Register}
use Rattle.ide_types.specs.declared.register.Register.TheVariants.{Bar}
use Rattle.interface_state.specs.declared.register_set.Registers.{Registers}
use Rattle.interface_state.specs.declared.states.Lock.{Lock}
use Rattle.interface_state.specs.declared.states.TdiState.{TdiState}
use Rattle.interface_state.specs.declared.states.TdiState.TheVariants.{ConfigUnlocked, ConfigLocked, Run, Error}
use Rattle.interface_state.specs.RegisterValues.{IsAmongSix, planned_registers, with_value, has_bit, Listed}
use Rattle.interface_state.specs.RegisterValues.{listed_registers, changes_listed}
use Rattle.interface_state.specs.Machine.{DeviceTdi, KeepsListed, lock_of, lock_flags, after_change, after_failure}
use Rattle.interface_state.specs.Machine.{after_start, lock_answer, new_lock, interface_after_lock, LockInterface}
use Rattle.interface_state.specs.Machine.{StartInterface, StopInterface, WriteRegister, LevelReset, FirmwareUpdate}
use Rattle.interface_state.specs.Machine.{StreamLeft, LinkReset, BindStream, UnbindStream, bind_answer}
use Rattle.interface_state.specs.Machine.{interface_after_bind, unbind_answer, unbound_with}
use Rattle.interface_state.specs.Laws.{ChangesAreListed, ChangeIsError, ListedIsKept}

set_back : (bars : List ℕ) (n value : ℕ) → value ≡ slice_index bars n → slice_set bars n value ≡ bars
set_back bars n value e = ap (λ (v : ℕ). slice_set bars n v) e ∙ set-get_or bars n 0

set_changes : (bars : List ℕ) (n value : ℕ) → n < length bars → slice_set bars n value ≡ bars → value
    ≡ slice_index bars n
set_changes bars n value lt e = sym (get_or-set_same bars n value 0 lt) ∙ ap (λ (x : List ℕ). slice_index x n) e

pub unchanged : (flags : ℕ) (registers : Registers) (register : Register) (value : ℕ)
    → changes_listed flags registers register value ≡ false
    → listed_registers flags (with_value registers register value) ≡ listed_registers flags registers
unchanged flags registers (Bar n) value e = ap (λ (x : List ℕ). record (listed_registers flags registers) { bars = x })
    (set_back registers.bars n value (grind arith))
unchanged flags registers register value e = grind (arith, nat_tests)

-- register by register: the part of the list that the register is in tells its value
changed_back : (flags : ℕ) (registers : Registers) (register : Register) (value : ℕ) → length registers.bars ≡ 6
    → IsAmongSix register → listed_registers flags (with_value registers register value)
    ≡ listed_registers flags registers
    → changes_listed flags registers register value ≡ false
changed_back flags registers (Bar n) value six among e =
    let same = set_changes registers.bars n value (omega arith) (ap (λ (x : Listed). x.bars) e) in
    grind arith
changed_back flags registers register value six among e = grind (arith, nat_tests)

pub changes_are_listed : ChangesAreListed
changes_are_listed flags registers register value six among =
    (unchanged flags registers register value, changed_back flags registers register value six among)

-- ---- a write

lock_fails : (b : Bool) (state : TdiState) (lock : Lock) → lock_of state ≡ Some lock → b ≡ true → after_change b state
    ≡ Error
lock_fails b state lock is e = grind (arith, nat_tests)

flags_of_lock : (state : TdiState) (lock : Lock) → lock_of state ≡ Some lock → lock_flags state ≡ lock.flags
flags_of_lock state lock is = ap (λ (o : Option Lock). option_map_or (λ (l : Lock). l.flags) o 0) is

is_changed : (b : Bool) → (b ≢ false) → b ≡ true
is_changed b differs = grind (arith, nat_tests)

pub change_is_error : ChangeIsError
change_is_error tdi lock register value six among is changes =
    let flags = flags_of_lock tdi.state lock is in
    let changed = is_changed (changes_listed lock.flags tdi.registers register value)
    (λ e. changes (unchanged lock.flags tdi.registers register value e)) in
    lock_fails (changes_listed (lock_flags tdi.state) tdi.registers register value) tdi.state lock is
    (ap (λ (x : ℕ). changes_listed x tdi.registers register value) flags ∙ changed)

-- ---- each call

lost : (registers : Registers) (state : TdiState) → KeepsListed registers (after_failure state)
lost registers ConfigUnlocked = tt
lost registers (ConfigLocked lock nonce) = tt
lost registers (Run lock) = tt
lost registers Error = tt

kept_written : (registers : Registers) (state : TdiState) (register : Register) (value : ℕ) (b : Bool)
    → changes_listed (lock_flags state) registers register value ≡ b → KeepsListed registers state
    → KeepsListed (with_value registers register value) (after_change b state)
kept_written registers state register value true e kept = lost (with_value registers register value) state
kept_written registers ConfigUnlocked register value false e kept = tt
kept_written registers (ConfigLocked lock nonce) register value false e kept = unchanged lock.flags registers register
    value e ∙ kept
kept_written registers (Run lock) register value false e kept = unchanged lock.flags registers register value e ∙ kept
kept_written registers Error register value false e kept = tt

kept_locked : (tdi : DeviceTdi) (lock : Lock) (answer : Result (List ℕ) ℕ) → lock.registers ≡ tdi.registers
    → KeepsListed tdi.registers tdi.state
    → KeepsListed (interface_after_lock tdi lock answer).registers (interface_after_lock tdi lock answer).state
kept_locked tdi lock (Ok nonce) same kept = ap (λ (x : Registers). listed_registers lock.flags x) (sym same)
kept_locked tdi lock (Err code) same kept = kept

kept_run : (registers : Registers) (lock : Lock) (held : List ℕ) (b : Bool)
    → KeepsListed registers (ConfigLocked lock held) → KeepsListed registers
    (if b then Run lock else ConfigLocked lock held)
kept_run registers lock held true kept = kept
kept_run registers lock held false kept = kept

kept_started : (registers : Registers) (state : TdiState) (nonce : List ℕ) → KeepsListed registers state
    → KeepsListed registers (after_start state nonce)
kept_started registers ConfigUnlocked nonce kept = tt
kept_started registers (ConfigLocked lock held) nonce kept = kept_run registers lock held (bytes_eq nonce held) kept
kept_started registers (Run lock) nonce kept = kept
kept_started registers Error nonce kept = tt

kept_changed : (registers : Registers) (state : TdiState) (b : Bool) → KeepsListed registers state
    → KeepsListed registers (after_change b state)
kept_changed registers state true kept = lost registers state
kept_changed registers state false kept = kept

kept_bound : (tdi : DeviceTdi) (stream : ℕ) (answer : Result ℕ ℕ) → KeepsListed tdi.registers tdi.state
    → KeepsListed (interface_after_bind tdi stream answer).registers (interface_after_bind tdi stream answer).state
kept_bound tdi stream (Ok draw) kept = kept
kept_bound tdi stream (Err code) kept = kept

kept_unbound : (tdi : DeviceTdi) (stream : ℕ) (answer : Result (Unit {0}) ℕ) → KeepsListed tdi.registers tdi.state
    → KeepsListed (unbound_with tdi stream answer).registers (unbound_with tdi stream answer).state
kept_unbound tdi stream (Ok done) kept = kept
kept_unbound tdi stream (Err code) kept = kept

pub listed_is_kept : ListedIsKept
listed_is_kept tdi (LockInterface flags stream offset secure drawn) kept = kept_locked tdi
    (new_lock tdi flags stream offset) (lock_answer tdi flags offset secure drawn) refl kept
listed_is_kept tdi (StartInterface nonce) kept = kept_started tdi.registers tdi.state nonce kept
listed_is_kept tdi StopInterface kept = tt
listed_is_kept tdi (BindStream stream live) kept = kept_bound tdi stream (bind_answer tdi stream live) kept
listed_is_kept tdi (UnbindStream stream) kept = kept_unbound tdi stream (unbind_answer tdi stream) kept
listed_is_kept tdi (WriteRegister register value) kept = kept_written tdi.registers tdi.state register value
    (changes_listed (lock_flags tdi.state) tdi.registers register value) refl kept
listed_is_kept tdi LevelReset kept = lost (planned_registers tdi.plan) tdi.state
listed_is_kept tdi FirmwareUpdate kept = kept_changed tdi.registers tdi.state (has_bit 0 (lock_flags tdi.state)) kept
listed_is_kept tdi StreamLeft kept = lost tdi.registers tdi.state
listed_is_kept tdi LinkReset kept = tt
