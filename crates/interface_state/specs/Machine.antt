-- A device interface as a machine: what it keeps, and what each call answers and makes of it (TDISP, PCI Express Base
-- 6.0 chapter 11, in this profile).
use Rattle.std.specs.Prelude.{ℕ, ◌≡◌, ◌+◌, ◌%◌, ◌==◌, ◌&&◌, ◌||◌, nat_le, nat_lt, bit_and, Bool, true, false, not, List}
use Rattle.std.specs.Prelude.{[], ◌∷◌, ◌++◌, length, take, drop, Option, Some, None, IfSome, is_some, Result, Ok, Err}
use Rattle.std.specs.Prelude.{if◌then◌else◌}
use Rattle.std.specs.Option.{option_map, option_map_or}
use Rattle.std.specs.Str.{bytes_eq}
use Rattle.std.specs.Borrow.{Bor}
use Rattle.ide_types.specs.declared.interface.InterfacePlan.{InterfacePlan}
use Rattle.interface_state.specs.declared.error_codes.ErrorCode.{ErrorCode}
use Rattle.interface_state.specs.declared.error_codes.ErrorCode.TheVariants.{InvalidRequest, InvalidInterfaceState}
use Rattle.interface_state.specs.declared.error_codes.ErrorCode.TheVariants.{UnsupportedRequest, VersionMismatch}
use Rattle.interface_state.specs.declared.error_codes.ErrorCode.TheVariants.{InvalidInterface, InvalidNonce}
use Rattle.interface_state.specs.declared.error_codes.ErrorCode.TheVariants.{InsufficientEntropy}
use Rattle.interface_state.specs.declared.error_codes.ErrorCode.TheVariants.{InvalidDeviceConfiguration}
use Rattle.ide_types.specs.declared.register.Register.{Register}
use Rattle.interface_state.specs.declared.register_set.Registers.{Registers}
use Rattle.ide_types.specs.declared.binding.Binding.{Binding}
use Rattle.interface_state.specs.declared.states.Lock.{Lock}
use Rattle.interface_state.specs.declared.states.TdiState.{TdiState}
use Rattle.interface_state.specs.declared.states.TdiState.TheVariants.{ConfigUnlocked, ConfigLocked, Run, Error}
use Rattle.interface_state.specs.RegisterValues.{planned_registers, with_value, has_bit, listed_registers}
use Rattle.interface_state.specs.RegisterValues.{changes_listed}
use Rattle.interface_state.specs.Bars.{bars_of, any_overlap}
use Rattle.interface_state.specs.Kept.{kept_report}
use Rattle.interface_state.specs.Bindings.{binds, without}

-- ---- codes

-- the code of an ERROR message
abbrev pub error_code : ErrorCode → ℕ
error_code InvalidRequest = 0x0001
error_code InvalidInterfaceState = 0x0004
error_code UnsupportedRequest = 0x0007
error_code VersionMismatch = 0x0041
error_code InvalidInterface = 0x0101
error_code InvalidNonce = 0x0102
error_code InsufficientEntropy = 0x0103
error_code InvalidDeviceConfiguration = 0x0104

abbrev pub state_code : TdiState → ℕ
state_code ConfigUnlocked = 0
state_code (ConfigLocked lock nonce) = 1
state_code (Run lock) = 2
state_code Error = 3

-- ---- what is kept

-- the layout of the interface, its registers, its state with what the lock that stands kept, and the streams between
-- two devices that it is bound to
pub record DeviceTdi : Type 0 where
  pub plan : InterfacePlan
  pub registers : Registers
  pub state : TdiState
  pub bindings : List Binding

abbrev pub new_device_interface : InterfacePlan → DeviceTdi
new_device_interface plan = record
    { plan = plan; registers = planned_registers plan; state = ConfigUnlocked; bindings = [] }

abbrev pub is_unlocked : TdiState → Bool
is_unlocked ConfigUnlocked = true
is_unlocked state = false

-- the lock that stands, in CONFIG_LOCKED and RUN alone
abbrev pub lock_of : TdiState → Option Lock
lock_of (ConfigLocked lock nonce) = Some lock
lock_of (Run lock) = Some lock
lock_of state = None

abbrev pub is_locked : TdiState → Bool
is_locked state = is_some (lock_of state)

-- bindings end with the lock that stands
abbrev pub bindings_left : TdiState → TdiState → List Binding → List Binding
bindings_left state next bs = if not (is_locked next) && is_locked state then [] else bs

abbrev pub bindings_after : DeviceTdi → TdiState → List Binding
bindings_after tdi next = bindings_left tdi.state next tdi.bindings

abbrev pub with_state : DeviceTdi → TdiState → DeviceTdi
with_state tdi state =
    record { plan = tdi.plan; registers = tdi.registers; state = state; bindings = bindings_after tdi state }

-- the stream of a link that the interface is bound to
abbrev pub bound_link_stream : TdiState → Option ℕ
bound_link_stream state = option_map (λ lock. lock.stream) (lock_of state)

-- the flags of the lock that stands, 0 without one
abbrev pub lock_flags : TdiState → ℕ
lock_flags state = option_map_or (λ lock. lock.flags) (lock_of state) 0

-- while a lock stands, the listed part of the registers is that of the registers that it kept
abbrev pub KeepsListed : Registers → TdiState → Type 0
KeepsListed registers state = IfSome (lock_of state)
    (λ lock. listed_registers lock.flags registers ≡ listed_registers lock.flags
    lock.registers)

-- ---- LOCK_INTERFACE

-- no flag but 0 to 4
abbrev pub are_lock_flags : ℕ → Bool
are_lock_flags flags = bit_and 0x001f flags == flags

-- a multiple of 4,096
abbrev pub is_page : ℕ → Bool
is_page offset = offset % 4096 == 0

-- the nonce that is given, and without one a refusal
abbrev pub nonce_answer : Option (List ℕ) → Result (List ℕ) ℕ
nonce_answer (Some nonce) = Ok nonce
nonce_answer None = Err (error_code InsufficientEntropy)

-- `secure` says that the stream is known and Secure at the device; `drawn` is the next nonce of its list
abbrev pub lock_answer : DeviceTdi → ℕ → ℕ → Bool → Option (List ℕ) → Result (List ℕ) ℕ
lock_answer tdi flags offset secure drawn =
    if not (is_unlocked tdi.state) then Err (error_code InvalidInterfaceState)
    else if not (are_lock_flags flags && is_page offset) then Err (error_code InvalidRequest)
    else if not (secure && not (any_overlap (bars_of tdi.plan tdi.registers)))
    then Err (error_code InvalidDeviceConfiguration)
    else nonce_answer drawn

-- what a lock keeps: its flags, stream and offset, and the registers as they stand
abbrev pub new_lock : DeviceTdi → ℕ → ℕ → ℕ → Lock
new_lock tdi flags stream offset = record { flags = flags; stream = stream; offset = offset; registers = tdi.registers }

-- CONFIG_LOCKED with this nonce, or as before after a refusal
abbrev pub interface_after_lock : DeviceTdi → Lock → Result (List ℕ) ℕ → DeviceTdi
interface_after_lock tdi lock (Ok nonce) = with_state tdi (ConfigLocked lock nonce)
interface_after_lock tdi lock (Err code) = tdi

abbrev pub locked_interface : DeviceTdi → ℕ → ℕ → ℕ → Bool → Option (List ℕ) → DeviceTdi
locked_interface tdi flags stream offset secure drawn = interface_after_lock tdi (new_lock tdi flags stream offset)
    (lock_answer tdi flags offset secure drawn)

-- ---- GET_DEVICE_INTERFACE_REPORT

-- at most `size` bytes of the report from an offset on, and how many follow them
abbrev pub portion_of : Option (List ℕ) → ℕ → ℕ → Result (List ℕ × ℕ) ℕ
portion_of None offset size = Err (error_code InvalidInterfaceState)
portion_of (Some report) offset size =
    if (size == 0) || nat_le (length report) offset then Err (error_code InvalidRequest)
    else Ok (take size (drop offset report), length (drop (offset + size) report))

-- a lent portion, as a value
abbrev pub portion_shown : Result (Bor (List ℕ) × ℕ) ℕ → Result (List ℕ × ℕ) ℕ
portion_shown (Ok portion) = Ok (portion.0.now, portion.1)
portion_shown (Err code) = Err code

-- of the report that the lock kept
abbrev pub portion_answer : DeviceTdi → ℕ → ℕ → Result (List ℕ × ℕ) ℕ
portion_answer tdi offset size = portion_of (option_map (kept_report tdi.plan) (lock_of tdi.state)) offset size

-- ---- START_INTERFACE and STOP_INTERFACE

abbrev pub start_answer : TdiState → List ℕ → Result (Unit {0}) ℕ
start_answer (ConfigLocked lock held) nonce = if bytes_eq nonce held then Ok tt else Err (error_code InvalidNonce)
start_answer state nonce = Err (error_code InvalidInterfaceState)

-- RUN under the same lock, from CONFIG_LOCKED with its nonce alone
abbrev pub after_start : TdiState → List ℕ → TdiState
after_start (ConfigLocked lock held) nonce = if bytes_eq nonce held then Run lock else ConfigLocked lock held
after_start state nonce = state

-- ---- what ends a lock

-- ERROR, from CONFIG_LOCKED and RUN alone
abbrev pub after_failure : TdiState → TdiState
after_failure (ConfigLocked lock nonce) = Error
after_failure (Run lock) = Error
after_failure state = state

-- after a change that is listed or not
abbrev pub after_change : Bool → TdiState → TdiState
after_change true state = after_failure state
after_change false state = state

-- a register is written: in CONFIG_LOCKED and RUN a listed change sends the interface to ERROR
abbrev pub after_write : DeviceTdi → Register → ℕ → DeviceTdi
after_write tdi register value = record {
  plan = tdi.plan;
  registers = with_value tdi.registers register value;
  state = after_change (changes_listed (lock_flags tdi.state) tdi.registers register value) tdi.state;
  bindings =
      bindings_after tdi
      (after_change (changes_listed (lock_flags tdi.state) tdi.registers register value) tdi.state);
}

-- a function level reset
abbrev pub level_reset : DeviceTdi → DeviceTdi
level_reset tdi = record {
  plan = tdi.plan;
  registers = planned_registers tdi.plan;
  state = after_failure tdi.state;
  bindings = bindings_after tdi (after_failure tdi.state);
}

-- a firmware update, which lock flag 0 forbids
abbrev pub firmware_updated : TdiState → TdiState
firmware_updated state = after_change (has_bit 0 (lock_flags state)) state

-- ---- BIND_P2P and UNBIND_P2P

-- the draw under which a stream is bound, and without one a refusal; as many bindings have room as a topology has
-- streams between two devices
abbrev pub draw_answer : List Binding → Option ℕ → Result ℕ ℕ
draw_answer bs None = Err (error_code InvalidDeviceConfiguration)
draw_answer bs (Some draw) = if nat_lt (length bs) 8 then Ok draw else Err (error_code InvalidDeviceConfiguration)

-- `live` is the draw that is Live where the device receives posted requests on the stream, if that is between this
-- device and another, and Secure here
abbrev pub bind_answer : DeviceTdi → ℕ → Option ℕ → Result ℕ ℕ
bind_answer tdi stream live =
    if not (is_locked tdi.state) then Err (error_code InvalidInterfaceState)
    else if not (has_bit 3 (lock_flags tdi.state) && not (binds stream tdi.bindings))
    then Err (error_code InvalidRequest)
    else draw_answer tdi.bindings live

-- an answer without its value
abbrev pub is_answered : Result ℕ ℕ → Result (Unit {0}) ℕ
is_answered (Ok value) = Ok tt
is_answered (Err code) = Err code

abbrev pub with_bindings : DeviceTdi → List Binding → DeviceTdi
with_bindings tdi bs = record { plan = tdi.plan; registers = tdi.registers; state = tdi.state; bindings = bs }

abbrev pub interface_after_bind : DeviceTdi → ℕ → Result ℕ ℕ → DeviceTdi
interface_after_bind tdi stream (Ok draw) =
    with_bindings tdi (tdi.bindings ++ record { stream = stream; floor = draw } ∷ [])
interface_after_bind tdi stream (Err code) = tdi

abbrev pub bound_interface : DeviceTdi → ℕ → Option ℕ → DeviceTdi
bound_interface tdi stream live = interface_after_bind tdi stream (bind_answer tdi stream live)

abbrev pub unbind_answer : DeviceTdi → ℕ → Result (Unit {0}) ℕ
unbind_answer tdi stream =
    if not (is_locked tdi.state) then Err (error_code InvalidInterfaceState)
    else if binds stream tdi.bindings then Ok tt
    else Err (error_code InvalidRequest)

abbrev pub unbound_with : DeviceTdi → ℕ → Result (Unit {0}) ℕ → DeviceTdi
unbound_with tdi stream (Ok done) = with_bindings tdi (without stream tdi.bindings)
unbound_with tdi stream (Err code) = tdi

abbrev pub interface_after_unbind : DeviceTdi → ℕ → DeviceTdi
interface_after_unbind tdi stream = unbound_with tdi stream (unbind_answer tdi stream)

-- ---- all streams that it is bound to

-- to the stream of a link, with this floor
abbrev pub own_binding : ℕ → Option ℕ → List Binding
own_binding floor None = []
own_binding floor (Some stream) = record { stream = stream; floor = floor } ∷ []

-- first that of a link, with this floor; then those between two devices
abbrev pub all_bindings : ℕ → DeviceTdi → List Binding
all_bindings floor tdi = own_binding floor (bound_link_stream tdi.state) ++ tdi.bindings

-- ---- all calls

pub data Call : Type 0 where
  LockInterface : ℕ → ℕ → ℕ → Bool → Option (List ℕ) → Call
  StartInterface : List ℕ → Call
  StopInterface : Call
  BindStream : ℕ → Option ℕ → Call
  UnbindStream : ℕ → Call
  WriteRegister : Register → ℕ → Call
  LevelReset : Call
  FirmwareUpdate : Call
  StreamLeft : Call
  LinkReset : Call

abbrev pub interface_after_call : DeviceTdi → Call → DeviceTdi
interface_after_call tdi (LockInterface flags stream offset secure drawn) = locked_interface tdi flags stream offset
    secure drawn
interface_after_call tdi (StartInterface nonce) = with_state tdi (after_start tdi.state nonce)
interface_after_call tdi StopInterface = with_state tdi ConfigUnlocked
interface_after_call tdi (BindStream stream live) = bound_interface tdi stream live
interface_after_call tdi (UnbindStream stream) = interface_after_unbind tdi stream
interface_after_call tdi (WriteRegister register value) = after_write tdi register value
interface_after_call tdi LevelReset = level_reset tdi
interface_after_call tdi FirmwareUpdate = with_state tdi (firmware_updated tdi.state)
interface_after_call tdi StreamLeft = with_state tdi (after_failure tdi.state)
interface_after_call tdi LinkReset = new_device_interface tdi.plan
