-- What the machine of a device interface implies (TDISP, PCI Express Base 6.0 chapter 11, in this profile).
use Rattle.std.specs.Prelude.{ℕ, ◌≡◌, ◌≢◌, ◌≤◌, ◌<◌, ◌^◌, ◌↔◌, ◌⊎◌, true, false, List, length, Some, IfSome, AllPairs}
use Rattle.ide_types.specs.declared.interface.BarPlan.{BarPlan}
use Rattle.ide_types.specs.declared.interface.InterfacePlan.{InterfacePlan}
use Rattle.ide_types.specs.Fits.{AreBytes}
use Rattle.tdisp_codec.specs.Reports.{SpellsReport}
use Rattle.ide_types.specs.declared.register.Register.{Register}
use Rattle.interface_state.specs.declared.register_set.Registers.{Registers}
use Rattle.interface_state.specs.declared.states.Lock.{Lock}
use Rattle.interface_state.specs.declared.states.TdiState.TheVariants.{ConfigUnlocked, ConfigLocked, Run, Error}
use Rattle.ide_types.specs.RegisterNames.{width_of}
use Rattle.interface_state.specs.RegisterValues.{IsAmongSix, with_value, planned_registers, listed_registers}
use Rattle.interface_state.specs.RegisterValues.{changes_listed}
use Rattle.interface_state.specs.Bars.{bar_end, bars_overlap, any_overlap}
use Rattle.interface_state.specs.Kept.{interface_report, kept_report, IsShortReport}
use Rattle.interface_state.specs.Machine.{DeviceTdi, new_device_interface, KeepsListed, lock_of, after_write, Call}
use Rattle.interface_state.specs.Machine.{LockInterface, StartInterface, WriteRegister, interface_after_call}
use Rattle.interface_state.specs.Held.{FitsTdi, FitsShown, IsBound}

-- a write changes the listed part exactly if it is a listed change
abbrev pub ChangesAreListed : Type 0
ChangesAreListed = (flags : ℕ) (registers : Registers) (register : Register) (value : ℕ)
    → length registers.bars ≡ 6 → IsAmongSix register → (changes_listed flags registers register value ≡ false)
    ↔ (listed_registers flags (with_value registers register value) ≡ listed_registers flags registers)

-- in CONFIG_LOCKED and RUN a write that changes the listed part leads to ERROR
abbrev pub ChangeIsError : Type 0
ChangeIsError = (tdi : DeviceTdi) (lock : Lock) (register : Register) (value : ℕ) → length tdi.registers.bars ≡ 6
    → IsAmongSix register
    → lock_of tdi.state ≡ Some lock → listed_registers lock.flags (with_value tdi.registers register value)
    ≢ listed_registers lock.flags
    tdi.registers
    → (after_write tdi register value).state ≡ Error

-- six BARs, and what a report shows has its width
pub record FitsRegisters (registers : Registers) : Type 0 where
  pub bars : length registers.bars ≡ 6
  pub shown : FitsShown registers

-- the registers as they stand, and as the lock that stands kept them
pub record FitsWidths (tdi : DeviceTdi) : Type 0 where
  pub registers : FitsRegisters tdi.registers
  pub locked : IfSome (lock_of tdi.state) (λ lock. FitsRegisters lock.registers)

-- a value that is written has room in its register
abbrev pub FitsCall : Call → Type 0
FitsCall (WriteRegister register value) = value < 2 ^ width_of register
FitsCall call = Unit {0}

-- what the laws on reports and on listed changes suppose holds of an interface from its beginning on, and each call
-- keeps it
pub record WidthsAreKept : Type 0 where
  pub first : (plan : InterfacePlan) → FitsRegisters (planned_registers plan) → FitsWidths (new_device_interface plan)
  pub later : (tdi : DeviceTdi) (call : Call) → FitsRegisters (planned_registers tdi.plan) → FitsWidths tdi
      → FitsCall call → FitsWidths (interface_after_call tdi call)

-- a byte of a BAR's range
abbrev pub HasByte : BarPlan → ℕ → Type 0
HasByte bar byte = (bar.base ≤ byte) × (byte < bar_end bar)

abbrev pub OverlapIsShared : Type 0
OverlapIsShared = (bar other : BarPlan) → (bars_overlap bar other ≡ true)
    ↔ ((byte : ℕ) × HasByte bar byte × HasByte other byte)

abbrev pub OverlapsArePairs : Type 0
OverlapsArePairs = (bars : List BarPlan) → (any_overlap bars ≡ false)
    ↔ AllPairs (λ bar other. bars_overlap bar other ≡ false) bars

-- no call takes the listed registers away from those that the lock kept, while it stands
abbrev pub ListedIsKept : Type 0
ListedIsKept = (tdi : DeviceTdi) (call : Call) → KeepsListed tdi.registers tdi.state
    → KeepsListed (interface_after_call tdi call).registers (interface_after_call tdi call).state

-- an interface is bound to streams between two devices in CONFIG_LOCKED and RUN alone
pub record BindingsEnd : Type 0 where
  pub first : (plan : InterfacePlan) → IsBound (new_device_interface plan).state (new_device_interface plan).bindings
  pub later : (tdi : DeviceTdi) (call : Call) → IsBound tdi.state tdi.bindings
      → IsBound (interface_after_call tdi call).state (interface_after_call tdi call).bindings

-- CONFIG_LOCKED was just entered: from CONFIG_UNLOCKED, by a request with the lock's flags, stream and offset that was
-- answered with this nonce; the lock kept the registers as they stood
pub record EntersLock (tdi : DeviceTdi) (call : Call) (lock : Lock) (nonce : List ℕ) : Type 0 where
  pub from : tdi.state ≡ ConfigUnlocked
  pub asked : call ≡ LockInterface lock.flags lock.stream lock.offset true (Some nonce)
  pub kept : lock.registers ≡ tdi.registers

abbrev pub LockIsEntered : Type 0
LockIsEntered = (tdi : DeviceTdi) (call : Call) (lock : Lock) (nonce : List ℕ) → (interface_after_call tdi call).state
    ≡ ConfigLocked lock nonce
    → (tdi.state ≡ ConfigLocked lock nonce) ⊎ EntersLock tdi call lock nonce

-- RUN was just entered: from CONFIG_LOCKED, by START_INTERFACE with the nonce of its lock
pub record EntersRun (tdi : DeviceTdi) (call : Call) (lock : Lock) : Type 0 where
  pub nonce : List ℕ
  pub from : tdi.state ≡ ConfigLocked lock nonce
  pub asked : call ≡ StartInterface nonce

abbrev pub RunIsEntered : Type 0
RunIsEntered = (tdi : DeviceTdi) (call : Call) (lock : Lock) → (interface_after_call tdi call).state ≡ Run lock
    → (tdi.state ≡ Run lock) ⊎ EntersRun tdi call lock

-- a report has at most 1,140 bytes
abbrev pub ReportIsShort : Type 0
ReportIsShort = (plan : InterfacePlan) (lock : Lock) → FitsTdi plan → IsShortReport (kept_report plan lock)

-- the bytes of a report are its spelling as a message's report, so that it is read back
abbrev pub ReportIsSpelled : Type 0
ReportIsSpelled = (plan : InterfacePlan) (lock : Lock) → FitsTdi plan → AreBytes plan.info → FitsShown lock.registers
    → SpellsReport (interface_report plan lock.registers lock.flags lock.offset) (kept_report plan lock)
