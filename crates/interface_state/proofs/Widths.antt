-- Registers keep their widths. A write changes one register, by a value that has room in it; a level reset and a reset
-- of the link give the topology's values; a lock keeps the registers as they stand.
use Rattle.std.proofs.Common.{◌<◌, ◌^◌, ℕ, Bool, true, false, List, arith, Result, Ok, Err, ◌∙◌}
use Rattle.std.specs.Prelude.{IfSome}
use Rattle.std.proofs.lemmas.List.{length-set}
use Rattle.ide_types.specs.declared.register.Register.{Register}
use Rattle.ide_types.specs.declared.register.Register.TheVariants.{Command, CacheLine, Msix, Lnr, Tph, Pasid, Ats, Bar}
use Rattle.ide_types.specs.RegisterNames.{width_of}
use Rattle.interface_state.specs.declared.register_set.Registers.{Registers}
use Rattle.interface_state.specs.declared.states.Lock.{Lock}
use Rattle.interface_state.specs.declared.states.TdiState.{TdiState}
use Rattle.interface_state.specs.declared.states.TdiState.TheVariants.{ConfigUnlocked, ConfigLocked, Run, Error}
use Rattle.interface_state.specs.RegisterValues.{with_value, planned_registers}
use Rattle.interface_state.specs.Machine.{DeviceTdi, lock_of, lock_answer, new_lock, interface_after_lock, after_start}
use Rattle.interface_state.specs.Machine.{after_failure, after_change, Call, LockInterface, StartInterface}
use Rattle.interface_state.specs.Machine.{StopInterface, WriteRegister, LevelReset, FirmwareUpdate, StreamLeft}
use Rattle.interface_state.specs.Machine.{LinkReset, BindStream, UnbindStream, bind_answer, interface_after_bind}
use Rattle.interface_state.specs.Machine.{unbind_answer, unbound_with, interface_after_call}
use Rattle.interface_state.specs.Laws.{FitsRegisters, FitsWidths, FitsCall, WidthsAreKept}

written_fits : (registers : Registers) (register : Register) (value : ℕ) → value < 2 ^ width_of register
    → FitsRegisters registers → FitsRegisters (with_value registers register value)
written_fits rs Command value less fits = record
    { bars = fits.bars; shown = record { msix = fits.shown.msix; lnr = fits.shown.lnr; tph = fits.shown.tph } }
written_fits rs CacheLine value less fits = record
    { bars = fits.bars; shown = record { msix = fits.shown.msix; lnr = fits.shown.lnr; tph = fits.shown.tph } }
written_fits rs Msix value less fits =
    record { bars = fits.bars; shown = record { msix = less; lnr = fits.shown.lnr; tph = fits.shown.tph } }
written_fits rs Lnr value less fits =
    record { bars = fits.bars; shown = record { msix = fits.shown.msix; lnr = less; tph = fits.shown.tph } }
written_fits rs Tph value less fits =
    record { bars = fits.bars; shown = record { msix = fits.shown.msix; lnr = fits.shown.lnr; tph = less } }
written_fits rs Pasid value less fits = record
    { bars = fits.bars; shown = record { msix = fits.shown.msix; lnr = fits.shown.lnr; tph = fits.shown.tph } }
written_fits rs Ats value less fits = record
    { bars = fits.bars; shown = record { msix = fits.shown.msix; lnr = fits.shown.lnr; tph = fits.shown.tph } }
written_fits rs (Bar n) value less fits =
    record {
      bars = length-set rs.bars n value ∙ fits.bars;
      shown = record
          { msix = fits.shown.msix; lnr = fits.shown.lnr; tph = fits.shown.tph };
    }

-- the registers that the lock of a state kept
abbrev LockFits : TdiState → Type 0
LockFits state = IfSome (lock_of state) (λ lock. FitsRegisters lock.registers)

failed_fits : (state : TdiState) → LockFits state → LockFits (after_failure state)
failed_fits ConfigUnlocked fits = tt
failed_fits (ConfigLocked lock nonce) fits = tt
failed_fits (Run lock) fits = tt
failed_fits Error fits = tt

changed_fits : (listed : Bool) (state : TdiState) → LockFits state → LockFits (after_change listed state)
changed_fits true state fits = failed_fits state fits
changed_fits false state fits = fits

started_fits : (state : TdiState) (nonce : List ℕ) → LockFits state → LockFits (after_start state nonce)
started_fits ConfigUnlocked nonce fits = tt
started_fits (ConfigLocked lock held) nonce fits = grind arith
started_fits (Run lock) nonce fits = fits
started_fits Error nonce fits = tt

locked_fits : (tdi : DeviceTdi) (lock : Lock) (answer : Result (List ℕ) ℕ) → FitsWidths tdi
    → FitsRegisters lock.registers → FitsWidths (interface_after_lock tdi lock answer)
locked_fits tdi lock (Ok nonce) fits kept = record { registers = fits.registers; locked = kept }
locked_fits tdi lock (Err code) fits kept = fits

bound_fits : (tdi : DeviceTdi) (stream : ℕ) (answer : Result ℕ ℕ) → FitsWidths tdi
    → FitsWidths (interface_after_bind tdi stream answer)
bound_fits tdi stream (Ok draw) fits = record { registers = fits.registers; locked = fits.locked }
bound_fits tdi stream (Err code) fits = fits

unbound_fits : (tdi : DeviceTdi) (stream : ℕ) (answer : Result (Unit {0}) ℕ) → FitsWidths tdi
    → FitsWidths (unbound_with tdi stream answer)
unbound_fits tdi stream (Ok done) fits = record { registers = fits.registers; locked = fits.locked }
unbound_fits tdi stream (Err code) fits = fits

later : (tdi : DeviceTdi) (call : Call) → FitsRegisters (planned_registers tdi.plan) → FitsWidths tdi → FitsCall call
    → FitsWidths (interface_after_call tdi call)
later tdi (LockInterface flags stream offset secure drawn) planned_fits fits room =
    locked_fits tdi (new_lock tdi flags stream offset) (lock_answer tdi flags offset secure drawn) fits fits.registers
later tdi (StartInterface nonce) planned_fits fits room =
    record { registers = fits.registers; locked = started_fits tdi.state nonce fits.locked }
later tdi StopInterface planned_fits fits room = record { registers = fits.registers; locked = tt }
later tdi (BindStream stream live) planned_fits fits room = bound_fits tdi stream (bind_answer tdi stream live) fits
later tdi (UnbindStream stream) planned_fits fits room = unbound_fits tdi stream (unbind_answer tdi stream) fits
later tdi (WriteRegister register value) planned_fits fits room = record {
  registers = written_fits tdi.registers register value room fits.registers;
  locked = changed_fits _ tdi.state fits.locked;
}
later tdi LevelReset planned_fits fits room =
    record { registers = planned_fits; locked = failed_fits tdi.state fits.locked }
later tdi FirmwareUpdate planned_fits fits room =
    record { registers = fits.registers; locked = changed_fits _ tdi.state fits.locked }
later tdi StreamLeft planned_fits fits room =
    record { registers = fits.registers; locked = failed_fits tdi.state fits.locked }
later tdi LinkReset planned_fits fits room = record { registers = planned_fits; locked = tt }

pub widths_are_kept : WidthsAreKept
widths_are_kept = record { first = λ plan fits. record { registers = fits; locked = tt }; later = later }
