pub mod RegisterValues
pub mod Bars
pub mod Kept
pub mod Bindings
pub mod Machine
pub mod Held
pub mod Laws
-- what clauses and crates above cite
pub use Rattle.interface_state.specs.declared.error_codes.ErrorCode.{ErrorCode}
pub use Rattle.ide_types.specs.declared.register.Register.{Register}
pub use Rattle.interface_state.specs.declared.register_set.Registers.{Registers}
pub use Rattle.ide_types.specs.declared.binding.Binding.{Binding}
pub use Rattle.interface_state.specs.declared.states.Lock.{Lock}
pub use Rattle.interface_state.specs.declared.states.TdiState.{TdiState}
pub use Rattle.ide_types.specs.RegisterNames.{width_of, has_register}
pub use Rattle.interface_state.specs.RegisterValues.{IsAmongSix, value_in, with_value, planned_registers, bit_at}
pub use Rattle.interface_state.specs.RegisterValues.{has_bit, Listed, listed_registers, changes_listed}
pub use Rattle.interface_state.specs.Bars.{bar_at, bars_of, bar_end, bars_overlap, any_overlap, FitsReported}
pub use Rattle.interface_state.specs.Bars.{reported_range, reported_ranges}
pub use Rattle.interface_state.specs.Kept.{interface_info, interface_report, interface_report_bytes, kept_report}
pub use Rattle.interface_state.specs.Kept.{IsShortReport}
pub use Rattle.interface_state.specs.Machine.{error_code, state_code, DeviceTdi, new_device_interface, with_state}
pub use Rattle.interface_state.specs.Machine.{is_unlocked, lock_of, bound_link_stream, lock_flags, KeepsListed}
pub use Rattle.interface_state.specs.Machine.{are_lock_flags, is_page, nonce_answer, lock_answer, new_lock}
pub use Rattle.interface_state.specs.Machine.{interface_after_lock, locked_interface, portion_of, portion_shown}
pub use Rattle.interface_state.specs.Machine.{portion_answer, start_answer, after_start, after_failure, after_change}
pub use Rattle.interface_state.specs.Machine.{after_write, level_reset, firmware_updated, Call, LockInterface}
pub use Rattle.interface_state.specs.Machine.{StartInterface, StopInterface, WriteRegister, LevelReset, FirmwareUpdate}
pub use Rattle.interface_state.specs.Machine.{StreamLeft, LinkReset, BindStream, UnbindStream, interface_after_call}
pub use Rattle.interface_state.specs.Machine.{is_locked, bindings_left, draw_answer, bindings_after, bind_answer}
pub use Rattle.interface_state.specs.Machine.{is_answered, interface_after_bind, bound_interface, unbind_answer}
pub use Rattle.interface_state.specs.Machine.{unbound_with, interface_after_unbind, own_binding, all_bindings}
pub use Rattle.interface_state.specs.Bindings.{is_binding_on, binds, without, floor_on}
pub use Rattle.interface_state.specs.Held.{FitsTdi, FitsShown, IsBound}
pub use Rattle.interface_state.specs.Laws.{ChangesAreListed, ChangeIsError, HasByte, OverlapIsShared, OverlapsArePairs}
pub use Rattle.interface_state.specs.Laws.{ListedIsKept, EntersLock, LockIsEntered, EntersRun, RunIsEntered}
pub use Rattle.interface_state.specs.Laws.{ReportIsShort, ReportIsSpelled, FitsRegisters, FitsWidths, FitsCall}
pub use Rattle.interface_state.specs.Laws.{WidthsAreKept, BindingsEnd}
