-- What is declared elsewhere, and used in the definitions here.
pub use Rattle.std.specs.List.{AllByRecursion, list_any, slice_index_or}
pub use Rattle.std.specs.Option.{option_and_then, option_map, option_map_or}
pub use Rattle.ide_types.specs.declared.port.Side.{Side}
pub use Rattle.ide_types.specs.declared.port.Side.TheVariants.{Host, Device}
pub use Rattle.ide_types.specs.declared.port.PortName.{PortName}
pub use Rattle.ide_types.specs.declared.status.StreamStatus.{StreamStatus}
pub use Rattle.ide_types.specs.declared.plan.Plan.{Plan}
pub use Rattle.ide_types.specs.declared.plan.LinkPlan.{LinkPlan}
pub use Rattle.ide_types.specs.declared.interface.InterfacePlan.{InterfacePlan}
pub use Rattle.ide_types.specs.declared.register.Register.{Register}
pub use Rattle.ide_types.specs.declared.view.View.{View}
pub use Rattle.ide_types.specs.declared.view.View.TheVariants.{Unlocked, Locked, Running, Doubt, Broken}
pub use Rattle.ide_types.specs.declared.verdict.InterfaceVerdict.{InterfaceVerdict}
pub use Rattle.script_events.specs.declared.event.Event.{Event}
pub use Rattle.script_events.specs.declared.event.InterfaceEvent.{InterfaceEvent}
pub use Rattle.script_events.specs.declared.event.Loss.{Loss}
pub use Rattle.event_verdicts.specs.declared.verdict.Verdict.{Verdict}
pub use Rattle.event_verdicts.specs.declared.verdict.SealedPacket.{SealedPacket}
pub use Rattle.spec_keys.specs.History.{History, op_of, draws, history_status, begins_keyed}
pub use Rattle.spec_keys.specs.Operations.{StreamStage, Idle, Up, work_of, reach_of}
pub use Rattle.spec_keys.specs.Due.{lost_at, if_secure}
pub use Rattle.interface_state.specs.declared.register_set.Registers.{Registers}
pub use Rattle.ide_types.specs.declared.binding.Binding.{Binding}
pub use Rattle.interface_state.specs.declared.states.Lock.{Lock}
pub use Rattle.interface_state.specs.declared.states.TdiState.{TdiState}
pub use Rattle.interface_state.specs.declared.states.TdiState.TheVariants.{ConfigUnlocked, ConfigLocked, Run, Error}
pub use Rattle.interface_state.specs.RegisterValues.{planned_registers, listed_registers, has_bit, changes_listed}
pub use Rattle.interface_state.specs.Kept.{interface_report_bytes, kept_report}
pub use Rattle.interface_state.specs.Machine.{DeviceTdi, new_device_interface, state_code, lock_of, lock_answer}
pub use Rattle.interface_state.specs.Machine.{start_answer, Call}
pub use Rattle.interface_state.specs.Machine.{LockInterface, StartInterface, StopInterface, WriteRegister, LevelReset}
pub use Rattle.interface_state.specs.Machine.{FirmwareUpdate, StreamLeft, LinkReset, BindStream, UnbindStream}
pub use Rattle.interface_state.specs.Machine.{interface_after_call, bind_answer, unbind_answer}
pub use Rattle.interface_state.specs.Bindings.{binds}
pub use Rattle.ide_types.specs.RegisterNames.{has_register}
