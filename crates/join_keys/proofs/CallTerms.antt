-- What proofs on calls and touches speak of.
pub use Rattle.std.proofs.Common.{◌≡◌, Bool, arith, true, ℕ, List, ◌++◌, false, ◌≤◌, ◌∙◌, sym, ◌+◌, ◌==◌, [], zero, suc}
pub use Rattle.std.proofs.Common.{refl, ◌-◌, ap, ◌<◌, Some, subst, ◌≢◌, ◌∷◌}
pub use Rattle.std.proofs.lemmas.Bool.Decides.{nat_tests}
pub use Rattle.ide_types.specs.declared.sub.SubKind.{SubKind}
pub use Rattle.ide_types.specs.declared.plan.Plan.{Plan}
pub use Rattle.sub_stream.specs.Calls.{slots_called_out, slots_called_into, stream_after_call}
pub use Rattle.spec_keys.specs.Operations.{Work, Reach, makes_draw, new_work, last_exchange_of}
pub use Rattle.spec_keys.specs.History.{is_number_between, program_exchange, go_exchange, stop_exchange, touches_if}
pub use Rattle.spec_keys.specs.History.{work_touches, program_number, go_number, stop_number}
pub use Rattle.ide_types.specs.Lines.{is_hosted}
pub use Rattle.ide_types.specs.declared.port.Side.{Side}
pub use Rattle.join_keys.specs.Calls.{lane_key, key_number, StreamCall, told_call, calls_from, exchange_call}
pub use Rattle.join_keys.specs.Calls.{exchanges_called, all_called, stream_call}
pub use Rattle.ide_types.specs.declared.port.Side.TheVariants.{Device, Host}
pub use Rattle.event_verdicts.specs.declared.verdict.Operation.{Operation}
pub use Rattle.spec_keys.specs.Places.{is_host, is_local, lane, KeyPlace}
pub use Rattle.machine_operations.specs.{place_at_end, port_at, touches_at, slots_refuse, is_last_in, slots_touched}
pub use Rattle.machine_operations.specs.{taken_touches, touched_stream}
pub use Rattle.key_slots.specs.{is_only_live, is_last_live, live_draw, KeyCall, Program, Go, Stop}
pub use Rattle.sub_stream.specs.{slot_pair, key_slot}
pub use Rattle.spec_stream.specs.Stream.{LaneSlots, StreamState, at_sub, each_sub, LaneSlot, Live, LiveKey}
pub use Rattle.spec_links.specs.Plan.{SubStream, lane_out, lane_in, key_of}
pub use Rattle.join_keys.specs.Touches.{host_go, WaitsBesideLive, IsSound, ReadsStream, device_calls, CallsAreTouches}
pub use Rattle.join_keys.specs.Touches.{told_calls, AreEndsTold, CallsAreTold, host_calls, DrawsApart}
pub use Rattle.std.specs.Prelude.{if◌then◌else◌, ◌&&◌, not, map, ◌||◌, is_some}
pub use Rattle.spec_keys.specs.Keys.{refusal_if}
pub use Rattle.ide_types.specs.declared.sub.SubKind.TheVariants.{Pr, Npr, Cpl}
pub use Rattle.spec_stream.specs.Slots.{any_live, slots_at}
