-- The terms that the proofs of this crate speak in, passed on from where they are declared.
pub use Rattle.std.proofs.Common.{suc, zero, ◌*◌}
pub use Rattle.machine_ports.proofs.Terms.{[], ap, arith, Bool, Err, false, if◌then◌else◌, is_some, length, List, map}
pub use Rattle.machine_ports.proofs.Terms.{nat_lt, None, not, Ok, Option, option_map, refl, Result, slice_set, Some}
pub use Rattle.machine_ports.proofs.Terms.{subst, sym, true, ℕ, ◌&&◌, ◌+◌, ◌<◌, ◌==◌, ◌||◌, ◌∙◌, ◌∷◌, ◌≡◌, ◌≢◌, ◌≤◌}
pub use Rattle.machine_ports.proofs.Terms.{Alter, ArrivedBytes, Arrive, CauseLaw, Cpl, Cut, Dump, Event, History}
pub use Rattle.machine_ports.proofs.Terms.{IsNoOperation, KeyFacts, Keys, LinkState, Live, Loaded, Npr, Off, On, Pass}
pub use Rattle.machine_ports.proofs.Terms.{Plan, PortName, StreamsAndPacketsStand, Pr, RxSub, SealedList, Send, Sending}
pub use Rattle.machine_ports.proofs.Terms.{LaneSlots, Status, Stepped, StreamState, SubKind, SubStream, TxSub, Verdict}
pub use Rattle.machine_ports.proofs.Terms.{changed_by_id, each_sub, eqb-refl, has_failed, fails_at, found_by_id}
pub use Rattle.machine_ports.proofs.Terms.{get_or-set_other, get_or-set_same, got_in, got_since, has_live_key, has_port}
pub use Rattle.machine_ports.proofs.Terms.{has_stream, is_keyed, is_of_packets, is_on, is_quiet, is_same_port, key_in}
pub use Rattle.machine_ports.proofs.Terms.{key_of, lane_in, lane_out, nat_tests, on_in, pending_packets, port_place}
pub use Rattle.machine_ports.proofs.Terms.{posted_count, posted_sum, quiet_seals_none, rx_slot, rx_slots, rx_state_due}
pub use Rattle.machine_ports.proofs.Terms.{sealed_same, sealing_key, stepped_on_stream, stepped_answer, stepped_arrival}
pub use Rattle.machine_ports.proofs.Terms.{stepped_send, slot_in_set, state_due_if_planned, streams_of, total_in}
pub use Rattle.machine_ports.proofs.Terms.{tx_slots, tx_state_due, units_since, waits}
unfoldable pub use Rattle.machine_ports.proofs.Terms.{due, failed_there, find, has_live_in, has_live_out, open_unit}
unfoldable pub use Rattle.machine_ports.proofs.Terms.{operates, packet_of, with_stream_state, sealed_packets}
unfoldable pub use Rattle.machine_ports.proofs.Terms.{stream_state_due, step_of, units}
pub use Rattle.ide_types.specs.declared.port.Side.{Side}
pub use Rattle.ide_types.specs.declared.port.Side.TheVariants.{Device, Host}
pub use Rattle.spec_keys.proofs.Shapes.{Shape, Sound, clears, keys_of}
unfoldable pub use Rattle.spec_keys.proofs.Shapes.{draws_started, draws_used}
pub use Rattle.spec_keys.proofs.Touches.{AllCome, Comes, Goes}
pub use Rattle.spec_keys.specs.Due.{PortView, establish_on, ports_at, refresh_on, stop_on}
unfoldable pub use Rattle.spec_keys.specs.Due.{key_due}
pub use Rattle.spec_keys.specs.History.{touches_after, draws as draws_made, has_all, has_key, keeps_live as keyed_there}
pub use Rattle.spec_keys.specs.History.{kept_draw, place_keys, on_it, op_of, history_status, touches, work_touches}
pub use Rattle.ide_types.specs.Ports.{keyed_status}
unfoldable pub use Rattle.spec_keys.specs.History.{base, manager, moments}
pub use Rattle.spec_keys.specs.Keys.{Clear as ClearTouch, Go as GoTouch, Program as ProgramTouch, Stop as StopTouch}
pub use Rattle.spec_keys.specs.Keys.{Touch, is_live_draw as is_live_there, draw_of_keyed, no_keys, refuses}
pub use Rattle.spec_keys.specs.Keys.{without_outlived, slot_of, keys_after_touch, with_key}
unfoldable pub use Rattle.spec_keys.specs.Keys.{is_open, keys}
pub use Rattle.spec_keys.specs.Operations.{Begun, Idle, StreamOperations, StreamStage, Reach, Work, makes_draw}
pub use Rattle.spec_keys.specs.Operations.{op_after_reach}
pub use Rattle.spec_keys.specs.Operations.{manager_after_operation as operated_manager, reach_of, work_of}
pub use Rattle.spec_keys.specs.Places.{KeyPlace, is_on_stream, sent_direction}
pub use Rattle.script_events.specs.declared.event.Event.TheVariants.{Establish, Refresh, Reset, Stop}
pub use Rattle.script_events.specs.declared.event.Loss.{Loss}
pub use Rattle.machine_ports.specs.{place_in_sub_stream, key_plan, with_id}
unfoldable pub use Rattle.machine_ports.specs.{port_keys, posted_since_last, sub_stream_packets, streams_by_line}
unfoldable pub use Rattle.machine_ports.specs.{stream_plan}
pub use Rattle.machine_ports.proofs.{facts, failed_next, in_keyed, out_keyed, key_cause, keys_into, keys_out}
pub use Rattle.machine_ports.proofs.Answers.{any_on, at_each, keyed_in}
pub use Rattle.machine_ports.proofs.Changes.{Steps, at_place, kept_all, kept_is, none_of_packets, put_packets, quiet}
pub use Rattle.machine_ports.proofs.Changes.{quiet_everywhere, stays}
pub use Rattle.machine_ports.proofs.Frames.{accepts_in, failed_live, got_same, held_same, holds_in, rx_slot_same}
pub use Rattle.machine_ports.proofs.Frames.{rx_slots_same, since_same, slots_is, units_same}
pub use Rattle.machine_ports.proofs.Puts.{find-put, find-put_other, put_beside, put_same, within}
pub use Rattle.machine_ports.specs.Machine.{draws_after, place_at_end, establish_found, first_ports, first_state}
pub use Rattle.machine_ports.specs.Machine.{is_live_at, touched_at, touched_found, touched_state, touches_at, new_key}
pub use Rattle.machine_ports.specs.Machine.{stepped_operation, port_at, ports_of, refresh_found, refuses_at}
pub use Rattle.machine_ports.specs.Machine.{slots_refuse, reset_state, machine_status, status_found, status_if_planned}
pub use Rattle.machine_ports.specs.Machine.{stop_found, work_done}
unfoldable pub use Rattle.machine_ports.specs.Machine.{find_op, put_op}
pub use Rattle.machine_ports.specs.Stream.{any_live, has_all_live, has_some_live, is_live_slot, no_stream}
pub use Rattle.machine_ports.specs.Stream.{rested_stream, slots_at}
pub use Rattle.machine_ports.specs.Touches.{slot_touched, slots_touched, taken_touches, touched_stream}
pub use Rattle.machine_ports.specs.Stands.{FirstStands, PortsStandFor, StepStands, op_at, receiving_key}
pub use Rattle.event_verdicts.specs.declared.verdict.Operation.{Operation}
pub use Rattle.machine_operations.specs.Operations.{AllowsIncoming, AllowsOutgoing, IsOperation, key_touched_in}
pub use Rattle.machine_operations.specs.Operations.{key_touched_out, LeadTo, HasOperated, OperationStands}
pub use Rattle.machine_operations.specs.Operations.{OperationSteps, busy_in}
pub use Rattle.std.specs.List.{slice_index_or}
unfoldable pub use Rattle.tlp_layout.specs.Reading.{read_of}
