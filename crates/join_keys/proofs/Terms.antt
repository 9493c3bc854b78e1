-- What proofs on the walks of operations speak of.
pub use Rattle.join_keys.proofs.CallTerms.{◌≡◌, Bool, arith, true, SubKind, ℕ, List, ◌++◌, Work, Plan, if◌then◌else◌}
pub use Rattle.join_keys.proofs.CallTerms.{false, nat_tests, Operation, place_at_end, LaneSlots, ◌≤◌, ◌∙◌, sym, Reach}
pub use Rattle.join_keys.proofs.CallTerms.{makes_draw, is_number_between, lane_key, StreamCall, Device, Host}
pub use Rattle.join_keys.proofs.CallTerms.{is_only_live, slot_pair, StreamState, ◌+◌, ◌==◌, [], zero, suc, refl, ◌-◌}
pub use Rattle.join_keys.proofs.CallTerms.{ap, new_work, exchange_call, exchanges_called, all_called, KeyPlace}
pub use Rattle.join_keys.proofs.CallTerms.{SubStream, host_go, WaitsBesideLive, ◌&&◌, Pr, Npr, Cpl, ◌<◌, Some, subst}
pub use Rattle.join_keys.proofs.CallTerms.{◌≢◌, ◌∷◌, stream_after_call, last_exchange_of, port_at, slots_at}
pub use Rattle.join_keys.proofs.CallTerms.{slots_refuse, key_slot, at_sub, LaneSlot, Live, lane_out, lane_in, key_of}
pub use Rattle.join_keys.proofs.CallTerms.{IsSound, ReadsStream, CallsAreTouches, DrawsApart, ◌||◌}
pub use Rattle.std.proofs.Common.{◌/◌, Option, ◌%◌, None, length, inl, inr, ◌*◌, option_map, Ok, Err}
pub use Rattle.std.specs.Prelude.{nat_lt, is_some, unwrap_or, All}
pub use Rattle.std.specs.Option.{option_or}
pub use Rattle.spec_keys.specs.Operations.{reach_of, work_of, StreamStage, op_at_exchange, new_reach, op_after_reach}
pub use Rattle.spec_keys.specs.Operations.{StreamOperations, manager_after_operation, manager_after}
pub use Rattle.join_keys.specs.Calls.{all_called_at_side, call_of_exchange}
pub use Rattle.ide_prefix.specs.{sub_from}
pub use Rattle.key_messages.specs.{PlaceCall}
pub use Rattle.std.proofs.lemmas.List.{get_or-map, get_or_past, length-map, get_or-set_other}
pub use Rattle.std.proofs.lemmas.Bool.{cases_lt}
pub use Rattle.ide_types.specs.Fits.{IsKey, FitsPlan, FitsStream}
pub use Rattle.script_events.specs.declared.event.Loss.{Loss}
pub use Rattle.event_verdicts.specs.declared.verdict.Verdict.{Verdict}
pub use Rattle.spec_keys.specs.Places.{KeyPlan, lane as lane_number}
pub use Rattle.spec_keys.specs.History.{History, draws, moments, history_status, op_of}
pub use Rattle.ide_types.specs.Ports.{keyed_status}
pub use Rattle.spec_keys.specs.Due.{PortView, refusal_at, ports_at, operation_verdict, stays, lost_message, cut_at}
pub use Rattle.spec_keys.specs.Due.{first_from, finished_verdict}
pub use Rattle.spec_keys.specs.Keys.{refusal_if, key_in, draw_of_keyed, Touch, keys, Keys}
pub use Rattle.spec_links.specs.Plan.{key_plan, streams_by_link, streams_of, with_id}
pub use Rattle.spec_stream.specs.Stream.{slot_in_set, Armed}
pub use Rattle.machine_operations.specs.{LinkState, find, find_op, ports_of, machine_status, refuses_at, is_live_at}
pub use Rattle.machine_operations.specs.{status_if_planned as status_there, PortsStandFor, tx_slots, rx_slots}
pub use Rattle.machine_operations.specs.{StreamsAndPacketsStand}
pub use Rattle.join_keys.specs.Touches.{AreTouches}
pub use Rattle.ide_types.specs.declared.port.Side.{Side}
pub use Rattle.ide_types.proofs.KeySets.{one_of_set}
pub use Rattle.key_slots.specs.{is_empty, Pool, draws_in, SlotPair, live_set, slot_in as pair_slot, six_keys}
pub use Rattle.key_slots.specs.{unspent_keys, KeySet, is_one, key_set}
pub use Rattle.spec_keys.proofs.Tests.{different-false, true-lt, same-true}
pub use Rattle.key_host.specs.declared.operation.StreamRefusal.{StreamRefusal}
pub use Rattle.key_host.specs.Local.{goes as host_goes}
pub use Rattle.key_host.specs.Streams.{StreamView, draws_now, refusal_of, begun_stream, asked_of_unfinished, begun_pool}
pub use Rattle.key_host.specs.Streams.{begun_calls, outcome_of, taken_stream, taken_calls, shown_at_end, is_set}
pub use Rattle.key_host.specs.Streams.{request_asked, wire_keys_after, stream_acknowledged, work_asked, HostView}
pub use Rattle.key_host.specs.Walk.{Walked as ManagerWalk, answers, walk, walked_unless as manager_walked, verdict_of}
pub use Rattle.key_host.specs.Walk.{op_if_reached, exchange_judged, walk_after_outcome, HostSeesPorts}
pub use Rattle.key_host.specs.Walk.{key_refusal_verdict, IsAsked}
pub use Rattle.key_host.proofs.Walks.{Comes, walk_comes, WorkFits}
pub use Rattle.sub_stream.specs.Calls.{sends_in, pair_at}
pub use Rattle.machine_operations.proofs.{kept_is, key_cause}
pub use Rattle.join_keys.specs.Walks.{StreamEnds, walk_on, came_to, ends_after_exchange, begun_ends}
pub use Rattle.join_keys.specs.Walks.{walked_ends_unless, event_walk, shown_stream, port_called, judged_bytes}
pub use Rattle.join_keys.specs.Walks.{Exchanged, exchanged_unless_lost, WalkedEnds, goes_on}
pub use Rattle.join_keys.specs.Joined.{HasKeys, host_of, KeysKept, KeysKeptInStage, verdict_due, IsJoined}
pub use Rattle.join_keys.specs.Joined.{OperationsJoin}
pub use Rattle.spec_keys.proofs.Shapes.{Shape, keys_of, Marks}
pub use Rattle.key_host.specs.Exchanges.{exchange_of, kept_key, selector_of, is_last_receiver_go, request_of}
pub use Rattle.key_slots.specs.Wires.{WireKeys}
pub use Rattle.key_host.specs.declared.judge.Judged.{Judged}
pub use Rattle.key_host.specs.declared.judge.Judged.TheVariants.{Expected, Refused, Lost}
