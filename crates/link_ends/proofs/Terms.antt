-- Words that several proofs take.
pub use Rattle.join_keys.specs.Calls.{all_called_at_side}
pub use Rattle.link_ends.specs.DeviceEnds.{DeviceEnd, after_call, asked_device, reply_given}
pub use Rattle.key_messages.specs.declared.place.Place.{Place}
pub use Rattle.key_messages.specs.{PlaceCall, SlotsShown, reading_call, call_of, is_done, place_at, reply_bytes}
pub use Rattle.key_messages.specs.{object_spelling, sub_of}
pub use Rattle.ide_port.proofs.Streams.{found_stream-changed_states, found_stream-id}
pub use Rattle.ide_port.specs.{Found, PortEnd, called_port, changed_states, found_stream, live_in_port, slot_pair_at}
pub use Rattle.ide_port.specs.{port_stream_status, unfinished_at}
pub use Rattle.ide_types.specs.declared.port.Side.{Side}
pub use Rattle.spec_keys.proofs.Tests.{both-true, same-true, true-same}
pub use Rattle.spec_keys.specs.Operations.{Work, last_exchange_of, makes_draw, op_at_exchange, new_work, work_of}
pub use Rattle.key_slots.specs.{Pool, SlotPair, live_set, six_keys}
pub use Rattle.link_ends.specs.Keepers.{Exchanges, HasStream, IsExchanged, IsAtBothEnds, IsOperated, IsWalked}
pub use Rattle.link_ends.specs.Keepers.{KeeperView, KeysAlone, DiffersInStream, Walks, ends_found}
pub use Rattle.spec_keys.specs.Due.{lost_message}
pub use Rattle.link_ends.specs.declared.ends.LinkEnds.{LinkEnds}
pub use Rattle.script_events.specs.declared.event.Loss.{Loss}
pub use Rattle.event_verdicts.specs.declared.verdict.Operation.{Operation}
pub use Rattle.join_keys.specs.Walks.{Exchanged, StreamEnds, WalkedEnds, begun_ends, came_to, ends_after_exchange}
pub use Rattle.join_keys.specs.Walks.{event_walk, exchange_outcome, goes_on, judged_bytes, exchange_if_lost}
pub use Rattle.join_keys.specs.Walks.{port_called, shown_stream, exchanged_unless_lost, walk_on, walked_ends_unless}
pub use Rattle.std.proofs.Common.{Bool, List, [], ap, arith, false, get_or, length, refl, rules, subst, suc, sym, true}
pub use Rattle.std.proofs.Common.{zero, ℕ, ◌+◌, ◌-◌, ◌<◌, ◌==◌, ◌∙◌, ◌∷◌, ◌≡◌, ◌≤◌}
pub use Rattle.std.proofs.lemmas.Bool.Decides.{nat_tests}
pub use Rattle.std.proofs.lemmas.Option.{same_Some}
pub use Rattle.std.specs.Prelude.{Err, IfSome, IsSome, None, Ok, Option, Some, if◌then◌else◌, is_some, nat_lt}
pub use Rattle.std.specs.Prelude.{option_and_then, option_map, position, slice_get, slice_range, slice_set, ◌&&◌}
pub use Rattle.sub_stream.specs.Calls.{stream_after_call, pair_at, sends_in, stream_status}
pub use Rattle.spec_stream.specs.Stream.{StreamState}
pub use Rattle.key_host.specs.Exchanges.{exchange_of, is_last_receiver_go, request_of, selector_of}
pub use Rattle.key_slots.specs.Wires.{WireKeys}
pub use Rattle.key_host.specs.Local.{CallsMove, goes, stream_stop_calls, programs}
pub use Rattle.key_host.specs.Managers.{Current, ManagerView, Named, asking_after, begin_refusal, begun_manager}
pub use Rattle.key_host.specs.Managers.{calls_begun, calls_taken, current, current_asked, current_if_there}
pub use Rattle.key_host.specs.Managers.{current_in_list, named_stream, named_in, op_named, pool_begun}
pub use Rattle.key_host.specs.Operations.{op_name}
pub use Rattle.key_host.specs.Streams.{HostView, StreamView, asked_of_unfinished, begun_calls, begun_stream}
pub use Rattle.key_host.specs.Streams.{exchange_asked, host_view, is_named, ok_unless, outcome_of, refusal_of}
pub use Rattle.key_host.specs.Streams.{request_asked, taken_calls, taken_stream}
pub use Rattle.key_host.specs.Walk.{IsAsked}
pub use Rattle.key_host.specs.declared.judge.Judged.{Judged}
pub use Rattle.key_host.specs.declared.judge.Judged.TheVariants.{Bad, Expected, Refused}
pub use Rattle.key_host.specs.declared.operation.StreamOutcome.{StreamOutcome}
pub use Rattle.key_host.specs.declared.stage.NextExchange.{NextExchange}
