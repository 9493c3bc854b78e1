-- What proofs on histories and their keys speak of.
pub use Rattle.std.specs.Prelude.{if◌then◌else◌, is_some, map, nat_le, nat_lt, not, ◌&&◌, ◌||◌, is_none, max, unwrap_or}
pub use Rattle.std.proofs.Common.{Bool, Err, List, None, Ok, Option, Result, Some, [], ap, append_assoc, arith, drop}
pub use Rattle.std.proofs.Common.{false, filter, inl, inr, length, length-append, refl, slice_get, subst, subst₂, suc}
pub use Rattle.std.proofs.Common.{sym, take, true, zero, ℕ, ◌++◌, ◌+◌, ◌-◌, ◌<◌, ◌==◌, ◌∙◌, ◌∷◌, ◌≡◌, ◌≤◌, ◌⊎◌}
pub use Rattle.std.proofs.lemmas.Bool.Decides.{nat_tests}
pub use Rattle.std.proofs.lemmas.List.{append-nil, drop-append-le, drop_all, map-append, reverse-append}
pub use Rattle.std.proofs.lemmas.List.{take-append-drop}
pub use Rattle.std.proofs.lemmas.List.Elements.{filter-append}
pub use Rattle.std.proofs.lemmas.Option.{get_or_from_slice_get, slice_get_within}
pub use Rattle.std.specs.List.{flat_map, suffix_len}
pub use Rattle.ide_types.specs.declared.port.Side.{Side}
pub use Rattle.ide_types.specs.declared.status.StreamStatus.{StreamStatus}
pub use Rattle.ide_types.specs.declared.sub.SubKind.TheVariants.{Cpl, Npr, Pr}
pub use Rattle.script_events.specs.declared.event.Loss.{Loss}
pub use Rattle.event_verdicts.specs.declared.verdict.Operation.{Operation}
pub use Rattle.spec_keys.specs.Due.{PortView, finished_verdict, establish_on, may_establish, may_refresh}
pub use Rattle.spec_keys.specs.Due.{operation_verdict, ports_at, refresh_on, unless_open}
unfoldable pub use Rattle.spec_keys.specs.Due.{key_due}
pub use Rattle.spec_keys.specs.History.{begins_keyed, touches_after, came, draws, has_key, is_sender, on_it, op_of}
pub use Rattle.spec_keys.specs.History.{seal_touches, touches, touches_if, work_touches}
unfoldable pub use Rattle.spec_keys.specs.History.{base, failed_there, manager, moments}
pub use Rattle.spec_keys.specs.Keys.{Accept, Clear as ClearTouch, Go as GoTouch, Loaded, Program as ProgramTouch, Seal}
pub use Rattle.spec_keys.specs.Keys.{Touch, is_on, draw_of_keyed, sender_draw, without_outlived, keys_after_touch}
unfoldable pub use Rattle.spec_keys.specs.Keys.{is_open, keys}
pub use Rattle.spec_keys.specs.Laws.{KeyCauseLaw, GivenFits, UsesFit}
pub use Rattle.spec_keys.specs.Operations.{Begun, Idle, StreamOperations, StreamStage, Reach, Stopping, Work}
pub use Rattle.spec_keys.specs.Operations.{op_after_reach, manager_after_operation, reach_of, work_of}
pub use Rattle.spec_keys.specs.Places.{is_on_stream, is_same_side, is_same_sub, lane, places_of}
pub use Rattle.spec_links.specs.Cause.{CauseLaw, OneHistory, events_of}
pub use Rattle.spec_links.specs.Due.{Ending, Lanes, Sending, arrival_due, before_tag_of_cut, described_seal, dump_due}
pub use Rattle.spec_links.specs.Due.{effects_of, unit_packets_ended, ends_unit, first_that_holds, is_keyless, is_mixed}
pub use Rattle.spec_links.specs.Due.{is_overfull, is_verified, lanes_at, needs_sync, no_key, receiving_sub_stream}
pub use Rattle.spec_links.specs.Due.{refusals, sealed_with_syncs, send_due, sets_trusted, next_unit_name, answer_due}
pub use Rattle.spec_links.specs.Due.{site_answer, completion_verdict, outgoing_completion, is_before}
pub use Rattle.spec_links.specs.Due.{judged_by, answer_judged}
unfoldable pub use Rattle.spec_links.specs.Due.{before_tag, due}
pub use Rattle.spec_links.specs.History.{ArrivedBytes, KeyName, SealedList, accepted_keys, after_ends, ahead_of_packet}
pub use Rattle.spec_links.specs.History.{arrived_packet, cut_packet, ended_keys, ends_port_unit, ends_unit_since}
pub use Rattle.spec_links.specs.History.{has_failed, fails_at, has_live_key, is_sealed_from_draw, is_keyed}
pub use Rattle.spec_links.specs.History.{is_sealed_under, keys_by_role, lesser, live_key, meets_counts, on_draw}
pub use Rattle.spec_links.specs.History.{packet_by_number, arrival_packet, place_in_sub_stream, posted_lane}
pub use Rattle.spec_links.specs.History.{received_in, receives_it, sends_it, sent_packets, sent_bytes, sub_stream_of}
pub use Rattle.spec_links.specs.History.{waits, with_sealed, sending_port}
unfoldable pub use Rattle.spec_links.specs.History.{arrival_of_event, draws_got, got_since, has_live_in, has_live_out}
unfoldable pub use Rattle.spec_links.specs.History.{packets_in_hold, port_keys, packet_of, posted_since_last}
unfoldable pub use Rattle.spec_links.specs.History.{sealed_packets, sub_stream_packets, total_in, units_got}
unfoldable pub use Rattle.spec_links.specs.History.{units_since}
pub use Rattle.spec_links.specs.KeyFacts.{BaseStays, DrawFacts, KeyFacts, NoneFrom, is_quiet, is_steady}
unfoldable pub use Rattle.spec_links.specs.KeyFacts.{operates}
pub use Rattle.spec_links.specs.Plan.{SubStream, has_link, has_port, has_stream, is_same, is_same_port, key_plan}
pub use Rattle.spec_links.specs.Plan.{lane_in, lane_out, partner, streams_of, with_id}
unfoldable pub use Rattle.spec_links.specs.Plan.{stream_plan}
pub use Rattle.spec_links.specs.Terms.{Accepted, AllByRecursion, Alter, Arrive, Cut, Device, Dump, Effect, Establish}
pub use Rattle.spec_links.specs.Terms.{Event, Held, History, Host, KeyPlan, Keyed, Keys, Off, On, Packet, KeyPlace}
pub use Rattle.spec_links.specs.Terms.{Plan, PortName, Pass, Refresh, Reset, Sealed, SealedPacket, Send, Status, Stop}
pub use Rattle.spec_links.specs.Terms.{SubKind, UnitName, Verdict, after_last, keeps_live, key_in, place_keys, list_any}
pub use Rattle.spec_links.specs.Terms.{no_keys, on_in, received_direction, sent_direction, history_status, sub_bits}
pub use Rattle.spec_links.specs.Terms.{Interface, InterfaceEvent, Access, Site, WaitingRead, granted_to}
pub use Rattle.spec_links.specs.Terms.{site_of_requester}
pub use Rattle.spec_links.specs.Units.{rest_after, units_finished}
unfoldable pub use Rattle.spec_links.specs.Units.{open_unit, units}
pub use Rattle.spec_links.specs.Memory.{memory_due, waiting_reads}
unfoldable pub use Rattle.spec_links.specs.Sent.{bytes_by}
pub use Rattle.event_verdicts.specs.Causes.{binding_cause, is_stream}
