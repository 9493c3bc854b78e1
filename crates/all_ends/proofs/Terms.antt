-- What the proofs of this crate name from other modules.
pub use Rattle.ide_types.specs.Fits.{FitsLink, FitsStream}
pub use Rattle.ide_types.specs.declared.plan.LinkPlan.{LinkPlan}
pub use Rattle.ide_types.specs.declared.plan.Plan.{Plan}
pub use Rattle.ide_types.specs.declared.stream.StreamPlan.{StreamPlan}
pub use Rattle.ide_port.specs.{Found, PortEnd, SendStep, changed_states, found_stream, reset_port, port_stream_status}
pub use Rattle.ide_port.specs.{take_step}
pub use Rattle.ide_prefix.specs.Packet.{Packet, packet_bytes}
pub use Rattle.arrival_verdicts.specs.{joined_packets, numbered_from, opened_if_accepted, packet_lengths, new_sending}
pub use Rattle.arrival_verdicts.specs.{has_stream, is_closed, aggregation_of, streams_of, with_id}
pub use Rattle.ide_types.specs.declared.port.PortName.{PortName}
pub use Rattle.ide_types.specs.declared.port.Side.{Side}
pub use Rattle.ide_types.specs.declared.port.Side.TheVariants.{Device, Host}
pub use Rattle.ide_types.specs.declared.status.StreamStatus.{StreamStatus}
pub use Rattle.spec_keys.proofs.Tests.{different-false}
pub use Rattle.spec_keys.specs.History.{History}
pub use Rattle.spec_keys.specs.Operations.{Idle, StreamStage}
pub use Rattle.spec_keys.specs.Places.{sent_direction}
pub use Rattle.all_ends.specs.Cuts.{cut_packets}
pub use Rattle.link_ends.proofs.Names.{first_named, op_named_first}
pub use Rattle.link_ends.proofs.Streams.{changed_same, found_id, found_plan, machine_changed, machine_found}
pub use Rattle.event_verdicts.specs.declared.verdict.UnitName.{UnitName}
unfoldable pub use Rattle.arrival_verdicts.specs.{stream_plan, streams_by_line}
pub use Rattle.machine_ports.specs.Machine.{BesidePorts, LinkPacket, LinkState, Stepped, stepped_answer, kept_packet}
pub use Rattle.machine_ports.specs.Machine.{port_at, port_place, reset_state, machine_status}
pub use Rattle.spec_stream.specs.Stream.{unit_name, Failed, Held, Insecure, LiveKey, StreamState, PacketOutcome, Three}
pub use Rattle.spec_stream.specs.Stream.{TxSub, at_sub, outcome_of_checks, holds_any, is_allowed, is_tagged, lanes_of}
pub use Rattle.spec_stream.specs.Stream.{live_in, sealed_all, slot_in_set, stream_outcome, stream_outcome_by_keys}
unfoldable pub use Rattle.machine_ports.specs.Machine.{find, find_op, with_stream_state}
pub use Rattle.machine_ports.specs.Stands.{PortsStandFor, op_at, stream_state_due}
pub use Rattle.event_verdicts.specs.declared.verdict.Effect.{Effect}
pub use Rattle.event_verdicts.specs.declared.verdict.Verdict.{Verdict}
pub use Rattle.std.proofs.Common.{Bool, List, [], add-one, ap, arith, drop, false, length, length-append, length-drop}
pub use Rattle.std.proofs.Common.{refl, rules, subst, suc, sym, take, true, zero, ℕ, ⊎_elim, ◌*◌, ◌++◌, ◌+◌, ◌-◌, ◌<◌}
pub use Rattle.std.proofs.Common.{◌==◌, ◌∙◌, ◌∷◌, ◌≡◌, ◌≤◌, ◌⊎◌}
pub use Rattle.std.proofs.Math.Seq.{drop-append_seam, take-append_seam}
pub use Rattle.std.proofs.lemmas.Bool.Decides.{nat_tests}
pub use Rattle.std.proofs.lemmas.List.{append-nil, drop-append-le, drop-drop, get_or_past, length-map, length-set}
pub use Rattle.std.proofs.lemmas.List.{map-append, set-get_or, take-append-le}
pub use Rattle.std.proofs.lemmas.List.Elements.{All-append, All-cons, All-head, All-nil, All-tail, All-weaker}
pub use Rattle.std.proofs.lemmas.List.Sums.{sum_by-cons}
pub use Rattle.std.proofs.lemmas.Option.{none-some, same_Some, slice_get_read, slice_get_within, some_pair_parts}
pub use Rattle.std.specs.List.{slice_index_or}
pub use Rattle.std.specs.Option.{option_map_or, option_and_then}
pub use Rattle.std.specs.Prelude.{All, Err, None, Ok, Option, Result, Some, if◌then◌else◌, is_some, map, nat_le, not}
pub use Rattle.std.specs.Prelude.{option_map, slice_get, slice_range, slice_set, sum_by, vec_capacity, vec_len, ◌&&◌}
pub use Rattle.std.specs.Prelude.{◌||◌, nat_lt, replicate}
pub use Rattle.sub_stream.specs.declared.answer.MeasuredPacket.{MeasuredPacket}
pub use Rattle.key_host.specs.Managers.{ManagerView, Named, named_stream, op_named, reset_manager}
pub use Rattle.key_host.specs.Streams.{StreamView, reset_stream}
pub use Rattle.all_ends.specs.Places.{stream_named}
pub use Rattle.all_ends.specs.Ends.{EndsView, changed_at, cleared_on, cleared_ends, cleared_pair, line_place, peer_live}
pub use Rattle.all_ends.specs.Ends.{pair_port, port_at_place, port_on, reset_all, settled_all, settled_first_links}
pub use Rattle.all_ends.specs.Ends.{settled_ends, settled_link, unlocked_ends, unlocked_link, with_pair_port}
pub use Rattle.all_ends.specs.Ends.{with_port_at_place, with_port_on}
pub use Rattle.all_ends.specs.declared.places.LinePlace.{LinePlace}
pub use Rattle.all_ends.specs.declared.places.LinePlace.TheVariants.{Link, Near, Pair}
pub use Rattle.all_ends.specs.States.{AreLinks, IsBounded, IsLink, IsPair, IsPort, StreamKept, KeptBy, in_sixteen}
pub use Rattle.all_ends.specs.States.{name_of, names_from_line, names_of, ops_by_line, line_ops, pair_ports, ports_in}
pub use Rattle.all_ends.specs.States.{rows_of, state_of, views_after}
pub use Rattle.link_ends.specs.declared.pair.PairEnds.{PairEnds}
pub use Rattle.link_ends.specs.LineEnds.{line_end_in, with_end, reset_pair}
pub use Rattle.link_ends.specs.Ends.{port_in, with_port}
pub use Rattle.link_ends.specs.Keepers.{KeeperView, NoMoreUnits, Operates}
pub use Rattle.link_ends.specs.declared.ends.LinkEnds.{LinkEnds}
pub use Rattle.link_ends.specs.{KeysKept}
pub use Rattle.std.proofs.lemmas.Bool.{cases_lt}
