-- The terms that the proofs of this crate speak in, passed on from where they are declared.
pub use Rattle.std.proofs.Common.{[], ap, append_assoc, arith, Bool, Err, false, length, length-append, List, map, None}
pub use Rattle.std.proofs.Common.{Ok, Option, option_and_then, option_map, refl, Result, slice_get, Some, subst, sym}
pub use Rattle.std.proofs.Common.{true, ℕ, ⊎_elim, ◌++◌, ◌+◌, ◌-◌, ◌<◌, ◌==◌, ◌∙◌, ◌∷◌, ◌≡◌, ◌≢◌, ◌≤◌}
pub use Rattle.std.specs.Prelude.{if◌then◌else◌, is_none, is_some, nat_le, nat_lt, not, slice_set, unwrap_or, ◌&&◌}
pub use Rattle.std.specs.Prelude.{◌||◌}
pub use Rattle.ide_prefix.specs.FaultWords.{packet_word, tlp_word}
pub use Rattle.ide_types.specs.declared.plan.Plan.{Plan}
pub use Rattle.ide_prefix.specs.Packet.{Packet, packet_bytes}
pub use Rattle.ide_types.specs.Sub.{sub_bits}
pub use Rattle.ide_types.specs.declared.port.PortName.{PortName}
pub use Rattle.ide_types.specs.declared.sub.SubKind.{SubKind}
pub use Rattle.ide_types.specs.declared.sub.SubKind.TheVariants.{Cpl, Npr, Pr}
pub use Rattle.spec_keys.specs.History.{History, base}
unfoldable pub use Rattle.spec_keys.specs.History.{failed_there}
pub use Rattle.spec_keys.specs.Keys.{Keyed, Keys, Loaded, Off, On, is_on, key_in, on_in, unless_below}
pub use Rattle.spec_keys.specs.Places.{is_same_sub}
pub use Rattle.script_events.specs.declared.event.Event.{Event}
pub use Rattle.script_events.specs.declared.event.Event.TheVariants.{Alter, Arrive, Cut, Dump, Pass, Send, Status}
pub use Rattle.spec_links.proofs.Causes.{Came, held_by, numbered, packet_that_came}
pub use Rattle.spec_links.proofs.Sealed.{any_out, is_out, not_here, posted-more, posted-own, posted-same}
pub use Rattle.spec_links.proofs.Sealed.{posted_elsewhere, sent-same, sent_elsewhere, sub_stream_packets-snoc}
pub use Rattle.spec_links.proofs.Sealed.{total-same, total-snoc, total_elsewhere}
pub use Rattle.spec_links.proofs.SealingIs.{quiet_seals_none, sealed_same, seals_none}
pub use Rattle.spec_links.proofs.Senders.{AreFalse, AreOther, and_false, has_key, in_lane, lane_is, needs_posted}
pub use Rattle.spec_links.proofs.Senders.{none_holds, on_live, sealed_by_is}
unfoldable pub use Rattle.spec_links.proofs.Senders.{listed_seals}
pub use Rattle.spec_links.proofs.Tests.{eqb-refl, eqb-sym, is_same-refl, is_same_port-refl, same_in, same_port}
pub use Rattle.spec_links.proofs.Tests.{same_stream, same_sub}
pub use Rattle.spec_links.specs.Cause.{CauseLaw}
pub use Rattle.spec_links.specs.Due.{Lane, Lanes, Sending, arrival_due, before_tag_of_cut, described_seal, dump_due}
pub use Rattle.spec_links.specs.Due.{effects_of, first_that_holds, is_keyless, is_mixed, is_overfull, lane_contents}
pub use Rattle.spec_links.specs.Due.{lanes_at, needs_sync, no_key, receiving_sub_stream, refusals, sealed_with_syncs}
pub use Rattle.spec_links.specs.Due.{send_due, verdict_of_send}
pub use Rattle.spec_links.specs.Due.{packets_under_key, ending_due, under_keys, next_unit_name}
unfoldable pub use Rattle.spec_links.specs.Due.{before_tag, due, is_verified}
pub use Rattle.spec_links.specs.History.{ArrivedBytes, KeyName, SealedList, accepted_keys, after_ends, ahead_of_packet}
pub use Rattle.spec_links.specs.History.{altered_arrival, arrived_packet, arrival_at_partner, ended_keys}
pub use Rattle.spec_links.specs.History.{ends_port_unit, has_failed, fails_at, total_ahead, has_live_key}
pub use Rattle.spec_links.specs.History.{packets_in_hold as held_in, is_sealed_from_draw, is_keyed, is_received_under}
pub use Rattle.spec_links.specs.History.{port_keys, lesser, live_key, on_draw, packet_by_number, pending_packets}
pub use Rattle.spec_links.specs.History.{posted_count, posted_since_last, posted_lane, received_in, sub_stream_packets}
pub use Rattle.spec_links.specs.History.{shortened_arrival, sub_stream_of, total_in, waits, with_sealed}
unfoldable pub use Rattle.spec_links.specs.History.{arrival_of_event, ahead_of_unit, got_since, has_live_in}
unfoldable pub use Rattle.spec_links.specs.History.{has_live_out, packets_in_hold, meets_counts, packet_of}
unfoldable pub use Rattle.spec_links.specs.History.{sealed_packets, units_got, units_since}
pub use Rattle.spec_links.specs.KeyFacts.{IsNoOperation, KeyFacts, is_quiet, is_quiet as quiet_test}
unfoldable pub use Rattle.spec_links.specs.KeyFacts.{operates}
pub use Rattle.spec_links.specs.Plan.{SubStream, has_port, has_stream, is_closed, is_same, is_same_port, key_of}
pub use Rattle.spec_links.specs.Plan.{lane_in, lane_out, aggregation_of, streams_of}
unfoldable pub use Rattle.spec_links.specs.Units.{open_unit, units}
pub use Rattle.machine_ports.specs.Machine.{LinkPacket, LinkState, Stepped, altered_to, stepped_answer, changed_by_id}
pub use Rattle.machine_ports.specs.Machine.{cut_short, found_by_id, kept_packet, packet_numbered, whole_arrival}
pub use Rattle.machine_ports.specs.Machine.{port_place, stepped_on_stream, stepped_send, stepped_packet, stepped_cut}
pub use Rattle.machine_ports.specs.Machine.{stepped_arrival, packet_verdict, verdict_of_taken}
pub use Rattle.spec_stream.specs.Stream.{unit_name}
unfoldable pub use Rattle.machine_ports.specs.Machine.{find, with_stream_state, step_of}
pub use Rattle.machine_ports.specs.Stands.{PacketsStand, StreamsAndPacketsStand, got_in, is_of_packets, rx_slot}
pub use Rattle.machine_ports.specs.Stands.{rx_slots, rx_state_due, sealing_key, state_due_if_planned, tx_slot, tx_slots}
pub use Rattle.machine_ports.specs.Stands.{tx_state_due}
unfoldable pub use Rattle.machine_ports.specs.Stands.{stream_state_due}
pub use Rattle.machine_ports.specs.Stream.{Accepted, Failed, Held, Insecure, Live, LiveKey, NotKeyed, RxSub, LaneSlot}
pub use Rattle.machine_ports.specs.Stream.{LaneSlots, StreamState, PacketOutcome, Three, TxSub, accepted_slots}
pub use Rattle.machine_ports.specs.Stream.{accepted_sub, at_sub, outcome_of_checks, counted_unit, slot_without_packets}
pub use Rattle.machine_ports.specs.Stream.{dropped_held, each_sub, ended_slots, gone_on, held_sub, holds_any}
pub use Rattle.machine_ports.specs.Stream.{is_allowed, is_tagged, lane_of, lanes_of, live_in, live_sender, packet_under}
pub use Rattle.machine_ports.specs.Stream.{posted_sum, slot_unless_older, sealed_all, sealed_slots, sealed_sub, set_sub}
pub use Rattle.machine_ports.specs.Stream.{slot_in_set, state_after, stream_outcome, stream_outcome_by_keys, with_slot}
pub use Rattle.event_verdicts.specs.declared.verdict.SealedPacket.{SealedPacket}
pub use Rattle.event_verdicts.specs.declared.verdict.UnitName.{UnitName}
pub use Rattle.event_verdicts.specs.declared.verdict.Verdict.{Verdict}
pub use Rattle.std.proofs.lemmas.Bool.Decides.{nat_tests}
pub use Rattle.std.proofs.lemmas.List.{append-nil, get_or-set_other, get_or-set_same, get_or_past, length-map}
pub use Rattle.std.proofs.lemmas.List.{map-append, set_past}
pub use Rattle.std.proofs.lemmas.List.Sums.{sum_by-append}
pub use Rattle.tlp_layout.specs.Head.{head_bytes}
pub use Rattle.tlp_layout.specs.Reading.{read_of}
pub use Rattle.tlp_layout.specs.Tlp.{body, header}
pub use Rattle.tlp_layout.specs.declared.tlp.Tlp.{Tlp}
