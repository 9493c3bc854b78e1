-- The words that these proofs share.
-- ---- numbers, lists and tests
pub use Rattle.std.proofs.Common.{◌≡◌, ℕ, ◌<◌, List, length, map, refl, All, Ok, ◌+◌, ◌≤◌, ◌==◌, Bool, true, false, []}
pub use Rattle.std.proofs.Common.{◌∷◌, ◌++◌, Option, Some, inl, inr, ◌⊎◌, ap, sym, ◌∙◌, arith, length-append, ◌&&◌}
pub use Rattle.std.proofs.Common.{nat_le, ◌≢◌, slice_get, take, ◌*◌, filter, zero, suc, subst, append_assoc}
pub use Rattle.std.proofs.Common.{slice_index_or, nat_lt, drop, sum_by, length-drop, add-one, Err, None, Result}
pub use Rattle.std.proofs.lemmas.List.Elements.{All-from_recursion, All-nil, filter-append}
pub use Rattle.std.specs.List.{AllByRecursion, after_last, list_any}
pub use Rattle.std.specs.Prelude.{if◌then◌else◌, is_some, not, unwrap_or, slice_index, ◌||◌}
pub use Rattle.std.proofs.lemmas.Bool.{and_parts, cases_Bool, eqb-true, leb-true, ne_eqb, both_ways, or_cases, or_left}
pub use Rattle.std.proofs.lemmas.Bool.{or_right, eq-eqb, ltb-false, or_parts, false_from_ne_true, le-leb, cases_lt}
pub use Rattle.std.proofs.lemmas.Bool.{cases_eq}
pub use Rattle.std.proofs.lemmas.Bool.Decides.{nat_tests}
pub use Rattle.std.proofs.lemmas.List.{take_at, append-nil, take-append-le, nil_from_length, map-append}
pub use Rattle.std.proofs.lemmas.List.{take-append-drop, take-take, take_all, drop-append-le}
pub use Rattle.std.proofs.lemmas.Option.{slice_get_cases}
pub use Rattle.std.proofs.lemmas.List.Sums.{sum_by-cons, sum_by-append}
pub use Rattle.std.proofs.lemmas.List.Concat.{flat_map-append}
-- ---- plans, events, packets and histories
pub use Rattle.tlp_layout.specs.declared.tlp.Tlp.{Tlp}
pub use Rattle.tlp_layout.specs.Head.{SpellsHead, head_bytes}
pub use Rattle.tlp_layout.specs.Tlp.{header, body, body_size}
pub use Rattle.tlp_layout.specs.Reading.{read_of}
pub use Rattle.ide_prefix.specs.Packet.{Packet, FitsPacket, packet_bytes, FitsPrefix, is_sync_packet, begins_sync}
pub use Rattle.ide_prefix.specs.Units.{authenticated_bytes, encrypted_bytes, packet_without_tag}
pub use Rattle.ide_prefix.specs.Reading.{IdePacket, cut_of}
pub use Rattle.ide_types.specs.declared.sub.SubKind.{SubKind}
pub use Rattle.ide_types.specs.declared.sub.SubKind.TheVariants.{Pr, Npr, Cpl}
pub use Rattle.ide_types.specs.declared.port.PortName.{PortName}
pub use Rattle.script_events.specs.declared.event.Event.{Event}
pub use Rattle.script_events.specs.declared.event.Event.TheVariants.{Send, Pass, Alter, Cut, Arrive}
pub use Rattle.event_verdicts.specs.declared.verdict.Verdict.{Verdict}
pub use Rattle.event_verdicts.specs.declared.verdict.SealedPacket.{SealedPacket}
pub use Rattle.ide_prefix.specs.declared.packet.Prefix.{Prefix}
pub use Rattle.ide_types.specs.declared.plan.Plan.{Plan}
pub use Rattle.spec_links.specs.Plan.{SubStream, lane_out, aggregation_of, is_same, is_same_port, streams_of, with_id}
pub use Rattle.spec_links.specs.Plan.{is_closed, key_of, lane_in, has_stream}
unfoldable pub use Rattle.spec_links.specs.Plan.{stream_plan}
pub use Rattle.spec_links.specs.Units.{units_finished}
unfoldable pub use Rattle.spec_links.specs.Units.{open_unit, units}
pub use Rattle.spec_keys.specs.History.{History, base}
pub use Rattle.spec_links.specs.History.{ahead_of_packet, SealedList, KeyName, with_sealed, prefix_of, posted_lane}
pub use Rattle.spec_links.specs.History.{is_sealed_from_draw, sub_stream_of, ends_unit_since, sent_packets}
pub use Rattle.spec_links.specs.History.{is_sealed_under, is_of_unit, live_key, untagged_packet, unit_tag, port_keys}
pub use Rattle.spec_links.specs.History.{posted_count, received_in, arrived_packet, is_received_under, ahead_due}
pub use Rattle.spec_links.specs.History.{pending_packets, ArrivedBytes, on_draw, has_failed}
unfoldable pub use Rattle.spec_links.specs.History.{sealed_packets, packet_of, sub_stream_packets, posted_since_last}
unfoldable pub use Rattle.spec_links.specs.History.{total_in, ahead_of_unit, ahead_sent, units_got, draws_got}
unfoldable pub use Rattle.spec_links.specs.History.{units_since, packets_in_hold, accepted_packets, got_since}
unfoldable pub use Rattle.spec_links.specs.History.{arrival_of_event, meets_counts}
pub use Rattle.spec_links.specs.Due.{is_posted, Sending, Lanes, lanes_at, needs_sync, packets_under_key, described_seal}
pub use Rattle.spec_links.specs.Due.{is_worn, is_keyless, ends_unit, begins_unit, sets_trusted, no_key}
pub use Rattle.spec_links.specs.Due.{receiving_sub_stream, unit_packets_ended, next_unit_name, Ending, arrival_due}
pub use Rattle.spec_links.specs.Due.{ending_due, under_keys, is_mixed, is_overfull, effects_of}
unfoldable pub use Rattle.spec_links.specs.Due.{due, before_tag, is_verified}
pub use Rattle.spec_links.specs.Cause.{CauseLaw}
pub use Rattle.spec_links.specs.KeyFacts.{DrawFacts, NoneFrom, BaseStays}
pub use Rattle.spec_keys.specs.Places.{is_same_sub, received_direction}
pub use Rattle.ide_types.specs.Sub.{sub_bits}
pub use Rattle.event_verdicts.specs.declared.verdict.Verdict.TheVariants.{Sealed, Accepted, Held, Fail}
pub use Rattle.spec_links.specs.Laws.{TotalsFit, NoForgery, NotForged, IsPrefixOf, NeverFalls, WasSealed}
pub use Rattle.spec_links.specs.Laws.{last_tag, IsOn, ArrivesInOrder, OrderIsNoForgery, WholeLaw, IsTaken}
pub use Rattle.tlp_layout.specs.Class.{class_of, layout_of}
pub use Rattle.event_verdicts.specs.declared.verdict.UnitName.{UnitName}
pub use Rattle.event_verdicts.specs.declared.verdict.Effect.{Effect}
pub use Rattle.ide_prefix.specs.Iv.{iv_of}
pub use Rattle.gcm_seal.specs.Gcm.{masked_bytes, tag_of, verifies}
unfoldable pub use Rattle.gcm_seal.specs.Gcm.{open_of}
pub use Rattle.spec_keys.specs.Keys.{Keyed, On, key_in, on_in}
-- ---- lemmas of the crates below
pub use Rattle.tlp_layout.proofs.Readings.{read_spells_tlp}
pub use Rattle.ide_prefix.proofs.Units.{one_list, not_sync}
pub use Rattle.spec_links.proofs.Tests.{same_sub, same_stream, same_port, eqb-refl, is_same-refl}
pub use Rattle.spec_links.proofs.UnitLemmas.{open_unit-snoc, units-append, packets_of_units, joined_units, units-end}
pub use Rattle.spec_links.proofs.UnitLemmas.{units-more, open_unit-end, open_unit-more, IsFront, open_unit-unfinished}
pub use Rattle.spec_links.proofs.UnitLemmas.{EndsInM, EndsInM-snoc, All-snoc, units_all, units_end, unit_at}
pub use Rattle.spec_links.proofs.UnitLemmas.{take_next, below, joined_take, joined-snoc}
pub use Rattle.spec_links.proofs.Sealed.{sub_stream_packets-snoc, sent-same, posted-own, posted-more, sent_elsewhere}
pub use Rattle.spec_links.proofs.Sealed.{posted_elsewhere, any_out, is_out, posted-same}
pub use Rattle.spec_links.proofs.Senders.{in_lane, sealed_by_is, on_live, lane_is, has_key, and_false, needs_posted}
unfoldable pub use Rattle.spec_links.proofs.Senders.{listed_seals}
pub use Rattle.spec_links.specs.History.{sent_bytes}
pub use Rattle.spec_links.proofs.SealingIs.{is_sealing, sealed_by_sealing, sealing_is, sending_port, IsSealing, IsLive}
pub use Rattle.spec_links.proofs.SealingIs.{AllLive, all_live, sealed_same}
pub use Rattle.law_sealing.proofs.Fits.{StreamsFit}
pub use Rattle.gcm_seal.proofs.Strings.{length-masked_bytes}
pub use Rattle.gcm_seal.proofs.Sealing.{masked-bytes, length-tag_of, tag_of-bytes, length-open_of}
pub use Rattle.gcm_seal.proofs.Sealing.{masked_bytes-masked_bytes, masked_bytes-append, tag-verifies}
pub use Rattle.spec_links.proofs.Causes.{unit_ending, accepted_by, received_there, numbered, packet_that_came}
pub use Rattle.spec_links.proofs.Causes.{AcceptedBy, Came, Passed, HeldBy, held_by, unit_that_ends}
