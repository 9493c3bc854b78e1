-- What is declared elsewhere, and used in the definitions here.
pub use Rattle.std.specs.List.{AllByRecursion, after_last, list_any, slice_index_or}
pub use Rattle.std.specs.Option.{option_and_then, option_map_or}
pub use Rattle.ide_types.specs.Sub.{sub_bits}
pub use Rattle.ide_types.specs.declared.port.PortName.{PortName}
pub use Rattle.ide_types.specs.declared.port.Side.TheVariants.{Device, Host}
pub use Rattle.ide_types.specs.declared.sub.SubKind.{SubKind}
pub use Rattle.ide_types.specs.declared.plan.Plan.{Plan}
pub use Rattle.script_events.specs.declared.event.Event.{Event}
pub use Rattle.script_events.specs.declared.event.Event.TheVariants.{Access, Alter, Arrive, Cut, Dump, Establish}
pub use Rattle.script_events.specs.declared.event.Event.TheVariants.{
  Interface,
  Pass,
  Refresh,
  Reset,
  Send,
  Status,
  Stop,
}
pub use Rattle.script_events.specs.declared.event.AccessEvent.{AccessEvent}
pub use Rattle.script_events.specs.declared.event.InterfaceEvent.{InterfaceEvent}
pub use Rattle.event_verdicts.specs.declared.verdict.Effect.{Effect}
pub use Rattle.event_verdicts.specs.declared.verdict.SealedPacket.{SealedPacket}
pub use Rattle.event_verdicts.specs.declared.verdict.UnitName.{UnitName}
pub use Rattle.event_verdicts.specs.declared.verdict.Verdict.{Verdict}
pub use Rattle.event_verdicts.specs.declared.verdict.Verdict.TheVariants.{Accepted, Fail, Held, Sealed}
pub use Rattle.tlp_layout.specs.Reading.{read_head_of, read_of}
pub use Rattle.tlp_layout.specs.Tlp.{body, header}
pub use Rattle.tlp_layout.specs.declared.fault.TlpFault.{TlpFault}
pub use Rattle.tlp_layout.specs.declared.tlp.Tlp.{Tlp}
pub use Rattle.ide_prefix.specs.Iv.{iv_of}
pub use Rattle.ide_prefix.specs.Packet.{Packet, is_sync_packet, packet_bytes, sync_head}
pub use Rattle.ide_prefix.specs.Reading.{CutValue, IdePacket, PlainTlp, cut_of}
pub use Rattle.ide_prefix.specs.Units.{authenticated_bytes, encrypted_bytes}
pub use Rattle.ide_prefix.specs.declared.fault.PacketFault.{PacketFault}
pub use Rattle.gcm_seal.specs.Gcm.{masked_bytes, open_of, tag_of, verifies}
pub use Rattle.spec_keys.specs.History.{History, base, failed_there, fails_there}
pub use Rattle.spec_keys.specs.History.{keeps_live, place_keys, history_status}
pub use Rattle.spec_keys.specs.Keys.{Keyed, Keys, Off, On, key_in, no_keys, on_in, unless_below}
pub use Rattle.spec_keys.specs.Places.{KeyPlan, KeyPlace, received_direction, sent_direction}
pub use Rattle.spec_interfaces.specs.Views.{grant_at, granted_to}
pub use Rattle.spec_interfaces.specs.Floors.{history_statuses, site_on}
pub use Rattle.spec_interfaces.specs.Sites.{Site, site_of_requester}
pub use Rattle.spec_interfaces.specs.Cause.{owner_id, owner_site, owners_link, t_at}
pub use Rattle.trusted_memory.specs.declared.grant.Grant.{Grant}
pub use Rattle.trusted_memory.specs.Spans.{write_span}
pub use Rattle.trusted_memory.specs.Writes.{Write, memory_write, newest_first}
unfoldable pub use Rattle.trusted_memory.specs.Writes.{byte_last_written}
pub use Rattle.trusted_memory.specs.Regions.{in_one_region}
pub use Rattle.trusted_memory.specs.Admitted.{is_on_bound, if_placed, admitted_write}
pub use Rattle.trusted_memory.specs.Memory.{MemoryContents, IsLeftBy, Leads, bytes_from}
pub use Rattle.trusted_memory.specs.declared.read.MemReadView.{MemReadView}
pub use Rattle.trusted_memory.specs.declared.queue.WaitingRead.{WaitingRead}
pub use Rattle.trusted_memory.specs.declared.queue.ReadArrival.{ReadArrival}
pub use Rattle.trusted_memory.specs.declared.queue.ReadTarget.{ReadTarget}
pub use Rattle.trusted_memory.specs.Completions.{host_completer}
pub use Rattle.trusted_memory.specs.declared.span.Span.{Span}
pub use Rattle.trusted_memory.specs.Requests.{memory_read}
pub use Rattle.trusted_memory.specs.Waiting.{request_effect}
unfoldable pub use Rattle.trusted_memory.specs.Completions.{completion_bytes}
pub use Rattle.spec_interfaces.specs.{InterfaceStatus, device_request_effect}
pub use Rattle.spec_interfaces.specs.{Claim, claim_of, claimed_byte, judged_claim, least_draw, target_of}
