pub mod Packet
pub mod Units
pub mod Causes
pub mod Faults
pub mod Reading
pub mod Cut
pub mod Inside
pub mod Iv
pub mod FaultWords
pub mod CollectedUnits
pub mod Layout
pub mod Lending
-- what clauses and crates above cite
pub use Rattle.ide_types.specs.Sub.{sub_bits}
pub use Rattle.ide_types.specs.Fronts.{Begins, IsFaultPlace}
pub use Rattle.tlp_layout.specs.Head.{SpellsHead}
pub use Rattle.tlp_layout.specs.Class.{class_of}
pub use Rattle.tlp_layout.specs.Tlp.{body_size}
unfoldable pub use Rattle.tlp_layout.specs.Reading.{read_head_of}
pub use Rattle.ide_prefix.specs.declared.fault.PacketFault.{PacketFault}
pub use Rattle.ide_prefix.specs.declared.packet.Prefix.{Prefix}
pub use Rattle.ide_prefix.specs.declared.packet.PacketView.{PacketView}
pub use Rattle.ide_prefix.specs.Packet.{packet_first, sync_first, prefix_bytes, packet_bytes, sync_head, begins_sync}
pub use Rattle.ide_prefix.specs.Packet.{is_sync_packet, HasTlp, IsCarried, IsSync, FitsPrefix, FitsPacket}
pub use Rattle.ide_prefix.specs.Packet.{SpellsPacket, IsPacket}
pub use Rattle.ide_prefix.specs.Units.{clear_bytes, authenticated_bytes, encrypted_bytes, packet_without_tag}
pub use Rattle.ide_prefix.specs.Causes.{is_plain, sub_from, prefix_read, fits_first, fits_early, clear_size}
pub use Rattle.ide_prefix.specs.Causes.{packet_fault_at}
pub use Rattle.ide_prefix.specs.Faults.{GoesOff, IsPacketFault, packet_place}
pub use Rattle.ide_prefix.specs.Reading.{CutValue, PlainTlp, IdePacket, sync_at, tag_part, packet_size, packet_read}
pub use Rattle.ide_prefix.specs.Reading.{wants_packet, packet_may_follow}
pub use Rattle.ide_prefix.specs.Cut.{packet_of_view, cut_value, cut_values, lent_tag, IsView, IsCut}
pub use Rattle.ide_prefix.specs.Iv.{iv_of}
unfoldable pub use Rattle.ide_prefix.specs.Reading.{cut_of}
pub use Rattle.ide_prefix.specs.FaultWords.{tlp_word, packet_word}
pub use Rattle.ide_prefix.specs.CollectedUnits.{Collected, empty_unit, heads_of, bodies_of, aad_of, body_of, has_room}
pub use Rattle.ide_prefix.specs.CollectedUnits.{unit_with_packet, overwritten_bytes, packets_with_bodies, with_bodies}
pub use Rattle.ide_prefix.specs.CollectedUnits.{lengths_of, KeepsLengths}
pub use Rattle.ide_prefix.specs.Lending.{LendsBody}
