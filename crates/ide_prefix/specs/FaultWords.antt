-- The word that stands for a fault of a TLP or of a packet.
use Rattle.tlp_layout.specs.declared.fault.TlpFault.{TlpFault}
use Rattle.tlp_layout.specs.declared.fault.TlpFault.TheVariants as tlp
use Rattle.ide_prefix.specs.declared.fault.PacketFault.{PacketFault}
use Rattle.ide_prefix.specs.declared.fault.PacketFault.TheVariants as packet
use Rattle.ide_types.specs.declared.fault_word.FaultWord.{FaultWord}
use Rattle.ide_types.specs.declared.fault_word.FaultWord.TheVariants as word

abbrev pub tlp_word : TlpFault → FaultWord
tlp_word (tlp.Short place) = word.Short
tlp_word (tlp.Kind place) = word.Kind
tlp_word (tlp.Bit place) = word.Bit
tlp_word (tlp.Length place) = word.Length
tlp_word (tlp.Trailing place) = word.Trailing

abbrev pub packet_word : PacketFault → FaultWord
packet_word (packet.Short place) = word.Short
packet_word (packet.Reserved place) = word.Reserved
packet_word (packet.SubStream place) = word.SubStream
packet_word (packet.Class place) = word.Class
packet_word (packet.Tlp fault) = tlp_word fault
packet_word (packet.Sync place) = word.Sync
packet_word (packet.Trailing place) = word.Trailing
