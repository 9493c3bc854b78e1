-- Where bytes first go off the grammar of packets, and why.
use Rattle.std.specs.Prelude.{◌≡◌, ℕ, false, List}
use Rattle.ide_types.specs.Fronts.{IsFaultPlace}
use Rattle.tlp_layout.specs.Faults.{place_in}
use Rattle.ide_prefix.specs.declared.fault.PacketFault.{PacketFault}
use Rattle.ide_prefix.specs.declared.fault.PacketFault.TheVariants.{Short, Reserved, SubStream, Class, Tlp, Sync}
use Rattle.ide_prefix.specs.declared.fault.PacketFault.TheVariants.{Trailing}
use Rattle.ide_prefix.specs.Packet.{IsPacket}
use Rattle.ide_prefix.specs.Causes.{is_plain, packet_fault_at}

-- the bytes are no packet, and this is where they go off
abbrev pub GoesOff : List ℕ → PacketFault → Type 0
GoesOff bytes fault = (place : ℕ) × IsFaultPlace IsPacket bytes place × (fault ≡ packet_fault_at bytes place)

-- the bytes are neither plain nor a packet, and this is their first fault
abbrev pub IsPacketFault : List ℕ → PacketFault → Type 0
IsPacketFault bytes fault = (is_plain bytes ≡ false) × GoesOff bytes fault

-- the place that a fault names, a byte offset from 0
abbrev pub packet_place : PacketFault → ℕ
packet_place (Short place) = place
packet_place (Reserved place) = place
packet_place (SubStream place) = place
packet_place (Class place) = place
packet_place (Tlp fault) = place_in fault
packet_place (Sync place) = place
packet_place (Trailing place) = place
