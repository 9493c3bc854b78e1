-- Packets whose parts are lent, as values.
use Rattle.std.specs.Prelude.{◌≡◌, ℕ, true, List, [], Option, Some, None, Result, Ok, Err, is_some}
use denote.Ref.{Bor}
use Rattle.ide_prefix.specs.declared.packet.Cut.{Cut}
use Rattle.ide_prefix.specs.declared.packet.Cut.TheVariants.{Plain, Ide}
use Rattle.ide_prefix.specs.declared.packet.PacketView.{PacketView}
use Rattle.ide_prefix.specs.declared.fault.PacketFault.{PacketFault}
use Rattle.ide_prefix.specs.Packet.{Packet, FitsPacket, SpellsPacket, HasTlp}
use Rattle.ide_prefix.specs.Causes.{is_plain}
use Rattle.ide_prefix.specs.Reading.{CutValue, PlainTlp, IdePacket}

abbrev pub lent_tag : Option (Bor (List ℕ)) → List ℕ
lent_tag None = []
lent_tag (Some t) = t.now

-- the packet that a view shows: lent bytes are the bytes
abbrev pub packet_of_view : PacketView → Packet
packet_of_view v = record { prefix = v.prefix; head = v.head.now; body = v.body.now; tag = lent_tag v.tag }

abbrev pub cut_value : Cut → CutValue
cut_value Plain = PlainTlp
cut_value (Ide v) = IdePacket (packet_of_view v)

-- what `cut` answers, with the packet in the view's place
abbrev pub cut_values : Result Cut PacketFault → Result CutValue PacketFault
cut_values (Ok c) = Ok (cut_value c)
cut_values (Err f) = Err f

-- a packet that has a spelling is shown, with what its header reads as, and with a tag if M is set
abbrev pub IsView : PacketView → Type 0
IsView v = FitsPacket (packet_of_view v) × HasTlp (packet_of_view v) v.tlp × (is_some v.tag ≡ v.prefix.m)

-- the bytes are plain, or those of the packet that is shown
abbrev pub IsCut : List ℕ → Cut → Type 0
IsCut bytes Plain = is_plain bytes ≡ true
IsCut bytes (Ide v) = SpellsPacket (packet_of_view v) bytes × IsView v
