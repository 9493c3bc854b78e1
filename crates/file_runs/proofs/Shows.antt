-- Bytes that are cut.
use Rattle.std.proofs.Common.{◌≡◌, ◌==◌, ◌∙◌, ◌++◌, ℕ, List, [], ◌∷◌, false, length, refl, ap, append_assoc, codes}
use Rattle.std.proofs.Common.{Option, Some, None, Result}
use Rattle.tlp_layout.specs.declared.head.HeadView.{HeadView}
use Rattle.ide_prefix.specs.declared.fault.PacketFault.{PacketFault}
use Rattle.ide_prefix.specs.Reading.{CutValue, cut_of}
use Rattle.ide_prefix.specs.Packet.{Packet, HasTlp}
use Rattle.ide_types.specs.Names.{Text, joined_words}
use Rattle.file_runs.specs.Showing.{carried_header, carried_words, cut_words, packet_words, prefix_words, shown_words}

pub cut_shows : (bytes : List ℕ) (r : Result CutValue PacketFault) → (length bytes == 0) ≡ false → r ≡ cut_of bytes
    → shown_words bytes ≡ cut_words bytes r
cut_shows [] r some e = cc
cut_shows (b ∷ bytes) r some e = rw e refl

pub header_is : (p : Packet) (o : Option HeadView) → HasTlp p o → o ≡ carried_header p
header_is p None has = rw has refl
header_is p (Some head) has = rw (has.0, has.1) refl

-- the line of a packet, part by part
pub parts_join : (number ide prefix whole : Text) (p : Packet) → ide ≡ number ++ codes " ide"
    → ((after : List Text) → prefix ++ joined_words after ≡ ide ++ joined_words (prefix_words p.prefix after))
    → whole ≡ prefix ++ joined_words (carried_words p) → whole ≡ number ++ joined_words (packet_words p)
parts_join number ide prefix whole p e f g =
    g ∙ f (carried_words p) ∙ ap (λ (t : Text). t ++ joined_words (prefix_words p.prefix (carried_words p))) e
    ∙ append_assoc
    number (codes " ide") (joined_words (prefix_words p.prefix (carried_words p)))
