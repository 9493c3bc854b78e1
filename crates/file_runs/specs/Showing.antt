-- The line that shows a packet or a plain TLP.
use Rattle.std.specs.Prelude.{ℕ, List, [], ◌∷◌, ◌++◌, length, codes, Option, Some, None, Result, Ok, Err, if◌then◌else◌}
use Rattle.std.specs.Fmt.{decimal}
use Rattle.std.specs.Result.{result_ok}
use Rattle.tlp_layout.specs.declared.fault.TlpFault.{TlpFault}
use Rattle.tlp_layout.specs.declared.head.HeadView.{HeadView}
use Rattle.tlp_layout.specs.declared.head.TlpKind.{TlpKind}
use Rattle.tlp_layout.specs.declared.tlp.Tlp.{Tlp}
use Rattle.tlp_layout.specs.declared.head.TlpKind.TheVariants.{MemRead, MemWrite, CfgRead, CfgWrite, Message}
use Rattle.tlp_layout.specs.declared.head.TlpKind.TheVariants.{Completion}
use Rattle.tlp_layout.specs.Class.{kind_of}
use Rattle.tlp_layout.specs.Faults.{place_in}
use Rattle.tlp_layout.specs.Head.{head_length}
use Rattle.tlp_layout.specs.Reading.{read_of, read_head_of}
use Rattle.tlp_layout.specs.Tlp.{header, body_size}
use Rattle.ide_prefix.specs.declared.fault.PacketFault.{PacketFault}
use Rattle.ide_prefix.specs.declared.packet.Prefix.{Prefix}
use Rattle.ide_prefix.specs.Faults.{packet_place}
use Rattle.ide_prefix.specs.Packet.{Packet, is_sync_packet}
use Rattle.ide_prefix.specs.Reading.{CutValue, PlainTlp, IdePacket, cut_of}
use Rattle.ide_prefix.specs.FaultWords.{packet_word, tlp_word}
use Rattle.ide_types.specs.Names.{Text, joined_words, substream_word, fault_word}
use Rattle.event_verdicts.specs.Lines.{bit_of}

-- ---- names

abbrev pub tlp_kind_word : TlpKind → Text
tlp_kind_word MemRead = codes "memread"
tlp_kind_word MemWrite = codes "memwrite"
tlp_kind_word CfgRead = codes "cfgread"
tlp_kind_word CfgWrite = codes "cfgwrite"
tlp_kind_word Message = codes "message"
tlp_kind_word Completion = codes "completion"

-- the kind of the TLP of a header; a packet without one is a sync packet
abbrev pub carried_word : Option HeadView → Text
carried_word None = codes "sync"
carried_word (Some h) = tlp_kind_word (kind_of h)

-- ---- words

-- the lengths of header and body in bytes
abbrev pub size_words : ℕ → ℕ → List Text
size_words head body = codes "head" ∷ decimal head ∷ codes "body" ∷ decimal body ∷ []

abbrev pub head_words : HeadView → List Text
head_words h = tlp_kind_word (kind_of h) ∷ size_words (head_length h) (body_size h.has_payload h.lead.length)

abbrev pub plain_words : Result Tlp TlpFault → List Text
plain_words (Ok t) = codes "plain" ∷ head_words (header t)
plain_words (Err f) = codes "plain" ∷ fault_word (tlp_word f) ∷ decimal (place_in f) ∷ []

-- the header of the TLP that a packet carries, none of a sync packet
abbrev pub carried_header : Packet → Option HeadView
carried_header p = if is_sync_packet p then None else result_ok (read_head_of p.head)

-- the words of a prefix, before others
abbrev pub prefix_words : Prefix → List Text → List Text
prefix_words p after =
    (codes "m" ++ decimal (bit_of p.m)) ∷ (codes "k" ++ decimal (bit_of p.k)) ∷ (codes "t" ++ decimal (bit_of p.t))
    ∷ substream_word p.sub ∷ decimal p.stream ∷ (codes "p" ++ decimal p.posted) ∷ after

-- what it carries, with the lengths of its header and body
abbrev pub carried_words : Packet → List Text
carried_words p = carried_word (carried_header p) ∷ size_words (length p.head) (length p.body)

abbrev pub packet_words : Packet → List Text
packet_words p = codes "ide" ∷ prefix_words p.prefix (carried_words p)

-- bytes whose byte 0 is not 92h are a plain TLP's
abbrev pub cut_words : Text → Result CutValue PacketFault → List Text
cut_words bytes (Ok PlainTlp) = plain_words (read_of bytes)
cut_words bytes (Ok (IdePacket p)) = packet_words p
cut_words bytes (Err f) = codes "ide" ∷ fault_word (packet_word f) ∷ decimal (packet_place f) ∷ []

-- no bytes are read as a plain TLP too
abbrev pub shown_words : Text → List Text
shown_words [] = plain_words (read_of [])
shown_words (b ∷ bytes) = cut_words (b ∷ bytes) (cut_of (b ∷ bytes))

-- the line of some bytes after the number of their line
abbrev pub line_shown : ℕ → Text → Text
line_shown number bytes = decimal number ++ joined_words (shown_words bytes)
