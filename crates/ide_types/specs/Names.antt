-- Lines of text: words, and those that name ports, sub-streams, failures, states and faults.
use Rattle.std.specs.Prelude.{ℕ, nat_le, ◌-◌, ◌&&◌, Bool, List, [], ◌∷◌, ◌++◌, if◌then◌else◌, codes}
use Rattle.std.specs.Fmt.{decimal}
use Rattle.ide_types.specs.declared.sub.SubKind.{SubKind}
use Rattle.ide_types.specs.declared.sub.SubKind.TheVariants.{Pr, Npr, Cpl}
use Rattle.ide_types.specs.declared.sub.FailCause.{FailCause}
use Rattle.ide_types.specs.declared.fault_word.FaultWord.{FaultWord}
use Rattle.ide_types.specs.declared.port.Side.{Side}
use Rattle.ide_types.specs.declared.port.Side.TheVariants.{Host, Device}
use Rattle.ide_types.specs.declared.port.PortName.{PortName}
use Rattle.ide_types.specs.declared.status.StreamStatus.{StreamStatus}
use Rattle.ide_types.specs.declared.line.LineKind.{LineKind}
use Rattle.ide_types.specs.declared.line.LineKind.TheVariants.{Link, Hop, Peer}
use Rattle.ide_types.specs.Lines.{is_near_hop_line, is_far_hop_line}
use Rattle.ide_types.specs.declared.sub.FailCause.TheVariants as fail
use Rattle.ide_types.specs.declared.fault_word.FaultWord.TheVariants as fault
use Rattle.ide_types.specs.declared.status.StreamStatus.TheVariants as status

-- the bytes of a text
abbrev pub Text : Type 0
Text = List ℕ

-- a space, or a printed character of ASCII
abbrev pub is_printable : ℕ → Bool
is_printable b = nat_le 32 b && nat_le b 126

-- words, each after a space, and a line feed
abbrev pub joined_words : List Text → Text
joined_words [] = 10 ∷ []
joined_words (w ∷ ws) = 32 ∷ (w ++ joined_words ws)

abbrev pub side_word : Side → Text
side_word Host = codes "h"
side_word Device = codes "d"

-- A port is named as an end: at a host or a device h or d and its link, at a switch u or w and its link. The other ends
-- are at ports that have names already.
abbrev pub port_word : PortName → Text
port_word p =
    if is_near_hop_line p.line then codes "u" ++ decimal (p.line - 8)
    else if is_far_hop_line p.line then codes "w" ++ decimal (p.line - 16)
    else side_word p.side ++ decimal p.line

-- the letter before the word of an operation on a stream of such a line
abbrev pub kind_word : LineKind → Text
kind_word Link = []
kind_word Hop = codes "h"
kind_word Peer = codes "p"

abbrev pub substream_word : SubKind → Text
substream_word Pr = codes "pr"
substream_word Npr = codes "npr"
substream_word Cpl = codes "cpl"

abbrev pub fail_word : FailCause → Text
fail_word fail.Key = codes "key"
fail_word fail.Unit = codes "unit"
fail_word fail.Tag = codes "tag"
fail_word fail.Order = codes "order"

abbrev pub status_word : StreamStatus → Text
status_word status.Idle = codes "idle"
status_word status.Partial = codes "partial"
status_word status.Secure = codes "secure"
status_word status.Insecure = codes "insecure"

abbrev pub fault_word : FaultWord → Text
fault_word fault.Short = codes "short"
fault_word fault.Reserved = codes "reserved"
fault_word fault.SubStream = codes "substream"
fault_word fault.Class = codes "class"
fault_word fault.Kind = codes "kind"
fault_word fault.Bit = codes "bit"
fault_word fault.Length = codes "length"
fault_word fault.Sync = codes "sync"
fault_word fault.Trailing = codes "trailing"
