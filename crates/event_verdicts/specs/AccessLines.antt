-- The words of the verdicts of events on trusted reads and on guarded memory.
use Rattle.std.specs.Prelude.{◌<◌, ◌^◌, List, [], ◌∷◌, codes}
use Rattle.std.specs.Fmt.{decimal}
use Rattle.hex.specs.Hex.{IsBytes}
use Rattle.ide_types.specs.Names.{Text}
use Rattle.event_verdicts.specs.Terms.{AccessVerdict}
use Rattle.event_verdicts.specs.Terms.av
use Rattle.event_verdicts.specs.Words.{block_word, bytes_word}

abbrev pub access_words : AccessVerdict → List Text
access_words (av.Empty link) = codes "empty" ∷ decimal link ∷ []
access_words (av.Dropped interface cause) = codes "dropped" ∷ decimal interface ∷ block_word cause ∷ []
access_words (av.Mmio bytes) = codes "mmio" ∷ bytes_word bytes ∷ []

-- each number has at most 64 bits, and each byte 8
abbrev pub FitsAccessVerdict : AccessVerdict → Type 0
FitsAccessVerdict (av.Empty link) = link < 2 ^ 64
FitsAccessVerdict (av.Dropped interface cause) = interface < 2 ^ 64
FitsAccessVerdict (av.Mmio bytes) = IsBytes bytes
