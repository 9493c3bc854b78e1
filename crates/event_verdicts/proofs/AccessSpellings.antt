-- No word of the line of a trusted read or of guarded memory has a space in it.
use Rattle.std.proofs.Common.{rules}
use Rattle.event_verdicts.specs.Terms.{BlockCause, NotTrusted, NotRunning, WrongStream, Stale, Outside, Crosses, Full}
use Rattle.event_verdicts.specs.Terms.{Moved, AccessVerdict}
use Rattle.event_verdicts.specs.Terms.av
use Rattle.event_verdicts.specs.Words.{block_word}
use Rattle.event_verdicts.specs.AccessLines.{access_words, FitsAccessVerdict}
use Rattle.event_verdicts.proofs.Joins.{IsWord, AreWords}
use Rattle.event_verdicts.proofs.WordSpellings.{decimal_word, bytes_are_word}

pub block_is_word : (c : BlockCause) → IsWord (block_word c)
block_is_word NotTrusted = search rules
block_is_word NotRunning = search rules
block_is_word WrongStream = search rules
block_is_word Stale = search rules
block_is_word Outside = search rules
block_is_word Crosses = search rules
block_is_word Full = search rules
block_is_word Moved = search rules

pub access_is_words : (x : AccessVerdict) → FitsAccessVerdict x → AreWords (access_words x)
access_is_words (av.Empty l) h = let a = decimal_word l h in search rules
access_is_words (av.Dropped i c) h = let a = decimal_word i h in let b = block_is_word c in search rules
access_is_words (av.Mmio bs) h = let a = bytes_are_word bs h in search rules
