-- The verdict of an event on a trusted read or on guarded memory is read from its words.
use Rattle.std.proofs.Common.{◌||◌, ◌≡◌, List, Bool, refl, codes}
use Rattle.std.specs.Prelude.{if◌then◌else◌}
use Rattle.std.specs.Str.{bytes_eq}
use Rattle.ide_types.specs.Names.{Text}
use Rattle.event_verdicts.specs.Terms.{BlockCause, NotTrusted, NotRunning, WrongStream, Stale, Outside, Crosses, Full}
use Rattle.event_verdicts.specs.Terms.{Moved, AccessVerdict}
use Rattle.event_verdicts.specs.Terms.av
use Rattle.event_verdicts.specs.Words.{block_word}
use Rattle.event_verdicts.proofs.WordReadings.{word_at, number, bytes}

abbrev pub block_named : Text → BlockCause
block_named w =
    if bytes_eq w (codes "nottrusted") then NotTrusted
    else if bytes_eq w (codes "notrunning") then NotRunning
    else if bytes_eq w (codes "wrongstream") then WrongStream
    else if bytes_eq w (codes "stale") then Stale
    else if bytes_eq w (codes "outside") then Outside
    else if bytes_eq w (codes "crosses") then Crosses
    else if bytes_eq w (codes "full") then Full
    else Moved

pub block_back : (c : BlockCause) → block_named (block_word c) ≡ c
block_back NotTrusted = refl
block_back NotRunning = refl
block_back WrongStream = refl
block_back Stale = refl
block_back Outside = refl
block_back Crosses = refl
block_back Full = refl
block_back Moved = refl

-- the first word of such a verdict
abbrev pub begins_access : Text → Bool
begins_access first =
    bytes_eq first (codes "empty") || bytes_eq first (codes "dropped") || bytes_eq first (codes "mmio")

abbrev pub access_by : Text → List Text → AccessVerdict
access_by first ws =
    if bytes_eq first (codes "empty") then av.Empty (number (word_at ws 0))
    else if bytes_eq first (codes "dropped") then av.Dropped (number (word_at ws 0)) (block_named (word_at ws 1))
    else av.Mmio (bytes (word_at ws 0))
