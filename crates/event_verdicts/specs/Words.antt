-- The words that stand for names, bytes and bits in verdict lines.
use Rattle.std.specs.Prelude.{ℕ, Bool, true, false, List, [], ◌∷◌, ◌++◌, codes}
use Rattle.hex.specs.Hex.{encode_lower}
use Rattle.ide_types.specs.Names.{Text}
use Rattle.event_verdicts.specs.Terms.{BlockCause, NotTrusted, NotRunning, WrongStream, Stale, Outside, Crosses, Full}
use Rattle.event_verdicts.specs.Terms.{Moved}
use Rattle.event_verdicts.specs.Terms.{Effect, Sync, Delivered, Applied, Queued, Stored, Waiting, Blocked, Operation}
use Rattle.event_verdicts.specs.Terms.operation

abbrev pub block_word : BlockCause → Text
block_word NotTrusted = codes "nottrusted"
block_word NotRunning = codes "notrunning"
block_word WrongStream = codes "wrongstream"
block_word Stale = codes "stale"
block_word Outside = codes "outside"
block_word Crosses = codes "crosses"
block_word Full = codes "full"
block_word Moved = codes "moved"

abbrev pub effect_word : Effect → Text
effect_word Sync = codes "sync"
effect_word Delivered = codes "delivered"
effect_word Applied = codes "applied"
effect_word Queued = codes "queued"
effect_word Stored = codes "stored"
effect_word Waiting = codes "waiting"
effect_word (Blocked cause) = codes "blocked:" ++ block_word cause

abbrev pub operation_word : Operation → Text
operation_word operation.Establish = codes "establish"
operation_word operation.Refresh = codes "refresh"
operation_word operation.Stop = codes "stop"

-- bytes in lower-case hexadecimal, or - for none
abbrev pub bytes_word : List ℕ → Text
bytes_word [] = codes "-"
bytes_word (b ∷ bs) = encode_lower (b ∷ bs)

abbrev pub bit_of : Bool → ℕ
bit_of false = 0
bit_of true = 1
