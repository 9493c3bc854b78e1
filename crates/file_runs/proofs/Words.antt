-- A line of bytes has one word, so its first seven words tell what all of them do.
use Rattle.std.proofs.Common.{◌≡◌, List, [], ◌∷◌, take, refl}
use Rattle.ide_types.specs.Names.{Text}
use Rattle.file_runs.specs.Reading.{only_bytes}

pub seven_words : (ws : List Text) → only_bytes (take 7 ws) ≡ only_bytes ws
seven_words [] = refl
seven_words (a ∷ []) = refl
seven_words (a ∷ b ∷ ws) = refl
