-- Reading from left to right, for a grammar that two tests give: whether a prefix of a spelling wants more, and whether
-- a byte may follow it.
use Rattle.std.specs.Prelude.{ℕ, List, [], ◌∷◌, ◌++◌, length, Result, Ok, Err, ◌==◌, ◌&&◌, not, if◌then◌else◌, Bool}

-- after this prefix, how far the bytes go on
unfoldable pub walked_from : (List ℕ → Bool) → (List ℕ → ℕ → Bool) → List ℕ → List ℕ → ℕ
walked_from wants may_follow front [] = length front
walked_from wants may_follow front (b ∷ rest) =
    if wants front && may_follow front b then walked_from wants may_follow (front ++ b ∷ []) rest
    else length front

-- the length of the longest prefix each of whose bytes may follow, and was wanted by, those before it
unfoldable pub walk_length : (List ℕ → Bool) → (List ℕ → ℕ → Bool) → List ℕ → ℕ
walk_length wants may_follow bytes = walked_from wants may_follow [] bytes

-- the value of the bytes if they are a whole spelling, and else the cause at the place where they go off
unfoldable pub whole_reading : {V F : Type 0} → (List ℕ → Bool) → (List ℕ → ℕ → Bool) → (List ℕ → V) → (List ℕ → ℕ → F)
    → List ℕ → Result V F
whole_reading wants may_follow value cause bytes =
    if (walk_length wants may_follow bytes == length bytes) && not (wants bytes) then Ok (value bytes)
    else Err (cause bytes (walk_length wants may_follow bytes))
