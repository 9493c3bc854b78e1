-- The names that a shelf of the system's files notes.
use Rattle.std.specs.Prelude.{ℕ, ◌≡◌, List, [], ◌∷◌, ◌++◌, Result, Ok, Err}

-- a name was noted behind the earlier ones, or nothing changed
abbrev pub IsNoted : {A E : Type 0} → List ℕ → (before now : List (List ℕ)) → Result A E → Type 0
IsNoted name before now (Ok x) = now ≡ before ++ name ∷ []
IsNoted name before now (Err e) = now ≡ before
