-- There is always a last piece.
use Rattle.std.proofs.Common.{◌≡◌, ◌==◌, ℕ, List, [], ◌∷◌, Bool, true, false, cond, refl}
use Rattle.std.specs.List.{onto_first}
use Rattle.file_runs.specs.Pieces.{pieces}

abbrev pub ends_line : ℕ → Bool
ends_line b = b == 10

pub record HasFirst (parts : List (List ℕ)) : Type 0 where
  pub first : List ℕ
  pub rest : List (List ℕ)
  pub is : parts ≡ first ∷ rest

onto : (x : ℕ) (parts : List (List ℕ)) → HasFirst parts → HasFirst (onto_first x parts)
onto x parts s = record { first = x ∷ s.first; rest = s.rest; is = rw s.is refl }

some_step : (x : ℕ) (xs : List ℕ) (b : Bool) → HasFirst (pieces xs)
    → HasFirst (cond b ([] ∷ pieces xs) (onto_first x (pieces xs)))
some_step x xs true s = record { first = []; rest = pieces xs; is = refl }
some_step x xs false s = onto x (pieces xs) s

pub some : (bytes : List ℕ) → HasFirst (pieces bytes)
some [] = record { first = []; rest = []; is = refl }
some (x ∷ xs) = some_step x xs _ (some xs)
