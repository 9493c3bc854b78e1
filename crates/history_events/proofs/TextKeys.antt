-- Keys of 32 bytes, as lists of them and by recursion.
use Rattle.std.proofs.Common.{◌≡◌, ◌≢◌, ℕ, suc, ◌<◌, List, [], ◌∷◌, length, arith, get_or}
use Rattle.std.specs.List.{All, AllByRecursion, AllPairs}
use Rattle.std.proofs.lemmas.List.Elements.{All-head, All-tail, recursion_from_All}
use Rattle.ide_types.specs.Fits.{IsKey}

pub record Key (key : List ℕ) : Type 0 where
  pub long : length key ≡ 32
  pub bytes : AllByRecursion (λ b. b < 256) key

abbrev pub Keys : List (List ℕ) → Type 0
Keys [] = Unit {0}
Keys (k ∷ ks) = Key k × Keys ks

pub keys_of : (ks : List (List ℕ)) → All IsKey ks → Keys ks
keys_of [] all = tt
keys_of (k ∷ ks) all =
    let first = All-head IsKey k ks all in (
      record { long = first.0; bytes = recursion_from_All (λ b. b < 256) k first.1 },
      keys_of ks (All-tail IsKey k ks all),
    )

-- a key is none of those after it
abbrev pub Apart : List ℕ → List (List ℕ) → Type 0
Apart k [] = Unit {0}
Apart k (other ∷ ks) = (k ≢ other) × Apart k ks

abbrev pub Differ : List (List ℕ) → Type 0
Differ [] = Unit {0}
Differ (k ∷ ks) = Apart k ks × Differ ks

apart_of : (k : List ℕ) (ks : List (List ℕ)) → ((j : ℕ) (d : List ℕ) → j < length ks → k ≢ get_or ks j d) → Apart k ks
apart_of k [] each = tt
apart_of k (other ∷ ks) each =
    (each 0 other (omega arith), apart_of k ks (λ j d lt. each (suc j) d (omega (arith, lt))))

pub differ_of : (ks : List (List ℕ)) → AllPairs (λ key other. key ≢ other) ks → Differ ks
differ_of [] all = tt
differ_of (k ∷ ks) all = (
  apart_of k ks (λ j d lt. all 0 (suc j) d (omega arith) (omega (arith, lt))),
  differ_of ks (λ i j d lt below. all (suc i) (suc j) d (omega (arith, lt)) (omega (arith, below))),
)
