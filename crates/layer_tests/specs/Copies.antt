-- Lines that are written again.
use Rattle.std.specs.Prelude.{ℕ, ◌≡◌, nat_lt, Bool, true, false, [], ◌∷◌, ◌++◌, length, Result, Ok, Err, IfOk, refl}
use Rattle.std.specs.Prelude.{if◌then◌else◌}
use Rattle.std.proofs.Common.{inr}
use Rattle.script_events.specs.declared.fault.LineFault.{LineFault}
use Rattle.script_events.specs.declared.fault.LineFault.TheVariants.{TooLong}
use Rattle.script_events.specs.Words.{line_limit}
use Rattle.file_runs.specs.Gain.{Text}
use Rattle.file_runs.specs.Outcome.{IsWholeLines}

abbrev pub copied_line : {S : Type 0} → S → ℕ → Text → Result (S × Text) LineFault
copied_line s n line = if nat_lt line_limit (length line) then Err TooLong else Ok (s, line ++ 10 ∷ [])

pub long_copy : {S : Type 0} (s : S) (n : ℕ) (line : Text) → nat_lt line_limit (length line) ≡ true
    → copied_line s n line ≡ Err TooLong
long_copy s n line long = rw long refl

pub whole_copy : {S : Type 0} (s : S) (n : ℕ) (line : Text) → IfOk (copied_line s n line) (λ came. IsWholeLines came.1)
whole_copy {S} s n line = by_test (nat_lt line_limit (length line))
  where
    by_test : (b : Bool)
        → IfOk {T = S × Text} (if b then Err TooLong else Ok (s, line ++ 10 ∷ [])) (λ came. IsWholeLines came.1)
    by_test true = tt
    by_test false = inr (line, refl)
