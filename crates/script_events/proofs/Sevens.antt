-- No event has more than six words, so the first seven tell what all do.
use Rattle.std.proofs.Common.{◌≡◌, List, [], ◌∷◌, Some, Result, Ok, Err, length, take, refl, arith}
use Rattle.std.proofs.lemmas.Bool.{lt-ltb}
use Rattle.ide_types.specs.Names.{Text}
use Rattle.script_events.specs.Terms.{ScriptEvent, LineFault, LineError}
use Rattle.script_events.specs.Parse.{◌>>=◌, event_in, begins_bytes, line_answer}

pub seven_words : (ws : List Text) → event_in (take 7 ws) ≡ event_in ws
seven_words [] = refl
seven_words (a ∷ []) = refl
seven_words (a ∷ b ∷ []) = refl
seven_words (a ∷ b ∷ c ∷ []) = refl
seven_words (a ∷ b ∷ c ∷ d ∷ []) = refl
seven_words (a ∷ b ∷ c ∷ d ∷ e ∷ []) = refl
seven_words (a ∷ b ∷ c ∷ d ∷ e ∷ f ∷ []) = refl
seven_words (a ∷ b ∷ c ∷ d ∷ e ∷ f ∷ g ∷ ws) = rw
    (lt-ltb 2 (length (d ∷ e ∷ f ∷ g ∷ ws)) (omega arith), lt-ltb 1 (length (e ∷ f ∷ g ∷ ws)) (omega arith)) refl

pub seven_bytes : (ws : List Text) → begins_bytes (take 7 ws) ≡ begins_bytes ws
seven_bytes [] = refl
seven_bytes (a ∷ ws) = refl

-- an error of the event is the line's
pub same_error : (r : Result ScriptEvent LineFault) (e : LineError)
    → ◌≡◌ {A = Result ScriptEvent LineError} (Err e) (line_answer r)
    → ◌≡◌ (Err e) (line_answer (r >>= λ x. Ok (Some x)))
same_error (Ok x) e h = absurd (let never : ⊥ = cc in never)
same_error (Err f) e h = let same : e ≡ _ = cc in rw same refl
