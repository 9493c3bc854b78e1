-- Draws that have gone from a place.
use Rattle.std.specs.Prelude.{◌≡◌, ℕ, Bool, not, List, [], ◌∷◌}
use Rattle.script_events.specs.declared.event.Event.{Event}
use Rattle.event_verdicts.specs.declared.verdict.Verdict.{Verdict}
use Rattle.spec_keys.specs.Places.{KeyPlace}
use Rattle.spec_keys.specs.Keys.{keys}
use Rattle.spec_keys.specs.History.{History, moments}
use Rattle.spec_keys.specs.Laws.{has_gone, is_kept_there}

-- Whether the draw has gone from the place, of a history in which it was On there: if so it is kept there no more, and
-- else it is.
abbrev pub IsGone : KeyPlace → ℕ → History → Bool → Type 0
IsGone p j h gone =
    (has_gone p.sends (moments h p) j ≡ gone) × (is_kept_there (keys p.sends (moments h p)) j ≡ not gone)

-- so it is after each pair of a list, at two places
abbrev pub AreGone : KeyPlace → KeyPlace → ℕ → History → List ((Event × Verdict) × Bool × Bool) → Type 0
AreGone p q j h [] = Unit {0}
AreGone p q j h ((pair, at_p, at_q) ∷ later) =
    IsGone p j (pair ∷ h) at_p × IsGone q j (pair ∷ h) at_q × AreGone p q j (pair ∷ h) later
