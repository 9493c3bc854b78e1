-- What holds of each history that obeys the definitions holds at each of its fronts.
use Rattle.std.specs.Prelude.{[], ◌∷◌}
use Rattle.spec_keys.specs.History.{History}
use Rattle.spec_interfaces.specs.Terms.{Plan, Event, Verdict}
use Rattle.spec_links.specs.Cause.{CauseLaw}
use Rattle.law_locks.specs.Fronts.{AtEach, AtPairs}

pub at_each : (plan : Plan) (P : History → Type 0) → ((h : History) → CauseLaw plan h → P h) → (h : History)
    → CauseLaw plan h → AtEach P h
at_each plan P holds [] cause = holds [] cause
at_each plan P holds ((e, w) ∷ h) cause = (holds ((e, w) ∷ h) cause, at_each plan P holds h cause.1)

pub at_pairs : (P : History → Event → Verdict → Type 0) → ((h : History) (e : Event) (w : Verdict) → P h e w)
    → (h : History) → AtPairs P h
at_pairs P holds [] = tt
at_pairs P holds ((e, w) ∷ h) = (holds h e w, at_pairs P holds h)

pub pairs_due : (plan : Plan) (P : History → Event → Verdict → Type 0)
    → ((h : History) (e : Event) (w : Verdict) → CauseLaw plan ((e, w) ∷ h) → P h e w)
    → (h : History) → CauseLaw plan h → AtPairs P h
pairs_due plan P holds [] cause = tt
pairs_due plan P holds ((e, w) ∷ h) cause = (holds h e w cause, pairs_due plan P holds h cause.1)
