-- Two histories of the same events that each obey the cause law are equal.
use Rattle.spec_links.proofs.Terms.{List, [], sym, ◌∙◌, ◌∷◌, ◌≡◌, OneHistory, events_of, due, Event}

same_head : (e f : Event) (es fs : List Event) → (e ∷ es) ≡ (f ∷ fs) → (e ≡ f) × (es ≡ fs)
same_head e f es fs is = (cc, cc)

pub one_history : OneHistory
one_history plan [] [] cause other is = λ i. []
one_history plan [] (y ∷ h) cause other is = absurd cc
one_history plan (x ∷ g) [] cause other is = absurd cc
one_history plan ((e, v) ∷ g) ((f, w) ∷ h) cause other is =
    let events = same_head e f (events_of g) (events_of h) is in
    let before = one_history plan g h cause.1 other.1 events.1 in
    let verdicts : v ≡ w = cause.0 ∙ ((λ i. due plan (before i) (events.0 i)) ∙ sym other.0) in
    λ i. (events.0 i, verdicts i) ∷ before i
