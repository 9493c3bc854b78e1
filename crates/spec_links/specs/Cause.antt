-- Each verdict of a history is the one that is due after the pairs before it.
use Rattle.std.specs.Prelude.{◌∷◌, ◌≡◌, List, [], map}
use Rattle.spec_links.specs.Terms.{Plan, Event, Verdict, History}
use Rattle.spec_links.specs.Due.{due}

abbrev pub CauseLaw : Plan → History → Type 0
CauseLaw plan [] = Unit {0}
CauseLaw plan ((event, verdict) ∷ h) = (verdict ≡ due plan h event) × CauseLaw plan h

abbrev pub events_of : History → List Event
events_of h = map (λ (x : Event × Verdict). x.0) h

-- The events fix each verdict.
abbrev pub OneHistory : Type 0
OneHistory = (plan : Plan) (g h : History) → CauseLaw plan g → CauseLaw plan h → events_of g ≡ events_of h → g ≡ h
