-- What holds at each front of a history: after each of its first pairs, and at each pair.
use Rattle.std.specs.Prelude.{[], ◌∷◌}
use Rattle.spec_keys.specs.History.{History}
use Rattle.script_events.specs.declared.event.Event.{Event}
use Rattle.event_verdicts.specs.declared.verdict.Verdict.{Verdict}

-- after so many of its pairs as one likes, from none to all
abbrev pub AtEach : (History → Type 0) → History → Type 0
AtEach P [] = P []
AtEach P (pair ∷ h) = P (pair ∷ h) × AtEach P h

-- at each pair, by the pairs before it
abbrev pub AtPairs : (History → Event → Verdict → Type 0) → History → Type 0
AtPairs P [] = Unit {0}
AtPairs P ((e, w) ∷ h) = P h e w × AtPairs P h
