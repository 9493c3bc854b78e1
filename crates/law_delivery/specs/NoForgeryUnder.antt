-- That no tag was forged of one sub-stream under one draw, whatever verified of others.
use Rattle.std.specs.Prelude.{◌∷◌, ◌≡◌, ◌≤◌, Ok, Some, [], true, ℕ}
use Rattle.spec_links.specs.Terms.{Plan, Event, Verdict, Accepted, History}
use Rattle.spec_links.specs.Plan.{SubStream}
use Rattle.spec_links.specs.History.{ArrivedBytes, arrival_of_event, received_in}
use Rattle.spec_links.specs.Due.{Ending, before_tag, is_verified}
use Rattle.spec_links.specs.Laws.{WasSealed}

-- A tag of the sub-stream under the draw that verifies at this event was made by the partner.
abbrev pub NotForgedUnder : Plan → History → Event → SubStream → ℕ → Type 0
NotForgedUnder plan h e s j =
    (a : ArrivedBytes) (x : Ending) → arrival_of_event plan h e ≡ Some a → before_tag plan h a ≡ Ok x
    → received_in a.port x.unit ≡ s → x.unit.draw ≡ j → is_verified plan h a.port x ≡ true
    → WasSealed plan h a.port x

-- No tag of the sub-stream under the draw verified on a unit that its partner had not sealed.
abbrev pub NoForgeryUnder : Plan → History → SubStream → ℕ → Type 0
NoForgeryUnder plan [] s j = Unit {0}
NoForgeryUnder plan ((event, verdict) ∷ h) s j = NotForgedUnder plan h event s j × NoForgeryUnder plan h s j

-- nor under any draw from this one on
abbrev pub NoForgeryFrom : Plan → History → SubStream → ℕ → Type 0
NoForgeryFrom plan h s from = (j : ℕ) → from ≤ j → NoForgeryUnder plan h s j

-- If a unit is accepted here, no tag of its sub-stream under its draw was forged so far, its own included.
abbrev pub UnitIsUnforged : Plan → History → Event → Verdict → Type 0
UnitIsUnforged plan h e (Accepted port unit effects) =
    NoForgeryUnder plan ((e, Accepted port unit effects) ∷ h) (received_in port unit) unit.draw
UnitIsUnforged plan h e w = Unit {0}

-- what is said of a pair and the history before it
abbrev pub OfPair : Type 1
OfPair = Plan → History → Event → Verdict → Type 0

-- of each pair the one holds if the other does
abbrev pub EachPairIf : OfPair → OfPair → Plan → History → Type 0
EachPairIf premise says plan [] = Unit {0}
EachPairIf premise says plan ((e, w) ∷ h) = (premise plan h e w → says plan h e w) × EachPairIf premise says plan h
