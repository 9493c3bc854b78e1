-- The laws of what is delivered, each supposing that no tag was forged of just the sub-streams and draws it speaks of.
use Rattle.std.specs.Prelude.{◌≡◌, ◌∷◌, Ok, Some, ℕ}
use Rattle.ide_types.specs.Fits.{FitsPlan}
use Rattle.spec_links.specs.Terms.{Plan, Event, Verdict, Accepted, History, base}
use Rattle.spec_links.specs.Plan.{SubStream}
use Rattle.spec_links.specs.Cause.{CauseLaw}
use Rattle.spec_links.specs.History.{ArrivedBytes, arrival_of_event, sent_packets, accepted_packets, received_in}
use Rattle.spec_links.specs.History.{posted_lane}
use Rattle.spec_links.specs.Due.{Ending, before_tag}
use Rattle.spec_links.specs.Laws.{IsPrefixOf, NoForgery, OlderFirst, TotalsFit}
use Rattle.spec_links.specs.Delivered.{tlps_got, tlps_sent}
use Rattle.spec_links.specs.Ordered.{BehindPosted}
use Rattle.law_delivery.specs.NoForgeryUnder.{NotForgedUnder, NoForgeryUnder, NoForgeryFrom, EachPairIf}

-- No tag was forged anywhere exactly if none was of any sub-stream under any draw.
pub record IsOfEach (plan : Plan) (h : History) : Type 0 where
  pub of_each : NoForgery plan h → (s : SubStream) (j : ℕ) → NoForgeryUnder plan h s j
  pub of_all : ((s : SubStream) (j : ℕ) → NoForgeryUnder plan h s j) → NoForgery plan h
  -- a tag that is looked at can be forged of its own sub-stream and draw alone
  pub of_one : (e : Event) (a : ArrivedBytes) (x : Ending) → arrival_of_event plan h e ≡ Some a
      → before_tag plan h a ≡ Ok x → (s : SubStream) (j : ℕ)
      → (received_in a.port x.unit ≡ s → x.unit.draw ≡ j → ⊥) → NotForgedUnder plan h e s j

-- A sub-stream delivered under a draw a prefix of the TLPs that were sent in it, if no tag of it was forged under this
-- draw.
abbrev pub LocalDeliveryLaw : Plan → History → Type 0
LocalDeliveryLaw plan h =
    (s : SubStream) (j : ℕ) → NoForgeryUnder plan h s j → IsPrefixOf (tlps_got plan h s j) (tlps_sent plan h s j)

-- if a unit is accepted here, no tag of its sub-stream was forged under a draw from Base on
abbrev pub IsUnforgedFromBase : Plan → History → Event → Verdict → Type 0
IsUnforgedFromBase plan h e (Accepted port unit effects) =
    NoForgeryFrom plan ((e, Accepted port unit effects) ∷ h) (received_in port unit) (base h port.line unit.stream)
IsUnforgedFromBase plan h e w = Unit {0}

-- nor of the posted one of its direction
abbrev pub IsPostedUnforged : Plan → History → Event → Verdict → Type 0
IsPostedUnforged plan h e (Accepted port unit effects) =
    NoForgeryFrom plan ((e, Accepted port unit effects) ∷ h) (posted_lane (received_in port unit))
    (base h port.line unit.stream)
IsPostedUnforged plan h e w = Unit {0}

abbrev pub ComesAfterOlder : Plan → History → Event → Verdict → Type 0
ComesAfterOlder plan h e w = OlderFirst plan h w

-- A unit is accepted on a closed stream after all of the smaller draws from Base on, if no tag of its sub-stream was
-- forged under a draw from Base on.
abbrev pub LocalClosedLaw : Plan → History → Type 0
LocalClosedLaw plan h = EachPairIf IsUnforgedFromBase ComesAfterOlder plan h

-- A sub-stream got under a draw a prefix of what was sealed, if no tag of it was forged under this draw.
pub record LocalPrefixLaw (plan : Plan) (h : History) : Type 0 where
  pub prefix : (s : SubStream) (j : ℕ) → NoForgeryUnder plan h s j
      → IsPrefixOf (accepted_packets plan h s j) (sent_packets plan h s j)
  pub older : LocalClosedLaw plan h

-- A non-posted packet or a completion is accepted after the posted packets that were sealed before it, if no tag of its
-- sub-stream and of the posted one was forged under a draw from Base on.
abbrev pub LocalOrderLaw : Plan → History → Type 0
LocalOrderLaw plan h =
    EachPairIf (λ plan h e w. IsUnforgedFromBase plan h e w × IsPostedUnforged plan h e w) BehindPosted plan h

abbrev pub NoForgeryIsOfEach : Type 0
NoForgeryIsOfEach = (plan : Plan) (h : History) → IsOfEach plan h

abbrev pub LocalPrefixLawHolds : Type 0
LocalPrefixLawHolds =
    (plan : Plan) → FitsPlan plan → (h : History) → CauseLaw plan h → TotalsFit plan h → LocalPrefixLaw plan h

abbrev pub LocalDeliveryLawHolds : Type 0
LocalDeliveryLawHolds = (plan : Plan) → FitsPlan plan → (h : History) → CauseLaw plan h → LocalDeliveryLaw plan h

abbrev pub LocalOrderLawHolds : Type 0
LocalOrderLawHolds =
    (plan : Plan) → FitsPlan plan → (h : History) → CauseLaw plan h → TotalsFit plan h → LocalOrderLaw plan h
