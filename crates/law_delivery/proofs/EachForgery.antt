-- What was forged nowhere was forged in no sub-stream under no draw, and the other way round.
use Rattle.law_sealing.proofs.Terms.{◌≡◌, ℕ, [], ◌∷◌, Option, Some, Result, Ok, Err, refl, ap, subst, ◌∙◌, Plan}
use Rattle.law_sealing.proofs.Terms.{Bool, true, false, arith, if◌then◌else◌, SubStream, PortName}
use Rattle.law_sealing.proofs.Terms.{History, received_in, CauseLaw, Event, Verdict, NoForgery}
use Rattle.law_sealing.proofs.Terms.{ArrivedBytes, Ending, arrival_of_event}
unfoldable use Rattle.law_sealing.proofs.Terms.{before_tag}
use Rattle.law_delivery.specs.NoForgeryUnder.{NotForgedUnder, NoForgeryUnder, OfPair, EachPairIf}
use Rattle.law_delivery.specs.LocalLaws.{NoForgeryIsOfEach}
use Rattle.spec_links.specs.Terms.{CutValue, PacketFault, IdePacket, PlainTlp, cut_of}
use Rattle.spec_links.specs.Due.{before_tag_of_cut, through_due}
unfoldable use Rattle.spec_links.specs.Ports.{goes_through}
use Rattle.spec_links.proofs.Causes.{Passed}

pub of_each : (plan : Plan) (h : History) → NoForgery plan h → (s : SubStream) (j : ℕ) → NoForgeryUnder plan h s j
of_each plan [] none s j = tt
of_each plan ((e, w) ∷ h) none s j = (λ a x is before stream draw. none.0 a x is before, of_each plan h none.1 s j)

of_all : (plan : Plan) (h : History) → ((s : SubStream) (j : ℕ) → NoForgeryUnder plan h s j) → NoForgery plan h
of_all plan [] each = tt
of_all plan ((e, w) ∷ h) each = (
  λ a x is before. (each (received_in a.port x.unit) x.unit.draw).0 a x is before refl refl,
  of_all plan h (λ s j. (each s j).1),
)

-- an event brings bytes to one port, and they end one unit at most
one_arrival : (o : Option ArrivedBytes) (a b : ArrivedBytes) → o ≡ Some a → o ≡ Some b → a ≡ b
one_arrival o a b is also = cc

one_ending : (r : Result Ending Verdict) (x y : Ending) → r ≡ Ok x → r ≡ Ok y → x ≡ y
one_ending r x y is also = cc

of_one : (plan : Plan) (h : History) (e : Event) (a : ArrivedBytes) (x : Ending) → arrival_of_event plan h e ≡ Some a
    → before_tag plan h a ≡ Ok x → (s : SubStream) (j : ℕ)
    → (received_in a.port x.unit ≡ s → x.unit.draw ≡ j → ⊥) → NotForgedUnder plan h e s j
of_one plan h e a x is before s j other b y also passed stream draw verified =
    let bytes = one_arrival (arrival_of_event plan h e) a b is also in
    let ending = one_ending (before_tag plan h b) x y
    (subst (λ (c : ArrivedBytes). before_tag plan h c ≡ Ok x) bytes before) passed in
    absurd (other ((λ i. received_in (bytes i).port (ending i).unit) ∙ stream)
    (ap (λ (z : Ending). z.unit.draw) ending ∙ draw))

pub no_forgery_is_of_each : NoForgeryIsOfEach
no_forgery_is_of_each plan h = record { of_each = of_each plan h; of_all = of_all plan h; of_one = of_one plan h }

-- ---- of each pair

-- what is known of one pair holds of each
pub of_pairs : (premise says : OfPair) (plan : Plan)
    → ((h : History) (e : Event) (w : Verdict) → CauseLaw plan ((e, w) ∷ h) → premise plan h e w → says plan h e w)
    → (h : History) → CauseLaw plan h → EachPairIf premise says plan h
of_pairs premise says plan known [] cause = tt
of_pairs premise says plan known ((e, w) ∷ h) cause = (known h e w cause, of_pairs premise says plan known h cause.1)

-- ---- of a packet whose tag is looked at

passed_before : (plan : Plan) (h : History) (port : PortName) (r : Result CutValue PacketFault) (x : Ending)
    → before_tag_of_cut plan h port r ≡ Ok x → Passed plan h port x.packet x.unit
passed_before plan h port (Err f) x is = absurd cc
passed_before plan h port (Ok PlainTlp) x is = absurd cc
passed_before plan h port (Ok (IdePacket p)) x is = record {
  known = grind arith;
  secure = grind arith;
  live = grind arith;
  alone = grind arith;
  room = grind arith;
  named = grind arith;
}

pub passed_of : (plan : Plan) (h : History) (a : ArrivedBytes) (x : Ending) → before_tag plan h a ≡ Ok x
    → Passed plan h a.port x.packet x.unit
unfolding before_tag
passed_of plan h a x is = by_test (goes_through plan a.port a.bytes) is
  where
    by_test : (b : Bool) → (if b then Err (through_due plan a.port)
        else before_tag_of_cut plan h a.port (cut_of a.bytes)) ≡ Ok x → Passed plan h a.port x.packet x.unit
    by_test true is = absurd cc
    by_test false is = passed_before plan h a.port (cut_of a.bytes) x is
