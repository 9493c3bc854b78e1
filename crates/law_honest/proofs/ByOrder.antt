-- Everything that arrives behind the posted packets that were sealed before it is taken: its posted counts are met.
use Rattle.law_sealing.proofs.Terms.{◌≡◌, ℕ, ◌∷◌, ◌++◌, ◌==◌, true, [], inl, inr, cases_eq, eq-eqb}
use Rattle.law_sealing.proofs.Terms.{List, or_left, sub_bits, Plan, History, SubStream, PortName, Event, Verdict}
use Rattle.law_sealing.proofs.Terms.{Packet, pending_packets, meets_counts, CauseLaw, DrawFacts, StreamsFit}
use Rattle.law_sealing.proofs.Terms.{ArrivesInOrder}
use Rattle.law_sealing.proofs.{draws}
use Rattle.law_sealing.proofs.OfPlans.{streams_fit}
use Rattle.law_delivery.proofs.Wholes.{whole_law_holds}
use Rattle.law_delivery.proofs.Unforged.{in_order_not_forged}
use Rattle.law_honest.specs.ByOrder.{ArrivesBehindPosted, TakesBehindPosted, WholeLawByOrder}
use Rattle.law_honest.specs.Statements.{WholeLawByOrderHolds}
use Rattle.law_honest.proofs.PostedCounts.{at, met}

-- a posted packet has no count to meet
posted_met : (plan : Plan) (h : History) (s : SubStream) (unit : List Packet) → sub_bits s.sub ≡ 0
    → meets_counts plan h s unit ≡ true
unfolding meets_counts
posted_met plan h s unit posted = or_left (sub_bits s.sub == 0) _ (eq-eqb _ 0 posted)

in_order : (plan : Plan) → DrawFacts plan → (h : History) → CauseLaw plan h → (e : Event) (s : SubStream) (j m : ℕ)
    (port : PortName) (p : Packet) → ArrivesBehindPosted plan h e s j m port p → ArrivesInOrder plan h e s j m port p
in_order plan facts h cause e s j m port p is = record {
  receiver = is.receiver;
  sealed = is.sealed;
  unchanged = is.unchanged;
  in_order = is.in_order;
  live = is.live;
  alone = is.alone;
  secure = is.secure;
  counts = λ last. elim (cases_eq (sub_bits s.sub) 0) [
    | inl posted ↦ posted_met plan h s (pending_packets plan h s j ++ p ∷ []) posted
    | inr other ↦
        met plan facts h cause s j m p is.sealed port is.receiver is.live is.in_order other
        (is.posted last other _ (at plan facts h cause s j m p is.sealed port is.receiver is.live is.in_order))
        (is.smaller last other)
  ];
  older = is.older;
}

pub takes : (plan : Plan) → StreamsFit plan → DrawFacts plan → (h : History) (e : Event) (w : Verdict)
    → CauseLaw plan ((e, w) ∷ h) → TakesBehindPosted plan h e w
takes plan fits facts h e w cause s j m port p is =
    let arrives = in_order plan facts h cause.1 e s j m port p is in (
      (whole_law_holds plan fits facts ((e, w) ∷ h) cause).0 s j m port p arrives,
      in_order_not_forged plan fits facts h cause.1 e s j m port p arrives,
    )

by_order : (plan : Plan) → StreamsFit plan → DrawFacts plan → (h : History) → CauseLaw plan h → WholeLawByOrder plan h
by_order plan fits facts [] cause = tt
by_order plan fits facts ((e, w) ∷ h) cause =
    (takes plan fits facts h e w cause, by_order plan fits facts h cause.1)

pub whole_law_by_order : WholeLawByOrderHolds
whole_law_by_order plan fits h cause = by_order plan (streams_fit plan fits) (draws plan) h cause
