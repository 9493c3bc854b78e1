-- The laws of what is delivered.
use Rattle.law_delivery.specs.Statements.{WholeLawHolds, OrderIsNoForgeryHolds, DrawsNeverFallHolds}
use Rattle.law_delivery.specs.LocalLaws.{LocalPrefixLawHolds, LocalDeliveryLawHolds}
use Rattle.law_sealing.proofs.{draws}
use Rattle.law_sealing.proofs.OfPlans.{streams_fit}
use Rattle.law_delivery.proofs.Closed.{closed_law}
use Rattle.law_delivery.proofs.Orders.{draws_never_fall as never_fall}
use Rattle.law_delivery.proofs.Prefixes.{got_begins}
use Rattle.law_delivery.proofs.Deliveries.{delivery_law as delivers}
use Rattle.law_delivery.proofs.Wholes.{whole_law_holds as takes_whole}
use Rattle.law_delivery.proofs.Unforged.{order_is_no_forgery as unforged}

pub prefix_law : LocalPrefixLawHolds
prefix_law plan fits h cause totals = record {
  prefix = got_begins plan (streams_fit plan fits) (draws plan) h cause;
  older = closed_law plan (streams_fit plan fits) (draws plan) h cause totals;
}

pub delivery_law : LocalDeliveryLawHolds
delivery_law plan fits h cause = delivers plan (streams_fit plan fits) (draws plan) h cause

pub whole_law : WholeLawHolds
whole_law plan fits h cause = takes_whole plan (streams_fit plan fits) (draws plan) h cause

pub order_is_no_forgery : OrderIsNoForgeryHolds
order_is_no_forgery plan fits h cause = unforged plan (streams_fit plan fits) (draws plan) h cause

pub draws_never_fall : DrawsNeverFallHolds
draws_never_fall plan h cause = never_fall plan (draws plan) h cause
