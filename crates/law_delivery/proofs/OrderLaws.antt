-- The law of the order between sub-streams.
use Rattle.law_delivery.specs.LocalLaws.{LocalOrderLawHolds}
use Rattle.law_sealing.proofs.{draws}
use Rattle.law_sealing.proofs.OfPlans.{streams_fit}
use Rattle.law_delivery.proofs.Ordering.{order_law as ordered}

pub order_law : LocalOrderLawHolds
order_law plan fits h cause totals = ordered plan (streams_fit plan fits) (draws plan) h cause totals
