use Rattle.law_delivery.proofs.EachForgery.{no_forgery_is_of_each as holds}
use Rattle.law_delivery.proofs.laws.no_forgery_is_of_each.Goals as goal

pub returns : goal.returns
returns c = holds
