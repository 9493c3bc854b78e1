-- All that the laws use of draws holds.
use Rattle.spec_links.proofs.Terms.{DrawFacts, Plan}
use Rattle.law_key_facts.proofs.RealFacts.{apart}
use Rattle.law_key_facts.proofs.AllFacts.{from_base}
use Rattle.law_key_facts.proofs.Unplanned.{known}
use Rattle.law_key_facts.proofs.SealedKeys.{own_set, base_fresh}
use Rattle.law_key_facts.proofs.SealedOrder.{above_got, rises, since_base}
use Rattle.law_key_facts.proofs.Fresh.{fresh}
use Rattle.law_key_facts.proofs.Ended.{ended}

pub draws : (plan : Plan) → DrawFacts plan
draws plan = record {
  from_base = λ h law port s k j on. from_base plan h law port s k j on;
  apart = λ h law port s i j first second. apart plan h law port s i j first second;
  fresh = λ h e w law port stream u key live. fresh plan h e w law port stream u key live;
  base_fresh = λ h e w law line stream. base_fresh plan h e w law line stream;
  known = λ h law port s k j on. known plan h law port s k j on;
  own_set = λ h law i x is port k on. own_set plan h law i x is port k on;
  above_got = λ h law port stream u k j on. above_got plan h law port stream u k j on;
  rises = λ h law. rises plan h law;
  since_base = λ h law s. since_base plan h law s;
  ended = λ h law port stream u k j i place x on at under up less. ended plan h law port stream u k j i place x on at
      under up less;
}
