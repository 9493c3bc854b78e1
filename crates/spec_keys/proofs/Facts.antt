-- Facts on draws: their set, their stream, and their order.
use Rattle.spec_keys.proofs.Terms.{arith, KeyPlan, History, moments, KeyCauseLaw, KeyPlaceFacts}
use Rattle.spec_keys.proofs.Shapes.{used_bound, none_above_used}
use Rattle.spec_keys.proofs.Owners.{on_owned}
use Rattle.spec_keys.proofs.Whole.{fits}

-- ---- one set, one stream

pub key_facts : (plan : KeyPlan) (h : History) → KeyCauseLaw plan h → KeyPlaceFacts h
key_facts plan h cause = record {
  one_set = λ p q k l j one two. grind (arith, on_owned h p k j one, on_owned h q l j two);
  one_stream = λ p q k l j one two. grind (arith, on_owned h p k j one, on_owned h q l j two);
  none_above = λ p k j on. let at = fits plan h cause p in none_above_used (moments h p) j
      (used_bound p.sends (moments h p) at.shape k j at.is on);
  never_fall = λ p. (fits plan h cause p).below.falls;
}
