use Rattle.std.proofs.Common.{refl}
use Rattle.whole_links.proofs.Ends.{ends_as}
use Rattle.whole_links.proofs.whole.WholeLinks.operate.Goals as goal

pub returns-clause-ends : goal.returns-clause-ends
returns-clause-ends c = λ plan.
    ends_as plan c.operate.result c.args.self.now _ _ (c.operate.ensures.ends plan) c.requires.bounded.whole refl
