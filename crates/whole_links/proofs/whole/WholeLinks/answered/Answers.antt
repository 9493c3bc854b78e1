use Rattle.std.proofs.Common.{sym, refl}
use Rattle.all_links.proofs.BesideAfter.{keeps_all}
use Rattle.whole_links.proofs.Answers.{answer_only}
use Rattle.whole_links.proofs.whole.WholeLinks.answered.Goals as goal

pub returns-in-Err-clause-ends : goal.returns-in-Err-clause-ends
returns-in-Err-clause-ends c = answer_only c.args.plan.now c.args.side c.args.link (sym c.in-Err.ensures.due)
    c.only.ensures.value c.only.ensures.links refl c.requires.bounded

pub returns-in-Err-clause-sides : goal.returns-in-Err-clause-sides
returns-in-Err-clause-sides c = keeps_all c.only.ensures.links
