use Rattle.std.proofs.Common.{ℕ, ap, ◌∙◌}
use Rattle.std.specs.Prelude.{Option}
use Rattle.whole_links.specs.Besides.{reply_numbered}
use Rattle.whole_links.proofs.whole.WholeLinks.host_reply.Goals as goal

pub returns-in-None-clause-due : goal.returns-in-None-clause-due
returns-in-None-clause-due c = λ l is.
    let s = c.args.self.now.links in
    ap (λ (o : Option ℕ). reply_numbered s.keeper.interfaces l c.args.link s.trusted.contents c.args.waiting.now o)
    c.in-None.ensures

pub returns-in-Some-clause-due : goal.returns-in-Some-clause-due
returns-in-Some-clause-due c = λ l is.
    let s = c.args.self.now.links in
    c.granted.ensures.due l is
    ∙ ap (λ (o : Option ℕ). reply_numbered s.keeper.interfaces l c.args.link s.trusted.contents c.args.waiting.now o)
    c.in-Some.ensures
