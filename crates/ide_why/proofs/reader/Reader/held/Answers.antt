use Rattle.std.proofs.Common.{sym, ◌∙◌}
use Rattle.ide_why.proofs.Held.{held_none, held_some}
use Rattle.ide_why.proofs.reader.Reader.held.Goals as goal

pub returns-in-None : goal.returns-in-None
returns-in-None c =
    c.none.ensures
    ∙ held_none c.args.self.now.plan.now c.args.self.now.links.now c.requires.links c.args.end c.args.stream c.args.sub
    c.args.k (sym c.in-None.ensures)

pub returns-in-Some : goal.returns-in-Some
returns-in-Some c =
    c.held.ensures
    ∙ held_some c.args.self.now.plan.now c.args.self.now.links.now c.requires.links c.args.end c.args.stream c.args.sub
    c.args.k c.in-Some.port.now (sym c.in-Some.ensures)
