use Rattle.ide_why.proofs.Taken.{end_there}
use Rattle.ide_why.proofs.reader.Reader.taken.Goals as goal

pub returns-in-None : goal.returns-in-None
returns-in-None c = absurd (end_there c.args.self.now.plan.now c.args.self.now.links.now c.args.end c.args.tlp.now
    c.requires.world.links c.requires.has c.in-None.ensures)
