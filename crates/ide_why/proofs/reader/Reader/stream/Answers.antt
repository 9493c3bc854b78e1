use Rattle.std.proofs.Common.{sym, ◌∙◌}
use Rattle.ide_why.proofs.Reading.{stream_none, stream_some}
use Rattle.ide_why.proofs.reader.Reader.stream.Goals as goal

pub returns-in-None : goal.returns-in-None
returns-in-None c = stream_none c.args.self.now.plan.now c.args.self.now.links.now c.requires.links c.args.end
    c.args.stream (sym c.in-None.ensures)

pub returns-in-Some : goal.returns-in-Some
returns-in-Some c = c.facts.ensures ∙ stream_some c.args.self.now.plan.now c.args.self.now.links.now c.requires.links
    c.args.end c.args.stream c.in-Some.port.now (sym c.in-Some.ensures)
