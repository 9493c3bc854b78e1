use Rattle.std.proofs.Common.{◌++◌, List, ap, sym, ◌∙◌}
use Rattle.std.proofs.lemmas.List.{append-nil}
use Rattle.ide_types.specs.declared.stream.StreamPlan.{StreamPlan}
use Rattle.ide_why.specs.Facts.{cleared_read}
use Rattle.ide_why.proofs.Taken.{none_there}
use Rattle.ide_why.proofs.reader.Reader.push_end.Goals as goal

pub returns-in-None : goal.returns-in-None
returns-in-None c =
    sym (ap (λ (ss : List StreamPlan). c.args.facts.now.items
    ++ cleared_read c.args.self.now.plan.now c.args.self.now.links.now c.args.end ss)
    (none_there c.args.self.now.plan.now c.args.self.now.links.now c.args.end c.requires.links c.in-None.ensures)
    ∙ append-nil c.args.facts.now.items)
