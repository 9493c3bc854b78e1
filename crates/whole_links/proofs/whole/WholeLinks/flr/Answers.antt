use Rattle.whole_links.proofs.Accesses.{accesses_there}
use Rattle.whole_links.proofs.Ends.{ends_noted}
use Rattle.whole_links.proofs.whole.WholeLinks.flr.Goals as goal

pub note_flr-requires : goal.note_flr-requires
note_flr-requires c =
    accesses_there c.args.self.now c.interface-at.result c.requires.bounded.whole c.interface-at.ensures.there

pub returns-clause-ends : goal.returns-clause-ends
returns-clause-ends c =
    λ plan. ends_noted plan c.args.self.now c.note_flr.new.self c.flr-verdict.new.self (c.flr-verdict.ensures.ends plan)
    c.requires.bounded
    c.note_flr.ensures.links c.note_flr.ensures.accesses.many
