use Rattle.all_links.proofs.Asked.{is_placed}
use Rattle.all_links.proofs.links.Links.interface.Goals as goal

pub returns-clause-there : goal.returns-clause-there
returns-clause-there c = is_placed c.args.self.now.ends c.args.number c.interface.result c.interface.ensures
