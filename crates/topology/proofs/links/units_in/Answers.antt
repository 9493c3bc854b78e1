use Rattle.topology.proofs.links.units_in.Goals as goal

pub returns : goal.returns
returns c = rw c.within.ensures at c.optional.ensures
