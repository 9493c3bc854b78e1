use Rattle.topology.proofs.links.hop_classes_in.Goals as goal

pub returns : goal.returns
returns c = rw (c.any_number.ensures, c.within.ensures) at c.optional.ensures
