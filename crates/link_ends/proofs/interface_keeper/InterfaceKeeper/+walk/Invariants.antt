use Rattle.link_ends.proofs.interface_keeper.InterfaceKeeper.+walk.Given as goal

abbrev pub decreases-walk : goal.decreases-walk
decreases-walk g l = l.more
