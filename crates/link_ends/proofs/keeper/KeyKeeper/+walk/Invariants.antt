use Rattle.link_ends.proofs.keeper.KeyKeeper.+walk.Given as goal

abbrev pub decreases-walk : goal.decreases-walk
decreases-walk g l = l.more
