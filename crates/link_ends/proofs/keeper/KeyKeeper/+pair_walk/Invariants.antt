use Rattle.link_ends.proofs.keeper.KeyKeeper.+pair_walk.Given as goal

abbrev pub decreases-pair_walk : goal.decreases-pair_walk
decreases-pair_walk l = l.more
