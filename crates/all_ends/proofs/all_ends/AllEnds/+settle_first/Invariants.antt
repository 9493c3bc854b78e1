use Rattle.all_ends.proofs.all_ends.AllEnds.+settle_first.Given as goal

-- proposed from what the function passes where it calls itself
abbrev pub decreases-settle_first : goal.decreases-settle_first
decreases-settle_first l = l.count
