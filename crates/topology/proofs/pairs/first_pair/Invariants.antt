use Rattle.std.proofs.Common.{◌≡◌, drop}
use Rattle.topology.specs.Rules.{pair_from}
use Rattle.topology.proofs.pairs.first_pair.Given as goal

abbrev pub invariant-loop-i : goal.invariant-loop-i
invariant-loop-i g l =
    pair_from (g.C.Clash.clashes l.clash) l.i (drop l.i l.items) ≡ pair_from (g.C.Clash.clashes l.clash) 0 l.items
