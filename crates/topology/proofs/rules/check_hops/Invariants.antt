use Rattle.std.proofs.Common.{◌≡◌, drop}
use Rattle.topology.specs.Rules.{each_hop}
use Rattle.topology.proofs.rules.check_hops.Given as goal

abbrev pub invariant-loop-i : goal.invariant-loop-i
invariant-loop-i l = each_hop l.peers l.i (drop l.i l.links) ≡ each_hop l.peers 0 l.links
