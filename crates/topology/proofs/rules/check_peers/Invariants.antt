use Rattle.std.proofs.Common.{◌≡◌, drop}
use Rattle.topology.specs.Rules.{each_peer}
use Rattle.topology.proofs.rules.check_peers.Given as goal

abbrev pub invariant-loop-i : goal.invariant-loop-i
invariant-loop-i l = each_peer l.links l.peers l.i (drop l.i l.peers) ≡ each_peer l.links l.peers 0 l.peers
