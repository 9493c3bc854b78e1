use Rattle.std.proofs.Common.{◌≡◌, drop}
use Rattle.topology.specs.Rules.{each_link}
use Rattle.topology.proofs.rules.check_links.Given as goal

abbrev pub invariant-loop-i : goal.invariant-loop-i
invariant-loop-i l = each_link l.i (drop l.i l.links) ≡ each_link 0 l.links
