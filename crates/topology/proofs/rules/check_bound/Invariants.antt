use Rattle.std.proofs.Common.{◌≡◌, drop}
use Rattle.topology.specs.Rules.{each_bound}
use Rattle.topology.proofs.rules.check_bound.Given as goal

abbrev pub invariant-loop-i : goal.invariant-loop-i
invariant-loop-i l =
    each_bound l.path l.streams l.i (drop l.i l.interfaces) ≡ each_bound l.path l.streams 0 l.interfaces
