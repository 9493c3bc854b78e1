use Rattle.std.proofs.Common.{◌≡◌, ◌+◌, drop}
use Rattle.std.specs.List.{position_from}
use Rattle.topology.proofs.pairs.clash_from_place.Given as goal

abbrev pub invariant-loop-i : goal.invariant-loop-i
invariant-loop-i g l = position_from (g.C.Clash.clashes l.clash l.one) (l.from + l.i) (drop l.i l.items)
    ≡ position_from (g.C.Clash.clashes l.clash l.one) l.from l.items
