use Rattle.std.proofs.Common.{◌≡◌, length}
use Rattle.arrival_verdicts.proofs.AtSwitches.{SoFar}
use Rattle.arrival_verdicts.proofs.switches.switch_effects.Given as goal

abbrev pub invariant-loop-i : goal.invariant-loop-i
invariant-loop-i l = SoFar l.packets l.unit.sub l.direction l.initial.queues l.i l.list l.queues × (length l.list ≡ l.i)
