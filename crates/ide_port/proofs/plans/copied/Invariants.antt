use Rattle.ide_port.proofs.Terms.{◌≡◌, take}
use Rattle.ide_port.proofs.plans.copied.Given as goal

abbrev pub invariant-loop-plan : goal.invariant-loop-plan
invariant-loop-plan l = l.copies.items ≡ take l.plan-index l.plans
