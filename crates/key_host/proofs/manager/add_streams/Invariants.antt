use Rattle.std.proofs.Common.{◌≡◌, ◌++◌, take}
use Rattle.key_host.specs.Managers.{new_streams}
use Rattle.key_host.proofs.manager.add_streams.Given as goal

abbrev pub invariant-loop-plan : goal.invariant-loop-plan
invariant-loop-plan l = l.streams.items ≡ l.initial.streams.items ++ new_streams l.line (take l.plan-index l.plans)
