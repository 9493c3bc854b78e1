use Rattle.std.proofs.Common.{◌≡◌, ◌++◌, take}
use Rattle.interface_host.specs.Managers.{new_interfaces}
use Rattle.interface_host.proofs.interfaces.add_interfaces.Given as goal

abbrev pub invariant-loop-plan : goal.invariant-loop-plan
invariant-loop-plan l = l.interfaces.items ≡ l.initial.interfaces.items
    ++ new_interfaces l.link (take l.plan-index l.plans)
