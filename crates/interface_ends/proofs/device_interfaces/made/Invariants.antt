use Rattle.std.proofs.Common.{◌≡◌, map, take}
use Rattle.interface_state.specs.Machine.{new_device_interface}
use Rattle.interface_ends.proofs.device_interfaces.made.Given as goal

abbrev pub invariant-loop-plan : goal.invariant-loop-plan
invariant-loop-plan l = l.interfaces.items ≡ map new_device_interface (take l.plan-index l.plans)
