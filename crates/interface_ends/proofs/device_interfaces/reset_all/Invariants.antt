use Rattle.std.proofs.Common.{◌≡◌, ◌++◌, map, take, drop}
use Rattle.interface_state.specs.Machine.{interface_after_call, LinkReset}
use Rattle.interface_ends.proofs.device_interfaces.reset_all.Given as goal

abbrev pub invariant-loop-interface : goal.invariant-loop-interface
invariant-loop-interface l = l.interface-items ≡ map ((λ tdi. interface_after_call tdi LinkReset))
    (take l.interface-index l.initial.interface-items) ++ drop l.interface-index l.initial.interface-items
