use Rattle.std.proofs.Common.{◌≡◌, ◌++◌, map, take, drop}
use Rattle.interface_ends.specs.Replies.{settled_interface}
use Rattle.interface_ends.proofs.device_interfaces.settle_all.Given as goal

abbrev pub invariant-loop-interface : goal.invariant-loop-interface
invariant-loop-interface g l = l.interface-items ≡ map (settled_interface (g.P.StreamStates.is_secure l.streams))
    (take l.interface-index l.initial.interface-items) ++ drop l.interface-index l.initial.interface-items
