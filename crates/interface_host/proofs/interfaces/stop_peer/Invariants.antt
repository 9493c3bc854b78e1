use Rattle.std.proofs.Common.{◌≡◌, ◌++◌, map, take, drop}
use Rattle.interface_host.specs.Views.{left_by_peer_stop}
use Rattle.interface_host.proofs.interfaces.stop_peer.Given as goal

abbrev pub invariant-loop-interface : goal.invariant-loop-interface
invariant-loop-interface l = l.interface-items ≡ map (left_by_peer_stop l.number)
    (take l.interface-index l.initial.interface-items) ++ drop l.interface-index l.initial.interface-items
