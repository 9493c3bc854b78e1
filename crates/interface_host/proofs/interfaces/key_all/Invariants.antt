use Rattle.std.proofs.Common.{◌≡◌, ◌++◌, map, take, drop}
use Rattle.interface_host.specs.Views.{keyed_by}
use Rattle.interface_host.proofs.interfaces.key_all.Given as goal

abbrev pub invariant-loop-interface : goal.invariant-loop-interface
invariant-loop-interface l = l.interface-items ≡ map (keyed_by l.link l.stream l.draw)
    (take l.interface-index l.initial.interface-items) ++ drop l.interface-index l.initial.interface-items
