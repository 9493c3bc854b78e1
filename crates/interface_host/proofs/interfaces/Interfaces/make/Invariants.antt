use Rattle.std.proofs.Common.{◌≡◌, ◌++◌, drop}
use Rattle.interface_host.specs.Managers.{interfaces_from}
use Rattle.interface_host.proofs.interfaces.Interfaces.make.Given as goal

abbrev pub invariant-loop-link : goal.invariant-loop-link
invariant-loop-link l = (l.number ≡ l.link-index) ×
    (l.interfaces.items ++ interfaces_from l.link-index (drop l.link-index l.link-items)
    ≡ interfaces_from 0 l.link-items)
