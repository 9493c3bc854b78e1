use Rattle.std.proofs.Common.{◌≡◌, drop}
use Rattle.told_facts.specs.Exchanges.{interface_planned}
use Rattle.told_facts.proofs.interfaces.interface_planned.Given as goal

-- it is behind the links that were passed
abbrev pub invariant-loop-link : goal.invariant-loop-link
invariant-loop-link l =
    interface_planned (drop l.link-index l.links) l.behind ≡ interface_planned l.links l.fn.number
