use Rattle.std.proofs.Common.{◌≡◌, ◌+◌, ◌++◌, drop}
use Rattle.key_host.specs.Managers.{hops_from}
use Rattle.key_host.proofs.manager.add_hops.Given as goal

abbrev pub invariant-loop-link : goal.invariant-loop-link
invariant-loop-link l = (l.line ≡ l.first + l.link-index) ×
    (l.streams.items ++ hops_from (l.first + l.link-index) (drop l.link-index l.links)
    ≡ l.initial.streams.items ++ hops_from l.first l.links)
