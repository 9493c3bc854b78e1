use Rattle.std.proofs.Common.{◌≡◌, ◌+◌, ◌++◌, drop}
use Rattle.key_host.specs.Managers.{peers_from}
use Rattle.key_host.proofs.manager.add_peers.Given as goal

abbrev pub invariant-loop-plan : goal.invariant-loop-plan
invariant-loop-plan l = (l.line ≡ 24 + l.plan-index) ×
    (l.streams.items ++ peers_from (24 + l.plan-index) (drop l.plan-index l.peers)
    ≡ l.initial.streams.items ++ peers_from 24 l.peers)
