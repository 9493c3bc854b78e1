use Rattle.all_ends.proofs.Terms.{◌≡◌, drop}
unfoldable use Rattle.spec_interfaces.specs.Peers.{peer_end}
use Rattle.all_ends.proofs.peers.peer_end.Given as goal

abbrev pub invariant-loop-peer : goal.invariant-loop-peer
invariant-loop-peer l =
    (peer_end l.peers 0 l.link l.stream ≡ peer_end (drop l.peer-index l.peers) l.number l.link l.stream)
    × (l.number ≡ l.peer-index)
