use Rattle.std.proofs.Common.{◌≡◌, ◌+◌, drop}
use Rattle.ide_types.specs.Ends.{peer_end}
use Rattle.line_routes.proofs.arrivals.peer_end.Given as goal

-- among the streams that are left
abbrev pub invariant-loop-peer : goal.invariant-loop-peer
invariant-loop-peer l = (peer_end (drop l.peer-index l.peers) l.peer-index l.link l.id ≡ peer_end l.peers 0 l.link l.id)
    × (l.line ≡ 24 + l.peer-index)
