use Rattle.std.proofs.Common.{◌≡◌, ◌≤◌, ◌+◌, ◌++◌, drop, length}
use Rattle.ide_types.specs.Ends.{peer_ends}
use Rattle.history_events.proofs.resets.push_peer_ends.Given as goal

-- the ends so far and those of the streams that are left
abbrev pub invariant-loop-peer : goal.invariant-loop-peer
invariant-loop-peer l =
    (l.ends ++ peer_ends (drop l.peer-index l.peers) l.peer-index l.link ≡ l.fn.ends ++ peer_ends l.peers 0 l.link)
    × (length l.ends ≤ 6 + l.peer-index) × (l.line ≡ 24 + l.peer-index)
