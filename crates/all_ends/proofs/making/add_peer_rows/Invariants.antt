use Rattle.all_ends.proofs.Terms.{◌≡◌, ◌++◌, drop, map}
use Rattle.all_ends.specs.Ends.{peer_row}
use Rattle.all_ends.proofs.making.add_peer_rows.Given as goal

abbrev pub invariant-loop-peer : goal.invariant-loop-peer
invariant-loop-peer l =
    l.initial.rows.items ++ map peer_row l.peers ≡ l.rows.items ++ map peer_row (drop l.peer-index l.peers)
