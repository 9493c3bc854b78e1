use Rattle.std.proofs.Common.{◌≡◌}
use Rattle.history_events.specs.GeneratedTopology.{keys_below}
use Rattle.history_events.proofs.keys.numbered_keys.Given as goal

abbrev pub invariant-loop-n : goal.invariant-loop-n
invariant-loop-n l = l.all.items ≡ keys_below l.n
