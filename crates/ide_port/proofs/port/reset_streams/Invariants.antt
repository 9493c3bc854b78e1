use Rattle.ide_port.proofs.Terms.{◌≡◌, ◌++◌, map, take, drop, reset_end}
use Rattle.ide_port.proofs.port.reset_streams.Given as goal

abbrev pub invariant-loop-stream : goal.invariant-loop-stream
invariant-loop-stream l = l.stream-items ≡ map reset_end (take l.stream-index l.initial.stream-items)
    ++ drop l.stream-index l.initial.stream-items
