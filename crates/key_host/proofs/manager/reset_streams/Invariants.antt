use Rattle.std.proofs.Common.{◌≡◌, ◌++◌, map, take, drop}
use Rattle.key_host.specs.Streams.{reset_stream}
use Rattle.key_host.proofs.manager.reset_streams.Given as goal

abbrev pub invariant-loop-stream : goal.invariant-loop-stream
invariant-loop-stream l = l.stream-items ≡ map (reset_stream l.ends) (take l.stream-index l.initial.stream-items)
    ++ drop l.stream-index l.initial.stream-items
