use Rattle.std.proofs.Common.{arith, length, ◌<◌}
use Rattle.key_host.specs.Streams.{reset_stream}
use Rattle.ide_types.proofs.Places.{one_more}
use Rattle.key_host.proofs.manager.reset_streams.Goals as goal

pub loop-stream-preserved : goal.loop-stream-preserved
loop-stream-preserved c =
    let lt : c.loop-stream.stream-index < length c.deref_mut-stream-items.result.now = omega arith in
    one_more (reset_stream c.args.ends.now) _ _ c.loop-stream.stream-index _ _ lt c.loop-stream.invariant
    c.stream-item.is
    c.reset.ensures
