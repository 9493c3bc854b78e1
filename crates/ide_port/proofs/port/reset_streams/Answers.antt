use Rattle.ide_port.proofs.Terms.{arith, length, ◌<◌, reset_end}
use Rattle.ide_types.proofs.Places.{one_more}
use Rattle.ide_port.proofs.port.reset_streams.Goals as goal

pub loop-stream-preserved : goal.loop-stream-preserved
loop-stream-preserved c =
    let lt : c.loop-stream.stream-index < length c.deref_mut-stream-items.result.now = omega arith in
    one_more reset_end _ _ c.loop-stream.stream-index _ _ lt c.loop-stream.invariant c.stream-item.is c.reset.ensures
