use Rattle.std.proofs.Common.{arith, length, ◌<◌}
use Rattle.interface_ends.specs.Replies.{settled_interface}
use Rattle.ide_types.proofs.Places.{one_more}
use Rattle.interface_ends.proofs.device_interfaces.settle_all.Goals as goal

pub loop-interface-preserved : goal.loop-interface-preserved
loop-interface-preserved g c =
    let lt : c.loop-interface.interface-index < length c.deref_mut-interface-items.result.now = omega arith in
    one_more (settled_interface (g.P.StreamStates.is_secure c.args.streams.now)) _ _ c.loop-interface.interface-index _
    _ lt
    c.loop-interface.invariant c.interface-item.is c.settle_one.ensures
