use Rattle.std.proofs.Common.{arith, length, ◌<◌}
use Rattle.interface_host.specs.Views.{left_by_stop}
use Rattle.ide_types.proofs.Places.{one_more}
use Rattle.interface_host.proofs.interfaces.stop_all.Goals as goal

pub loop-interface-preserved : goal.loop-interface-preserved
loop-interface-preserved c =
    let lt : c.loop-interface.interface-index < length c.deref_mut-interface-items.result.now = omega arith in
    one_more (left_by_stop c.args.link c.args.stream) _ _ c.loop-interface.interface-index _ _ lt
    c.loop-interface.invariant c.interface-item.is c.stop_begun.ensures
