use Rattle.std.proofs.Common.{arith, length, ◌<◌}
use Rattle.interface_host.specs.Views.{keyed_by}
use Rattle.ide_types.proofs.Places.{one_more}
use Rattle.interface_host.proofs.interfaces.key_all.Goals as goal

pub loop-interface-preserved : goal.loop-interface-preserved
loop-interface-preserved c =
    let lt : c.loop-interface.interface-index < length c.deref_mut-interface-items.result.now = omega arith in
    one_more (keyed_by c.args.link c.args.stream c.args.draw) _ _ c.loop-interface.interface-index _ _ lt
    c.loop-interface.invariant c.interface-item.is c.stream_keyed.ensures
