use Rattle.std.proofs.Common.{arith, length, ◌<◌}
use Rattle.interface_state.specs.Machine.{interface_after_call, LinkReset}
use Rattle.ide_types.proofs.Places.{one_more}
use Rattle.interface_ends.proofs.device_interfaces.reset_all.Goals as goal

pub loop-interface-preserved : goal.loop-interface-preserved
loop-interface-preserved c =
    let lt : c.loop-interface.interface-index < length c.deref_mut-interface-items.result.now = omega arith in
    one_more ((λ tdi. interface_after_call tdi LinkReset)) _ _ c.loop-interface.interface-index _ _ lt
    c.loop-interface.invariant
    c.interface-item.is c.reset.ensures
