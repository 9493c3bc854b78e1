use Rattle.all_ends.proofs.Terms.{subst, pair_port, Side}
use Rattle.std.specs.Prelude.{◌^◌}
use Rattle.ide_port.specs.{PortUnitsAtMost}
use Rattle.all_ends.proofs.all_ends.take_pair.Goals as goal

pub take-requires : goal.take-requires
take-requires c = subst (λ (s : Side). PortUnitsAtMost (2 ^ 40) (pair_port s c.args.ends.now)) c.in-Host.is c.requires

pub take-requires-in-Device : goal.take-requires-in-Device
take-requires-in-Device c =
    subst (λ (s : Side). PortUnitsAtMost (2 ^ 40) (pair_port s c.args.ends.now)) c.in-Device.is c.requires
