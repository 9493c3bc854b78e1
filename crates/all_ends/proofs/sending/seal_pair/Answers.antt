use Rattle.all_ends.proofs.Terms.{subst, pair_port, Side}
use Rattle.std.specs.Prelude.{◌^◌}
use Rattle.ide_port.specs.{PortUnitsAtMost}
use Rattle.all_ends.proofs.sending.seal_pair.Goals as goal

pub send_on-requires : goal.send_on-requires
send_on-requires c = subst (λ (s : Side). PortUnitsAtMost (2 ^ 40) (pair_port s c.args.ends.now)) c.in-Host.is c.requires

pub send_on-requires-in-Device : goal.send_on-requires-in-Device
send_on-requires-in-Device c =
    subst (λ (s : Side). PortUnitsAtMost (2 ^ 40) (pair_port s c.args.ends.now)) c.in-Device.is c.requires
