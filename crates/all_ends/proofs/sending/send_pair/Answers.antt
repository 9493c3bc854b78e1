use Rattle.all_ends.proofs.Terms.{subst, pair_port, Side}
use Rattle.std.specs.Prelude.{◌^◌}
use Rattle.ide_port.specs.{PortUnitsAtMost}
use Rattle.all_ends.proofs.sending.send_pair.Goals as goal

pub send-requires : goal.send-requires
send-requires g c = subst (λ (s : Side). PortUnitsAtMost (2 ^ 40) (pair_port s c.args.ends.now)) c.in-Host.is c.requires

pub send-requires-in-Device : goal.send-requires-in-Device
send-requires-in-Device g c =
    subst (λ (s : Side). PortUnitsAtMost (2 ^ 40) (pair_port s c.args.ends.now)) c.in-Device.is c.requires
