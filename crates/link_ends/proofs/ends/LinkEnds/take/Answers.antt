use Rattle.std.proofs.Common.{◌^◌, subst}
use Rattle.ide_types.specs.declared.port.Side.{Side}
use Rattle.ide_port.specs.{PortUnitsAtMost}
use Rattle.link_ends.specs.Ends.{port_in}
use Rattle.link_ends.proofs.ends.LinkEnds.take.Goals as goal

pub take-requires : goal.take-requires
take-requires c = subst (λ (s : Side). PortUnitsAtMost (2 ^ 40) (port_in s c.args.self.now)) c.in-Host.is c.requires

pub take-requires-in-Device : goal.take-requires-in-Device
take-requires-in-Device c =
    subst (λ (s : Side). PortUnitsAtMost (2 ^ 40) (port_in s c.args.self.now)) c.in-Device.is c.requires
