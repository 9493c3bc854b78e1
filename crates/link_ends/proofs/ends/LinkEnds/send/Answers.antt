use Rattle.std.proofs.Common.{◌^◌, subst}
use Rattle.ide_types.specs.declared.port.Side.{Side}
use Rattle.ide_port.specs.{PortUnitsAtMost}
use Rattle.link_ends.specs.Ends.{port_in}
use Rattle.link_ends.proofs.ends.LinkEnds.send.Goals as goal

pub send-requires : goal.send-requires
send-requires c = subst (λ (s : Side). PortUnitsAtMost (2 ^ 40) (port_in s c.args.self.now)) c.in-Host.is c.requires.few

pub send-requires-in-Device : goal.send-requires-in-Device
send-requires-in-Device c =
    subst (λ (s : Side). PortUnitsAtMost (2 ^ 40) (port_in s c.args.self.now)) c.in-Device.is c.requires.few

pub returns-in-Host-clause-sent : goal.returns-in-Host-clause-sent
returns-in-Host-clause-sent c = rw c.in-Host.is c.send.ensures

pub returns-in-Device-clause-sent : goal.returns-in-Device-clause-sent
returns-in-Device-clause-sent c = rw c.in-Device.is c.send-in-Device.ensures.sent
