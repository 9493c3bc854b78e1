use Rattle.all_ends.proofs.Terms.{ℕ, sym, subst, port_in, Side, LinkEnds}
use Rattle.std.specs.Prelude.{◌^◌}
use Rattle.ide_port.specs.{IsSealedAtPort, PortUnitsAtMost}
use Rattle.all_ends.proofs.sending.seal_hosted.Goals as goal

pub send_on-requires : goal.send_on-requires
send_on-requires c = subst (λ (s : Side). PortUnitsAtMost (2 ^ 40) (port_in s c.args.ends.now)) c.in-Host.is c.requires

pub send_on-requires-in-Device : goal.send_on-requires-in-Device
send_on-requires-in-Device c =
    subst (λ (s : Side). PortUnitsAtMost (2 ^ 40) (port_in s c.args.ends.now)) c.in-Device.is c.requires

pub returns-in-Host-clause-sent : goal.returns-in-Host-clause-sent
returns-in-Host-clause-sent c =
    let ends : LinkEnds = record { host = c.send_on.new.self; device = c.args.ends.now.device } in
    subst (λ (s : Side). (number : ℕ) → IsSealedAtPort (port_in s c.args.ends.now) c.args.tlp.now c.args.stream
    c.args.trusted number c.send_on.result (port_in s ends) c.send_on.new.out) (sym c.in-Host.is)
    c.send_on.ensures

pub returns-in-Device-clause-sent : goal.returns-in-Device-clause-sent
returns-in-Device-clause-sent c =
    let ends : LinkEnds = record c.args.ends.now {
      device = record c.args.ends.now.device { port = c.send_on-in-Device.new.self };
    } in
    subst (λ (s : Side). (number : ℕ) → IsSealedAtPort (port_in s c.args.ends.now) c.args.tlp.now c.args.stream
    c.args.trusted number c.send_on-in-Device.result (port_in s ends) c.send_on-in-Device.new.out)
    (sym c.in-Device.is) c.send_on-in-Device.ensures
