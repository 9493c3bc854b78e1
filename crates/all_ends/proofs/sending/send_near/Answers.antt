use Rattle.all_ends.proofs.Terms.{ℕ, sym, subst, port_in, Side, LinkEnds}
use Rattle.std.specs.Prelude.{◌^◌}
use Rattle.ide_port.specs.{IsSentAtPort, PortUnitsAtMost}
use Rattle.all_ends.proofs.sending.send_near.Goals as goal

pub send-requires : goal.send-requires
send-requires c = subst (λ (s : Side). PortUnitsAtMost (2 ^ 40) (port_in s c.args.ends.now)) c.in-Host.is c.requires

pub send-requires-in-Device : goal.send-requires-in-Device
send-requires-in-Device c =
    subst (λ (s : Side). PortUnitsAtMost (2 ^ 40) (port_in s c.args.ends.now)) c.in-Device.is c.requires

pub returns-in-Host-clause-sent : goal.returns-in-Host-clause-sent
returns-in-Host-clause-sent c =
    let ends : LinkEnds = record { host = c.send.new.self; device = c.args.ends.now.device } in
    subst (λ (s : Side). (number : ℕ) → IsSentAtPort (port_in s c.args.ends.now) c.args.tlp.now c.args.more
    (λ head stream. c.args.trusted) number c.send.result (port_in s ends) c.send.new.out) (sym c.in-Host.is)
    c.send.ensures

pub returns-in-Device-clause-sent : goal.returns-in-Device-clause-sent
returns-in-Device-clause-sent c =
    let ends : LinkEnds = record c.args.ends.now {
      device = record c.args.ends.now.device { port = c.send-in-Device.new.self };
    } in
    subst (λ (s : Side). (number : ℕ) → IsSentAtPort (port_in s c.args.ends.now) c.args.tlp.now c.args.more
    (λ head stream. c.args.trusted) number c.send-in-Device.result (port_in s ends) c.send-in-Device.new.out)
    (sym c.in-Device.is) c.send-in-Device.ensures
