use Rattle.std.proofs.Common.{◌≡◌, true, subst, sym, ◌∙◌}
use Rattle.ide_types.specs.declared.port.PortName.{PortName}
use Rattle.spec_links.specs.Plan.{has_port}
use Rattle.world.proofs.{leaving_there}
use Rattle.ide_why.proofs.reader.Reader.push_forward.Goals as goal

pub push_sending-requires-clause-has : goal.push_sending-requires-clause-has
push_sending-requires-clause-has c =
    subst (λ (end : PortName). has_port c.args.self.now.plan.now end ≡ true) (sym c.leaving_end-end.ensures)
    (leaving_there c.args.self.now.plan.now c.args.link c.args.direction
    (sym c.has_hop.ensures ∙ c.if-not-has_hop.false))
