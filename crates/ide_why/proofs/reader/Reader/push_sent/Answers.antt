use Rattle.std.proofs.Common.{◌≡◌, not, true, subst, sym, ◌∙◌}
use Rattle.std.proofs.lemmas.Bool.{and_parts}
use Rattle.ide_types.specs.declared.port.PortName.{PortName}
use Rattle.spec_links.specs.Plan.{has_port}
use Rattle.spec_links.specs.Ports.{at_switch}
use Rattle.world.proofs.{sealing_there}
use Rattle.ide_why.proofs.reader.Reader.push_sent.Goals as goal

pub push_sending-requires-clause-has : goal.push_sending-requires-clause-has
push_sending-requires-clause-has c =
    subst (λ (end : PortName). has_port c.args.self.now.plan.now end ≡ true) (sym c.sealing_end-end.ensures)
    (sealing_there c.args.self.now.plan.now c.requires.links.fits c.args.port c.of-tlp.result
    (and_parts (has_port c.args.self.now.plan.now c.args.port) (not (at_switch c.args.self.now.plan.now c.args.port))
    (sym c.may_send.ensures ∙ c.if-not-may_send.false)).0)
