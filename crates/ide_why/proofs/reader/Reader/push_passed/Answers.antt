use Rattle.std.proofs.Common.{◌∙◌, ap, sym, Some}
use Rattle.ide_types.specs.declared.port.PortName.{PortName}
use Rattle.script_events.specs.declared.event.Event.TheVariants as event
use Rattle.spec_links.specs.Packets.{arrival_at}
use Rattle.ide_why.proofs.Brought.{brought_from, whole_arrives}
use Rattle.ide_why.proofs.reader.Reader.push_passed.Goals as goal

pub returns-in-Some : goal.returns-in-Some
returns-in-Some c =
    brought_from c.args.self.now.plan.now c.args.self.now.links.now (event.Pass c.args.packet) c.partner.result
    c.in-Some.bytes.now c.args.facts.now.items c.push_arrival.new.facts.items c.push_arrival.result
    (whole_arrives c.args.self.now.plan.now c.args.self.now.links.now c.args.packet c.in-Some.end c.in-Some.bytes.now
    c.in-Some.ensures
    ∙ ap (λ (end : PortName). Some (arrival_at c.args.self.now.plan.now end c.in-Some.bytes.now))
    (sym c.partner.ensures))
    c.push_arrival.ensures
