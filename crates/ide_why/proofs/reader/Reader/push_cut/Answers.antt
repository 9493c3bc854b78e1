use Rattle.std.proofs.Common.{◌≡◌, ◌∙◌, arith, length, sym, take, true, Some}
use Rattle.std.proofs.lemmas.Bool.Decides.{nat_tests}
use Rattle.std.specs.Prelude.{nat_le}
use Rattle.script_events.specs.declared.event.Event.TheVariants as event
use Rattle.spec_links.specs.Packets.{arrival_at}
use Rattle.ide_why.proofs.Brought.{brought_from, cut_arrives}
use Rattle.ide_why.proofs.reader.Reader.push_cut.Goals as goal

pub returns-then-length-bytes : goal.returns-then-length-bytes
returns-then-length-bytes c =
    let most = c.if-length-bytes.true in
    let fits : nat_le c.args.length (length c.in-Some.bytes.now) ≡ true = grind (arith, nat_tests, most) in
    let turned = sym c.partner.ensures in
    brought_from c.args.self.now.plan.now c.args.self.now.links.now (event.Cut c.args.packet c.args.length)
    c.partner.result (take c.args.length c.in-Some.bytes.now) c.args.facts.now.items
    c.push_arrival.new.facts.items c.push_arrival.result
    (cut_arrives c.args.self.now.plan.now c.args.self.now.links.now c.args.packet c.in-Some.end c.in-Some.bytes.now
    c.in-Some.ensures c.args.length fits
    ∙ (λ j. Some (arrival_at c.args.self.now.plan.now (turned j) (take c.args.length c.in-Some.bytes.now))))
    c.push_arrival.ensures
