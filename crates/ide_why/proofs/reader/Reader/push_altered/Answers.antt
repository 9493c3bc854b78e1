use Rattle.std.proofs.Common.{◌≡◌, ◌∙◌, arith, length, sym, true, Some}
use Rattle.std.proofs.lemmas.Bool.Decides.{nat_tests}
use Rattle.std.specs.Prelude.{nat_lt}
use Rattle.script_events.specs.declared.event.Event.TheVariants as event
use Rattle.spec_links.specs.Packets.{arrival_at}
use Rattle.ide_why.proofs.Brought.{altered_arrives, brought_from}
use Rattle.ide_why.proofs.reader.Reader.push_altered.Goals as goal

pub returns-in_ok-copy-in-Some : goal.returns-in_ok-copy-in-Some
returns-in_ok-copy-in-Some c =
    let less = c.if-at-bytes.true in
    let fits : nat_lt c.args.at (length c.in-Some.bytes.now) ≡ true = grind (arith, nat_tests, less) in
    let copied = sym (c.deref.ensures.value ∙ c.in_ok-copy-in-Some.ensures) in
    let turned = sym c.partner.ensures in
    brought_from c.args.self.now.plan.now c.args.self.now.links.now
    (event.Alter c.args.packet c.args.at c.args.mask) c.partner.result c.deref.result.now c.args.facts.now.items
    c.push_arrival.new.facts.items c.push_arrival.result
    (altered_arrives c.args.self.now.plan.now c.args.self.now.links.now c.args.packet c.in-Some.end
    c.in-Some.bytes.now c.in-Some.ensures c.args.at c.args.mask fits
    ∙ (λ j. Some (arrival_at c.args.self.now.plan.now (turned j) (copied j)))) c.push_arrival.ensures
