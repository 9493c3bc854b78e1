use Rattle.std.proofs.Common.{sym, ◌∙◌}
use Rattle.ide_prefix.specs.Cut.{packet_of_view}
use Rattle.rule_counts.proofs.Steps.{first_held, first_last, spelled_is}
use Rattle.rule_counts.proofs.units.Unit.is_at.Goals as goal

pub returns-then-place-count : goal.returns-then-place-count
returns-then-place-count c =
    let p = packet_of_view c.packet.result in
    spelled_is p c.args.bytes.now c.spells.result c.spells.ensures
    ∙ sym (first_held c.args.self.now.held (packet_of_view c.args.self.now.last) c.args.place p c.args.bytes.now
    c.packet.ensures.packet)

pub returns-then-place-count-2 : goal.returns-then-place-count-2
returns-then-place-count-2 c =
    let p = packet_of_view c.args.self.now.last in
    spelled_is p c.args.bytes.now c.spells-then-place-count-2.result c.spells-then-place-count-2.ensures
    ∙ sym (first_last c.args.self.now.held p c.args.place c.args.bytes.now
    (c.if-place-count-2.true ∙ c.count-else-place-count.ensures.value))
