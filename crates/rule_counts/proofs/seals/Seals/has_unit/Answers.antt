use Rattle.std.proofs.Common.{◌≡◌, ◌++◌, ◌∷◌, [], ◌&&◌, Bool, List, true, ap, sym, ◌∙◌}
use Rattle.std.specs.Prelude.{count_by}
use Rattle.event_verdicts.specs.declared.verdict.SealedPacket.{SealedPacket}
use Rattle.ide_prefix.specs.Cut.{packet_of_view}
use Rattle.spec_links.specs.Plan.{lane_in}
use Rattle.rule_counts.specs.Seals.{base_after}
use Rattle.rule_counts.specs.Units.{ends_between, is_same_front, is_unit_after}
use Rattle.rule_counts.specs.Unsealed.{units_sealed_below}
use Rattle.rule_counts.proofs.seals.Seals.has_unit.Goals as goal

pub returns : goal.returns
returns c =
    let a = c.args in
    let lane = lane_in a.lane.end a.lane.stream a.lane.sub in
    let unit = a.unit.now.held ++ packet_of_view a.unit.now.last ∷ [] in
    let same = c.packets-packets.ensures in
    let after : is_unit_after lane a.draw a.units unit a.self.now.packets a.kept.now.packets ≡ true =
    ap (λ (ds : List SealedPacket). is_unit_after lane a.draw a.units unit ds a.kept.now.packets) (sym same)
    ∙ (sym c.is_after.ensures ∙ c.if-not-is_after.false) in
    let based = c.base-base.ensures
    ∙ (λ i. base_after 0 a.self.now.bases (c.from.ensures i) (c.from-2.ensures i)) in
    let sent : c.units_between-sent.result ≡ units_sealed_below a.self.now a.lane.end a.lane.stream a.lane.sub a.draw =
    c.units_between-sent.ensures.units ∙ (λ i. count_by (ends_between lane (based i) a.draw) (same i)) in
    c.is_same_front.ensures
    ∙ ((λ i. is_same_front a.front.closed a.units (sent i) a.front.got)
    ∙ ap (λ (b : Bool). b && is_same_front a.front.closed a.units
    (units_sealed_below a.self.now a.lane.end a.lane.stream a.lane.sub a.draw) a.front.got) (sym after))
