use Rattle.std.proofs.Common.{◌≡◌, ◌+◌, ◌++◌, ◌∷◌, [], arith, drop, sym, None, ◌∙◌}
use Rattle.std.proofs.lemmas.Bool.{le-ltb, lt-ltb}
use Rattle.std.specs.Prelude.{slice_get, slice_index_or}
use Rattle.ide_prefix.specs.Cut.{packet_of_view}
use Rattle.machine_ports.specs.Machine.{LinkPacket}
use Rattle.spec_links.specs.Plan.{lane_in}
use Rattle.rule_counts.specs.Units.{is_unit_after}
use Rattle.rule_counts.proofs.Steps.{dropped_more, ended_before, ends_here, index_at, is_another, none_described}
use Rattle.rule_counts.proofs.Steps.{none_kept, numbered_at, passed_over, went_before, went_on}
use Rattle.rule_counts.proofs.units.Unit.is_after.Goals.{
  then-has_under+then-left-gt0+then-packet,
  then-has_under+then-left-gt0+else-packet,
  then-has_under+else-left-gt0+else-not-is_at+else-packet-2,
  else-has_under,
}
use Rattle.rule_counts.proofs.units.Unit.is_after.Goals as goal

pub returns-in_default : goal.returns-in_default
returns-in_default c =
    let a = c.args in
    let lane = lane_in a.lane.end a.lane.stream a.lane.sub in
    let unit = a.self.now.held ++ packet_of_view a.self.now.last ∷ [] in
    let none : slice_get a.kept.now.packets c.loop-i.i ≡ None =
    sym (numbered_at a.kept.now.packets c.loop-i.i) ∙ sym c.in_default.ensures in
    sym (none_kept lane a.draw c.loop-i.left (drop c.loop-i.place unit) a.described.now a.kept.now.packets c.loop-i.i
    none) ∙ c.loop-i.invariant.0

pub returns-then-not-is_at : goal.returns-then-not-is_at
returns-then-not-is_at c =
    let a = c.args in
    let lane = lane_in a.lane.end a.lane.stream a.lane.sub in
    let unit = a.self.now.held ++ packet_of_view a.self.now.last ∷ [] in
    let i = c.loop-i.i in
    let d = slice_index_or a.described.now i none_described in
    let q : LinkPacket = record { port = c.in-Some.field-0-0; bytes = c.in-Some.bytes.now } in
    let also = sym (numbered_at a.kept.now.packets i) ∙ sym c.in-Some.ensures in
    sym (is_another lane a.draw c.loop-i.left (drop c.loop-i.place unit) a.described.now a.kept.now.packets i d q
    (index_at a.described.now i none_described c.loop-i-test.true) also
    (sym c.has_under.ensures ∙ c.if-has_under.true) (le-ltb 0 c.loop-i.left c.if-left-gt0.false)
    (sym c.is_at.ensures ∙ c.if-not-is_at.true)) ∙ c.loop-i.invariant.0

pub returns-then-packet-2 : goal.returns-then-packet-2
returns-then-packet-2 c =
    let a = c.args in
    let lane = lane_in a.lane.end a.lane.stream a.lane.sub in
    let unit = a.self.now.held ++ packet_of_view a.self.now.last ∷ [] in
    let i = c.loop-i.i in
    let d = slice_index_or a.described.now i none_described in
    let q : LinkPacket = record { port = c.in-Some.field-0-0; bytes = c.in-Some.bytes.now } in
    let also = sym (numbered_at a.kept.now.packets i) ∙ sym c.in-Some.ensures in
    c.ends_at.ensures
    ∙ (sym (ends_here lane a.draw c.loop-i.left (drop c.loop-i.place unit) a.described.now a.kept.now.packets i d q
    (index_at a.described.now i none_described c.loop-i-test.true) also
    (sym c.has_under.ensures ∙ c.if-has_under.true) (le-ltb 0 c.loop-i.left c.if-left-gt0.false)
    (sym c.is_at.ensures ∙ c.if-not-is_at.false) c.if-packet-2.true) ∙ c.loop-i.invariant.0)

pub loop-i-preserved : goal.loop-i-preserved
loop-i-preserved c =
    let a = c.args in
    let lane = lane_in a.lane.end a.lane.stream a.lane.sub in
    let unit = a.self.now.held ++ packet_of_view a.self.now.last ∷ [] in
    let i = c.loop-i.i in
    let left = c.loop-i.left in
    let ps = drop c.loop-i.place unit in
    let ds = a.described.now in
    let kept = a.kept.now.packets in
    let d = slice_index_or ds i none_described in
    let q : LinkPacket = record { port = c.in-Some.field-0-0; bytes = c.in-Some.bytes.now } in
    let at = index_at ds i none_described c.loop-i-test.true in
    let also = sym (numbered_at kept i) ∙ sym c.in-Some.ensures in
    elim c.if-has_under.branch [
      | then-has_under+then-left-gt0+then-packet w ↦ (
        (λ k. is_unit_after lane a.draw (w.left-is k) (drop (w.place-is k) unit) (drop (i + 1) ds) (drop (i + 1) kept))
            ∙ (sym (ended_before lane a.draw left ps ds kept i d q at also
            (sym c.has_under.ensures ∙ w.if-has_under.true)
            (lt-ltb 0 left w.if-left-gt0.true) w.if-packet.true) ∙ c.loop-i.invariant.0),
        omega (arith, w.place-is, c.loop-i.invariant.1),
      )
      | then-has_under+then-left-gt0+else-packet w ↦ (
        (λ k. is_unit_after lane a.draw (w.left-is k) (drop (w.place-is k) unit) (drop (i + 1) ds) (drop (i + 1) kept))
            ∙ (sym (went_before lane a.draw left ps ds kept i d q at also
            (sym c.has_under.ensures ∙ w.if-has_under.true)
            (lt-ltb 0 left w.if-left-gt0.true) w.if-packet.false) ∙ c.loop-i.invariant.0),
        omega (arith, w.place-is, c.loop-i.invariant.1),
      )
      | then-has_under+else-left-gt0+else-not-is_at+else-packet-2 w ↦
          let none : left ≡ 0 = omega (arith, w.if-left-gt0.false) in (
            (λ k. is_unit_after lane a.draw (w.left-is k) (drop (w.place-is k) unit) (drop (i + 1) ds)
                (drop (i + 1) kept))
                ∙ ((λ k. is_unit_after lane a.draw (none k) (sym (dropped_more unit c.loop-i.place) k) (drop (i + 1) ds)
                (drop (i + 1) kept))
                ∙ (sym (went_on lane a.draw left ps ds kept i d q at also
                (sym c.has_under.ensures ∙ w.if-has_under.true)
                (le-ltb 0 left w.if-left-gt0.false) (sym w.is_at.ensures ∙ w.if-not-is_at.false) w.if-packet-2.false)
                ∙ c.loop-i.invariant.0)),
            omega (arith, w.place-is, c.loop-i.invariant.1),
          )
      | else-has_under w ↦ (
        (λ k. is_unit_after lane a.draw (w.left-is k) (drop (w.place-is k) unit) (drop (i + 1) ds) (drop (i + 1) kept))
            ∙ (sym (passed_over lane a.draw left ps ds kept i d q at also
            (sym c.has_under.ensures ∙ w.if-has_under.false))
            ∙ c.loop-i.invariant.0),
        omega (arith, w.place-is, c.loop-i.invariant.1),
      )
    ]
