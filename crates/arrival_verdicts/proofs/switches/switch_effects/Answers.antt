use Rattle.std.proofs.Common.{◌≡◌, [], ◌∷◌, arith, length, length-append, refl, subst, sym}
use Rattle.arrival_verdicts.proofs.AtSwitches.{SoFar, none_yet, one_more, all_effects, all_queues}
use Rattle.arrival_verdicts.proofs.switches.switch_effects.Goals as goal

pub loop-i-init : goal.loop-i-init
loop-i-init c = subst
    (λ list. SoFar c.args.packets.now c.args.unit.sub c.args.direction c.args.queues.now 0 list c.args.queues.now
    × (length list ≡ 0)) (sym c.new-list.ensures)
    (none_yet c.args.packets.now c.args.unit.sub c.args.direction c.args.queues.now, refl)

pub loop-i-preserved : goal.loop-i-preserved
loop-i-preserved c = (
  rw c.push.ensures
      (one_more c.args.packets.now c.args.unit.sub c.args.direction c.args.queues.now c.loop-i.i c.loop-i.list
      c.loop-i.queues c.switched.new.queues _
      c.switched.result c.loop-i.invariant.0 c.packet-packet.ensures.packet c.switched.ensures.effect
      c.switched.ensures.queues),
  rw c.push.ensures (omega (arith, length-append c.loop-i.list (c.switched.result ∷ []), c.loop-i.invariant.1)),
)

pub returns-clause-effects : goal.returns-clause-effects
returns-clause-effects c = all_effects c.args.packets.now c.args.unit.sub c.args.direction c.args.queues.now c.loop-i.i
    c.loop-i.list c.loop-i.queues c.loop-i.invariant.0 (omega (arith, c.count-i-end.ensures.value))

pub returns-clause-queues : goal.returns-clause-queues
returns-clause-queues c = all_queues c.args.packets.now c.args.unit.sub c.args.direction c.args.queues.now c.loop-i.i
    c.loop-i.list c.loop-i.queues c.loop-i.invariant.0 (omega (arith, c.count-i-end.ensures.value))
