use Rattle.std.proofs.Common.{sym, subst}
use Rattle.key_slots.specs.{is_one}
use Rattle.sub_stream.specs.{Receiver}
use Rattle.stream_lanes.specs.Arrivals.{IsReceiveLane}
use Rattle.stream_lanes.proofs.Taking.{programmed-right}
use Rattle.stream_lanes.proofs.receive_lanes.ReceiveLane.program.Goals as goal

pub invariant_of-self : goal.invariant_of-self
invariant_of-self c =
    subst (λ (rx : Receiver). IsReceiveLane rx c.self.inside.closed c.self.inside.sum c.self.inside.got
    c.self.inside.total) (sym c.program.ensures.receiver)
    (programmed-right (is_one c.args.set) c.self.inside.rx c.self.inside.closed c.self.inside.sum c.self.inside.got
    c.self.inside.total c.args.key c.args.draw c.self.invariant)
