use Rattle.std.proofs.Common.{sym, subst}
use Rattle.key_slots.specs.{is_one}
use Rattle.sub_stream.specs.{Sender}
use Rattle.stream_lanes.specs.Lanes.{IsSendLane}
use Rattle.stream_lanes.proofs.Sealing.{programmed-kept}
use Rattle.stream_lanes.proofs.send_lanes.SendLane.program.Goals as goal

pub invariant_of-self : goal.invariant_of-self
invariant_of-self c =
    subst (λ (tx : Sender). IsSendLane tx c.self.inside.closed c.self.inside.posted
    c.self.inside.total) (sym c.program.ensures.sender)
    (programmed-kept (is_one c.args.set) c.self.inside.tx c.args.key c.args.draw c.self.inside.closed
    c.self.inside.posted c.self.inside.total c.self.invariant)
