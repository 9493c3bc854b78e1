use Rattle.std.proofs.Common.{sym, subst}
use Rattle.key_slots.specs.{is_one}
use Rattle.sub_stream.specs.{Sender}
use Rattle.stream_lanes.specs.Lanes.{IsSendLane}
use Rattle.stream_lanes.proofs.Sealing.{gone-kept}
use Rattle.stream_lanes.proofs.send_lanes.SendLane.go.Goals as goal

pub invariant_of-self : goal.invariant_of-self
invariant_of-self c =
    subst (λ (tx : Sender). IsSendLane tx c.self.inside.closed c.self.inside.posted
    c.self.inside.total) (sym c.go.ensures.sender)
    (gone-kept (is_one c.args.set) c.self.inside.tx c.self.inside.closed c.self.inside.posted
    c.self.inside.total c.self.invariant)
