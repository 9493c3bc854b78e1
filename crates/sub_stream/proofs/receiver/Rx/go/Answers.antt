use Rattle.std.proofs.Common.{ap, ◌∙◌}
use Rattle.key_slots.specs.{is_one}
use Rattle.sub_stream.specs.Receivers.{Receiver, gone_receiver}
use Rattle.sub_stream.proofs.Answering.{view, view-gone}
use Rattle.sub_stream.proofs.receiver.Rx.go.Goals as goal

pub returns-clause-receiver : goal.returns-clause-receiver
returns-clause-receiver c =
    (λ i. view c.self.inside.stream c.self.inside.sub c.self.inside.aggregation (c.restart.ensures.zero i)
    (c.restart.ensures.one i) (c.arm.ensures.slots i) (c.held-self-inside.ensures i) c.self.inside.unit)
    ∙ view-gone (is_one c.args.set) c.self.inside.stream c.self.inside.sub c.self.inside.aggregation c.self.inside.zero
    c.self.inside.one c.self.inside.slots c.self.inside.holds c.self.inside.unit c.self.invariant.sender
    c.self.invariant.few
    ∙ ap (λ (rx : Receiver). gone_receiver rx (is_one c.args.set)) c.self.view_is
