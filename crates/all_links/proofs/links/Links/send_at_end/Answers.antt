use Rattle.all_links.proofs.Finds.{nothing_steps, reserved}
use Rattle.all_links.proofs.Sends.{nowhere_sent}
use Rattle.all_links.proofs.links.Links.send_at_end.Goals as goal

pub returns-then-not-has_end-clause-ends : goal.returns-then-not-has_end-clause-ends
returns-then-not-has_end-clause-ends c =
    nothing_steps c.args.plan.now c.only.ensures.value c.only.ensures.links c.requires.bounded
    (λ b has h links stands. nowhere_sent c.args.plan.now c.args.self.now c.args.end c.if-not-has_end.ensures links has)

pub returns-clause-ends : goal.returns-clause-ends
returns-clause-ends c = reserved c.args.plan.now c.args.self.now c.reserve_packets.new.self
    c.reserve_packets.ensures.links c.reserve_packets.ensures.packets c.seal.ensures.ends
