use Rattle.std.proofs.Common.{ℕ, ◌++◌, Option, ap, ◌∙◌}
use Rattle.interface_ends.specs.declared.said.StreamSaid.{StreamSaid}
use Rattle.interface_ends.specs.Replies.{answer_bytes}
use Rattle.link_ends.specs.DeviceEnds.{said_of}
use Rattle.link_ends.proofs.device.Device.answer_of_interfaces.Goals as goal

pub returns-clause-reply : goal.returns-clause-reply
returns-clause-reply g c =
    let said = c.said-said.ensures
    ∙ ap (λ (o : Option ℕ). said_of (g.P.PeerStreams.live c.args.peers.now) c.args.self.now.port o)
    c.stream_named.ensures in
    c.answer.ensures.reply
    ∙ ap (λ (s : StreamSaid). c.args.reply.now.items
    ++ answer_bytes c.args.self.now.interfaces c.args.request.now s) said
