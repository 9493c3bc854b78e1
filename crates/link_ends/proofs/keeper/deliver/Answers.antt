use Rattle.std.proofs.Common.{◌∙◌, ap, List, ℕ, ◌++◌}
use Rattle.key_host.specs.Streams.{has_host}
use Rattle.link_ends.specs.DeviceEnds.{answered_device, device_answer}
use Rattle.link_ends.proofs.Terms.{current, request_asked}
use Rattle.link_ends.proofs.Calls.{asked_is}
use Rattle.link_ends.proofs.Doors.{keys_move, keys_reply}
use Rattle.link_ends.proofs.InterfaceCarried.{some_map}
use Rattle.link_ends.proofs.keeper.deliver.Goals as goal

pub returns-clause-device : goal.returns-clause-device
returns-clause-device g c =
    let live = g.P.PeerStreams.live c.args.peers.now in
    some_map (current c.args.manager.now)
    (λ k is. is ∙ keys_move live c.args.device.now (request_asked (has_host k.stream) k.asked k.stream) k.asked.draw)
    (asked_is (current c.args.manager.now)
    (λ (request : List ℕ) (draw : ℕ). answered_device live c.args.device.now request draw)
    _ c.deref.result.now c.ask-draw.new.out.items c.clear.new.self.items c.ask-draw.result c.deref.ensures.value
    c.clear.ensures.items c.ask-draw.ensures.items c.ask-draw.ensures.draw c.answer.ensures.device)

pub returns-clause-reply : goal.returns-clause-reply
returns-clause-reply g c =
    let live = g.P.PeerStreams.live c.args.peers.now in
    some_map (current c.args.manager.now)
    (λ k is. is ∙ keys_reply live c.args.device.now (request_asked (has_host k.stream) k.asked k.stream) k.asked.draw)
    (asked_is (current c.args.manager.now)
    (λ (request : List ℕ) (draw : ℕ). device_answer live c.args.device.now request draw)
    _ c.deref.result.now c.ask-draw.new.out.items c.clear.new.self.items c.ask-draw.result c.deref.ensures.value
    c.clear.ensures.items c.ask-draw.ensures.items c.ask-draw.ensures.draw
    (c.answer.ensures.reply
    ∙ ap (λ (before : List ℕ). before ++ device_answer live c.args.device.now c.deref.result.now c.ask-draw.result)
    c.clear-2.ensures.items))
