use Rattle.std.proofs.Common.{◌++◌, List, ℕ, ap, ◌∙◌}
use Rattle.tdisp_codec.specs.Requests.{request_spelling}
use Rattle.interface_host.specs.Managers.{current_interface, interface_request}
use Rattle.link_ends.specs.DeviceEnds.{answered_device, device_answer}
use Rattle.link_ends.proofs.Doors.{interfaces_move, interfaces_reply}
use Rattle.link_ends.proofs.InterfaceCarried.{some_map}
use Rattle.link_ends.proofs.interface_keeper.deliver.Goals as goal

pub returns-clause-device : goal.returns-clause-device
returns-clause-device g c =
    let live = g.P.PeerStreams.live c.args.peers.now in
    some_map (current_interface c.args.manager.now) (λ k items.
    c.answer.ensures.device
    ∙ ap (λ (b : List ℕ). answered_device live c.args.device.now b 0)
    (c.deref.ensures.value ∙ items ∙ ap (λ xs. xs ++ request_spelling (interface_request c.args.manager.now k))
    c.clear.ensures.items)
    ∙ interfaces_move live c.args.device.now k.asking.step _ _ 0 k.interface) c.ask.ensures.items

pub returns-clause-reply : goal.returns-clause-reply
returns-clause-reply g c =
    let live = g.P.PeerStreams.live c.args.peers.now in
    some_map (current_interface c.args.manager.now) (λ k items.
    c.answer.ensures.reply ∙ ap (λ xs. xs ++ device_answer live c.args.device.now c.deref.result.now 0)
    c.clear-2.ensures.items
    ∙ ap (λ (b : List ℕ). device_answer live c.args.device.now b 0)
    (c.deref.ensures.value ∙ items ∙ ap (λ xs. xs ++ request_spelling (interface_request c.args.manager.now k))
    c.clear.ensures.items)
    ∙ interfaces_reply live c.args.device.now k.asking.step _ _ 0 k.interface) c.ask.ensures.items
