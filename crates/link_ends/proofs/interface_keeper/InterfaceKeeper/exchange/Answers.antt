use Rattle.std.proofs.Common.{Some, ap, sym, ◌∙◌}
use Rattle.std.specs.Prelude.{IsSome}
use Rattle.script_events.specs.declared.event.Lost.TheVariants.{Request, Reply}
use Rattle.interface_host.specs.Managers.{current_interface}
use Rattle.link_ends.specs.DeviceEnds.{DeviceEnd}
use Rattle.link_ends.specs.InterfaceKeepers.{said_at}
use Rattle.link_ends.proofs.InterfaceCarried.{some_map, some_same, carried_whole, carried_lost, interfaces_alone}
use Rattle.link_ends.proofs.interface_keeper.InterfaceKeeper.exchange.Goals as goal

pub returns-in-None-clause-exchange : goal.returns-in-None-clause-exchange
returns-in-None-clause-exchange g c =
    let m = c.self.inside.interfaces in
    let live = g.P.PeerStreams.live c.args.peers.now in
    let device = some_map (current_interface m) (λ k is. ap (λ (e : DeviceEnd). e.interfaces) is)
    c.deliver.ensures.device in
    let bytes = some_map (current_interface m) (λ k is. c.deref.ensures.value ∙ is) c.deliver.ensures.reply in
    rw (← c.self.view_is)
    (carried_whole (current_interface m) m _ c.args.device.now.interfaces _ (said_at live c.args.device.now.port)
    c.args.loss c.exchange.result c.deref.result.now _ c.exchange.ensures (sym c.lost_at.ensures ∙ c.in-None.is)
    device bytes c.take.ensures.outcome c.take.ensures.manager)

pub returns-in-Some-Request-clause-exchange : goal.returns-in-Some-Request-clause-exchange
returns-in-Some-Request-clause-exchange g c =
    let m = c.self.inside.interfaces in
    let live = g.P.PeerStreams.live c.args.peers.now in
    rw (← c.self.view_is)
    (carried_lost (current_interface m) m _ c.args.device.now.interfaces _ (said_at live c.args.device.now.port)
    c.args.loss c.exchange.result Request _ c.exchange.ensures
    (sym c.lost_at.ensures ∙ c.in-Some-Request.is ∙ ap (λ k. Some k) c.in-Some-Request.field-0-is)
    (some_same (current_interface m) _) c.take-in-Some-Request.ensures.outcome c.take-in-Some-Request.ensures.manager)

pub returns-in-Some-Reply-clause-exchange : goal.returns-in-Some-Reply-clause-exchange
returns-in-Some-Reply-clause-exchange g c =
    let m = c.self.inside.interfaces in
    let live = g.P.PeerStreams.live c.args.peers.now in
    let device = some_map (current_interface m) (λ k is. ap (λ (e : DeviceEnd). e.interfaces) is)
    c.deliver-in-Some-Reply.ensures.device in
    rw (← c.self.view_is)
    (carried_lost (current_interface m) m _ c.args.device.now.interfaces _ (said_at live c.args.device.now.port)
    c.args.loss c.exchange.result Reply _ c.exchange.ensures
    (sym c.lost_at.ensures ∙ c.in-Some-Reply.is ∙ ap (λ k. Some k) c.in-Some-Reply.field-0-is)
    device c.take-in-Some-Reply.ensures.outcome c.take-in-Some-Reply.ensures.manager)

pub returns-in-None-clause-device : goal.returns-in-None-clause-device
returns-in-None-clause-device g c =
    let there : IsSome (current_interface c.self.inside.interfaces) = rw (← c.self.view_is) at c.requires in
    interfaces_alone (current_interface c.self.inside.interfaces) _ c.args.device.now _ there c.deliver.ensures.device

pub returns-in-Some-Reply-clause-device : goal.returns-in-Some-Reply-clause-device
returns-in-Some-Reply-clause-device g c =
    let there : IsSome (current_interface c.self.inside.interfaces) = rw (← c.self.view_is) at c.requires in
    interfaces_alone (current_interface c.self.inside.interfaces) _ c.args.device.now _ there
    c.deliver-in-Some-Reply.ensures.device
