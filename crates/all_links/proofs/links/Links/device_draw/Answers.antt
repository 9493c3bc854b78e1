use Rattle.all_links.proofs.Terms.{◌≡◌, subst, slice_get, InterfacesView}
use Rattle.std.specs.Prelude.{IfSome}
use Rattle.interface_host.specs.Views.{HostTdi}
use Rattle.line_arrivals.proofs.{there}
use Rattle.all_links.proofs.Asked.{if_some, draw_is}
use Rattle.all_links.proofs.links.Links.device_draw.Goals as goal

pub returns-in-None : goal.returns-in-None
returns-in-None c =
    let s = c.args.self.now in
    let x = there s.keeper.interfaces.interfaces c.args.number c.requires.interface in
    let stream : c.stream-stream.result ≡ x.0.stream =
    if_some (λ (y : HostTdi). c.stream-stream.result ≡ y.stream)
    (slice_get s.keeper.interfaces.interfaces c.args.number) x.0
    x.1 (subst (λ (m : InterfacesView). IfSome (slice_get m.interfaces c.args.number)
    (λ (y : HostTdi). c.stream-stream.result ≡ y.stream)) c.manager.ensures c.stream-stream.ensures) in
    draw_is s c.args.number c.args.link c.stream-stream.result c.link.result.now x.0 _ c.link.ensures x.1 stream
    c.in-None.ensures

pub returns-in-Some : goal.returns-in-Some
returns-in-Some c =
    let s = c.args.self.now in
    let x = there s.keeper.interfaces.interfaces c.args.number c.requires.interface in
    let stream : c.stream-stream.result ≡ x.0.stream =
    if_some (λ (y : HostTdi). c.stream-stream.result ≡ y.stream)
    (slice_get s.keeper.interfaces.interfaces c.args.number) x.0
    x.1 (subst (λ (m : InterfacesView). IfSome (slice_get m.interfaces c.args.number)
    (λ (y : HostTdi). c.stream-stream.result ≡ y.stream)) c.manager.ensures c.stream-stream.ensures) in
    draw_is s c.args.number c.args.link c.stream-stream.result c.link.result.now x.0 _ c.link.ensures x.1 stream
    c.in-Some.ensures
