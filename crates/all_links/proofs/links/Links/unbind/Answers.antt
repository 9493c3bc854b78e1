use Rattle.all_links.proofs.Terms.{refl, subst, Verdict}
use Rattle.script_events.specs.declared.event.InterfaceEvent.TheVariants as ie
use Rattle.interface_host.specs.declared.operation.InterfaceOperation.TheVariants as op
use Rattle.interface_host.specs.declared.operation.PeerStream.{PeerStream}
use Rattle.all_links.specs.Interfaces.{managed_peer_stream}
use Rattle.all_links.specs.BesideAfter.{BesideAsking}
use Rattle.all_links.proofs.Finds.{if_some}
use Rattle.all_links.proofs.Asked.{if_some as some_is, is_peer, no_peer, none_peer, peer_verdict}
use Rattle.all_links.proofs.BesideAfter.{no_peer_beside, peer_beside}
use Rattle.all_links.proofs.links.Links.unbind.Goals as goal

pub operate_interface-requires-clause-short : goal.operate_interface-requires-clause-short
operate_interface-requires-clause-short c = refl

pub returns-in-None-clause-ends : goal.returns-in-None-clause-ends
returns-in-None-clause-ends c plan =
    let s = c.args.self.now in
    no_peer plan c.args.number c.args.line c.args.stream
    (op.Unbind (managed_peer_stream s.keeper c.args.line c.args.stream))
    c.args.loss (ie.Unbind c.args.number c.args.line c.args.stream c.args.loss) refl
    (none_peer s.keeper s.ends c.args.number c.args.line c.args.stream c.interface-at.result
    c.interface-at.ensures.place c.in-None.ensures)
    c.only.ensures.value c.only.ensures.links c.requires.bounded

pub returns-in-Some-clause-ends : goal.returns-in-Some-clause-ends
returns-in-Some-clause-ends c plan =
    let s = c.args.self.now in
    c.operate_interface.ensures.ends plan (ie.Unbind c.args.number c.args.line c.args.stream c.args.loss)
    (peer_verdict s.keeper s.ends c.args.number c.args.line c.args.stream c.in-Some.peer
    (λ (p : PeerStream). op.Unbind p) c.args.loss
    (is_peer s.keeper s.ends c.args.number c.args.line c.args.stream c.in-Some.peer c.interface-at.result
    c.interface-at.ensures.place c.in-Some.ensures))

pub returns-in-None-clause-sides : goal.returns-in-None-clause-sides
returns-in-None-clause-sides c =
    let s = c.args.self.now in
    no_peer_beside c.args.number c.args.line c.args.stream
    (op.Unbind (managed_peer_stream s.keeper c.args.line c.args.stream))
    c.args.loss (none_peer s.keeper s.ends c.args.number c.args.line c.args.stream c.interface-at.result
    c.interface-at.ensures.place c.in-None.ensures) c.only.ensures.links

pub returns-in-Some-clause-sides : goal.returns-in-Some-clause-sides
returns-in-Some-clause-sides c =
    let s = c.args.self.now in
    let p = is_peer s.keeper s.ends c.args.number c.args.line c.args.stream c.in-Some.peer c.interface-at.result
    c.interface-at.ensures.place c.in-Some.ensures in
    if_some c.operate_interface.result _
    (λ verdict is. peer_beside s c.operate_interface.new.self c.args.number c.args.line c.args.stream
    (op.Unbind (managed_peer_stream s.keeper c.args.line c.args.stream)) c.args.loss p.small
    p.has
    (subst (λ (q : PeerStream). BesideAsking c.args.number (op.Unbind q) c.args.loss s c.operate_interface.new.self)
    p.peer_is
    (some_is (λ (w : Verdict). BesideAsking c.args.number (op.Unbind c.in-Some.peer) c.args.loss s
    c.operate_interface.new.self) c.operate_interface.result verdict is c.operate_interface.ensures.sides)))
