use Rattle.std.proofs.Common.{◌^◌, Err, refl, subst, sym}
use Rattle.ide_types.specs.declared.port.Side.TheVariants.{Host}
use Rattle.stream_lanes.specs.declared.refusal.SendRefusal.TheVariants.{Insecure}
use Rattle.ide_port.specs.StreamEnds.{StreamEnd}
use Rattle.stream_lanes.specs.{SealedAtMost}
use Rattle.ide_port.specs.StreamSends.{IsSent, new_sending}
use Rattle.ide_port.specs.Both.{end_of_directions}
use Rattle.ide_port.proofs.Settling.{send-kept, insecure-so, sent-among, senders-alone}
use Rattle.ide_port.proofs.stream.Stream.send.Goals as goal

pub send-requires-clause-few : goal.send-requires-clause-few
send-requires-clause-few c =
    subst (λ (e : StreamEnd). SealedAtMost (2 ^ 40) e.state.tx) (sym c.self.view_is) c.requires.few

pub returns-then-self-clause-sent : goal.returns-then-self-clause-sent
returns-then-self-clause-sent c port number trusted side is_trusted =
    let inside = c.self.inside in
    subst (λ (e : StreamEnd). IsSent e c.args.head.now c.args.payload.now
    (new_sending port e.id c.args.sub c.args.more trusted) number (Err Insecure) c.args.out.now.items
    c.args.out.now.items e) c.self.view_is
    (insecure-so inside.side inside.directions c.args.head.now c.args.payload.now
    (new_sending port inside.directions.tx.fixed.stream c.args.sub c.args.more trusted) number c.args.out.now.items
    c.if-self.true)

pub returns-clause-sent : goal.returns-clause-sent
returns-clause-sent c port number trusted side is_trusted =
    let inside = c.self.inside in
    let s = new_sending port inside.directions.tx.fixed.stream c.args.sub c.args.more trusted in
    subst (λ (e : StreamEnd). IsSent e c.args.head.now c.args.payload.now
    (new_sending port e.id c.args.sub c.args.more trusted) number c.send.result c.args.out.now.items
    c.send.new.out.items
    (end_of_directions inside.side (record inside.directions { tx = c.send.new.self })))
    c.self.view_is
    (sent-among inside.side inside.directions c.args.head.now c.args.payload.now s number c.send.result
    c.args.out.now.items c.send.new.out.items c.send.new.self c.if-self.false
    (c.send.ensures.sent s number refl refl refl is_trusted))

pub invariant_of-self : goal.invariant_of-self
invariant_of-self c =
    let inside = c.self.inside in
    let s = new_sending (record { side = Host; line = 0 }) inside.directions.tx.fixed.stream c.args.sub c.args.more
    c.args.t
    in
    send-kept inside.directions c.send.new.self c.self.invariant
    (senders-alone inside.directions.tx c.args.head.now c.args.payload.now s 0 c.send.result c.args.out.now.items
    c.send.new.out.items c.send.new.self (c.send.ensures.sent s 0 refl refl refl refl))
