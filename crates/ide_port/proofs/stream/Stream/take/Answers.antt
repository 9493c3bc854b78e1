use Rattle.std.proofs.Common.{◌^◌, sym, ap, ◌∙◌, subst}
use Rattle.ide_prefix.specs.Cut.{packet_of_view}
use Rattle.ide_port.specs.StreamEnds.{StreamEnd, end_taken}
use Rattle.stream_lanes.specs.{AcceptedAtMost, ReceiveEnds}
use Rattle.ide_port.specs.Both.{end_of_directions, IsStream}
use Rattle.ide_port.proofs.Settling.{take-kept, end-taken}
use Rattle.ide_port.proofs.stream.Stream.take.Goals as goal

pub take-taken-requires-clause-few : goal.take-taken-requires-clause-few
take-taken-requires-clause-few c =
    subst (λ (e : StreamEnd). AcceptedAtMost (2 ^ 40) e.state.rx) (sym c.self.view_is) c.requires.few

pub returns-clause-stream : goal.returns-clause-stream
returns-clause-stream c =
    let inside = c.self.inside in
    let p = packet_of_view c.args.packet.now in
    (λ i. end_of_directions inside.side
    (record inside.directions { rx = c.take-taken.ensures.lanes i; failed = c.failed-self-inside.ensures i }))
    ∙ end-taken inside.side inside.directions p c.take-taken.result c.self.invariant c.if-self.false
    c.take-taken.ensures.answer
    ∙ ap (λ (e : StreamEnd). end_taken e p) c.self.view_is

pub invariant_of-self-2 : goal.invariant_of-self-2
invariant_of-self-2 c =
    let inside = c.self.inside in
    subst (λ (x : ReceiveEnds). IsStream (record inside.directions { rx = x; failed = c.failed-self-inside.result }))
    (sym c.take-taken.ensures.lanes)
    (take-kept inside.directions (packet_of_view c.args.packet.now) c.failed-self-inside.result
    c.self.invariant)
