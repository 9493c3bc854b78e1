use Rattle.ide_port.proofs.Terms.{arith}
use Rattle.std.proofs.Common.{◌^◌}
use Rattle.ide_port.specs.Units.{UnitsAtMost}
use Rattle.ide_prefix.specs.Cut.{packet_of_view}
use Rattle.ide_port.proofs.Keeping.{inside, kept-taken}
use Rattle.ide_port.proofs.Steps.{taken-step, unknown-step, reads}
use Rattle.ide_port.proofs.Units.{found-has}
use Rattle.ide_port.proofs.port.Port.take_packet.Goals as goal

pub returns-in_default : goal.returns-in_default
returns-in_default c =
    let x = unknown-step c.self.inside c.args.self.now c.self.view_is (packet_of_view c.args.packet.now)
    c.untaken.new.self (cc) c.untaken.ensures in
    record { answer = x.answer; port = x.port }

pub index_mut-stream-requires : goal.index_mut-stream-requires
index_mut-stream-requires c =
    omega (
      arith,
      inside c.self.inside c.args.packet.now.prefix.stream c.in-Some.place c.self.invariant (cc),
      c.self.inside.streams.ok.0,
    )

pub take-requires-clause-few : goal.take-requires-clause-few
take-requires-clause-few c =
    (found-has (UnitsAtMost (2 ^ 40)) _ _ c.args.packet.now.prefix.stream _ c.requires.few
    (reads c.self.inside c.args.self.now c.self.view_is c.self.invariant c.args.packet.now.prefix.stream c.in-Some.place
    c.index_mut-stream.result.now (cc) c.index_mut-stream.ensures.value (λ f. f))).1

pub invariant_of-self : goal.invariant_of-self
invariant_of-self c =
    kept-taken c.self.inside c.self.invariant c.args.packet.now.prefix.stream c.in-Some.place
    c.index_mut-stream.result.now (cc)
    c.index_mut-stream.ensures.value
    c.take.new.self (packet_of_view c.args.packet.now) c.take.ensures.stream

pub returns : goal.returns
returns c =
    let x = taken-step c.self.inside c.args.self.now c.self.view_is (packet_of_view c.args.packet.now) c.self.invariant
    c.in-Some.place
    c.index_mut-stream.result.now c.take.new.self
    c.take.result c.arrival.result (cc) c.index_mut-stream.ensures.value c.take.ensures.answer c.take.ensures.stream
    c.arrival.ensures in
    record { answer = x.answer; port = x.port }
