use Rattle.ide_port.proofs.Terms.{sym, ap, ◌∙◌, arith, option_and_then, at_sub, Found}
use Rattle.spec_stream.specs.Slots.{receiving_draw}
use Rattle.ide_port.proofs.Keeping.{inside}
use Rattle.ide_port.proofs.Steps.{gone, reads}
use Rattle.ide_port.proofs.port.Port.receiving_draw.Goals as goal

pub index-requires : goal.index-requires
index-requires c = omega
    (arith, inside c.self.inside c.args.stream c.in-Some.place c.self.invariant (cc), c.self.inside.streams.ok.0)

pub returns-in-None : goal.returns-in-None
returns-in-None c =
    sym (ap (option_and_then (λ (f : Found). receiving_draw (at_sub f.state.rx c.args.sub).slots))
    (gone c.self.inside c.args.self.now c.self.view_is c.args.stream (cc)))

pub returns-in-Some : goal.returns-in-Some
returns-in-Some c =
    c.receiving_draw.ensures
    ∙ sym (reads c.self.inside c.args.self.now c.self.view_is c.self.invariant c.args.stream c.in-Some.place
    c.index.result.now (cc) c.index.ensures
    (option_and_then (λ (f : Found). receiving_draw (at_sub f.state.rx c.args.sub).slots)))
