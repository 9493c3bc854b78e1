use Rattle.ide_port.proofs.Terms.{Some, sym, ap, ◌∙◌, arith, option_map}
use Rattle.ide_port.proofs.Keeping.{inside, there}
use Rattle.ide_port.proofs.Steps.{gone, reads}
use Rattle.ide_port.proofs.port.Port.facts.Goals as goal
use Rattle.ide_port.specs.Facts.{found_facts}
use Rattle.ide_port.specs.StreamEnds.{StreamEnd}
use Rattle.sub_stream.specs.Facts.{stream_facts}

pub index-requires : goal.index-requires
index-requires c = omega
    (arith, inside c.self.inside c.args.stream c.in-Some.place c.self.invariant (cc), c.self.inside.streams.ok.0)

pub returns-in-None : goal.returns-in-None
returns-in-None c = sym
    (ap (option_map found_facts)
    (gone c.self.inside c.args.self.now c.self.view_is c.args.stream (cc)))

pub returns-in-Some : goal.returns-in-Some
returns-in-Some c =
    let k = there c.self.inside c.self.invariant c.args.stream c.in-Some.place c.index.result.now (cc)
    c.index.ensures in
    ap Some (c.facts.ensures
    ∙ ap (λ (x : StreamEnd). stream_facts x.closed c.index.result.now.state) k.of_plan.plan)
    ∙ sym (reads c.self.inside c.args.self.now c.self.view_is c.self.invariant c.args.stream c.in-Some.place
    c.index.result.now (cc) c.index.ensures (option_map found_facts))
