use Rattle.std.specs.Option.{option_map_or}
use Rattle.ide_port.proofs.Terms.{[], sym, ap, ◌∙◌, arith}
use Rattle.ide_port.proofs.Keeping.{inside}
use Rattle.ide_port.proofs.Steps.{gone, reads}
use Rattle.ide_port.proofs.port.Port.held.Goals as goal
use Rattle.ide_port.specs.Facts.{held_of_found}

pub index-requires : goal.index-requires
index-requires c = omega
    (arith, inside c.self.inside c.args.stream c.in-Some.place c.self.invariant (cc), c.self.inside.streams.ok.0)

pub returns-in-None : goal.returns-in-None
returns-in-None c =
    c.none.ensures
    ∙ sym (ap (λ f. option_map_or (held_of_found c.args.sub c.args.k) f [])
    (gone c.self.inside c.args.self.now c.self.view_is c.args.stream (cc)))

pub returns-in-Some : goal.returns-in-Some
returns-in-Some c =
    c.held.ensures
    ∙ sym (reads c.self.inside c.args.self.now c.self.view_is c.self.invariant c.args.stream c.in-Some.place
    c.index.result.now (cc) c.index.ensures
    (λ f. option_map_or (held_of_found c.args.sub c.args.k) f []))
