use Rattle.std.proofs.Common.{◌≡◌, Bool, [], ◌++◌, Some, None, subst, sym, ◌∙◌}
use Rattle.std.specs.Prelude.{IfOk, if◌then◌else◌}
use Rattle.spec_links.specs.Packets.{arrival_at}
use Rattle.ide_why.specs.Facts.{arrival_facts}
use Rattle.ide_why.proofs.reader.Reader.push_arrived.Goals as goal

pub returns-then-has_port : goal.returns-then-has_port
returns-then-has_port c =
    subst (λ (b : Bool). IfOk c.push_arrival.result (λ x. c.push_arrival.new.facts.items ≡ c.args.facts.now.items
    ++ arrival_facts c.args.self.now.plan.now c.args.self.now.links.now []
    (if b then Some (arrival_at c.args.self.now.plan.now c.args.port c.args.bytes.now) else None)))
    (sym (sym c.has_port.ensures ∙ c.if-has_port.true)) (c.push_arrival.ensures [])
