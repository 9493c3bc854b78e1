use Rattle.std.proofs.Common.{◌≡◌, ◌+◌, ◌++◌, drop}
use Rattle.why_facts.specs.Forms.{requests_facts}
use Rattle.ide_why.specs.Facts.{readings_read}
use Rattle.ide_why.proofs.reader.Reader.push_held.Given as goal

-- the facts so far and those of the packets that are left
abbrev pub invariant-loop-i : goal.invariant-loop-i
invariant-loop-i l =
    l.facts.items
    ++ requests_facts l.self.plan.now (readings_read l.self.links.now) l.port (l.i + 1) (drop l.i l.held)
    ≡ l.fn.facts.items ++ requests_facts l.self.plan.now (readings_read l.self.links.now) l.port 1 l.held
