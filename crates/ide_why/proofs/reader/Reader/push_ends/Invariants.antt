use Rattle.std.proofs.Common.{◌≡◌, ◌++◌, drop}
use Rattle.ide_why.specs.Facts.{reset_read}
use Rattle.ide_why.proofs.reader.Reader.push_ends.Given as goal

-- the facts so far and those that are left
abbrev pub invariant-loop-end : goal.invariant-loop-end
invariant-loop-end l = l.facts.items ++ reset_read l.self.plan.now l.self.links.now (drop l.end-index l.ends)
    ≡ l.fn.facts.items ++ reset_read l.self.plan.now l.self.links.now l.ends
