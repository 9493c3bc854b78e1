use Rattle.std.proofs.Common.{◌≡◌, ◌++◌, drop}
use Rattle.ide_why.specs.Facts.{cleared_read}
use Rattle.ide_why.proofs.reader.Reader.push_cleared.Given as goal

-- the facts so far and those that are left
abbrev pub invariant-loop-stream : goal.invariant-loop-stream
invariant-loop-stream l = l.facts.items ++ cleared_read l.self.plan.now l.self.links.now l.end
    (drop l.stream-index l.streams) ≡ l.fn.facts.items ++ cleared_read l.self.plan.now l.self.links.now l.end l.streams
