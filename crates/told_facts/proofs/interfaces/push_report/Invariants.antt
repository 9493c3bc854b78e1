use Rattle.std.proofs.Common.{◌≡◌, ◌-◌, ◌++◌}
use Rattle.told_facts.specs.Exchanges.{most_portions, report_from}
use Rattle.told_facts.proofs.interfaces.push_report.Given as goal

-- the facts so far and the portions that are left
abbrev pub invariant-loop-n : goal.invariant-loop-n
invariant-loop-n l =
    l.facts.items ++ report_from l.function l.size l.interface l.n l.read (1141 - l.n)
    ≡ l.fn.facts.items ++ report_from l.function l.size l.interface 1 0 most_portions
