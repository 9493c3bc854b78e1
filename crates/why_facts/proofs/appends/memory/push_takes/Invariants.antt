use Rattle.std.proofs.Common.{◌≡◌, ◌++◌, drop}
use Rattle.why_facts.specs.Forms.{takes_facts}
use Rattle.why_facts.proofs.appends.memory.push_takes.Given as goal

-- the facts so far and those that are left
abbrev pub invariant-loop-binding : goal.invariant-loop-binding
invariant-loop-binding l = l.facts.items ++ takes_facts (drop l.binding-index l.bindings)
    ≡ l.fn.facts.items ++ takes_facts l.bindings
