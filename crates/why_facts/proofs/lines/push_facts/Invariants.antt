use Rattle.std.proofs.Common.{◌≡◌, ◌++◌, drop}
use Rattle.std.specs.Prelude.{string_bytes}
use Rattle.why_facts.specs.Lines.{facts_text}
use Rattle.why_facts.proofs.lines.push_facts.Given as goal

-- the text so far and the lines that are left
abbrev pub invariant-loop-fact : goal.invariant-loop-fact
invariant-loop-fact l = string_bytes l.text ++ facts_text l.verdict (drop l.fact-index l.facts)
    ≡ string_bytes l.fn.text ++ facts_text l.verdict l.facts
