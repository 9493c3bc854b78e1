use Rattle.std.proofs.Common.{◌≡◌, ◌++◌, drop, map}
use Rattle.std.specs.Prelude.{string_bytes}
use Rattle.ide_types.specs.{joined_words}
use Rattle.rule_counts.proofs.lines.push_rules.Given as goal

-- the text so far and the words that are left
abbrev pub invariant-loop-rule : goal.invariant-loop-rule
invariant-loop-rule l = string_bytes l.text ++ joined_words (map (λ s. s.now) (drop l.rule-index l.told))
    ≡ string_bytes l.fn.text ++ joined_words (map (λ s. s.now) l.told)
