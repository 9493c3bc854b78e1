use Rattle.std.proofs.Common.{◌≡◌, ◌++◌, drop, map}
use Rattle.std.specs.Prelude.{string_bytes}
use Rattle.rule_counts.specs.Lines.{count_lines}
use Rattle.rule_counts.proofs.lines.push_counts.Given as goal

-- the text so far and the lines that are left
abbrev pub invariant-loop-i : goal.invariant-loop-i
invariant-loop-i l = string_bytes l.text ++ count_lines (map (λ s. s.now) (drop l.i l.names)) (drop l.i l.counts)
    ≡ string_bytes l.fn.text ++ count_lines (map (λ s. s.now) l.names) l.counts
