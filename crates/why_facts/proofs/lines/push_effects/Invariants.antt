use Rattle.std.proofs.Common.{◌≡◌, ◌++◌, drop}
use Rattle.std.specs.Prelude.{string_bytes}
use Rattle.why_facts.specs.Lines.{effect_lines}
use Rattle.why_facts.proofs.lines.push_effects.Given as goal

-- the text so far and the lines that are left
abbrev pub invariant-loop-effect : goal.invariant-loop-effect
invariant-loop-effect l = string_bytes l.text ++ effect_lines l.fn.port l.fn.sub (drop l.effect-index l.effects)
    ≡ string_bytes l.fn.text ++ effect_lines l.fn.port l.fn.sub l.effects
