use Rattle.std.proofs.Common.{◌≡◌, ◌++◌, drop}
use Rattle.std.specs.Prelude.{string_bytes}
use Rattle.ide_types.specs.Names.{joined_words}
use Rattle.event_verdicts.specs.Lines.{effects_words}
use Rattle.event_verdicts.proofs.lines.push_effects.Given as goal

-- the text so far and the words that are left
abbrev pub invariant-loop-effect : goal.invariant-loop-effect
invariant-loop-effect l = string_bytes l.text ++ joined_words (effects_words (drop l.effect-index l.effects))
    ≡ string_bytes l.fn.text ++ joined_words (effects_words l.effects)
