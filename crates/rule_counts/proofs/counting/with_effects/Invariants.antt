use Rattle.std.proofs.Common.{◌≡◌, ◌++◌, drop, map}
use Rattle.why_facts.specs.{effect_rule_of}
use Rattle.rule_counts.proofs.counting.with_effects.Given as goal

-- the rules so far and those that are left
abbrev pub invariant-loop-effect : goal.invariant-loop-effect
invariant-loop-effect l =
    map (λ s. s.now) l.told.items ++ map (effect_rule_of l.fn.port l.fn.sub) (drop l.effect-index l.effects)
    ≡ map (λ s. s.now) l.fn.told.items ++ map (effect_rule_of l.fn.port l.fn.sub) l.effects
