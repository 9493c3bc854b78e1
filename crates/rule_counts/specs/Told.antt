-- The rules that are told of each event of a history, and how often each is told.
use Rattle.std.specs.Prelude.{ℕ, ◌+◌, List, [], ◌∷◌, if◌then◌else◌, map, nat_eq}
use Rattle.std.specs.Cmp.Lexicographic.{pointwise}
use Rattle.ide_types.specs.{Text}
use Rattle.ide_types.specs.declared.plan.Plan.{Plan}
use Rattle.script_events.specs.declared.event.Event.{Event}
use Rattle.event_verdicts.specs.declared.verdict.Verdict.{Verdict}
use Rattle.event_verdicts.specs.declared.verdict.Verdict.TheVariants as v
use Rattle.spec_keys.specs.History.{History}
use Rattle.spec_links.specs.Due.{due}
use Rattle.told_facts.specs.declared.fact.Fact.{Fact}
use Rattle.why_facts.specs.{facts_due, rule_of, effect_rule_of}

-- of an accepted unit the rule of each packet's effect
abbrev pub effect_rules : Verdict → List Text
effect_rules (v.Accepted port unit effects) = map (effect_rule_of port unit.sub) effects
effect_rules w = []

-- the rule that answers, and those of the effects: the rules that `why` tells
abbrev pub event_rules : Event → Verdict → List Fact → List Text
event_rules e w xs = rule_of e w xs ∷ effect_rules w

-- of an event that comes after a history
abbrev pub rules_told : Plan → History → Event → List Text
rules_told plan h e = event_rules e (due plan h e) (facts_due plan h e)

-- how often a rule stands in a list
abbrev pub times_in : List Text → Text → ℕ
times_in [] rule = 0
times_in (name ∷ names) rule = (if pointwise nat_eq name rule then 1 else 0) + times_in names rule

-- of how many events of a history, and effects of their packets, the rule is told
unfoldable pub rule_count : Plan → History → Text → ℕ
rule_count plan [] rule = 0
rule_count plan ((e, w) ∷ h) rule = rule_count plan h rule + times_in (rules_told plan h e) rule
