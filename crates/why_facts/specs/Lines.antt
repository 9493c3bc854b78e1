-- The lines of why an event has its verdict: the rule that answers, that of each packet's effect, and the facts.
use Rattle.std.specs.Prelude.{List, [], ◌∷◌, ◌++◌, codes}
use Rattle.ide_types.specs.{Text, joined_words}
use Rattle.ide_types.specs.declared.port.PortName.{PortName}
use Rattle.ide_types.specs.declared.sub.SubKind.{SubKind}
use Rattle.script_events.specs.declared.event.Event.{Event}
use Rattle.event_verdicts.specs.declared.verdict.Verdict.{Verdict}
use Rattle.event_verdicts.specs.declared.verdict.Effect.{Effect}
use Rattle.event_verdicts.specs.declared.verdict.Verdict.TheVariants as v
use Rattle.told_facts.specs.declared.fact.Fact.{Fact}
use Rattle.told_facts.specs.Told.{fact_lines}
use Rattle.why_facts.specs.Rules.{rule_of, effect_rule_of}

abbrev pub rule_line : Text → Text
rule_line rule = joined_words (codes "rule" ∷ rule ∷ [])

-- under the verdict
abbrev pub facts_text : Verdict → List Fact → Text
facts_text w [] = []
facts_text w (x ∷ xs) = fact_lines w x ++ facts_text w xs

-- before the text that follows
abbrev pub effect_lines : PortName → SubKind → List Effect → Text
effect_lines port sub [] = []
effect_lines port sub (e ∷ es) = rule_line (effect_rule_of port sub e) ++ effect_lines port sub es

-- of an accepted unit a rule for each packet
abbrev pub rules_text : Verdict → Text
rules_text (v.Accepted port unit effects) = effect_lines port unit.sub effects
rules_text w = []

abbrev pub why_text_of : Event → Verdict → List Fact → Text
why_text_of e w xs = rule_line (rule_of e w xs) ++ rules_text w ++ facts_text w xs
