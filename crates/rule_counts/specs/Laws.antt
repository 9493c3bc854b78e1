-- The list of rules is whole, and what the count of forgeries says.
use Rattle.std.specs.Prelude.{◌≡◌, ◌↔◌, List}
use Rattle.ide_types.specs.{Text}
use Rattle.ide_types.specs.declared.port.PortName.{PortName}
use Rattle.ide_types.specs.declared.sub.SubKind.{SubKind}
use Rattle.ide_types.specs.declared.plan.Plan.{Plan}
use Rattle.script_events.specs.declared.event.Event.{Event}
use Rattle.event_verdicts.specs.declared.verdict.Verdict.{Verdict}
use Rattle.event_verdicts.specs.declared.verdict.Effect.{Effect}
use Rattle.spec_keys.specs.History.{History}
use Rattle.spec_links.specs.Laws.{NoForgery}
use Rattle.told_facts.specs.declared.fact.Fact.{Fact}
use Rattle.why_facts.specs.{rule_of, effect_rule_of}
use Rattle.rule_counts.specs.Names.{answering_rules}
use Rattle.rule_counts.specs.Told.{times_in}
use Rattle.rule_counts.specs.Forged.{forged_count}

-- the rule stands in the list, once
abbrev pub IsListed : Text → Type 0
IsListed rule = times_in answering_rules rule ≡ 1

-- Each rule that can answer an event, or an effect of a packet, stands in the list once.
pub record RulesAreListed : Type 0 where
  pub answers : (e : Event) (w : Verdict) (facts : List Fact) → IsListed (rule_of e w facts)
  pub effects : (port : PortName) (sub : SubKind) (effect : Effect) → IsListed (effect_rule_of port sub effect)

-- No forgery is counted exactly if none was made.
abbrev pub ForgeriesAreCounted : Type 0
ForgeriesAreCounted = (plan : Plan) (h : History) → (forged_count plan h ≡ 0) ↔ NoForgery plan h
