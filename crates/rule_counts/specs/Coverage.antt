-- What is counted so far, and that it is what a history says.
use Rattle.std.specs.Prelude.{ℕ, ◌≡◌, ◌*◌, ◌≤◌, ◌&&◌, Bool, List, if◌then◌else◌, length, map}
use Rattle.ide_types.specs.{Text}
use Rattle.ide_types.specs.declared.plan.Plan.{Plan}
use Rattle.script_events.specs.declared.event.Event.{Event}
use Rattle.event_verdicts.specs.declared.verdict.Verdict.{Verdict}
use Rattle.spec_keys.specs.History.{History, draws}
use Rattle.spec_links.specs.Due.{due}
use Rattle.told_facts.specs.declared.fact.Fact.{Fact}
use Rattle.why_facts.specs.{facts_due, rule_of}
use Rattle.rule_counts.specs.Names.{answering_rules}
unfoldable use Rattle.rule_counts.specs.Told.{rule_count}
use Rattle.rule_counts.specs.Counting.{counted_all, one_more}
use Rattle.rule_counts.specs.Forged.{forged_at}
unfoldable use Rattle.rule_counts.specs.Forged.{forged_count}
use Rattle.rule_counts.specs.Seals.{AreSeals, SealsView, noted}
use Rattle.rule_counts.specs.Unsealed.{is_verified_by}

-- how often each rule was told, how many forgeries there were, and what was sealed
pub record CoverageView : Type 0 where
  pub counts : List ℕ
  pub forged : ℕ
  pub seals : SealsView

-- What is counted is what the history says; no count passes nine for each event.
pub record IsCoverage (plan : Plan) (c : CoverageView) (h : History) : Type 0 where
  pub counts_are : c.counts ≡ map (rule_count plan h) answering_rules
  pub few : (rule : Text) → rule_count plan h rule ≤ 9 * length h
  pub forged_is : c.forged ≡ forged_count plan h
  pub seals_are : AreSeals plan c.seals h

-- what is looked up before an event: the facts that its rule may ask for, whether its tag is forged if it verifies, and
-- how many draws were made
pub record BeforeView : Type 0 where
  pub facts : List Fact
  pub unsealed : Bool
  pub draws : ℕ

-- it is what the history says
pub record LooksBefore (plan : Plan) (h : History) (e : Event) (b : BeforeView) : Type 0 where
  pub rule_is : (w : Verdict) → rule_of e w b.facts ≡ rule_of e w (facts_due plan h e)
  pub forged_is : (b.unsealed && is_verified_by (due plan h e)) ≡ forged_at plan h e
  pub draws_are : b.draws ≡ draws h

-- with an event, its verdict and the rules that are told of it; so many draws were made after it
abbrev pub coverage_with : CoverageView → Event → Verdict → BeforeView → List Text → (after : ℕ) → CoverageView
coverage_with c e w b rules after = record {
  counts = counted_all rules c.counts;
  forged = if b.unsealed && is_verified_by w then one_more c.forged else c.forged;
  seals = noted c.seals e w b.draws after;
}
