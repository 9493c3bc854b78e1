-- What is counted follows the history, event by event.
use Rattle.std.proofs.Common.{◌≡◌, ℕ, ◌+◌, ◌≤◌, ◌<◌, ◌&&◌, Bool, true, false, List, [], ◌∷◌, length, map, refl, sym, ap}
use Rattle.std.proofs.Common.{◌∙◌, subst, arith, Option, Some, None, ◌^◌}
use Rattle.std.specs.List.{AllByRecursion, flat_map}
use Rattle.std.specs.Prelude.{◌++◌, if◌then◌else◌, replicate}
use Rattle.ide_types.specs.{Text}
use Rattle.ide_types.specs.Fits.{FitsPlan}
use Rattle.ide_types.specs.declared.plan.Plan.{Plan}
use Rattle.script_events.specs.declared.event.Event.{Event}
use Rattle.script_events.specs.declared.event.Event.TheVariants as event
use Rattle.event_verdicts.specs.declared.verdict.Verdict.{Verdict}
use Rattle.spec_keys.specs.History.{History, draws}
use Rattle.spec_links.specs.History.{ArrivedBytes}
unfoldable use Rattle.spec_links.specs.History.{arrival_of_event}
use Rattle.spec_links.specs.Due.{arrival_due}
unfoldable use Rattle.spec_links.specs.Due.{due}
use Rattle.machine_whole.specs.Machine.{arrival_of}
use Rattle.why_facts.proofs.Arrivals.{arrival_is}
use Rattle.world.specs.{AreLinks, WholeLinks, WorldStandsFor, links_state, world_of}
use Rattle.machine_ports.specs.Machine.{LinkState}
use Rattle.rule_counts.specs.Names.{answering_rules}
use Rattle.rule_counts.specs.Told.{effect_rules, event_rules, rules_told, times_in}
use Rattle.rule_counts.specs.Laws.{IsListed}
unfoldable use Rattle.rule_counts.specs.Told.{rule_count}
use Rattle.rule_counts.specs.Counting.{counted_all, one_more}
use Rattle.rule_counts.specs.Coverage.{BeforeView, CoverageView, IsCoverage, LooksBefore, coverage_with}
use Rattle.rule_counts.specs.Forged.{forged_at, is_forged_arrival}
unfoldable use Rattle.rule_counts.specs.Forged.{forged_count}
use Rattle.rule_counts.specs.Lines.{count_lines, counts_shown, counts_text, forged_line, rule_count_line}
use Rattle.rule_counts.specs.Seals.{AreSeals, SealsView}
use Rattle.rule_counts.specs.Unsealed.{is_verified_by, unsealed_arrival}
use Rattle.rule_counts.proofs.Counts.{all_counted, last_count, more_once, times_few}
use Rattle.rule_counts.proofs.Decided.{arrival_found}
use Rattle.rule_counts.proofs.Forgeries.{few_forgeries}
use Rattle.rule_counts.proofs.Listed.{event_listed}
use Rattle.rule_counts.proofs.Noted.{no_seals, seals_next}
use Rattle.rule_counts.proofs.Verified.{ending_is, forged_by}

-- ---- forgeries

module _ (plan : Plan) (fits : FitsPlan plan) (s : WholeLinks) (links : AreLinks plan s.links.ends s.links.keeper.keys)
    (h : History) (stood : WorldStandsFor (world_of plan s) h) (seals : SealsView) (are : AreSeals plan seals h)
  where
    by_arrival : (o : Option ArrivedBytes)
        → (unsealed_arrival seals s o && is_verified_by (arrival_due plan h o)) ≡ is_forged_arrival plan h o
    by_arrival None = refl
    by_arrival (Some a) =
        forged_by plan h a (unsealed_arrival seals s (Some a))
        (λ x tested verified. arrival_found plan fits s links h stood seals are a x (ending_is plan h a x tested))

    brings : (e : Event) → arrival_of plan (links_state plan s.links) e ≡ arrival_of_event plan h e
    brings e =
        ap (λ (st : LinkState). arrival_of plan st e) (sym stood.is.links)
        ∙ arrival_is plan stood.whole.links h stood.stands.links.ports_stand e

    of_arrival : (e : Event) → due plan h e ≡ arrival_due plan h (arrival_of_event plan h e)
        → (unsealed_arrival seals s (arrival_of plan (links_state plan s.links) e) && is_verified_by (due plan h e))
        ≡ forged_at plan h e
    of_arrival e is =
        (λ i. unsealed_arrival seals s (brings e i) && is_verified_by (is i))
        ∙ by_arrival (arrival_of_event plan h e)

    -- whether an event is a forgery
    pub forged_is : (e : Event)
        → (unsealed_arrival seals s (arrival_of plan (links_state plan s.links) e) && is_verified_by (due plan h e))
        ≡ forged_at plan h e
    unfolding due arrival_of_event
    forged_is (event.Pass n) = of_arrival (event.Pass n) refl
    forged_is (event.Alter n at mask) = of_arrival (event.Alter n at mask) refl
    forged_is (event.Cut n len) = of_arrival (event.Cut n len) refl
    forged_is (event.Arrive port bytes) = of_arrival (event.Arrive port bytes) refl
    forged_is e = refl

-- ---- one event more

-- no history is longer than a run's
abbrev pub IsShort : History → Type 0
IsShort h = length h < 2 ^ 32

forged_next : (c : ℕ) (b : Bool) (n : ℕ) → c ≡ n → n < 2 ^ 32
    → (if b then one_more c else c) ≡ n + (if b then 1 else 0)
forged_next c true n is few = ap one_more is ∙ more_once n (omega (arith, few))
forged_next c false n is few = omega (arith, is)

pub covered_next : (plan : Plan) (h : History) (e : Event) (w : Verdict) (c : CoverageView) (b : BeforeView)
    (rules : List Text) (after : ℕ) → IsCoverage plan c h → LooksBefore plan h e b → w ≡ due plan h e
    → rules ≡ event_rules e w b.facts → length rules ≤ 9 → after ≡ draws ((e, w) ∷ h) → IsShort h
    → IsCoverage plan (coverage_with c e w b rules after) ((e, w) ∷ h)
unfolding rule_count forged_count
covered_next plan h e w c b rules after covers looks is rules_are few after_is short =
    let told : rules ≡ rules_told plan h e =
    rules_are ∙ (λ i. looks.rule_is (is i) i ∷ effect_rules (is i)) in
    let listed = subst (AllByRecursion IsListed) (sym rules_are) (event_listed e w b.facts) in
    let most : (name : Text) → rule_count plan h name + length rules ≤ last_count =
    λ name. omega (arith, covers.few name, few, short) in
    record {
      counts_are =
          ap (counted_all rules) covers.counts_are
          ∙ (all_counted rules (rule_count plan h) listed most
          ∙ ap (λ (rs : List Text). map (λ (name : Text). rule_count plan h name + times_in rs name) answering_rules)
          told);
      few = λ name.
          let more = times_few rules name in
          let here = ap (λ (rs : List Text). times_in rs name) told in
          omega (arith, covers.few name, more, here, few);
      forged_is =
          ap (λ (t : Bool). if t then one_more c.forged else c.forged)
          (ap (λ (v : Verdict). b.unsealed && is_verified_by v) is ∙ looks.forged_is)
          ∙ forged_next c.forged (forged_at plan h e) (forged_count plan h) covers.forged_is
          (omega (arith, few_forgeries plan h, short));
      seals_are = seals_next plan h e w c.seals b.draws after covers.seals_are looks.draws_are after_is;
    }

-- before the first event
pub none_covered : (plan : Plan) → IsCoverage plan (record {
  counts = replicate 85 0;
  forged = 0;
  seals = record { packets = []; bases = [] };
}) []
unfolding rule_count forged_count
none_covered plan =
    record { counts_are = refl; few = λ rule. omega arith; forged_is = refl; seals_are = no_seals plan }

-- ---- the text

pub lines_are : (names : List Text) (f : Text → ℕ) → count_lines names (map f names)
    ≡ flat_map (λ (rule : Text). rule_count_line rule (f rule)) names
lines_are [] f = refl
lines_are (name ∷ names) f = ap (λ (t : Text). rule_count_line name (f name) ++ t) (lines_are names f)

pub text_is : (plan : Plan) (c : CoverageView) (h : History) → IsCoverage plan c h
    → counts_shown c ≡ counts_text plan h
text_is plan c h covers =
    (λ i. count_lines answering_rules (covers.counts_are i) ++ forged_line (covers.forged_is i))
    ∙ ap (λ (t : Text). t ++ forged_line (forged_count plan h)) (lines_are answering_rules (rule_count plan h))
