-- The rules of a script are told and counted: line by line the text and the end are those that are due.
use Rattle.std.proofs.Common.{◌≡◌, ◌∙◌, ℕ, ◌+◌, ◌<◌, ◌≤◌, ◌==◌, ◌^◌, Bool, true, false, List, [], ◌∷◌, length, Option}
use Rattle.std.proofs.Common.{Some, None, Result, Ok, Err, refl, sym, ap, subst, arith, append_assoc}
use Rattle.std.specs.Prelude.{nat_lt}
use Rattle.ide_types.specs.declared.plan.Plan.{Plan}
use Rattle.script_events.specs.declared.event.Event.{Event}
use Rattle.script_events.specs.declared.script.ScriptEvent.{ScriptEvent}
use Rattle.script_events.specs.declared.fault.LineFault.{LineFault}
use Rattle.script_events.specs.Parse.{line_meaning}
use Rattle.event_verdicts.specs.declared.verdict.Verdict.{Verdict}
use Rattle.spec_keys.specs.History.{History, draws}
use Rattle.spec_links.specs.Due.{due}
use Rattle.history_events.specs.{event_of}
use Rattle.law_text.specs.Runs.{history_on, history_with_event}
use Rattle.ide_why.specs.{IsNewWorld, WorldStandsFor, WorldView}
use Rattle.rule_counts.specs.Coverage.{BeforeView, IsCoverage, LooksBefore, coverage_with}
use Rattle.rule_counts.specs.Lines.{event_rules_line, told_line}
use Rattle.rule_counts.specs.Seals.{AreSeals}
use Rattle.rule_counts.specs.Told.{effect_rules, event_rules, rules_told}
use Rattle.rule_counts.proofs.Covered.{covered_next}
use Rattle.file_runs.specs.Gain.{Text}
use Rattle.file_runs.specs.Gathering.{GoesOn, ended_text}
use Rattle.file_runs.specs.Lines.{after, cut_text, file_due, go_on, is_over, process, unended_due}
use Rattle.file_runs.specs.Outcome.{Due}
use Rattle.file_runs.specs.Pieces.{pieces}
use Rattle.ide_runs.specs.Cover.{CoverCame, CoverPast, CoverView, FollowsCover, cover_by_meaning, cover_closing}
use Rattle.ide_runs.specs.Cover.{cover_due, cover_line, covered_after, covered_last, covered_so_far, events_rules}
use Rattle.ide_runs.specs.Cover.{cover_past_with, if_shown, ran_cover}
use Rattle.script_runs.specs.Reads.{ScriptGoesOn}
use Rattle.script_runs.specs.Script.{AtEnd, Script, events_on, run_end, script_ended, script_of_pieces, unended_line}
use Rattle.script_runs.specs.Script.{with_line}
use Rattle.script_runs.specs.Works.{Follows, RunningView, VerdictCame}
use Rattle.script_runs.proofs.Scripts.{follows_nothing}

-- ---- what is kept follows the past

-- nothing follows no events
pub covers_nothing : (events : Bool) (plan : Plan) (world : WorldView) (w : CoverView) → IsNewWorld plan world
    → w.events ≡ events → w.running ≡ record {
      world = world;
      totals = record { sealed = 0; accepted = 0; failed = 0; blocked = 0 };
    } → IsCoverage plan w.coverage []
    → FollowsCover w (record { events = events; script = record { plan = plan; history = [] } })
covers_nothing events plan world w new events_are running_is covers = record {
  events_are = events_are;
  follows = subst (λ (r : RunningView). Follows r (record { plan = plan; history = [] })) (sym running_is)
      (follows_nothing plan world new);
  covers = covers;
}

-- ---- the lines

past_of : Bool → Plan → History → CoverPast
past_of events plan h = record { events = events; script = record { plan = plan; history = h } }

-- a line before what comes later
one_line : (events : Bool) (plan : Plan) (n : ℕ) (h : History) (m : Result (Option ScriptEvent) LineFault)
    (later : CoverPast → Due) (script : Script)
    → ((g : History) → later (past_of events plan g) ≡ covered_after events plan g script)
    → go_on n (cover_by_meaning (past_of events plan h) m) later ≡ covered_after events plan h (with_line n m script)
unfolding past_of
one_line events plan n h (Err fault) later script rest = refl
one_line events plan n h (Ok None) later script rest = rest h
one_line events plan n h (Ok (Some e)) later script rest =
    let x = event_of plan e in
    let g = history_with_event plan h x in
    let text = if_shown events (event_rules_line plan h x) in
    ap (after text) (rest g) ∙ ap (λ (t : Text). (run_end script.ending, t))
    (sym (append_assoc text (events_rules events plan g (events_on plan script))
    (covered_last script.ending plan (history_on plan g (events_on plan script)))))

unended_is : (events : Bool) (plan : Plan) (n : ℕ) (piece : Text) (h : History) (b : Bool)
    → nat_lt 20000 (length piece) ≡ b → unended_due n piece ≡ covered_after events plan h (unended_line n piece)
unended_is events plan n piece h true is = rw is refl
unended_is events plan n piece h false is = rw is refl

last_piece : (events : Bool) (plan : Plan) (over : Bool) (n : ℕ) (h : History) (piece : Text) (b : Bool)
    → (length piece == 0) ≡ b → process cover_line cover_closing over n (past_of events plan h) (piece ∷ [])
    ≡ covered_after events plan h (script_of_pieces over n (piece ∷ []))
unfolding past_of
last_piece events plan true n h piece b is = unended_is events plan n piece h (nat_lt 20000 (length piece)) refl
last_piece events plan false n h piece true is = rw is refl
last_piece events plan false n h piece false is =
    rw is (one_line events plan n h (line_meaning piece) cover_closing (script_ended AtEnd) (λ g. refl))

script_covered : (events : Bool) (plan : Plan) (over : Bool) (n : ℕ) (h : History) (pieces : List Text)
    → process cover_line cover_closing over n (past_of events plan h) pieces
    ≡ covered_after events plan h (script_of_pieces over n pieces)
unfolding past_of
script_covered events plan over n h [] = refl
script_covered events plan over n h (piece ∷ []) = last_piece events plan over n h piece (length piece == 0) refl
script_covered events plan over n h (piece ∷ next ∷ rest) =
    one_line events plan n h (line_meaning piece)
    (λ t. process cover_line cover_closing over (n + 1) t (next ∷ rest)) (script_of_pieces over (n + 1) (next ∷ rest))
    (λ g. script_covered events plan over (n + 1) g (next ∷ rest))

-- a script's file on the world of a plan
pub file_covered : (events : Bool) (plan : Plan) (file : Text)
    → file_due cover_line cover_closing (record { events = events; script = record { plan = plan; history = [] } }) file
    ≡ cover_due events plan file
unfolding past_of
file_covered events plan file = script_covered events plan (is_over file) 1 [] (pieces (cut_text file))

-- the lines of it that ended in some bytes
pub ended_covered : (events : Bool) (plan : Plan) (bytes : Text)
    → ended_text cover_line cover_closing (record { events = events; script = record { plan = plan; history = [] } })
    bytes ≡ covered_so_far events plan bytes
unfolding past_of
ended_covered events plan bytes = ap (λ (d : Due). d.1) (script_covered events plan true 1 [] (pieces bytes))

-- if no line ends the run of those bytes, none ends the script
pub covered_goes_on : (events : Bool) (plan : Plan) (bytes : Text)
    → GoesOn cover_line cover_closing (record { events = events; script = record { plan = plan; history = [] } }) bytes
    → ScriptGoesOn plan bytes
unfolding past_of
covered_goes_on events plan bytes goes_on =
    sym (ap (λ (d : Due). d.0) (script_covered events plan true 1 [] (pieces bytes))) ∙ goes_on

-- ---- an event

-- what was looked up before an event whose verdict came, and is counted with it
pub event_covers : (past : CoverPast) (e : Event) (old : CoverView) (running : RunningView) (w : Verdict)
    (b : BeforeView) (rules : List Text) (after : ℕ) → FollowsCover old past
    → ((h : History) → WorldStandsFor old.running.world h → AreSeals old.running.world.plan old.coverage.seals h
    → LooksBefore old.running.world.plan h e b)
    → VerdictCame past.script e running w → rules ≡ event_rules e w b.facts
    → length (event_rules e w b.facts) ≤ 9
    → ((h : History) → WorldStandsFor running.world h → after ≡ draws h) → length past.script.history < 2 ^ 32
    → FollowsCover (record
    { events = old.events; running = running; coverage = coverage_with old.coverage e w b rules after })
    (ran_cover past e).0
event_covers past e old running w b rules after follows looks came rules_are few drawn short =
    let h = past.script.history in
    let plan = past.script.plan in
    let is = came.verdict_is in
    let seals = subst (λ (p : Plan). AreSeals p old.coverage.seals h) (sym follows.follows.plan_is)
    follows.covers.seals_are in
    let looked = subst (λ (p : Plan). LooksBefore p h e b) follows.follows.plan_is
    (looks h follows.follows.stands seals) in
    let next = covered_next plan h e w old.coverage b rules after follows.covers looked is rules_are
    (subst (λ (rs : List Text). length rs ≤ 9) (sym rules_are) few)
    (subst (λ (v : Verdict). after ≡ draws ((e, v) ∷ h)) (sym is)
    (drawn (history_with_event plan h e) came.follows.stands)) short in
    record {
      events_are = follows.events_are;
      follows = came.follows;
      covers = subst (λ (v : Verdict). IsCoverage plan (coverage_with old.coverage e w b rules after) ((e, v) ∷ h)) is
          next;
    }

-- the rules that are told of it
pub rules_are : (past : CoverPast) (e : Event) (old : CoverView) (w : Verdict) (b : BeforeView) (rules : List Text)
    → FollowsCover old past
    → ((h : History) → WorldStandsFor old.running.world h → AreSeals old.running.world.plan old.coverage.seals h
    → LooksBefore old.running.world.plan h e b)
    → w ≡ due past.script.plan past.script.history e → rules ≡ event_rules e w b.facts
    → rules ≡ rules_told past.script.plan past.script.history e
rules_are past e old w b rules follows looks is told =
    let h = past.script.history in
    let seals = subst (λ (p : Plan). AreSeals p old.coverage.seals h) (sym follows.follows.plan_is)
    follows.covers.seals_are in
    let looked = subst (λ (p : Plan). LooksBefore p h e b) follows.follows.plan_is
    (looks h follows.follows.stands seals) in
    told ∙ (λ i. looked.rule_is (is i) i ∷ effect_rules (is i))

-- its line, and that what is kept and counted follows the past with it
pub event_came : (past : CoverPast) (e : Event) (old : CoverView) (running : RunningView) (w : Verdict) (b : BeforeView)
    (rules : List Text) (after : ℕ) (new : CoverView) (text : Text) → FollowsCover old past
    → ((h : History) → WorldStandsFor old.running.world h → AreSeals old.running.world.plan old.coverage.seals h
    → LooksBefore old.running.world.plan h e b)
    → VerdictCame past.script e running w → rules ≡ event_rules e w b.facts → length (effect_rules w) ≤ 8
    → ((h : History) → WorldStandsFor running.world h → after ≡ draws h) → length past.script.history < 2 ^ 32
    → record {
      events = old.events;
      running = running;
      coverage = coverage_with old.coverage e w b rules after;
    } ≡ new
    → text ≡ if_shown old.events (told_line running.world.steps rules) → CoverCame (ran_cover past e) new text
event_came past e old running w b rules after new text follows looks came are few drawn short is shown =
    let many : length (event_rules e w b.facts) ≤ 9 = omega (arith, few) in
    let steps : running.world.steps ≡ length past.script.history + 1 = omega (arith, came.follows.steps_are) in
    let told = rules_are past e old w b rules follows looks came.verdict_is are in
    record {
      text_is = shown ∙ (λ i. if_shown (follows.events_are i) (told_line (steps i) (told i)));
      follows = subst (λ (v : CoverView). FollowsCover v (cover_past_with past e)) is
          (event_covers past e old running w b rules after follows looks came are many drawn short);
    }
