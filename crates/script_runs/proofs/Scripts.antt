-- Running the lines of a script from a past on gives the end and the text that are due: line by line, both take the
-- same verdict, the one that is due, and write the same line. The world follows that past, since each of its steps
-- gives the verdict that is due.
use Rattle.std.proofs.Common.{◌≡◌, ℕ, ◌+◌, ◌==◌, Bool, true, false, List, [], ◌∷◌, length, Option, Some, None, Result}
use Rattle.std.proofs.Common.{Ok, Err, refl, sym, ap, ◌∙◌, ◌++◌, subst, arith, append_assoc}
use Rattle.std.specs.Prelude.{nat_lt, sum_by}
use Rattle.std.proofs.lemmas.List.Sums.{sum_by-cons}
use Rattle.ide_types.specs.declared.plan.Plan.{Plan}
use Rattle.script_events.specs.declared.event.Event.{Event}
use Rattle.script_events.specs.declared.script.ScriptEvent.{ScriptEvent}
use Rattle.event_verdicts.specs.declared.verdict.Verdict.{Verdict}
use Rattle.event_verdicts.specs.declared.verdict.Totals.{Totals}
use Rattle.script_events.specs.declared.fault.LineFault.{LineFault}
use Rattle.script_events.specs.Parse.{line_meaning}
use Rattle.event_verdicts.specs.Lines.{line_of}
use Rattle.event_verdicts.specs.Shown.{verdict_by_ports}
use Rattle.spec_keys.specs.History.{History}
use Rattle.spec_links.specs.Due.{due}
use Rattle.history_events.specs.{event_of}
use Rattle.law_text.specs.Runs.{history_with_event, history_on, text_on, totals_of, sealed_count, accepted_in}
use Rattle.law_text.specs.Runs.{failed_in, blocked_in}
use Rattle.world.specs.{WorldView, WorldStandsFor, IsNewWorld, IsStep}
use Rattle.file_runs.specs.Gain.{Text}
use Rattle.file_runs.specs.Outcome.{Due}
use Rattle.file_runs.specs.Pieces.{pieces}
use Rattle.file_runs.specs.Lines.{after, cut_text, file_due, go_on, is_over, process, unended_due}
use Rattle.script_runs.specs.Script.{Script, AtEnd, script_ended, with_line, unended_line, script_of_pieces, run_end}
use Rattle.script_runs.specs.Script.{last_line, due_after, events_on, script_due, script_of}
use Rattle.file_runs.specs.Gathering.{GoesOn, ended_text}
use Rattle.script_runs.specs.Reads.{ScriptGoesOn}
use Rattle.script_runs.specs.SoFar.{script_so_far}
use Rattle.script_runs.specs.Texts.{texts_after, texts_due, texts_on, texts_so_far}
use Rattle.script_runs.specs.Works.{EventText, RunningView, ScriptPast, Follows, EventCame, VerdictCame, totals_with}
use Rattle.script_runs.specs.Works.{closing_due, line_ran, meaning_ran, ran_event, ran_line, verdict_line}

-- ---- the world follows the past

totals : ℕ → ℕ → ℕ → ℕ → Totals
totals sealed accepted failed blocked = record
    { sealed = sealed; accepted = accepted; failed = failed; blocked = blocked }

same_totals : (a b c d e f g i : ℕ) → a ≡ e → b ≡ f → c ≡ g → d ≡ i → totals a b c d ≡ totals e f g i
same_totals a b c d e f g i ae bf cg di = ap (λ (n : ℕ). totals n b c d) ae ∙ ap (λ (n : ℕ). totals e n c d) bf
    ∙ ap (λ (n : ℕ). totals e f n d) cg ∙ ap (λ (n : ℕ). totals e f g n) di

one_more : (f : Event × Verdict → ℕ) (x : Event × Verdict) (h : History) → sum_by f h + f x ≡ sum_by f (x ∷ h)
one_more f x h = omega (arith, sum_by-cons f x h)

totals_more : (t : Totals) (h : History) (e : Event) (v : Verdict) → t ≡ totals_of h → totals_with t v
    ≡ totals_of ((e, v) ∷ h)
unfolding totals
totals_more t h e v is =
    ap (λ (u : Totals). totals_with u v) is
    ∙ same_totals _ _ _ _ _ _ _ _ (one_more (λ x. sealed_count x.1) (e, v) h) (one_more (λ x. accepted_in x.1) (e, v) h)
    (one_more (λ x. failed_in x.1) (e, v) h) (one_more (λ x. blocked_in x.1) (e, v) h)

running : WorldView → Totals → RunningView
running world totals = record { world = world; totals = totals }

-- a step that gives the due verdict
event_due : (past : ScriptPast) (t : Totals) (e : Event) (old new : WorldView) (v : Verdict)
    → Follows (running old t) past → IsStep old e v new → v ≡ due past.plan past.history e
    → VerdictCame past e (running new (totals_with t v)) v
unfolding running
event_due past t e old new v follows step is =
    let h = past.history in
    let steps : new.steps ≡ length h + 1 = omega (arith, step.steps_are, follows.steps_are) in
    record {
      verdict_is = is;
      follows = record {
        plan_is = step.plan_is ∙ follows.plan_is;
        stands = subst (λ (w : Verdict). WorldStandsFor new ((e, w) ∷ h)) is (step.stood h follows.stands).stands;
        steps_are = omega (arith, steps);
        totals_are = totals_more t h e v follows.totals_are ∙ ap (λ (w : Verdict). totals_of ((e, w) ∷ h)) is;
      };
    }

pub verdict_comes : (past : ScriptPast) (t now : Totals) (e : Event) (old new : WorldView) (v : Verdict)
    → Follows (record { world = old; totals = t }) past → IsStep old e v new → now ≡ totals_with t v
    → VerdictCame past e (record { world = new; totals = now }) v
unfolding running
verdict_comes past t now e old new v follows step more =
    let due_is = (step.stood past.history follows.stands).due_is in
    rw more (event_due past t e old new v follows step
    (due_is ∙ ap (λ (p : Plan). due p past.history e) follows.plan_is))

-- the line of that verdict
pub event_comes : (past : ScriptPast) (e : Event) (r : RunningView) (v : Verdict) (text : Text) → VerdictCame past e r v
    → text ≡ line_of r.world.steps (verdict_by_ports r.world.plan.peers v) → EventCame (ran_event past e) r text
event_comes past e r v text came line =
    let number : r.world.steps ≡ length past.history + 1 = omega (arith, came.follows.steps_are) in
    record {
      text_is = line ∙ ap (λ (m : ℕ). line_of m (verdict_by_ports r.world.plan.peers v)) number
          ∙ ap (λ (p : Plan). line_of (length past.history + 1) (verdict_by_ports p.peers v)) came.follows.plan_is
          ∙ ap (λ (w : Verdict). line_of (length past.history + 1) (verdict_by_ports past.plan.peers w))
          came.verdict_is;
      follows = came.follows;
    }

-- the first world follows no events
pub follows_nothing : (plan : Plan) (world : WorldView) → IsNewWorld plan world
    → Follows (record { world = world; totals = record { sealed = 0; accepted = 0; failed = 0; blocked = 0 } })
    (record { plan = plan; history = [] })
follows_nothing plan world new = record {
  plan_is = new.plan_is;
  stands = new.stands;
  steps_are = new.steps_are;
  totals_are = refl;
}

-- ---- the lines

past_of : Plan → History → ScriptPast
past_of plan h = record { plan = plan; history = h }

-- a line before what comes later
one_line : (text : EventText) (plan : Plan) (n : ℕ) (h : History) (m : Result (Option ScriptEvent) LineFault)
    (later : ScriptPast → Due) (script : Script)
    → ((g : History) → later (past_of plan g) ≡ texts_after text plan g script)
    → go_on n (meaning_ran text (past_of plan h) m) later ≡ texts_after text plan h (with_line n m script)
unfolding past_of
one_line text plan n h (Err fault) later script rest = refl
one_line text plan n h (Ok None) later script rest = rest h
one_line text plan n h (Ok (Some e)) later script rest =
    let x = event_of plan e in
    let g = history_with_event plan h x in
    let first = text plan h (x, due plan h x) in
    ap (after first) (rest g) ∙ ap (λ (t : Text). (run_end script.ending, t))
    (sym (append_assoc first (texts_on text plan g (events_on plan script))
    (last_line script.ending (history_on plan g (events_on plan script)))))

unended_is : (text : EventText) (plan : Plan) (n : ℕ) (piece : Text) (h : History) (b : Bool)
    → nat_lt 20000 (length piece) ≡ b → unended_due n piece ≡ texts_after text plan h (unended_line n piece)
unended_is text plan n piece h true is = rw is refl
unended_is text plan n piece h false is = rw is refl

last_piece : (text : EventText) (plan : Plan) (over : Bool) (n : ℕ) (h : History) (piece : Text) (b : Bool)
    → (length piece == 0) ≡ b → process (line_ran text) closing_due over n (past_of plan h) (piece ∷ [])
    ≡ texts_after text plan h (script_of_pieces over n (piece ∷ []))
unfolding past_of
last_piece text plan true n h piece b is = unended_is text plan n piece h (nat_lt 20000 (length piece)) refl
last_piece text plan false n h piece true is = rw is refl
last_piece text plan false n h piece false is =
    rw is (one_line text plan n h (line_meaning piece) closing_due (script_ended AtEnd) (λ g. refl))

texts_run : (text : EventText) (plan : Plan) (over : Bool) (n : ℕ) (h : History) (pieces : List Text)
    → process (line_ran text) closing_due over n (past_of plan h) pieces
    ≡ texts_after text plan h (script_of_pieces over n pieces)
unfolding past_of
texts_run text plan over n h [] = refl
texts_run text plan over n h (piece ∷ []) = last_piece text plan over n h piece (length piece == 0) refl
texts_run text plan over n h (piece ∷ next ∷ rest) =
    one_line text plan n h (line_meaning piece)
    (λ t. process (line_ran text) closing_due over (n + 1) t (next ∷ rest))
    (script_of_pieces over (n + 1) (next ∷ rest)) (λ g. texts_run text plan over (n + 1) g (next ∷ rest))

-- a script's file by such texts
pub texts_of_file : (text : EventText) (plan : Plan) (file : Text)
    → file_due (line_ran text) closing_due (record { plan = plan; history = [] }) file ≡ texts_due text plan file
unfolding past_of
texts_of_file text plan file = texts_run text plan (is_over file) 1 [] (pieces (cut_text file))

-- the lines of it that ended in some bytes
pub texts_of_ended : (text : EventText) (plan : Plan) (bytes : Text)
    → ended_text (line_ran text) closing_due (record { plan = plan; history = [] }) bytes
    ≡ texts_so_far text plan bytes
unfolding past_of
texts_of_ended text plan bytes = ap (λ (d : Due). d.1) (texts_run text plan true 1 [] (pieces bytes))

-- if no line ends the run of those bytes, none ends the script
pub texts_go_on : (text : EventText) (plan : Plan) (bytes : Text)
    → GoesOn (line_ran text) closing_due (record { plan = plan; history = [] }) bytes → ScriptGoesOn plan bytes
unfolding past_of
texts_go_on text plan bytes goes_on =
    sym (ap (λ (d : Due). d.0) (texts_run text plan true 1 [] (pieces bytes))) ∙ goes_on

-- ---- by the lines of verdicts alone

pub lines_are_texts : (plan : Plan) (h : History) (events : List Event)
    → texts_on verdict_line plan h events ≡ text_on plan h events
lines_are_texts plan h [] = refl
lines_are_texts plan h (e ∷ events) =
    ap (λ (t : Text). verdict_line plan h (e, due plan h e) ++ t)
    (lines_are_texts plan (history_with_event plan h e) events)

pub lines_after : (plan : Plan) (h : History) (script : Script) → texts_after verdict_line plan h script
    ≡ due_after plan h script
lines_after plan h script =
    ap (λ (t : Text). (
      run_end script.ending,
      t
          ++ last_line script.ending (history_on plan h (events_on plan script)),
    ))
    (lines_are_texts plan h (events_on plan script))

-- a script's file run on the world of a plan
pub file_is_run : (plan : Plan) (file : Text)
    → file_due ran_line closing_due (record { plan = plan; history = [] }) file ≡ script_due plan file
file_is_run plan file = texts_of_file verdict_line plan file ∙ lines_after plan [] (script_of file)

-- the lines of it that ended in some bytes
pub ended_runs : (plan : Plan) (bytes : Text)
    → ended_text ran_line closing_due (record { plan = plan; history = [] }) bytes ≡ script_so_far plan bytes
ended_runs plan bytes =
    texts_of_ended verdict_line plan bytes
    ∙ ap (λ (d : Due). d.1) (lines_after plan [] (script_of_pieces true 1 (pieces bytes)))

-- if no line ends the run of those bytes, none ends the script
pub script_goes_on : (plan : Plan) (bytes : Text)
    → GoesOn ran_line closing_due (record { plan = plan; history = [] }) bytes → ScriptGoesOn plan bytes
script_goes_on plan bytes goes_on = texts_go_on verdict_line plan bytes goes_on
