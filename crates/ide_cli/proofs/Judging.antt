-- A call that judges a text says of it what is so, and went over the history of all events of the script.
use Rattle.std.proofs.Common.{◌≡◌, ◌∙◌, ◌++◌, Bool, true, false, [], Option, Some, Result, Ok, Err, option_map, refl}
use Rattle.std.proofs.Common.{sym, ap, subst, inl}
use Rattle.std.specs.Prelude.{IfOk}
use Rattle.std.proofs.lemmas.List.{append-nil}
use Rattle.ide_types.specs.declared.plan.Plan.{Plan}
use Rattle.file_runs.specs.declared.ends.End.{End}
use Rattle.file_runs.specs.declared.ends.End.TheVariants as end
use Rattle.file_runs.specs.declared.ends.Fault.{Fault}
use Rattle.file_runs.specs.Gain.{Text, HasGained}
use Rattle.file_runs.specs.Outcome.{Due, EndsBy}
use Rattle.script_runs.specs.{Tells, judgement_due}
use Rattle.script_runs.specs.declared.topologies.Loaded.TheVariants.{Sound}
use Rattle.script_runs.specs.Judge.{judge_due, judged_script_run, judged_run}
use Rattle.script_runs.specs.Script.{AtEnd, Script, due_after, run_end, events_on, run_due, script_of}
use Rattle.script_runs.specs.Topologies.{loaded_topology}
use Rattle.script_runs.proofs.{judged_tells}
use Rattle.cli_words.specs.Words.{command_asked}
use Rattle.ide_cli.specs.Headline.{JudgedEvents}
use Rattle.ide_cli.specs.Meaning.{CallRan, command_task}
use Rattle.ide_cli.specs.Seen.{CallSeen}
use Rattle.ide_cli.specs.Went.{AsksToJudge, CameToEnd, JudgedCall}
use Rattle.ide_cli.proofs.Written.{at_end, ends_told}

ended_at : (all : Bool) (verdicts : Option Text) (e : End) (text : Text) → e ≡ end.Done
    → judged_script_run all verdicts e text ≡ option_map (judgement_due all text) verdicts
ended_at all verdicts e text is = subst (λ (x : End). judged_script_run all verdicts x text
    ≡ option_map (judgement_due all text) verdicts)
    (sym is) refl

ran_is : (topology bytes : Text) (plan : Plan) (script : Script) → loaded_topology topology ≡ Sound plan
    → script ≡ script_of bytes → run_due (Some topology) (Some bytes) ≡ Some (due_after plan [] script)
ran_is topology bytes plan script plan_is read = rw (plan_is, read) refl

judge_is : (all : Bool) (topology bytes claimed : Text) (plan : Plan) (script : Script) → loaded_topology topology
    ≡ Sound plan
    → script ≡ script_of bytes → script.ending ≡ AtEnd
    → judge_due all (Some topology) (Some bytes) (Some claimed)
    ≡ Some (judgement_due all (due_after plan [] script).1 claimed)
judge_is all topology bytes claimed plan script plan_is read stop =
    let due = due_after plan [] script in
    ap (judged_run all (Some claimed)) (ran_is topology bytes plan script plan_is read)
    ∙ ended_at all (Some claimed) due.0 due.1 (ap run_end stop)

asked_is : (written : Text) (call : CallSeen) (all : Bool) (plan : Plan) (script : Script) (verdicts : Text)
    (a : AsksToJudge all verdicts call plan script) (claimed : Text) → a.contents verdicts ≡ Some claimed
    → (command_task (command_asked call.words)).due written a.contents
    ≡ judge_due all (Some a.topology) (Some a.bytes) (Some claimed)
asked_is written call false plan script verdicts a claimed claims =
    rw (a.asks, a.topology_is, a.script_is, claims) refl
asked_is written call true plan script verdicts a claimed claims = rw (a.asks, a.topology_is, a.script_is, claims) refl

-- what came of it
pub there : (read write quiet : Type 0) (gained : Text → Type 0) (r : Result End Fault) (e : End) (due : Due)
    → r ≡ Ok e → EndsBy due read write quiet gained r → (e ≡ due.0) × gained due.1
there read write quiet gained r e due is ran =
    let came = subst (λ (x : Result End Fault). EndsBy due read write quiet gained x) is ran in (came.0, came.1)

pub at_this_end : {P : End → Type 0} (r : Result End Fault) → ((e : End) → r ≡ Ok e → P e) → IfOk r P
at_this_end (Ok e) holds = holds e refl
at_this_end (Err f) holds = tt

pub is_judged : (call : CallSeen) → CallRan call → JudgedCall call
is_judged call ran = at_this_end call.outcome (λ e ended all plan script verdicts a claimed held stop claims
    held_before.
    let answered = ran.due_outcome in
    let text = (due_after plan [] script).1 in
    let due = judgement_due all text claimed in
    let is = asked_is answered.written call all plan script verdicts a claimed claims
    ∙ judge_is all a.topology a.bytes claimed plan script a.plan_is a.read stop in
    let came = there _ _ _ (HasGained call.sink_before.held call.sink_after.held) call.outcome e due ended
    (ends_told call a.contents ((command_task (command_asked call.words)).due answered.written) due _ _ _
    (HasGained call.sink_before.held call.sink_after.held) a.are_told is answered.ran) in
    record {
      told = due.1;
      holds_now = came.1 ∙ ap (option_map (λ (t : Text). t ++ due.1)) held_before;
      tells = subst (λ (x : End). Tells all text claimed x due.1) (sym came.0) (judged_tells all text claimed);
    })

pub judged_events : (call : CallSeen) → JudgedEvents call
judged_events call = at_end call.outcome (λ e ended all plan script verdicts a. record {
  all = all;
  verdicts = verdicts;
  over = record {
    script = script;
    asks_for = a;
    first = events_on plan script;
    later = [];
    events_are = append-nil (events_on plan script);
    history_is = refl;
    went = inl (subst CameToEnd (sym ended) tt);
  };
})
