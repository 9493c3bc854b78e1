-- A call that counts rules tells their counts in the history of all events of the script, and went over it.
use Rattle.std.proofs.Common.{◌≡◌, ◌∙◌, ◌++◌, Bool, true, false, [], Some, option_map, refl, sym, ap, subst, inl}
use Rattle.std.proofs.lemmas.List.{append-nil}
use Rattle.ide_types.specs.declared.plan.Plan.{Plan}
use Rattle.rule_counts.specs.Laws.{ForgeriesAreCounted}
use Rattle.law_text.specs.Runs.{history_on}
use Rattle.file_runs.specs.Gain.{Text, HasGained}
use Rattle.file_runs.specs.Outcome.{Due}
use Rattle.cli_words.specs.Words.{command_asked}
use Rattle.ide_runs.specs.Cover.{covered_after, covered_last, events_rules}
use Rattle.script_runs.specs.Script.{AtEnd, Script, ScriptEnd, events_on, run_end}
use Rattle.ide_cli.specs.Headline.{CoveredEvents}
use Rattle.ide_cli.specs.Meaning.{CallRan, command_task}
use Rattle.ide_cli.specs.Seen.{CallSeen}
use Rattle.ide_cli.specs.Went.{AsksCover, CameToEnd, CountedRules}
use Rattle.ide_cli.proofs.Judging.{at_this_end, there}
use Rattle.ide_cli.proofs.Written.{at_end, ends_told}

due_is : (written : Text) (call : CallSeen) (events : Bool) (plan : Plan) (script : Script)
    (a : AsksCover events call plan script)
    → (command_task (command_asked call.words)).due written a.contents ≡ Some (covered_after events plan [] script)
due_is written call false plan script a = rw (a.asks, a.topology_is, a.plan_is, a.script_is, a.read) refl
due_is written call true plan script a = rw (a.asks, a.topology_is, a.plan_is, a.script_is, a.read) refl

pub counted_rules : ForgeriesAreCounted → (call : CallSeen) → CallRan call → CountedRules call
counted_rules forgeries call ran = at_this_end call.outcome (λ e ended events plan script held a stop held_before.
    let answered = ran.due_outcome in
    let due = covered_after events plan [] script in
    let h = history_on plan [] (events_on plan script) in
    let lines = events_rules events plan [] (events_on plan script) in
    let came = there _ _ _ (HasGained call.sink_before.held call.sink_after.held) call.outcome e due ended
    (ends_told call a.contents ((command_task (command_asked call.words)).due answered.written) due _ _ _
    (HasGained call.sink_before.held call.sink_after.held) a.are_told
    (due_is answered.written call events plan script a) answered.ran) in
    record {
      ends = came.0 ∙ ap run_end stop;
      holds_now = came.1 ∙ ap (option_map (λ (t : Text). t ++ due.1)) held_before
          ∙ ap (λ (x : ScriptEnd). Some (held ++ (lines ++ covered_last x plan h))) stop;
      forged = forgeries plan h;
    })

pub covered_events : (call : CallSeen) → CoveredEvents call
covered_events call = at_end call.outcome (λ e ended events plan script a. record {
  events = events;
  over = record {
    script = script;
    asks_for = a;
    first = events_on plan script;
    later = [];
    events_are = append-nil (events_on plan script);
    history_is = refl;
    went = inl (subst CameToEnd (sym ended) tt);
  };
})
