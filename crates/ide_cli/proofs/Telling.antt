-- A call that is asked why an event got its verdict tells just that event, and went over the history of the events up
-- to it.
use Rattle.std.proofs.Common.{◌≡◌, ◌∙◌, ◌++◌, ℕ, [], Some, option_map, refl}
use Rattle.std.proofs.Common.{sym, ap, subst, inl, arith, drop, length-take, take}
use Rattle.std.proofs.lemmas.List.{take-append-drop}
use Rattle.ide_types.specs.declared.plan.Plan.{Plan}
use Rattle.file_runs.specs.Gain.{Text, HasGained}
use Rattle.file_runs.specs.Outcome.{Due}
use Rattle.script_runs.specs.declared.topologies.Loaded.TheVariants.{Sound}
use Rattle.script_runs.specs.Script.{Script, events_on, script_of}
use Rattle.script_runs.specs.Topologies.{loaded_topology}
use Rattle.ide_runs.specs.Why.{told_event_due, why_due}
use Rattle.ide_runs.proofs.Whys.{told_event, told_none}
use Rattle.cli_words.specs.Words.{command_asked}
use Rattle.ide_cli.specs.Headline.{ToldUpToEvent}
use Rattle.ide_cli.specs.Meaning.{CallRan, command_task}
use Rattle.ide_cli.specs.Seen.{CallSeen}
use Rattle.ide_cli.specs.Went.{AsksWhy, CameToEnd, IsExplained}
use Rattle.ide_cli.proofs.Judging.{at_this_end, there}
use Rattle.ide_cli.proofs.Written.{at_end, ends_told}

why_is : (n : ℕ) (topology bytes : Text) (plan : Plan) (script : Script) → loaded_topology topology ≡ Sound plan
    → script ≡ script_of bytes → why_due n (Some topology) (Some bytes) ≡ Some (told_event_due n plan [] script)
why_is n topology bytes plan script plan_is read = rw (plan_is, read) refl

asked_is : (written : Text) (call : CallSeen) (plan : Plan) (script : Script) (n : ℕ) (a : AsksWhy n call plan script)
    → (command_task (command_asked call.words)).due written a.contents ≡ why_due n (Some a.topology) (Some a.bytes)
asked_is written call plan script n a = rw (a.asks, a.topology_is, a.script_is) refl

pub is_explained : (call : CallSeen) → CallRan call → IsExplained call
is_explained call ran = at_this_end call.outcome (λ e ended plan script n held a held_before.
    let answered = ran.due_outcome in
    let due = told_event_due n plan [] script in
    let is = asked_is answered.written call plan script n a
    ∙ why_is n a.topology a.bytes plan script a.plan_is a.read in
    let came = there _ _ _ (HasGained call.sink_before.held call.sink_after.held) call.outcome e due ended
    (ends_told call a.contents ((command_task (command_asked call.words)).due answered.written) due _ _ _
    (HasGained call.sink_before.held call.sink_after.held) a.are_told is answered.ran) in
    let holds = came.1 ∙ ap (option_map (λ (t : Text). t ++ due.1)) held_before in
    record {
      told = λ h x at.
          let same = told_event n plan script h x at.before at.later at.events_are at.number_is at.history_is in
          (came.0 ∙ ap (λ (d : Due). d.0) same, holds ∙ ap (λ (d : Due). Some (held ++ d.1)) same);
      none = λ few stop.
          let same = told_none n plan script few stop in
          (came.0 ∙ ap (λ (d : Due). d.0) same, holds ∙ ap (λ (d : Due). Some (held ++ d.1)) same);
    })

pub told_up_to_event : (call : CallSeen) → ToldUpToEvent call
told_up_to_event call = at_end call.outcome (λ e ended plan script n a. record {
  number = n;
  over = record {
    script = script;
    asks_for = a;
    first = take n (events_on plan script);
    later = drop n (events_on plan script);
    events_are = take-append-drop n (events_on plan script);
    history_is = refl;
    went = inl (subst CameToEnd (sym ended) tt);
  };
  up_to = omega (arith, length-take n (events_on plan script));
})
