-- Each verdict of a history that is written, or gone over, is the one that is due.
use Rattle.std.proofs.Common.{◌≡◌, ◌≤◌, List, [], ◌++◌, length, length-append, Option, Some, Result, Ok, Err}
use Rattle.std.proofs.Common.{option_map, refl, sym, ap, subst, ◌∙◌, ℕ, ◌+◌, ◌∷◌, inl, inr, arith, Bool, true, false}
use Rattle.std.specs.Prelude.{IfOk}
use Rattle.std.proofs.lemmas.List.{append-nil}
use Rattle.cli_files.specs.Outside.{Contents, Rose}
use Rattle.ide_types.specs.declared.plan.Plan.{Plan}
use Rattle.ide_types.specs.Fits.{FitsPlan}
use Rattle.cli_words.specs.Words.{CommandRequest, command_asked}
use Rattle.cli_words.proofs.Rounds.{few_rounds}
use Rattle.history_events.specs.GeneratedEvents.{generated_events}
use Rattle.history_events.specs.GeneratedTopology.{the_plan}
use Rattle.history_events.proofs.GeneratedAllowed.{few_events}
use Rattle.history_events.proofs.PlanFits.{the_plan_fits}
use Rattle.script_events.specs.declared.event.Event.{Event}
use Rattle.spec_keys.specs.History.{History}
use Rattle.spec_links.specs.Cause.{CauseLaw}
use Rattle.law_text.specs.Runs.{history_on, history_with_event}
use Rattle.law_text.specs.Telling.{events_told, AreAllowed, VerdictsFit}
use Rattle.law_text.specs.Statements.{LinesTell, AreTold}
use Rattle.law_text.proofs.Reading.{length-events}
use Rattle.file_runs.specs.Gain.{Text, HasGained}
use Rattle.file_runs.specs.FileRuns.{RanAlone}
use Rattle.file_runs.specs.Outcome.{Due, EndsBy, EndsDue, EndsToldOrBlind, Quiet}
use Rattle.file_runs.specs.declared.ends.End.{End}
use Rattle.file_runs.specs.declared.ends.Fault.{Fault}
use Rattle.file_runs.proofs.Joins.{front_of_front, gained_front}
use Rattle.script_runs.specs.declared.topologies.Loaded.TheVariants.{Sound}
use Rattle.script_runs.specs.Script.{Script, last_line, events_on, script_of}
use Rattle.script_runs.specs.Texts.{texts_after, texts_on, texts_told}
use Rattle.script_runs.specs.Generated.{generated_due, generated_history, generated_line}
use Rattle.script_runs.specs.Topologies.{loaded_topology}
use Rattle.script_runs.proofs.Events.{events_allowed}
use Rattle.script_runs.proofs.Plans.{loaded_fits}
use Rattle.script_runs.proofs.Scripts.{lines_after, lines_are_texts}
use Rattle.ide_cli.specs.Meaning.{CallRan, RanGenerated, command_task}
use Rattle.ide_cli.specs.Laws.{IsDue}
use Rattle.ide_cli.specs.Headline.{CountedEvents, WrittenEvents, InEvery, CallHasWritten, run_text}
use Rattle.ide_cli.specs.Seen.{CallSeen}
use Rattle.ide_cli.specs.Went.{AsksRun, WentOver, WentOverGenerated}
use Rattle.ide_cli.proofs.PacketLines.{due_texts, lines_of_history, packets_tell}

-- ---- what is due of contents that are told

pub ends_told : (call : CallSeen) (contents : Contents) (due : Contents → Option Due) (last : Due)
    (read write quiet : Type 0) (gained : Text → Type 0) → call.shelf_before.contents ≡ Some contents
    → due contents ≡ Some last → EndsToldOrBlind call.shelf_before.contents due read write quiet gained call.outcome
    → EndsBy last read write quiet gained call.outcome
ends_told call contents due last read write quiet gained told is ran =
    subst (λ (d : Option Due). EndsDue d read write quiet gained call.outcome) is
    (subst (λ (t : Option Contents). EndsToldOrBlind t due read write quiet gained call.outcome) told ran)

-- ---- the run that the words ask for

-- what is due of a run in which the packets are shown or not
due_is : (written : Text) (call : CallSeen) (packets : Bool) (plan : Plan) (script : Script)
    (a : AsksRun packets call plan script)
    → (command_task (command_asked call.words)).due written a.contents
    ≡ Some (texts_after (run_text packets) plan [] script)
due_is written call false plan script a =
    rw (a.asks, a.topology_is, a.plan_is, a.script_is, a.read) (ap (λ (d : Due). Some d)
    (sym (lines_after plan [] (script_of a.bytes))))
due_is written call true plan script a = rw (a.asks, a.topology_is, a.plan_is, a.script_is, a.read) refl

-- it ends as is due
pub ran_script : (call : CallSeen) → CallRan call → (packets : Bool) (plan : Plan) (script : Script)
    → AsksRun packets call plan script
    → EndsBy (texts_after (run_text packets) plan [] script) (Rose call.shelf_before.faults call.shelf_after.faults)
    (Rose call.sink_before.faults call.sink_after.faults)
    (Quiet call.shelf_before.faults call.shelf_after.faults call.sink_before.faults call.sink_after.faults)
    (HasGained call.sink_before.held call.sink_after.held) call.outcome
ran_script call ran packets plan script a =
    let answered = ran.due_outcome in
    ends_told call a.contents ((command_task (command_asked call.words)).due answered.written)
    (texts_after (run_text packets) plan [] script) _ _ _ (HasGained call.sink_before.held call.sink_after.held)
    a.are_told (due_is answered.written call packets plan script a) answered.ran

pub plan_fits : (call : CallSeen) (packets : Bool) (plan : Plan) (script : Script) → AsksRun packets call plan script
    → FitsPlan plan
plan_fits call packets plan script a = loaded_fits a.topology plan a.plan_is

pub script_allowed : (call : CallSeen) (packets : Bool) (plan : Plan) (script : Script)
    → AsksRun packets call plan script → AreAllowed (events_on plan script)
script_allowed call packets plan script a = subst (λ (t : Script). AreAllowed (events_on plan t)) (sym a.read)
    (events_allowed plan (plan_fits call packets plan script a) a.bytes)

-- ---- the verdicts

few_written : (h : History) (later events : List Event) → events_told h ++ later ≡ events → AreAllowed events
    → length h ≤ 4294967296
few_written h later events same allowed = omega
    (arith, length-events h, length-append (events_told h) later, ap length same, allowed.few)

-- the lines of a history, with those of its packets or without, tell its verdicts
told_cause : LinesTell → (packets : Bool) (plan : Plan) → FitsPlan plan → (h : History) (later : List Event)
    (rest last : Text) → AreAllowed (events_told h ++ later) → VerdictsFit plan h
    → texts_told (run_text packets) plan h ++ rest ≡ texts_on (run_text packets) plan [] (events_told h ++ later)
    ++ last
    → CauseLaw plan h
told_cause tell false plan fits h later rest last allowed verdicts same =
    tell plan fits h later rest last allowed verdicts
    (ap (λ (t : Text). t ++ rest) (sym (lines_of_history plan h)) ∙ same
    ∙ ap (λ (t : Text). t ++ last) (lines_are_texts plan [] (events_told h ++ later)))
told_cause tell true plan fits h later rest last allowed verdicts same =
    packets_tell plan fits h later rest last allowed verdicts same

written_is_due : LinesTell → (call : CallSeen) → CallRan call → (plan : Plan) (h : History)
    → CallHasWritten call plan h → IsDue plan h
written_is_due tell call ran plan h w =
    let script = w.script in
    let text = run_text w.packets in
    let due = texts_after text plan [] script in
    let last = last_line script.ending (history_on plan [] (events_on plan script)) in
    let allowed = script_allowed call w.packets plan script w.asks_for in
    let fits = plan_fits call w.packets plan script w.asks_for in
    let gained = gained_front due _ _ _ call.sink_before.held call.sink_after.held w.held w.gained call.outcome
    w.held_before w.holds_now (ran_script call ran w.packets plan script w.asks_for) in
    let front = front_of_front (texts_told text plan h) w.gained due.1 w.lines gained in
    let same : texts_told text plan h ++ front.0 ≡ texts_on text plan [] (events_told h ++ w.later)
    ++ last = front.1 ∙ ap (λ (es : List Event). texts_on text plan [] es ++ last) (sym w.events_are) in
    record {
      fits = fits;
      cause = told_cause tell w.packets plan fits h w.later front.0 last
          (subst AreAllowed (sym w.events_are) allowed) w.verdicts_fit same;
      few = few_written h w.later (events_on plan script) w.events_are allowed;
    }

-- ---- generated events

-- the history of events has a verdict for each, the one that is due
caused : (plan : Plan) (h : History) (events : List Event) → CauseLaw plan h → CauseLaw plan (history_on plan h events)
caused plan h [] cause = cause
caused plan h (e ∷ events) cause = caused plan (history_with_event plan h e) events (refl, cause)

so_many : (plan : Plan) (h : History) (events : List Event) → length (history_on plan h events)
    ≡ length h + length events
so_many plan h [] = omega arith
so_many plan h (e ∷ events) = omega (arith, so_many plan (history_with_event plan h e) events)

few_generated : (seed count : ℕ) → count ≤ 100000 → (first later : List Event)
    → first ++ later ≡ generated_events seed count → length (history_on the_plan [] first) ≤ 4294967296
few_generated seed count few first later same = omega
    (arith, so_many the_plan [] first, length-append first later, ap length same, few_events seed count, few)

generated_is_due : (seed count : ℕ) → count ≤ 100000 → (first later : List Event)
    → first ++ later ≡ generated_events seed count → IsDue the_plan (history_on the_plan [] first)
generated_is_due seed count few first later same = record {
  fits = the_plan_fits;
  cause = caused the_plan [] first tt;
  few = few_generated seed count few first later same;
}

went_is_due : (call : CallSeen) (plan : Plan) (h : History) → WentOverGenerated call plan h → IsDue plan h
went_is_due call plan h w =
    let few = (few_rounds call.words w.seed w.count w.asks).1 in
    let is = generated_is_due w.seed w.count few w.first w.later w.events_are in
    subst (λ (p : Plan). IsDue p h) (sym w.plan_is) (subst (IsDue the_plan) (sym w.history_is) is)

-- ---- a script that is gone over

few_through : (plan : Plan) (first later events : List Event) → first ++ later ≡ events → AreAllowed events
    → length (history_on plan [] first) ≤ 4294967296
few_through plan first later events same allowed = omega
    (arith, so_many plan [] first, length-append first later, ap length same, allowed.few)

pub first_is_due : (topology bytes : Text) (plan : Plan) (script : Script) (first later : List Event)
    → loaded_topology topology ≡ Sound plan → script ≡ script_of bytes → first ++ later ≡ events_on plan script
    → IsDue plan (history_on plan [] first)
first_is_due topology bytes plan script first later plan_is read events_are =
    let fits = loaded_fits topology plan plan_is in
    let allowed : AreAllowed (events_on plan script) = subst (λ (t : Script). AreAllowed (events_on plan t))
    (sym read) (events_allowed plan fits bytes) in
    record {
      fits = fits;
      cause = caused plan [] first tt;
      few = few_through plan first later (events_on plan script) events_are allowed;
    }

over_is_due : (request : (topology script : Text) → CommandRequest) (call : CallSeen) (plan : Plan) (h : History)
    → WentOver request call plan h → IsDue plan h
over_is_due request call plan h w =
    let a = w.asks_for in
    subst (IsDue plan) (sym w.history_is)
    (first_is_due a.topology a.bytes plan w.script w.first w.later a.plan_is a.read w.events_are)

-- ---- any of these

pub history_is_due : LinesTell → (call : CallSeen) → CallRan call → InEvery IsDue call
history_is_due tell call ran plan h (inl w) = written_is_due tell call ran plan h w
history_is_due tell call ran plan h (inr (inl w)) = went_is_due call plan h w
history_is_due tell call ran plan h (inr (inr (inl w))) = over_is_due _ call plan h w.over
history_is_due tell call ran plan h (inr (inr (inr (inl w)))) = over_is_due _ call plan h w.over
history_is_due tell call ran plan h (inr (inr (inr (inr w)))) = over_is_due _ call plan h w.over

-- ---- a run that ends by itself

pub at_end : {P : Type 0} (r : Result End Fault) → ((e : End) → r ≡ Ok e → P) → IfOk r (λ e. P)
at_end (Ok e) holds = holds e refl
at_end (Err f) holds = tt

whole_gain : (due : Due) (read write quiet : Type 0) (gained : Text → Type 0) (r : Result End Fault) (e : End)
    → r ≡ Ok e → EndsBy due read write quiet gained r → gained due.1
whole_gain due read write quiet gained r e is ran =
    (subst (λ (x : Result End Fault). EndsBy due read write quiet gained x) is ran).1

pub written_events : AreTold → (call : CallSeen) → CallRan call → WrittenEvents call
written_events are_told call ran = at_end call.outcome (λ e ended packets plan script held asks held_before.
    let is = are_told plan (plan_fits call packets plan script asks) (events_on plan script)
    (script_allowed call packets plan script asks) in
    let text = run_text packets in
    let due = texts_after text plan [] script in
    let whole = whole_gain due _ _ _ (HasGained call.sink_before.held call.sink_after.held) call.outcome e ended
    (ran_script call ran packets plan script asks) in
    let h = history_on plan [] (events_on plan script) in
    let last = last_line script.ending h in
    record {
      script = script;
      packets = packets;
      asks_for = asks;
      later = [];
      events_are = append-nil (events_told h) ∙ is.events_are;
      verdicts_fit = is.verdicts_fit;
      held = held;
      held_before = held_before;
      gained = due.1;
      holds_now = whole ∙ ap (option_map (λ (t : Text). t ++ due.1)) held_before;
      lines = (last, ap (λ (t : Text). t ++ last) (due_texts text plan [] (events_on plan script)));
    })

pub counted_events : (call : CallSeen) → RanGenerated call → CountedEvents call
counted_events call ran = at_end call.outcome (λ e ended seed count held asks held_before.
    let line = generated_line (generated_history seed count) in
    let whole = whole_gain (generated_due seed count) _ _ _ (HasGained call.sink_before.held call.sink_after.held)
    call.outcome e ended
    (subst (λ (a : Option CommandRequest). RanAlone (command_task a).due_alone call.sink_before call.sink_after
    call.outcome) asks ran) in
    record {
      seed = seed;
      count = count;
      asks = asks;
      plan_is = refl;
      first = generated_events seed count;
      later = [];
      events_are = append-nil (generated_events seed count);
      history_is = refl;
      held = held;
      held_before = held_before;
      holds_now = whole ∙ ap (option_map (λ (t : Text). t ++ line)) held_before;
    })
