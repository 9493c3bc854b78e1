-- The histories that a call goes over and does not write.
use Rattle.std.specs.Prelude.{ℕ, ◌≡◌, ◌≢◌, ◌⊎◌, ◌+◌, ◌<◌, ◌≤◌, Bool, true, false, List, [], ◌∷◌, ◌++◌, length, Some}
use Rattle.std.specs.Prelude.{Result, Ok, Err, IfOk, ◌↔◌}
use Rattle.cli_files.specs.Outside.{Contents}
use Rattle.cli_words.specs.Words.{CommandRequest, command_asked, cover, cover_events, generate, judge, judge_all, run}
use Rattle.cli_words.specs.Words.{run_packets, why}
use Rattle.ide_types.specs.declared.plan.Plan.{Plan}
use Rattle.history_events.specs.GeneratedEvents.{generated_events}
use Rattle.history_events.specs.GeneratedTopology.{the_plan}
use Rattle.script_events.specs.declared.event.Event.{Event}
use Rattle.spec_keys.specs.History.{History}
use Rattle.spec_links.specs.Laws.{NoForgery}
use Rattle.rule_counts.specs.Forged.{forged_count}
use Rattle.law_text.specs.Runs.{history_on}
use Rattle.file_runs.specs.declared.ends.End.{End}
use Rattle.file_runs.specs.declared.ends.End.TheVariants as end
use Rattle.file_runs.specs.declared.ends.Fault.{Fault}
use Rattle.file_runs.specs.Gain.{Text}
use Rattle.script_runs.specs.{Tells}
use Rattle.script_runs.specs.declared.topologies.Loaded.TheVariants.{Sound}
use Rattle.ide_runs.specs.Cover.{counts_text, events_rules}
use Rattle.script_runs.specs.Generated.{generated_history, generated_line}
use Rattle.script_runs.specs.Script.{AtEnd, Script, due_after, run_end, events_on, script_of}
use Rattle.script_runs.specs.Topologies.{loaded_topology}
use Rattle.ide_runs.specs.Why.{event_told, left_line, no_event_line}
use Rattle.ide_cli.specs.Seen.{CallSeen}

-- ---- generated events

-- The call went over generated events: this is the history of the first of them, up to some event, under the plan that
-- is generated for them, and the sink gained the line of the history of all.
pub record WentOverGenerated (call : CallSeen) (plan : Plan) (h : History) : Type 0 where
  pub seed : ℕ
  pub count : ℕ
  pub asks : command_asked call.words ≡ Some (generate seed count)
  pub plan_is : plan ≡ the_plan
  pub first : List Event
  pub later : List Event
  pub events_are : first ++ later ≡ generated_events seed count
  pub history_is : h ≡ history_on the_plan [] first
  pub held : Text
  pub held_before : call.sink_before.held ≡ Some held
  pub holds_now : call.sink_after.held ≡ Some (held ++ generated_line (generated_history seed count))

-- ---- a topology and a script

-- The words ask for something of a topology and a script: the shelf tells its contents, in which the names that the
-- words give are a sound topology of this plan, and this script.
pub record Asks (request : (topology script : Text) → CommandRequest) (call : CallSeen) (plan : Plan) (script : Script)
    : Type 0 where
  pub contents : Contents
  pub are_told : call.shelf_before.contents ≡ Some contents
  pub topology_name : Text
  pub script_name : Text
  pub asks : command_asked call.words ≡ Some (request topology_name script_name)
  pub topology : Text
  pub topology_is : contents topology_name ≡ Some topology
  pub plan_is : loaded_topology topology ≡ Sound plan
  pub bytes : Text
  pub script_is : contents script_name ≡ Some bytes
  pub read : script ≡ script_of bytes

-- for a run of the script, in which the packets that are sealed are shown or not
abbrev pub run_request : (packets : Bool) → (topology script : Text) → CommandRequest
run_request false topology script = run topology script
run_request true topology script = run_packets topology script

abbrev pub AsksRun : (packets : Bool) → CallSeen → Plan → Script → Type 0
AsksRun packets call plan script = Asks (run_request packets) call plan script

-- to judge a text of this name, of which the first line that differs is named, or all that do
abbrev pub judge_request : (all : Bool) → (verdicts topology script : Text) → CommandRequest
judge_request false verdicts topology script = judge topology script verdicts
judge_request true verdicts topology script = judge_all topology script verdicts

abbrev pub AsksToJudge : (all : Bool) → Text → CallSeen → Plan → Script → Type 0
AsksToJudge all verdicts call plan script = Asks (judge_request all verdicts) call plan script

-- to tell the event of this number
abbrev pub AsksWhy : ℕ → CallSeen → Plan → Script → Type 0
AsksWhy n call plan script = Asks (λ topology script. why topology script n) call plan script

-- to count the events that each rule answers, and to tell the rule of each event or not
abbrev pub cover_request : (events : Bool) → (topology script : Text) → CommandRequest
cover_request false topology script = cover topology script
cover_request true topology script = cover_events topology script

abbrev pub AsksCover : (events : Bool) → CallSeen → Plan → Script → Type 0
AsksCover events call plan script = Asks (cover_request events) call plan script

-- the call came to an end of its own
abbrev pub CameToEnd : Result End Fault → Type 0
CameToEnd (Ok e) = Unit {0}
CameToEnd (Err e) = ⊥

-- the sink tells that it gained some text
pub record WroteSome (call : CallSeen) : Type 0 where
  pub held : Text
  pub held_before : call.sink_before.held ≡ Some held
  pub gained : Text
  pub holds_now : call.sink_after.held ≡ Some (held ++ gained)
  pub some : gained ≢ []

-- The call went over events of a script for such a request: this is the history of the first of them, up to some event,
-- and the call came to an end of its own, or wrote.
pub record WentOver (request : (topology script : Text) → CommandRequest) (call : CallSeen) (plan : Plan) (h : History)
    : Type 0 where
  pub script : Script
  pub asks_for : Asks request call plan script
  pub first : List Event
  pub later : List Event
  pub events_are : first ++ later ≡ events_on plan script
  pub history_is : h ≡ history_on plan [] first
  pub went : CameToEnd call.outcome ⊎ WroteSome call

-- it judged a text by them
pub record WentOverJudged (call : CallSeen) (plan : Plan) (h : History) : Type 0 where
  pub all : Bool
  pub verdicts : Text
  pub over : WentOver (judge_request all verdicts) call plan h

-- it told an event, up to which they are at most
pub record WentUpTo (call : CallSeen) (plan : Plan) (h : History) : Type 0 where
  pub number : ℕ
  pub over : WentOver (λ topology script. why topology script number) call plan h
  pub up_to : length over.first ≤ number

-- it counted rules
pub record WentOverCovered (call : CallSeen) (plan : Plan) (h : History) : Type 0 where
  pub events : Bool
  pub over : WentOver (cover_request events) call plan h

-- ---- what is said of the text

-- The sink gained a text, which tells of the claimed text whether it is the one that is due, or which line is the first
-- that differs, or all that do; it gained nothing if the claimed text is too long.
pub record HasSaid (all : Bool) (due claimed held : Text) (call : CallSeen) (e : End) : Type 0 where
  pub told : Text
  pub holds_now : call.sink_after.held ≡ Some (held ++ told)
  pub tells : Tells all due claimed e told

-- if a call that judges a text comes to an end of its own, on a script that was read to its end
abbrev pub JudgedCall : CallSeen → Type 0
JudgedCall call = IfOk call.outcome (λ e. (all : Bool) (plan : Plan) (script : Script) (verdicts : Text)
    (a : AsksToJudge all verdicts call plan script) (claimed held : Text) → script.ending ≡ AtEnd
    → a.contents verdicts ≡ Some claimed → call.sink_before.held ≡ Some held
    → HasSaid all (due_after plan [] script).1 claimed held call e)

-- ---- an event that is told

-- this is the event of a script that has this number, from 1, and this the history of the events before it
pub record IsEventAt (plan : Plan) (script : Script) (n : ℕ) (h : History) (e : Event) : Type 0 where
  pub before : List Event
  pub later : List Event
  pub events_are : before ++ e ∷ later ≡ events_on plan script
  pub number_is : n ≡ length before + 1
  pub history_is : h ≡ history_on plan [] before

-- The sink gained the text of that event, and the line that is refused, if one is; or, if a script that was read to its
-- end has fewer events, the line that says so.
pub record ToldWhy (plan : Plan) (script : Script) (n : ℕ) (held : Text) (call : CallSeen) (e : End) : Type 0 where
  pub told : (h : History) (x : Event) → IsEventAt plan script n h x → (e ≡ run_end script.ending)
      × (call.sink_after.held ≡ Some (held ++ (event_told plan h x ++ left_line script.ending)))
  pub none : length (events_on plan script) < n → script.ending ≡ AtEnd → (e ≡ end.NoEvent)
      × (call.sink_after.held ≡ Some (held ++ no_event_line n (length (events_on plan script))))

-- if a call that is asked why an event got its verdict comes to an end of its own
abbrev pub IsExplained : CallSeen → Type 0
IsExplained call = IfOk call.outcome (λ e. (plan : Plan) (script : Script) (n : ℕ) (held : Text)
    → AsksWhy n call plan script → call.sink_before.held ≡ Some held → ToldWhy plan script n held call e)

-- ---- rules that are counted

-- The sink gained what is due of the rules: of each event, in order, those that are told of it, if they are asked for;
-- then of each rule that can answer the count of the events, and effects of their packets, that it answers in the
-- history of all events; and at last at how many arrivals a tag was forged there: at none exactly if no forgery was
-- made.
pub record HasCounted (events : Bool) (plan : Plan) (script : Script) (held : Text) (call : CallSeen) (e : End) :
    Type 0
  where
    pub ends : e ≡ end.Done
    pub holds_now : call.sink_after.held ≡ Some (held
        ++ (events_rules events plan [] (events_on plan script)
        ++ counts_text plan (history_on plan [] (events_on plan script))))
    pub forged : (forged_count plan (history_on plan [] (events_on plan script)) ≡ 0)
        ↔ NoForgery plan (history_on plan [] (events_on plan script))

-- if a call that counts rules comes to an end of its own, on a script that was read to its end
abbrev pub CountedRules : CallSeen → Type 0
CountedRules call = IfOk call.outcome (λ e. (events : Bool) (plan : Plan) (script : Script) (held : Text)
    → AsksCover events call plan script → script.ending ≡ AtEnd → call.sink_before.held ≡ Some held
    → HasCounted events plan script held call e)
