-- The histories that a run writes.
use Rattle.std.specs.Prelude.{ℕ, ◌≡◌, ◌⊎◌, Bool, true, false, List, [], ◌∷◌, ◌++◌, Some, IfErr, IfOk, take}
use Rattle.cli_words.specs.Words.{generate, command_asked}
use Rattle.history_events.specs.GeneratedTopology.{the_plan}
use Rattle.ide_types.specs.declared.plan.Plan.{Plan}
use Rattle.script_events.specs.declared.event.Event.{Event}
use Rattle.spec_keys.specs.History.{History}
use Rattle.spec_links.specs.Due.{due}
use Rattle.law_text.specs.Runs.{history_on}
use Rattle.law_text.specs.Telling.{VerdictsFit, events_told}
use Rattle.file_runs.specs.Gain.{Text, IsFront}
use Rattle.script_runs.specs.Generated.{generated_history}
use Rattle.script_runs.specs.Packets.{packets_text}
use Rattle.script_runs.specs.Script.{Script, ScriptEnd, events_on, last_line}
use Rattle.script_runs.specs.Texts.{texts_told}
use Rattle.script_runs.specs.Works.{EventText, verdict_line}
use Rattle.ide_cli.specs.Seen.{CallSeen}
use Rattle.ide_cli.specs.Went.{AsksCover, AsksRun, AsksToJudge, AsksWhy, WentOverCovered, WentOverGenerated}
use Rattle.ide_cli.specs.Went.{WentOverJudged, WentUpTo}

-- what a run writes for an event: the line of its verdict, and if packets are shown, a line for each that it seals
abbrev pub run_text : (packets : Bool) → EventText
run_text false = verdict_line
run_text true = packets_text

-- The call wrote a history under a plan: its events are the first of the script's, in this topology; its verdicts name
-- what the topology has; and the sink, which tells what it held before and holds now, gained the lines of its verdicts,
-- numbered from 1, each with those of its packets if they are shown, and maybe more after them.
pub record CallHasWritten (call : CallSeen) (plan : Plan) (h : History) : Type 0 where
  pub script : Script
  pub packets : Bool
  pub asks_for : AsksRun packets call plan script
  pub later : List Event
  pub events_are : events_told h ++ later ≡ events_on plan script
  pub verdicts_fit : VerdictsFit plan h
  pub held : Text
  pub held_before : call.sink_before.held ≡ Some held
  pub gained : Text
  pub holds_now : call.sink_after.held ≡ Some (held ++ gained)
  pub lines : IsFront (texts_told (run_text packets) plan h) gained

-- the call wrote the history, or went over it up to some event: of generated events, of the script by which it judged a
-- text, of that of which it told an event, or of that of which it counted rules
abbrev pub HasGoneOver : CallSeen → Plan → History → Type 0
HasGoneOver call plan h = CallHasWritten call plan h ⊎ (WentOverGenerated call plan h ⊎ (WentOverJudged call plan h
    ⊎ (WentUpTo call plan h ⊎ WentOverCovered call plan h)))

-- the law holds of every such history
abbrev pub InEvery : (Plan → History → Type 0) → CallSeen → Type 0
InEvery law call = (plan : Plan) (h : History) → HasGoneOver call plan h → law plan h

-- if the call comes to an end of its own, the history of all events of the script was written, each with the verdict
-- that is due
abbrev pub WrittenEvents : CallSeen → Type 0
WrittenEvents call = IfOk call.outcome (λ e. (packets : Bool) (plan : Plan) (script : Script) (held : Text)
    → AsksRun packets call plan script → call.sink_before.held ≡ Some held
    → CallHasWritten call plan (history_on plan [] (events_on plan script)))

-- what comes after a history: the line of the next event's verdict, with those of its packets if they are shown, or the
-- last line
abbrev pub next_text : EventText → Plan → History → List Event → ScriptEnd → Text
next_text text plan h [] ending = last_line ending h
next_text text plan h (e ∷ later) ending = text plan h (e, due plan h e)

-- the call wrote a history, and then a prefix of what comes next
pub record WroteUpTo (call : CallSeen) (plan : Plan) : Type 0 where
  pub history : History
  pub written : CallHasWritten call plan history
  pub rest : Text
  pub lines_are : texts_told (run_text written.packets) plan history ++ rest ≡ written.gained
  pub next : IsFront rest (next_text (run_text written.packets) plan history written.later written.script.ending)

-- if a fault ends the call
abbrev pub WrittenSoFar : CallSeen → Type 0
WrittenSoFar call = IfErr call.outcome (λ e. (packets : Bool) (plan : Plan) (script : Script) (held : Text)
    → AsksRun packets call plan script → call.sink_before.held ≡ Some held → WroteUpTo call plan)

-- and the line of the history of all generated events, if the words ask for them
abbrev pub CountedEvents : CallSeen → Type 0
CountedEvents call = IfOk call.outcome (λ e. (seed count : ℕ) (held : Text) → command_asked call.words
    ≡ Some (generate seed count)
    → call.sink_before.held ≡ Some held → WentOverGenerated call the_plan (generated_history seed count))

-- and went over the history of all events of the script by which it judged a text
abbrev pub JudgedEvents : CallSeen → Type 0
JudgedEvents call = IfOk call.outcome (λ e. (all : Bool) (plan : Plan) (script : Script) (verdicts : Text)
    → AsksToJudge all verdicts call plan script → WentOverJudged call plan (history_on plan [] (events_on plan script)))

-- and over the history of the events up to the one that it told, or of all if there are fewer
abbrev pub ToldUpToEvent : CallSeen → Type 0
ToldUpToEvent call = IfOk call.outcome (λ e. (plan : Plan) (script : Script) (n : ℕ) → AsksWhy n call plan script
    → WentUpTo call plan (history_on plan [] (take n (events_on plan script))))

-- and over that of all events of the script whose rules it counted
abbrev pub CoveredEvents : CallSeen → Type 0
CoveredEvents call = IfOk call.outcome (λ e. (events : Bool) (plan : Plan) (script : Script)
    → AsksCover events call plan script → WentOverCovered call plan (history_on plan [] (events_on plan script)))
