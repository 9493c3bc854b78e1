-- One event of a script, told with what its verdict came from.
use Rattle.std.specs.Prelude.{ℕ, ◌+◌, ◌≡◌, nat_lt, true, List, [], ◌∷◌, ◌++◌, length, Option, Some, None, Result, Ok}
use Rattle.std.specs.Prelude.{Err, codes, if◌then◌else◌}
use Rattle.std.specs.Fmt.{decimal}
use Rattle.ide_types.specs.declared.plan.Plan.{Plan}
use Rattle.script_events.specs.declared.event.Event.{Event}
use Rattle.script_events.specs.declared.script.ScriptEvent.{ScriptEvent}
use Rattle.script_events.specs.declared.fault.LineFault.{LineFault}
use Rattle.script_events.specs.Words.{fault_line_of}
use Rattle.script_events.specs.Parse.{line_meaning}
use Rattle.event_verdicts.specs.Lines.{line_of}
use Rattle.event_verdicts.specs.Shown.{verdict_by_ports}
use Rattle.spec_keys.specs.History.{History}
use Rattle.spec_links.specs.Due.{due}
use Rattle.history_events.specs.{event_of}
use Rattle.law_text.specs.Runs.{history_with_event}
use Rattle.ide_why.specs.{facts_due}
use Rattle.why_facts.specs.{why_text_of}
use Rattle.file_runs.specs.declared.ends.End.TheVariants as end
use Rattle.file_runs.specs.Gain.{Text}
use Rattle.file_runs.specs.Lines.{after}
use Rattle.file_runs.specs.Outcome.{Due}
use Rattle.file_runs.specs.Pieces.{pieces}
use Rattle.script_runs.specs.Script.{
  AtEnd,
  AtLimit,
  Refused,
  Script,
  ScriptEnd,
  due_of_files,
  events_on,
  script_of_pieces,
}
use Rattle.script_runs.specs.Script.{script_of}
use Rattle.script_runs.specs.Works.{Follows, RunningView, ScriptPast, past_with}

-- the line of the verdict that is due to an event after a history, and what that came from
abbrev pub event_told : Plan → History → Event → Text
event_told plan h e =
    line_of (length h + 1) (verdict_by_ports plan.peers (due plan h e))
    ++ why_text_of e (due plan h e) (facts_due plan h e)

-- of events that come after a history, the text of the one of this number, if there are so many
abbrev pub numbered_event_text : ℕ → Plan → History → List Event → Text
numbered_event_text n plan h [] = []
numbered_event_text n plan h (e ∷ events) =
    if nat_lt (length h + 1) n then numbered_event_text n plan (history_with_event plan h e) events
    else if nat_lt n (length h + 1) then [] else event_told plan h e

-- a script of so many events has none of this number
abbrev pub no_event_line : (n events : ℕ) → Text
no_event_line n events =
    codes "no event " ++ (decimal n ++ (codes ": the script has " ++ (decimal events ++ codes "\n")))

-- the end, and what is written last
abbrev pub told_last : ℕ → ScriptEnd → (events : ℕ) → Due
told_last n AtEnd events = if nat_lt events n then (end.NoEvent, no_event_line n events) else (end.Done, [])
told_last n (Refused line fault) events = (end.Script, fault_line_of line fault)
told_last n AtLimit events = (end.TooLong, [])

-- what is written after the text of an event: the line that is refused, if one is
abbrev pub left_line : ScriptEnd → Text
left_line AtEnd = []
left_line (Refused line fault) = fault_line_of line fault
left_line AtLimit = []

-- after a history, the end and the text of a script of which the event of this number is told
abbrev pub told_event_due : ℕ → Plan → History → Script → Due
told_event_due n plan h script = after (numbered_event_text n plan h (events_on plan script))
    (told_last n script.ending (length h + length script.events))

-- the end and the text of a script's file
abbrev pub told_due : ℕ → Plan → Text → Due
told_due n plan file = told_event_due n plan [] (script_of file)

-- of two files, or nothing if one that is wanted is not there
abbrev pub why_due : ℕ → (topology script : Option Text) → Option Due
why_due n topology script = due_of_files (told_due n) topology script

-- the text that is due of some bytes of a script that goes on after them
abbrev pub told_so_far : ℕ → Plan → Text → Text
told_so_far n plan bytes = (told_event_due n plan [] (script_of_pieces true 1 (pieces bytes))).1

-- ---- line by line

-- the number of the event that is told, and what is kept
pub record WhyView : Type 0 where
  pub number : ℕ
  pub running : RunningView

-- the number, and the events so far, but for those after it
pub record WhyPast : Type 0 where
  pub number : ℕ
  pub script : ScriptPast

-- what is kept follows such a past
pub record FollowsWhy (w : WhyView) (past : WhyPast) : Type 0 where
  pub number_is : w.number ≡ past.number
  pub follows : Follows w.running past.script

-- the past with one more event
abbrev pub why_past_with : WhyPast → Event → WhyPast
why_past_with past e = record past { script = past_with past.script e }

-- an event before the one that is told gives nothing, and nor does one after it, which is not run
abbrev pub ran_why : WhyPast → Event → WhyPast × Text
ran_why past e =
    if nat_lt (length past.script.history + 1) past.number then (why_past_with past e, [])
    else if nat_lt past.number (length past.script.history + 1) then (past, [])
    else (why_past_with past e, event_told past.script.plan past.script.history e)

-- the same of an event of a script
abbrev pub ran_script_why : WhyPast → ScriptEvent → WhyPast × Text
ran_script_why past e = ran_why past (event_of past.script.plan e)

abbrev pub why_by_meaning : WhyPast → Result (Option ScriptEvent) LineFault → Result (WhyPast × Text) LineFault
why_by_meaning past (Err fault) = Err fault
why_by_meaning past (Ok None) = Ok (past, [])
why_by_meaning past (Ok (Some e)) = Ok (ran_script_why past e)

-- what a line gives
abbrev pub why_line : WhyPast → ℕ → Text → Result (WhyPast × Text) LineFault
why_line past n line = why_by_meaning past (line_meaning line)

-- the end after the last line, and what is written then
abbrev pub why_closing : WhyPast → Due
why_closing past = told_last past.number AtEnd (length past.script.history)

-- the text of the event that is told, and that what is kept follows the past with it
pub record EventIsTold (past : ScriptPast) (e : Event) (r : RunningView) (text : Text) : Type 0 where
  pub text_is : text ≡ event_told past.plan past.history e
  pub follows : Follows r (past_with past e)

-- the text of an event, and that what is kept follows the past with it
pub record WhyCame (came : WhyPast × Text) (w : WhyView) (text : Text) : Type 0 where
  pub text_is : text ≡ came.1
  pub follows : FollowsWhy w came.0
