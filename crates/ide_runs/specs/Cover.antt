-- A script of which it is told which rules answered, and how often.
use Rattle.std.specs.Prelude.{ℕ, Bool, true, List, [], ◌∷◌, ◌++◌, Option, Some, None, Result, Ok, Err}
use Rattle.std.specs.Prelude.{◌≡◌, if◌then◌else◌}
use Rattle.ide_types.specs.declared.plan.Plan.{Plan}
use Rattle.script_events.specs.declared.event.Event.{Event}
use Rattle.script_events.specs.declared.script.ScriptEvent.{ScriptEvent}
use Rattle.script_events.specs.declared.fault.LineFault.{LineFault}
use Rattle.script_events.specs.Words.{fault_line_of}
use Rattle.script_events.specs.Parse.{line_meaning}
use Rattle.spec_keys.specs.History.{History}
use Rattle.history_events.specs.{event_of}
use Rattle.law_text.specs.Runs.{history_on, history_with_event}
pub use Rattle.rule_counts.specs.Lines.{counts_text, event_rules_line}
use Rattle.rule_counts.specs.Coverage.{CoverageView, IsCoverage}
use Rattle.file_runs.specs.declared.ends.End.TheVariants as end
use Rattle.file_runs.specs.Gain.{Text}
use Rattle.file_runs.specs.Outcome.{Due}
use Rattle.file_runs.specs.Pieces.{pieces}
use Rattle.script_runs.specs.Script.{AtEnd, AtLimit, Refused, Script, ScriptEnd, events_on, run_end, script_of}
use Rattle.script_runs.specs.Script.{script_of_pieces}
use Rattle.script_runs.specs.Works.{Follows, RunningView, ScriptPast, past_with}

-- ---- the text

abbrev pub if_shown : (events : Bool) → Text → Text
if_shown events text = if events then text else []

-- of events in order, if lines of events are asked for
abbrev pub events_rules : (events : Bool) → Plan → History → List Event → Text
events_rules events plan h [] = []
events_rules events plan h (e ∷ es) =
    if_shown events (event_rules_line plan h e) ++ events_rules events plan (history_with_event plan h e) es

-- what is written last: the counts, or the line that was refused
abbrev pub covered_last : ScriptEnd → Plan → History → Text
covered_last AtEnd plan h = counts_text plan h
covered_last (Refused n fault) plan h = fault_line_of n fault
covered_last AtLimit plan h = []

-- after a history, the end and the text of a script
abbrev pub covered_after : (events : Bool) → Plan → History → Script → Due
covered_after events plan h script = (
  run_end script.ending,
  events_rules events plan h (events_on plan script)
      ++ covered_last script.ending plan (history_on plan h (events_on plan script)),
)

-- the end and the text of a script's file
abbrev pub cover_due : (events : Bool) → Plan → Text → Due
cover_due events plan file = covered_after events plan [] (script_of file)

-- the text that is due of some bytes of a script that goes on after them
abbrev pub covered_so_far : (events : Bool) → Plan → Text → Text
covered_so_far events plan bytes = (covered_after events plan [] (script_of_pieces true 1 (pieces bytes))).1

-- ---- line by line

-- whether lines of events are asked for, what is kept, and what is counted
pub record CoverView : Type 0 where
  pub events : Bool
  pub running : RunningView
  pub coverage : CoverageView

-- whether they are asked for, and the events so far
pub record CoverPast : Type 0 where
  pub events : Bool
  pub script : ScriptPast

-- what is kept and what is counted follow such a past
pub record FollowsCover (w : CoverView) (past : CoverPast) : Type 0 where
  pub events_are : w.events ≡ past.events
  pub follows : Follows w.running past.script
  pub covers : IsCoverage past.script.plan w.coverage past.script.history

-- the past with one more event
abbrev pub cover_past_with : CoverPast → Event → CoverPast
cover_past_with past e = record past { script = past_with past.script e }

-- the past with an event, and the line of its rules, if it is asked for
abbrev pub ran_cover : CoverPast → Event → CoverPast × Text
ran_cover past e = (
  cover_past_with past e,
  if_shown past.events (event_rules_line past.script.plan past.script.history e),
)

-- the same of an event of a script
abbrev pub ran_script_cover : CoverPast → ScriptEvent → CoverPast × Text
ran_script_cover past e = ran_cover past (event_of past.script.plan e)

abbrev pub cover_by_meaning : CoverPast → Result (Option ScriptEvent) LineFault → Result (CoverPast × Text) LineFault
cover_by_meaning past (Err fault) = Err fault
cover_by_meaning past (Ok None) = Ok (past, [])
cover_by_meaning past (Ok (Some e)) = Ok (ran_script_cover past e)

-- what a line gives
abbrev pub cover_line : CoverPast → ℕ → Text → Result (CoverPast × Text) LineFault
cover_line past n line = cover_by_meaning past (line_meaning line)

-- the run ends with the counts
abbrev pub cover_closing : CoverPast → Due
cover_closing past = (end.Done, counts_text past.script.plan past.script.history)

-- the text of an event, and that what is kept follows the past with it
pub record CoverCame (came : CoverPast × Text) (w : CoverView) (text : Text) : Type 0 where
  pub text_is : text ≡ came.1
  pub follows : FollowsCover w came.0
