-- A script: the events of its lines, and how its reading ends.
use Rattle.std.specs.Prelude.{ℕ, ◌+◌, ◌==◌, nat_lt, Bool, List, [], ◌∷◌, ◌++◌, length, map, Option, Some, None}
use Rattle.std.specs.Prelude.{Result, Ok, Err, if◌then◌else◌, option_map}
use Rattle.file_runs.specs.Pieces.{pieces}
use Rattle.ide_types.specs.declared.plan.Plan.{Plan}
use Rattle.script_events.specs.declared.event.Event.{Event}
use Rattle.script_events.specs.declared.script.ScriptEvent.{ScriptEvent}
use Rattle.script_events.specs.declared.fault.LineFault.{LineFault}
use Rattle.script_events.specs.declared.fault.LineFault.TheVariants as line
use Rattle.script_events.specs.Words.{fault_line_of, line_limit}
use Rattle.script_events.specs.Parse.{line_meaning}
use Rattle.event_verdicts.specs.Lines.{totals_line_of}
use Rattle.spec_keys.specs.History.{History}
use Rattle.history_events.specs.{event_of}
use Rattle.law_text.specs.Runs.{history_on, text_on, totals_of}
use Rattle.file_runs.specs.declared.ends.End.{End}
use Rattle.file_runs.specs.declared.ends.End.TheVariants as end
use Rattle.file_runs.specs.Gain.{Text}
use Rattle.file_runs.specs.Outcome.{Due}
use Rattle.file_runs.specs.Lines.{is_over, cut_text}
use Rattle.script_runs.specs.declared.topologies.Loaded.{Loaded}
use Rattle.script_runs.specs.declared.topologies.Loaded.TheVariants.{Sound, Faulty, Long}
use Rattle.script_runs.specs.Topologies.{loaded_topology, plan_refusal}

-- at the end of the file, at a line of this number that is not spelled, or at the limit
pub data ScriptEnd : Type 0 where
  AtEnd : ScriptEnd
  Refused : ℕ → LineFault → ScriptEnd
  AtLimit : ScriptEnd

pub record Script : Type 0 where
  pub events : List ScriptEvent
  pub ending : ScriptEnd

abbrev pub script_ended : ScriptEnd → Script
script_ended ending = record { events = []; ending = ending }

-- a line of this number, before the others: no event, one, or the first that is not spelled
abbrev pub with_line : ℕ → Result (Option ScriptEvent) LineFault → Script → Script
with_line n (Err fault) later = script_ended (Refused n fault)
with_line n (Ok None) later = later
with_line n (Ok (Some event)) later = record later { events = event ∷ later.events }

-- a line that does not end before the limit counts only if it is too long already
abbrev pub unended_line : ℕ → Text → Script
unended_line n piece = script_ended (if nat_lt line_limit (length piece) then Refused n line.TooLong else AtLimit)

-- what stands between line feeds, numbered from n; the last piece is a line if it has bytes
abbrev pub script_of_pieces : Bool → ℕ → List Text → Script
script_of_pieces over n [] = script_ended AtEnd
script_of_pieces over n (piece ∷ []) =
    if over then unended_line n piece
    else if length piece == 0 then script_ended AtEnd
    else with_line n (line_meaning piece) (script_ended AtEnd)
script_of_pieces over n (piece ∷ next ∷ rest) = with_line n (line_meaning piece)
    (script_of_pieces over (n + 1) (next ∷ rest))

-- the script of a file
abbrev pub script_of : Text → Script
script_of file = script_of_pieces (is_over file) 1 (pieces (cut_text file))

-- the events of a history that its events are, in a topology: of lines and ends in place of links, of hops and of
-- streams between devices
abbrev pub events_on : Plan → Script → List Event
events_on plan script = map (event_of plan) script.events

abbrev pub run_end : ScriptEnd → End
run_end AtEnd = end.Done
run_end (Refused n fault) = end.Script
run_end AtLimit = end.TooLong

-- the last line: the totals of the history, or the line that was refused
abbrev pub last_line : ScriptEnd → History → Text
last_line AtEnd h = totals_line_of (totals_of h)
last_line (Refused n fault) h = fault_line_of n fault
last_line AtLimit h = []

-- after a history, the end and the text of a script: the verdict lines of its events, each verdict the one that is due,
-- and the last line
abbrev pub due_after : Plan → History → Script → Due
due_after plan h script = (
  run_end script.ending,
  text_on plan h (events_on plan script) ++ last_line script.ending
      (history_on plan h (events_on plan script)),
)

-- the end and the text of a script's file
abbrev pub script_due : Plan → Text → Due
script_due plan file = due_after plan [] (script_of file)

-- ---- on a topology that is a file

-- the end and the text of a script's file on what a topology gives, by what is due of it on a plan, or nothing if the
-- script is not there
abbrev pub due_by_topology : (Plan → Text → Due) → Option Text → Loaded → Option Due
due_by_topology due script Long = Some (end.TooLong, [])
due_by_topology due script (Faulty fault) = Some (end.Topology, plan_refusal fault)
due_by_topology due script (Sound plan) = option_map (due plan) script

-- the same of two files
abbrev pub due_of_files : (Plan → Text → Due) → (topology script : Option Text) → Option Due
due_of_files due None script = None
due_of_files due (Some topology) script = due_by_topology due script (loaded_topology topology)

-- of a script that is run
abbrev pub run_due : (topology script : Option Text) → Option Due
run_due topology script = due_of_files script_due topology script
