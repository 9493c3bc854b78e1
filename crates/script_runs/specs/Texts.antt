-- What a script writes event by event, by the text that each event has with its verdict, after the history before it.
use Rattle.std.specs.Prelude.{true, List, [], ◌∷◌, ◌++◌}
use Rattle.ide_types.specs.declared.plan.Plan.{Plan}
use Rattle.script_events.specs.declared.event.Event.{Event}
use Rattle.spec_keys.specs.History.{History}
use Rattle.spec_links.specs.Due.{due}
use Rattle.law_text.specs.Runs.{history_on, history_with_event}
use Rattle.file_runs.specs.Gain.{Text}
use Rattle.file_runs.specs.Outcome.{Due}
use Rattle.file_runs.specs.Pieces.{pieces}
use Rattle.script_runs.specs.Script.{Script, events_on, last_line, run_end, script_of, script_of_pieces}
use Rattle.script_runs.specs.Works.{EventText}

-- the texts of events in order, each with the verdict that is due
abbrev pub texts_on : EventText → Plan → History → List Event → Text
texts_on text plan h [] = []
texts_on text plan h (e ∷ events) =
    text plan h (e, due plan h e) ++ texts_on text plan (history_with_event plan h e) events

-- the texts of a history, in its order
abbrev pub texts_told : EventText → Plan → History → Text
texts_told text plan [] = []
texts_told text plan (x ∷ h) = texts_told text plan h ++ text plan h x

-- after a history, the end and the text of a script: the texts of its events, and the last line of a run
abbrev pub texts_after : EventText → Plan → History → Script → Due
texts_after text plan h script = (
  run_end script.ending,
  texts_on text plan h (events_on plan script)
      ++ last_line script.ending (history_on plan h (events_on plan script)),
)

-- of a script's file
abbrev pub texts_due : EventText → Plan → Text → Due
texts_due text plan file = texts_after text plan [] (script_of file)

-- the text that is due of some bytes of a script that goes on after them
abbrev pub texts_so_far : EventText → Plan → Text → Text
texts_so_far text plan bytes = (texts_after text plan [] (script_of_pieces true 1 (pieces bytes))).1
