-- A run of the script of generated events on their topology.
use Rattle.std.specs.Prelude.{ℕ, ◌≡◌, ◌≤◌, ◌++◌, [], Some}
use Rattle.cli_files.specs.Outside.{Contents}
use Rattle.cli_words.specs.Words.{command_asked, run}
use Rattle.history_events.specs.GeneratedEvents.{generated_events}
use Rattle.history_events.specs.GeneratedTopology.{the_plan}
use Rattle.history_events.specs.ScriptText.{generated_script}
use Rattle.history_events.specs.TopologyText.{generated_topology}
use Rattle.event_verdicts.specs.Lines.{totals_line_of}
use Rattle.law_text.specs.Runs.{text_on, totals_of}
use Rattle.file_runs.specs.declared.ends.End.TheVariants as end
use Rattle.file_runs.specs.Gain.{Text}
use Rattle.file_runs.specs.Outcome.{Due, RanOnShelf}
use Rattle.script_runs.specs.Generated.{generated_history}
use Rattle.ide_cli.specs.Seen.{CallSeen}

-- the verdict lines of the generated events, and the totals of their history, with which `generate` ends its line
abbrev pub generated_run_due : (seed count : ℕ) → Due
generated_run_due seed count = (
  end.Done,
  text_on the_plan [] (generated_events seed count) ++ totals_line_of (totals_of (generated_history seed count)),
)

-- if the words ask for a run, and the contents are told and have the topology of generated events and the script of
-- those of a seed and so many rounds at the most, the verdict lines and the totals of these events are due
abbrev pub RunsGenerated : CallSeen → Type 0
RunsGenerated call = (contents : Contents) (topology script : Text) (seed count : ℕ)
    → call.shelf_before.contents ≡ Some contents → command_asked call.words ≡ Some (run topology script)
    → contents topology ≡ Some generated_topology → contents script ≡ Some (generated_script seed count)
    → count ≤ 100000
    → RanOnShelf (λ c. Some (generated_run_due seed count)) call.shelf_before call.shelf_after call.sink_before
    call.sink_after
    call.outcome
