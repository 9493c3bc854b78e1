-- What the program is asked to do, by its words.
use Rattle.std.specs.Prelude.{ℕ, ◌++◌, true, false, Option, Some, None, codes}
use Rattle.cli_words.specs.Words.{CommandRequest, run, run_packets, judge, judge_all, why, cover, cover_events, check}
use Rattle.cli_words.specs.Words.{command_asked, generate, generate_script, generate_topology, migrate, show}
use Rattle.history_events.specs.ScriptText.{generated_script}
use Rattle.history_events.specs.TopologyText.{generated_topology}
use Rattle.file_runs.specs.declared.ends.End.TheVariants as end
use Rattle.file_runs.specs.FileRuns.{FileRun, FileTask, RanAlone, lines_task, task_alone}
use Rattle.file_runs.specs.Gain.{Text}
use Rattle.file_runs.specs.Gathering.{GoesOn, ended_text}
use Rattle.file_runs.specs.Lines.{file_due}
use Rattle.file_runs.specs.Outcome.{Due}
use Rattle.script_runs.specs.Generated.{generated_due}
use Rattle.ide_runs.specs.Tasks.{cover_task, why_task}
use Rattle.script_runs.specs.Tasks.{check_task, judge_task, migrate_task, packets_task, run_task}
use Rattle.ide_cli.specs.Packets.{nothing_due, shown_line}
use Rattle.ide_cli.specs.Seen.{CallSeen}

abbrev pub usage_line : Text
usage_line =
    codes "usage: run TOPOLOGY SCRIPT, judge TOPOLOGY SCRIPT VERDICTS, why TOPOLOGY SCRIPT N, "
    ++ codes "check TOPOLOGY [--migrate], show PACKETS, generate SEED COUNT [--script | --topology]\n"

abbrev pub script_text_due : (seed count : ℕ) → Due
script_text_due seed count = (end.Done, generated_script seed count)

abbrev pub topology_text_due : Due
topology_text_due = (end.Done, generated_topology)

-- the lines of a packet file are shown
abbrev pub show_task : (packets : Text) → FileTask
show_task packets =
    lines_task (file_due shown_line nothing_due tt) (ended_text shown_line nothing_due tt)
    (GoesOn shown_line nothing_due tt) ⊥ packets

-- what each command does with its files
abbrev pub command_task : Option CommandRequest → FileTask
command_task None = task_alone (end.Usage, usage_line) (Unit {0})
command_task (Some (run topology script)) = run_task topology script
command_task (Some (run_packets topology script)) = packets_task topology script
command_task (Some (judge topology script verdicts)) = judge_task false topology script verdicts
command_task (Some (judge_all topology script verdicts)) = judge_task true topology script verdicts
command_task (Some (why topology script n)) = why_task n topology script
command_task (Some (cover topology script)) = cover_task false topology script
command_task (Some (cover_events topology script)) = cover_task true topology script
command_task (Some (check topology)) = check_task topology
command_task (Some (migrate topology)) = migrate_task topology
command_task (Some (show packets)) = show_task packets
command_task (Some (generate seed count)) = task_alone (generated_due seed count) ⊥
command_task (Some (generate_script seed count)) = task_alone (script_text_due seed count) ⊥
command_task (Some (generate_topology seed count)) = task_alone topology_text_due ⊥

-- the call does so
abbrev pub CallRan : CallSeen → Type 0
CallRan call =
    FileRun (command_task (command_asked call.words)) call.shelf_before call.shelf_after call.sink_before
    call.sink_after call.outcome

-- if the words ask for nothing, or for generated events, the due text was written, whatever the shelf tells
abbrev pub RanGenerated : CallSeen → Type 0
RanGenerated call =
    RanAlone (command_task (command_asked call.words)).due_alone call.sink_before call.sink_after call.outcome
