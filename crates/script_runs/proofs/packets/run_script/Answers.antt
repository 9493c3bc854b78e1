use Rattle.std.proofs.Common.{[], refl}
use Rattle.file_runs.specs.Gathering.{GoesOn, ended_text}
use Rattle.file_runs.specs.Lines.{file_due}
use Rattle.file_runs.proofs.FileRuns.{same_lines, without_memory}
use Rattle.script_runs.specs.Packets.{packets_due, packets_line, packets_so_far, packets_text}
use Rattle.script_runs.specs.Reads.{ScriptGoesOn}
use Rattle.script_runs.specs.Tasks.{on_plan_task}
use Rattle.script_runs.specs.Works.{Follows, ScriptPast, closing_due}
use Rattle.script_runs.proofs.Loads.{script_starts}
use Rattle.script_runs.proofs.Scripts.{follows_nothing, texts_go_on, texts_of_ended, texts_of_file}
use Rattle.script_runs.proofs.packets.run_script.Goals as goal

pub returns-in-Err : goal.returns-in-Err
returns-in-Err g c =
    without_memory (on_plan_task packets_due packets_so_far ⊥ c.args.plan c.args.script.now)
    (script_starts packets_due packets_so_far ⊥ c.args.plan c.args.script.now (λ plan. refl))
    (g.S.Shelf.seen c.args.shelf.now) (g.O.Sink.seen c.args.out.now)

pub returns-in-Ok : goal.returns-in-Ok
returns-in-Ok g c =
    let plan = c.args.plan in
    let past : ScriptPast = record { plan = plan; history = [] } in
    let follows : Follows c.new-work.result past = rw c.new-work.ensures
    (follows_nothing plan c.in-Ok.world c.in-Ok.ensures) in
    same_lines (file_due packets_line closing_due past) (packets_due plan) (ended_text packets_line closing_due past)
    (packets_so_far plan) (GoesOn packets_line closing_due past) (ScriptGoesOn plan) ⊥ c.args.script.now
    (g.S.Shelf.seen c.args.shelf.now) (g.S.Shelf.seen c.run_file.new.shelf) (g.O.Sink.seen c.args.out.now)
    (g.O.Sink.seen c.run_file.new.out) c.run_file.result (texts_of_file packets_text plan)
    (texts_of_ended packets_text plan) (texts_go_on packets_text plan) (c.run_file.ensures.files past follows)
