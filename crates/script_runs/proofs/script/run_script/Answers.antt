use Rattle.std.proofs.Common.{[], refl}
use Rattle.file_runs.specs.Gathering.{GoesOn, ended_text}
use Rattle.file_runs.specs.Lines.{file_due}
use Rattle.file_runs.proofs.FileRuns.{same_lines, without_memory}
use Rattle.script_runs.specs.Reads.{ScriptGoesOn}
use Rattle.script_runs.specs.Script.{script_due}
use Rattle.script_runs.specs.SoFar.{script_so_far}
use Rattle.script_runs.specs.Tasks.{on_plan_task}
use Rattle.script_runs.specs.Works.{Follows, ScriptPast, closing_due, ran_line}
use Rattle.script_runs.proofs.Loads.{script_starts}
use Rattle.script_runs.proofs.Scripts.{ended_runs, file_is_run, follows_nothing, script_goes_on}
use Rattle.script_runs.proofs.script.run_script.Goals as goal

pub returns-in-Err-clause-files : goal.returns-in-Err-clause-files
returns-in-Err-clause-files g c =
    without_memory (on_plan_task script_due script_so_far ⊥ c.args.plan c.args.script.now)
    (script_starts script_due script_so_far ⊥ c.args.plan c.args.script.now (λ plan. refl))
    (g.S.Shelf.seen c.args.shelf.now) (g.O.Sink.seen c.args.out.now)

pub returns-in-Ok-clause-files : goal.returns-in-Ok-clause-files
returns-in-Ok-clause-files g c =
    let plan = c.args.plan in
    let past : ScriptPast = record { plan = plan; history = [] } in
    let follows : Follows c.new-work.result past = rw c.new-work.ensures
    (follows_nothing plan c.in-Ok.world c.in-Ok.ensures) in
    same_lines (file_due ran_line closing_due past) (script_due plan) (ended_text ran_line closing_due past)
    (script_so_far plan) (GoesOn ran_line closing_due past) (ScriptGoesOn plan) ⊥ c.args.script.now
    (g.S.Shelf.seen c.args.shelf.now) (g.S.Shelf.seen c.run_file.new.shelf) (g.O.Sink.seen c.args.out.now)
    (g.O.Sink.seen c.run_file.new.out) c.run_file.result (file_is_run plan) (ended_runs plan) (script_goes_on plan)
    (c.run_file.ensures.files past follows)
