use Rattle.std.proofs.Common.{[], refl}
use Rattle.file_runs.specs.Gathering.{GoesOn, ended_text}
use Rattle.file_runs.specs.Lines.{file_due}
use Rattle.file_runs.proofs.FileRuns.{same_lines, without_memory}
use Rattle.script_runs.specs.Reads.{ScriptGoesOn}
use Rattle.script_runs.specs.Tasks.{on_plan_task}
use Rattle.ide_runs.specs.Why.{FollowsWhy, WhyPast, told_due, told_so_far, why_closing, why_line}
use Rattle.script_runs.proofs.Loads.{script_starts}
use Rattle.ide_runs.proofs.Whys.{ended_told, file_told, tells_nothing, told_goes_on}
use Rattle.ide_runs.proofs.telling.why_script.Goals as goal

pub returns-in-Err : goal.returns-in-Err
returns-in-Err g c =
    let n = c.args.number in
    without_memory (on_plan_task (told_due n) (told_so_far n) (Unit {0}) c.args.plan c.args.script.now)
    (script_starts (told_due n) (told_so_far n) (Unit {0}) c.args.plan c.args.script.now (λ plan. refl))
    (g.S.Shelf.seen c.args.shelf.now) (g.O.Sink.seen c.args.out.now)

pub returns-in-Ok : goal.returns-in-Ok
returns-in-Ok g c =
    let n = c.args.number in
    let plan = c.args.plan in
    let past : WhyPast = record { number = n; script = record { plan = plan; history = [] } } in
    let follows : FollowsWhy c.new-work.result past = rw c.new-work.ensures
    (tells_nothing n plan c.in-Ok.world c.in-Ok.ensures) in
    same_lines (file_due why_line why_closing past) (told_due n plan) (ended_text why_line why_closing past)
    (told_so_far n plan) (GoesOn why_line why_closing past) (ScriptGoesOn plan) (Unit {0}) c.args.script.now
    (g.S.Shelf.seen c.args.shelf.now) (g.S.Shelf.seen c.run_file.new.shelf) (g.O.Sink.seen c.args.out.now)
    (g.O.Sink.seen c.run_file.new.out) c.run_file.result (file_told n plan) (ended_told n plan) (told_goes_on n plan)
    (c.run_file.ensures.files past follows)
