use Rattle.std.proofs.Common.{[], refl}
use Rattle.file_runs.specs.Gathering.{GoesOn, ended_text}
use Rattle.file_runs.specs.Lines.{file_due}
use Rattle.file_runs.proofs.FileRuns.{same_lines, without_memory}
use Rattle.ide_runs.specs.Cover.{CoverPast, FollowsCover, cover_closing, cover_due, cover_line, covered_so_far}
use Rattle.script_runs.specs.Reads.{ScriptGoesOn}
use Rattle.script_runs.specs.Tasks.{on_plan_task}
use Rattle.ide_runs.proofs.Covers.{covered_goes_on, covers_nothing, ended_covered, file_covered}
use Rattle.script_runs.proofs.Loads.{script_starts}
use Rattle.ide_runs.proofs.covering.cover_script.Goals as goal

pub returns-in_default : goal.returns-in_default
returns-in_default g c =
    let events = c.args.events in
    without_memory (on_plan_task (cover_due events) (covered_so_far events) ⊥ c.args.plan c.args.script.now)
    (script_starts (cover_due events) (covered_so_far events) ⊥ c.args.plan c.args.script.now (λ plan. refl))
    (g.S.Shelf.seen c.args.shelf.now) (g.O.Sink.seen c.args.out.now)

pub returns-in-Err : goal.returns-in-Err
returns-in-Err g c =
    let events = c.args.events in
    without_memory (on_plan_task (cover_due events) (covered_so_far events) ⊥ c.args.plan c.args.script.now)
    (script_starts (cover_due events) (covered_so_far events) ⊥ c.args.plan c.args.script.now (λ plan. refl))
    (g.S.Shelf.seen c.args.shelf.now) (g.O.Sink.seen c.args.out.now)

pub returns-in-Ok-new : goal.returns-in-Ok-new
returns-in-Ok-new g c =
    let events = c.args.events in
    let plan = c.args.plan in
    let past : CoverPast = record { events = events; script = record { plan = plan; history = [] } } in
    let follows : FollowsCover c.in-Ok-new.work past =
    covers_nothing events plan c.in-Ok.world c.in-Ok-new.work c.in-Ok.ensures c.in-Ok-new.ensures.events
    c.in-Ok-new.ensures.running (c.in-Ok-new.ensures.coverage plan) in
    same_lines (file_due cover_line cover_closing past) (cover_due events plan)
    (ended_text cover_line cover_closing past) (covered_so_far events plan) (GoesOn cover_line cover_closing past)
    (ScriptGoesOn plan) ⊥ c.args.script.now (g.S.Shelf.seen c.args.shelf.now) (g.S.Shelf.seen c.run_file.new.shelf)
    (g.O.Sink.seen c.args.out.now) (g.O.Sink.seen c.run_file.new.out) c.run_file.result (file_covered events plan)
    (ended_covered events plan) (covered_goes_on events plan) (c.run_file.ensures.files past follows)
