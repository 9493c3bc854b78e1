use Rattle.std.proofs.Common.{sym, subst}
use Rattle.file_runs.specs.Gain.{Text}
use Rattle.file_runs.specs.Outcome.{Ran}
use Rattle.script_runs.proofs.Judges.{judge_cut, judge_left, judge_ran, never_rose}
use Rattle.script_runs.proofs.judging.judge.Goals as goal

pub returns-in-Err : goal.returns-in-Err
returns-in-Err g c = judge_cut c.args.all c.args.topology.now c.args.script.now c.args.verdicts.now
    (g.S.Shelf.seen c.args.shelf.now) (g.S.Shelf.seen c.run_files.new.shelf) _ _ (g.O.Sink.seen c.args.out.now)
    c.in-Err.e never_rose c.in-Err.ensures.files

pub returns-in-None : goal.returns-in-None
returns-in-None g c = judge_ran c.args.all c.args.topology.now c.args.script.now c.args.verdicts.now
    c.bytes-text.result.now
    (g.S.Shelf.seen c.args.shelf.now) (g.S.Shelf.seen c.run_files.new.shelf) (g.S.Shelf.seen c.judge_file.new.shelf) _ _
    (g.O.Sink.seen c.args.out.now) (g.O.Sink.seen c.judge_file.new.out) c.in-Ok.end c.judge_file.result
    c.new-ran.ensures
    (sym c.bytes-text.ensures) c.in-None.ensures c.in-Ok.ensures.same c.in-Ok.ensures.files c.judge_file.ensures.files

pub returns : goal.returns
returns g c = judge_left c.args.all c.args.topology.now c.args.script.now c.args.verdicts.now c.bytes-text.result.now
    (g.S.Shelf.seen c.args.shelf.now) (g.S.Shelf.seen c.run_files.new.shelf) _ _ (g.O.Sink.seen c.args.out.now)
    (g.O.Sink.seen c.finish.new.out) c.in-Ok.end c.finish.result c.new-ran.ensures (sym c.bytes-text.ensures)
    c.in-Some.ensures.0 c.in-Ok.ensures.files
    (subst (λ (t : Text). Ran (c.in-Ok.end, t) (g.O.Sink.seen c.args.out.now) (g.O.Sink.seen c.finish.new.out)
    c.finish.result) c.in-Some.ensures.1 c.finish.ensures.ran)
