use Rattle.std.proofs.Common.{◌≢◌, ◌≤◌, length, subst}
use Rattle.std.specs.Prelude.{IfOk}
use Rattle.file_runs.specs.declared.ends.End.TheVariants.{TooLong}
use Rattle.file_runs.specs.Gain.{Text}
use Rattle.file_runs.specs.Judging.{judgement_due}
use Rattle.file_runs.specs.Outcome.{Ran}
use Rattle.file_runs.proofs.JudgedFiles.{gave_few, judged_cut, judged_ran}
use Rattle.file_runs.proofs.judge.judge_file.Goals as goal

pub returns-in-Err-clause-files : goal.returns-in-Err-clause-files
returns-in-Err-clause-files g c =
    let read = c.in-Err.ensures in
    judged_cut c.args.all c.args.due.now c.args.name.now (g.S.Shelf.seen c.args.shelf.now)
    (g.S.Shelf.seen c.read_front.new.shelf)
    (g.O.Sink.seen c.args.out.now) c.in-Err.e
    (record { within = read.within; names = read.file_names; limit = read.read_limit; pieces = read.read_pieces })
    read.cause

pub returns-in-Ok-clause-files : goal.returns-in-Ok-clause-files
returns-in-Ok-clause-files g c =
    let read = c.in-Ok.ensures in
    let P : Text → Type 0 = λ t. Ran (judgement_due c.args.all c.args.due.now t) (g.O.Sink.seen c.args.out.now)
    (g.O.Sink.seen c.judge_front.new.out) c.judge_front.result in
    judged_ran c.args.all c.args.due.now c.args.name.now c.in-Ok.front.items (g.S.Shelf.seen c.args.shelf.now)
    (g.S.Shelf.seen c.read_front.new.shelf) (g.O.Sink.seen c.args.out.now) (g.O.Sink.seen c.judge_front.new.out)
    c.judge_front.result read.bytes read.cause read.length read.given
    (record { within = read.within; names = read.file_names; limit = read.read_limit; pieces = read.read_pieces })
    (subst P c.deref.ensures.value c.judge_front.ensures.ran)

pub returns-in-Ok-clause-few : goal.returns-in-Ok-clause-few
returns-in-Ok-clause-few g c =
    let P : Text → Type 0 = λ t. IfOk c.judge_front.result (λ e. e ≢ TooLong → length t ≤ 1073741824) in
    gave_few c.judge_front.result (length c.in-Ok.front.items) _ _ c.in-Ok.ensures.given
    (subst P c.deref.ensures.value c.judge_front.ensures.few)
