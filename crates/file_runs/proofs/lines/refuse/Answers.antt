use Rattle.std.proofs.Common.{refl}
use Rattle.std.proofs.lemmas.Result.{err_from_is_err_and}
use Rattle.file_runs.specs.Lines.{after, refusal}
use Rattle.file_runs.proofs.Runs.{cut_line, ran_later}
use Rattle.file_runs.proofs.lines.refuse.Goals as goal

pub returns-in_err-write-clause-ran : goal.returns-in_err-write-clause-ran
returns-in_err-write-clause-ran g c =
    let p = err_from_is_err_and c.from_residual.result c.from_residual.ensures.1 in
    let last = refusal c.args.number c.args.fault in
    rw (p.1, p.2) (cut_line c.in_err-write.field-0.0 (after c.args.gathered.now last) last c.args.gathered.now _ _ _ _
    refl c.in_err-write.ensures)

pub returns-in-Ok-clause-ran : goal.returns-in-Ok-clause-ran
returns-in-Ok-clause-ran g c =
    let put = c.in_ok-write.ensures in
    let last = refusal c.args.number c.args.fault in
    ran_later c.finish.result (after c.args.gathered.now last) last _ _ _ _ _ _ c.args.gathered.now refl put.0 put.1
    (rw (c.deref.ensures.value, c.in-Ok.ensures) at c.finish.ensures.ran)
