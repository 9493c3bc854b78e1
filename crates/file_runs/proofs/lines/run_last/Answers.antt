use Rattle.std.proofs.Common.{◌∙◌, false, refl, sym}
use Rattle.std.proofs.lemmas.Result.{err_from_is_err_and}
use Rattle.file_runs.proofs.Runs.{cut_line, one_line, ran_later}
use Rattle.file_runs.proofs.lines.run_last.Goals as goal

pub returns-in_err-write-in-Ok-clause-ran : goal.returns-in_err-write-in-Ok-clause-ran
returns-in_err-write-in-Ok-clause-ran g c =
    let p = err_from_is_err_and c.from_residual.result c.from_residual.ensures.1 in
    rw (p.1, p.2) (λ past was.
    let came = c.in-Ok.ensures.came past was in
    let due = one_line g.W.LineWork.advance g.W.LineWork.closing false c.args.number _ _ _ c.in-Ok.text refl
    (sym c.is_empty.ensures ∙ c.if-is_empty.false) came.1 in
    cut_line c.in_err-write-in-Ok.field-0.0 _ (g.W.LineWork.closing came.0) c.in-Ok.text _ _ _ _ due
    (rw c.as_slice.ensures at c.in_err-write-in-Ok.ensures))

pub returns-in_ok-write-in-Ok-clause-ran : goal.returns-in_ok-write-in-Ok-clause-ran
returns-in_ok-write-in-Ok-clause-ran g c = λ past was.
    let came = c.in-Ok.ensures.came past was in
    let put = rw c.as_slice.ensures at c.in_ok-write-in-Ok.ensures in
    let due = one_line g.W.LineWork.advance g.W.LineWork.closing false c.args.number _ _ _ c.in-Ok.text refl
    (sym c.is_empty.ensures ∙ c.if-is_empty.false) came.1 in
    ran_later c.close-in-Ok.result _ _ _ _ _ _ _ _ c.in-Ok.text due put.0 put.1
    (c.close-in-Ok.ensures.ran came.0 came.2)
