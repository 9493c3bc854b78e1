use Rattle.std.proofs.Common.{arith}
use Rattle.std.proofs.lemmas.Result.{err_from_is_err_and}
use Rattle.tlp_layout.proofs.Found.{has_head, head_fault, head_trails, head_found}
use Rattle.tlp_layout.proofs.reading.whole_head.Goals as goal

pub returns-in_err-layout-clause-err : goal.returns-in_err-layout-clause-err
returns-in_err-layout-clause-err c =
    let p = err_from_is_err_and c.from_residual.result c.from_residual.ensures.1 in
    rw (p.1, p.2) (head_fault _ _ (λ i. omega (arith, c.type_inv.bytes i)) c.in_err-layout.ensures.goes_off)

pub returns-then-bytes-size-clause-err : goal.returns-then-bytes-size-clause-err
returns-then-bytes-size-clause-err c =
    let h = c.in_ok-layout.ensures in
    let begun = has_head c.in_ok-layout.layout c.args.bytes.now c.in_ok-layout.size h.layout h.size h.agrees
    (λ i. omega (arith, c.type_inv.bytes i)) in
    head_trails _ _ _ begun (omega arith)

pub returns-clause-ok : goal.returns-clause-ok
returns-clause-ok c =
    let h = c.in_ok-layout.ensures in
    let begun = has_head c.in_ok-layout.layout c.args.bytes.now c.in_ok-layout.size h.layout h.size h.agrees
    (λ i. omega (arith, c.type_inv.bytes i)) in
    rw c.head_view.ensures (head_found _ _ _ begun (omega arith))
