use Rattle.std.proofs.Common.{arith, length-drop}
use Rattle.std.proofs.lemmas.List.{take_rest}
use Rattle.std.proofs.lemmas.Result.{err_from_is_err_and}
use Rattle.tlp_layout.proofs.Found.{has_head, wanted_is, tlp_fault, tlp_short, tlp_trails, tlp_found}
use Rattle.tlp_layout.proofs.reading.whole.Goals as goal

pub returns-in_err-layout-clause-err : goal.returns-in_err-layout-clause-err
returns-in_err-layout-clause-err c =
    let p = err_from_is_err_and c.from_residual.result c.from_residual.ensures.1 in
    rw (p.1, p.2) (tlp_fault _ _ (λ i. omega (arith, c.type_inv.bytes i)) c.in_err-layout.ensures.goes_off)

pub returns-then-payload-wanted-clause-err : goal.returns-then-payload-wanted-clause-err
returns-then-payload-wanted-clause-err c =
    let h = c.in_ok-layout.ensures in
    let begun = has_head c.in_ok-layout.layout c.args.bytes.now c.in_ok-layout.size h.layout h.size h.agrees
    (λ i. omega (arith, c.type_inv.bytes i)) in
    let wanted = wanted_is c.in_ok-layout.layout c.args.bytes.now c.head_view-head.ensures c.payload_size-wanted.ensures
    in
    let less = rw take_rest at c.if-payload-wanted.true in
    tlp_short _ _ _ _ begun wanted (omega (arith, less, length-drop c.in_ok-layout.size c.args.bytes.now))

pub returns-then-payload-wanted-2-clause-err : goal.returns-then-payload-wanted-2-clause-err
returns-then-payload-wanted-2-clause-err c =
    let h = c.in_ok-layout.ensures in
    let begun = has_head c.in_ok-layout.layout c.args.bytes.now c.in_ok-layout.size h.layout h.size h.agrees
    (λ i. omega (arith, c.type_inv.bytes i)) in
    let wanted = wanted_is c.in_ok-layout.layout c.args.bytes.now c.head_view-head.ensures c.payload_size-wanted.ensures
    in
    let more = rw take_rest at c.if-payload-wanted-2.true in
    tlp_trails _ _ _ _ begun wanted (omega (arith, more, length-drop c.in_ok-layout.size c.args.bytes.now))

pub returns-clause-ok : goal.returns-clause-ok
returns-clause-ok c =
    let h = c.in_ok-layout.ensures in
    let begun = has_head c.in_ok-layout.layout c.args.bytes.now c.in_ok-layout.size h.layout h.size h.agrees
    (λ i. omega (arith, c.type_inv.bytes i)) in
    let wanted = wanted_is c.in_ok-layout.layout c.args.bytes.now c.head_view-head.ensures c.payload_size-wanted.ensures
    in
    let less = rw take_rest at c.if-payload-wanted.false in
    let more = rw take_rest at c.if-payload-wanted-2.false in
    let long = length-drop c.in_ok-layout.size c.args.bytes.now in
    rw (take_rest, c.head_view-head.ensures) (tlp_found _ _ _ _ begun wanted (omega (arith, less, more, long)))
