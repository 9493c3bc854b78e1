use Rattle.std.proofs.Common.{◌≡◌, ◌+◌, cond, length, take, drop, ap, ◌∙◌, arith}
use Rattle.std.proofs.lemmas.Result.{err_from_is_err_and}
use Rattle.ide_prefix.proofs.Faults.{early_fault, short_fault, trailing_fault, is_cut}
use Rattle.ide_prefix.specs.Reading.{tag_part}
use Rattle.ide_prefix.specs.declared.packet.Prefix.{Prefix}
use Rattle.ide_prefix.proofs.cutting.parts.Goals as goal

pub returns-in_err-early-clause-err : goal.returns-in_err-early-clause-err
returns-in_err-early-clause-err c =
    let p = err_from_is_err_and c.from_residual.result c.from_residual.ensures.1 in
    let h = c.in_err-early.ensures.goes_off in
    rw (p.1, p.2) (early_fault _ _ h.0 (λ i. omega (arith, c.type_inv.bytes i)) h.1)

pub returns-then-bytes-total-clause-err : goal.returns-then-bytes-total-clause-err
returns-then-bytes-total-clause-err c =
    let tag = c.tag_size-tag_size.ensures ∙ ap (λ (p : Prefix). cond p.m 12 0) c.prefix_at-prefix.ensures in
    let lt = c.if-bytes-total.true in
    short_fault _ c.in_ok-tlp.tlp c.in_ok-tlp.size c.in_ok-tlp.wanted (λ i. omega (arith, c.type_inv.bytes i))
    c.in_ok-early.ensures.long c.in_ok-early.ensures.fits c.in_ok-tlp.ensures.ok (omega (arith, lt, tag))

pub returns-then-bytes-total-2-clause-err : goal.returns-then-bytes-total-2-clause-err
returns-then-bytes-total-2-clause-err c =
    let tag = c.tag_size-tag_size.ensures ∙ ap (λ (p : Prefix). cond p.m 12 0) c.prefix_at-prefix.ensures in
    let lt = c.if-bytes-total-2.true in
    trailing_fault _ c.in_ok-tlp.tlp c.in_ok-tlp.size c.in_ok-tlp.wanted _ (λ i. omega (arith, c.type_inv.bytes i))
    c.in_ok-early.ensures.long c.in_ok-early.ensures.fits c.in_ok-tlp.ensures.ok (omega (arith, tag)) lt

pub returns-clause-ok : goal.returns-clause-ok
returns-clause-ok c =
    let tag = c.tag_size-tag_size.ensures ∙ ap (λ (p : Prefix). cond p.m 12 0) c.prefix_at-prefix.ensures in
    let size = c.in_ok-tlp.size in
    let wanted = c.in_ok-tlp.wanted in
    let s = c.args.bytes.now in
    let le = c.if-bytes-total.false in
    let ge = c.if-bytes-total-2.false in
    let total : length s ≡ 4 + size + wanted + tag_part s = omega (arith, le, ge, tag) in
    let e1 = c.split_at.ensures.back in
    let e2 = c.split_at-2.ensures in
    let e3 = c.split_at-3.ensures in
    let back = e2.back ∙ ap (drop size) e1 in
    let rest = e3.back ∙ ap (drop wanted) back in
    is_cut s c.split_at-2.result.0.now c.split_at-3.result.0.now c.split_at-3.result.1.now c.as_array.result
    c.in_ok-tlp.tlp
    size wanted c.prefix_at-prefix.result (λ i. omega (arith, c.type_inv.bytes i))
    c.in_ok-early.ensures.long
    c.in_ok-early.ensures.fits c.in_ok-tlp.ensures.ok total
    c.prefix_at-prefix.ensures (e2.front ∙ ap (take size) e1) (e3.front ∙ ap (take wanted) back) rest
    c.as_array.ensures.cases
