use Rattle.std.proofs.Common.{◌≡◌, ◌≤◌, take, length, ◌+◌, ◌*◌, ◌∙◌, ℕ, ap, arith, rules, length-take-le}
use Rattle.aes_block.specs.Aes.{aes}
use Rattle.gcm_seal.specs.Gcm.{counter}
use Rattle.gcm_seal.proofs.Pieces.{two_parts}
use Rattle.gcm_seal.proofs.Gcm.mask_four.Goals as goal

pub combine_two-requires : goal.combine_two-requires
combine_two-requires c = length-take-le 32 c.args.buf.now (omega (arith, c.requires.four))

pub slice_bounds-combine_two-end-2 : goal.slice_bounds-combine_two-end-2
slice_bounds-combine_two-end-2 c =
    let whole : length (take 32 c.args.buf.now) ≡ 32 = length-take-le 32 c.args.buf.now (omega (arith, c.requires.four))
    in
    let le : 32 ≤ length c.args.buf.now = omega (arith, c.requires.four) in
    search (rules, whole, le)

pub returns : goal.returns
returns c =
    let key = c.args.self.now in
    let iv = c.args.iv.now in
    let b : ℕ = c.args.block in
    let e3 : b + 1 + 2 ≡ b + 2 + 1 = omega arith in
    let e4 : b + 1 + 3 ≡ b + 2 + 1 + 1 = omega arith in
    two_parts key iv (16 * b) (16 * (b + 2)) 32 c.args.buf.now c.combine_two.new.buf c.combine_two-2.new.buf
    (omega (arith, c.requires.four)) (λ more. omega arith)
    (c.combine_two.ensures key iv b c.outputs_four-out.ensures.first c.outputs_four-out.ensures.second)
    (c.combine_two-2.ensures key iv (b + 2)
    (c.outputs_four-out.ensures.third ∙ ap (λ (n : ℕ). aes key (counter iv n)) e3)
    (c.outputs_four-out.ensures.fourth ∙ ap (λ (n : ℕ). aes key (counter iv n)) e4))
