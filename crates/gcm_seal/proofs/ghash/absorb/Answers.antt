use Rattle.std.proofs.Common.{◌≡◌, ◌+◌, ◌*◌, ◌/◌, ℕ, length, bit_xor, refl, ap, ◌∙◌, arith}
use Rattle.std.specs.Int.{div_ceil}
use Rattle.gcm_seal.specs.Inside.{hash_after_blocks, block_product, padded_block, padded_blocks}
use Rattle.gcm_seal.proofs.Ring.{hash_after_blocks-next}
use Rattle.gcm_seal.proofs.ghash.absorb.Goals as goal

pub fours-init : goal.fours-init
unfolding padded_blocks
fours-init c = λ h lt are. refl

pub fours-preserved : goal.fours-preserved
fours-preserved c = λ h lt are.
    let s = c.args.s.now in
    let y = c.args.y in
    let i : ℕ = 4 * c.fours.i in
    let two : i + 1 + 1 ≡ i + 2 = omega arith in
    let three : i + 2 + 1 ≡ i + 3 = omega arith in
    let next : i + 3 + 1 ≡ 4 * (c.fours.i + 1) = omega arith in
    let more = λ (b e : ℕ) (is : b + 1 ≡ e) (x : ℕ) (held : x ≡ hash_after_blocks h y (padded_blocks s b)).
    ap (λ (x : ℕ). block_product h (bit_xor x (padded_block s b))) held
    ∙ hash_after_blocks-next h y s b
    ∙ ap (λ (n : ℕ). hash_after_blocks h y (padded_blocks s n)) is in
    c.absorb_four-x.ensures h lt are
    ∙ more (i + 3) (4 * (c.fours.i + 1)) next _
    (more (i + 2) (i + 3) three _ (more (i + 1) (i + 2) two _ (more i (i + 1) refl _ (c.fours.invariant h lt are))))

pub rest-init : goal.rest-init
rest-init c = λ h lt are.
    let all : 4 * c.fours.i ≡ 4 * ((length c.args.s.now + 15) / 16 / 4) = omega arith in
    c.fours.invariant h lt are ∙ ap (λ (n : ℕ). hash_after_blocks h c.args.y (padded_blocks c.args.s.now n)) all

pub rest-preserved : goal.rest-preserved
rest-preserved c = λ h lt are.
    let s = c.args.s.now in
    let i : ℕ = c.rest.i in
    c.absorb_one-x.ensures h lt are
    ∙ (λ k. block_product h (bit_xor (c.rest.invariant h lt are k) (c.block_at.ensures k)))
    ∙ hash_after_blocks-next h c.args.y s i

pub returns : goal.returns
returns c = λ h lt are.
    let count : c.rest.i ≡ div_ceil (length c.args.s.now) 16 = omega arith in
    c.rest.invariant h lt are ∙ ap (λ (n : ℕ). hash_after_blocks h c.args.y (padded_blocks c.args.s.now n)) count
