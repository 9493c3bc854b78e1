use Rattle.std.proofs.Common.{◌≡◌, ◌-◌, ℕ, bit_xor, ap, ◌∙◌, arith}
use Rattle.gcm_seal.specs.Inside.{byte_product, joined_bytes, raised_block}
use Rattle.gcm_seal.proofs.Moves.{joined-none, moved_sum, none-moved, none-zeros, sum-next, sum-product}
use Rattle.gcm_seal.proofs.ghash.product.Goals as goal

pub loop-i-init : goal.loop-i-init
loop-i-init c = record { none = none-zeros; sum = λ h are. joined-none }

pub loop-i-preserved : goal.loop-i-preserved
loop-i-preserved c =
    let i : ℕ = c.loop-i.i in
    record {
      none = rw c.moved-p.ensures.high (none-moved i _ c.loop-i.high c.loop-i.invariant.none);
      sum = λ h are.
          c.moved-p.ensures.sum (c.loop-i.invariant.none 15 (omega arith))
          ∙ (λ k. bit_xor (joined_bytes (c.partial.ensures h (15 - i) (are (15 - i) (omega arith)) k))
          (raised_block 8 (c.loop-i.invariant.sum h are k)))
          ∙ sum-next (byte_product h) c.args.v i;
    }

pub returns : goal.returns
returns c =
    let all : c.loop-i.i ≡ 16 = omega arith in
    λ h lt are.
    c.reduced_sum.ensures
    ∙ c.loop-i.invariant.sum h are
    ∙ ap (moved_sum (byte_product h) c.args.v) all
    ∙ sum-product h c.args.v lt c.fits-v
