use Rattle.std.proofs.Common.{◌≡◌, ◌+◌, ◌*◌, ℕ, take, ap, ◌∙◌, arith}
use Rattle.gcm_seal.specs.Gcm.{masked_bytes}
use Rattle.gcm_seal.proofs.Pieces.{two_parts}
use Rattle.gcm_seal.proofs.Gcm.mask_short.Goals as goal

pub returns : goal.returns
returns c =
    let key = c.args.self.now in
    let iv = c.args.iv.now in
    let xs = c.args.buf.now in
    let n : ℕ = 16 * c.args.block in
    let f : ℕ = c.min-first.result in
    let first : n + 0 ≡ n = omega arith in
    two_parts key iv n (16 * (c.args.block + 1) + 0) f xs c.mask_in_block.new.buf c.mask_in_block-2.new.buf
    (omega (arith, c.min-first.ensures))
    (λ more. omega (arith, c.min-first.ensures, more))
    (c.mask_in_block.ensures ∙ ap (λ (k : ℕ). masked_bytes key iv k (take f xs)) first) c.mask_in_block-2.ensures
