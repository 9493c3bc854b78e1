use Rattle.std.proofs.Common.{◌+◌, ◌*◌, ℕ, arith}
use Rattle.gcm_seal.proofs.Pieces.{two_parts}
use Rattle.gcm_seal.proofs.Gcm.mask_last.Goals as goal

pub returns-else-buf-lt32 : goal.returns-else-buf-lt32
returns-else-buf-lt32 c =
    let b : ℕ = c.args.block in
    two_parts c.args.self.now c.args.iv.now (16 * b) (16 * (b + 2)) 32 c.args.buf.now _ _
    (omega arith) (λ more. omega arith) c.mask_two.ensures c.mask_short-else-buf-lt32.ensures
