use Rattle.std.proofs.Common.{◌≡◌, ℕ, ◌/◌, ◌%◌, ◌^◌, bit_and, arith}
use Rattle.std.proofs.lemmas.Nat.{and_mask}
use Rattle.aes_block.proofs.Numbers.{bytes-number}
use Rattle.gcm_seal.proofs.ghash.vector_of.Goals as goal

pub returns : goal.returns
returns c =
    let n : ℕ = c.args.n in
    let low : bit_and n 0xffff_ffff_ffff_ffff ≡ n % 2 ^ 64 = and_mask n 64 in
    bytes-number n (bit_and n 0xffff_ffff_ffff_ffff) (n / 2 ^ 64) (omega (arith, low))
