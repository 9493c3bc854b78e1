use Rattle.std.proofs.Common.{◌≡◌, ℕ, ◌/◌, ◌%◌, ◌^◌, bit_and, sym, ap, ◌∙◌, arith}
use Rattle.std.proofs.lemmas.Nat.{and_mask}
use Rattle.aes_block.specs.Inside.{spread}
use Rattle.aes_block.proofs.Numbers.{bytes-number, spread-words_of}
use Rattle.aes_block.proofs.vector.Goals as goal

pub returns : goal.returns
unfolding spread
returns c =
    let n : ℕ = c.joined-n.result in
    let low : bit_and n 0xffff_ffff_ffff_ffff ≡ n % 2 ^ 64 = and_mask n 64 in
    bytes-number n (bit_and n 0xffff_ffff_ffff_ffff) (n / 2 ^ 64) (omega (arith, low))
    ∙ sym (spread-words_of n)
    ∙ ap spread c.joined-n.ensures
