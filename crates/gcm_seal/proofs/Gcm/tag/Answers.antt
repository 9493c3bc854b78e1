use Rattle.std.proofs.Common.{◌≡◌, ◌<◌, ◌*◌, ◌%◌, ◌^◌, ℕ, List, [], ◌∷◌, length, slice_index, bit_xor, ap, ◌∙◌, subst}
use Rattle.std.proofs.Common.{arith}
use Rattle.std.specs.Int.{w128, from_be_bytes, to_be_bytes}
use lib.Lanes.{zip2}
use Rattle.aes_block.specs.Aes.{aes}
use Rattle.aes_block.proofs.Blocks.{length-aes, at-byte, aes-bytes}
use Rattle.gcm_seal.proofs.Numbers.{bytes-sum}
use Rattle.gcm_seal.specs.Gcm.{tag_of, hash_key, counter}
use Rattle.gcm_seal.specs.Inside.{AreMultiples}
use Rattle.gcm_seal.proofs.Ring.{hashed-ghash}
use Rattle.gcm_seal.proofs.Gcm.tag.Goals as goal

abbrev first_twelve : List ℕ → List ℕ
first_twelve l =
    slice_index l 0 ∷ slice_index l 1 ∷ slice_index l 2 ∷ slice_index l 3 ∷ slice_index l 4 ∷ slice_index l 5 ∷
    slice_index l 6 ∷ slice_index l 7 ∷ slice_index l 8 ∷ slice_index l 9 ∷ slice_index l 10 ∷ slice_index l 11 ∷ []

pub returns : goal.returns
unfolding tag_of counter
returns c =
    let a = c.args.a.now in
    let h = hash_key c.args.self.now in
    let are : AreMultiples h c.self.inside.multiples =
    subst (λ k. AreMultiples (hash_key k) c.self.inside.multiples) c.self.view_is c.self.invariant.1 in
    let hl : h < 2 ^ 128 = rw c.self.view_is at c.self.invariant.0 in
    let whole : 8 * length a * 2 ^ 64 % 2 ^ 128 ≡ 8 * length a * 2 ^ 64 = omega (arith, c.requires.a_short) in
    let key = c.args.self.now in
    let first = counter c.args.iv.now 0 in
    let x : ℕ = c.times.result in
    let y = hashed-ghash h a c.args.c.now hl (omega (arith, c.requires.a_short)) (omega (arith, c.requires.c_short)) in
    let hash =
    c.times.ensures h hl are
    ∙ rw (c.absorb-y.ensures h hl are, c.absorb.ensures h hl are, whole) y in
    let bytes : zip2 bit_xor c.vector_of.result c.output-mask.result
    ≡ to_be_bytes w128 (bit_xor x (from_be_bytes w128 (aes key first))) =
    (λ i. zip2 bit_xor (c.vector_of.ensures i) (c.output-mask.ensures i))
    ∙ bytes-sum x (aes key first) (length-aes key first) (λ i. at-byte (aes key first) i (aes-bytes key first)) in
    ap first_twelve (bytes ∙ ap (λ (n : ℕ). to_be_bytes w128 (bit_xor n (from_be_bytes w128 (aes key first)))) hash)
