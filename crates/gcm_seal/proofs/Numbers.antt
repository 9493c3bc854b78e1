-- Sums of blocks as numbers and as bytes.
use Rattle.std.proofs.Common.{◌≡◌, ℕ, ◌/◌, ◌%◌, ◌^◌, ◌<◌, List, [], ◌∷◌, length, bit_xor, slice_index, sym, ap, ◌∙◌}
use Rattle.std.proofs.Common.{arith, append-nil}
use Rattle.std.specs.Int.{w128, from_be_bytes, to_be_bytes}
use Rattle.std.proofs.lemmas.Nat.{xor_lt, xor_shr, xor_mod}
use lib.Lanes.{zip2}
use Rattle.aes_block.specs.Nibbles.{IsVector}
use Rattle.aes_block.proofs.Places.{lane_fits}
use Rattle.gcm_seal.proofs.Moves.{from-to, number-lt}
use Rattle.aes_block.proofs.Columns.{items-drop}

-- the bytes of a sum, one summand as bytes
pub bytes-sum : (n : ℕ) (out : List ℕ) → length out ≡ 16 → ((i : ℕ) → slice_index out i < 256)
    → zip2 bit_xor (to_be_bytes w128 n) out ≡ to_be_bytes w128 (bit_xor n (from_be_bytes w128 out))
bytes-sum n out long at =
    let w : ℕ = from_be_bytes w128 out in
    let at_xor : (k : ℕ) → bit_xor n w / 2 ^ k % 2 ^ 8 ≡ bit_xor (n / 2 ^ k % 2 ^ 8) (w / 2 ^ k % 2 ^ 8) =
    λ k. ap (λ (x : ℕ). x % 2 ^ 8) (xor_shr n w k) ∙ xor_mod (n / 2 ^ k) (w / 2 ^ k) 8 in
    let e0 : w / 2 ^ 120 % 2 ^ 8 ≡ slice_index out 0 = omega (arith, at 0) in
    let e1 : w / 2 ^ 112 % 2 ^ 8 ≡ slice_index out 1 = omega (arith, at 1) in
    let e2 : w / 2 ^ 104 % 2 ^ 8 ≡ slice_index out 2 = omega (arith, at 2) in
    let e3 : w / 2 ^ 96 % 2 ^ 8 ≡ slice_index out 3 = omega (arith, at 3) in
    let e4 : w / 2 ^ 88 % 2 ^ 8 ≡ slice_index out 4 = omega (arith, at 4) in
    let e5 : w / 2 ^ 80 % 2 ^ 8 ≡ slice_index out 5 = omega (arith, at 5) in
    let e6 : w / 2 ^ 72 % 2 ^ 8 ≡ slice_index out 6 = omega (arith, at 6) in
    let e7 : w / 2 ^ 64 % 2 ^ 8 ≡ slice_index out 7 = omega (arith, at 7) in
    let e8 : w / 2 ^ 56 % 2 ^ 8 ≡ slice_index out 8 = omega (arith, at 8) in
    let e9 : w / 2 ^ 48 % 2 ^ 8 ≡ slice_index out 9 = omega (arith, at 9) in
    let e10 : w / 2 ^ 40 % 2 ^ 8 ≡ slice_index out 10 = omega (arith, at 10) in
    let e11 : w / 2 ^ 32 % 2 ^ 8 ≡ slice_index out 11 = omega (arith, at 11) in
    let e12 : w / 2 ^ 24 % 2 ^ 8 ≡ slice_index out 12 = omega (arith, at 12) in
    let e13 : w / 2 ^ 16 % 2 ^ 8 ≡ slice_index out 13 = omega (arith, at 13) in
    let e14 : w / 2 ^ 8 % 2 ^ 8 ≡ slice_index out 14 = omega (arith, at 14) in
    let e15 : w % 2 ^ 8 ≡ slice_index out 15 = omega (arith, at 15) in
    ap (zip2 bit_xor (to_be_bytes w128 n)) (sym (items-drop out 16 0 [] (sym long) ∙ append-nil out))
    ∙ sym (λ i. (at_xor 120 ∙ ap (bit_xor (n / 2 ^ 120 % 2 ^ 8)) e0) i
    ∷ (at_xor 112 ∙ ap (bit_xor (n / 2 ^ 112 % 2 ^ 8)) e1) i
    ∷ (at_xor 104 ∙ ap (bit_xor (n / 2 ^ 104 % 2 ^ 8)) e2) i
    ∷ (at_xor 96 ∙ ap (bit_xor (n / 2 ^ 96 % 2 ^ 8)) e3) i
    ∷ (at_xor 88 ∙ ap (bit_xor (n / 2 ^ 88 % 2 ^ 8)) e4) i
    ∷ (at_xor 80 ∙ ap (bit_xor (n / 2 ^ 80 % 2 ^ 8)) e5) i
    ∷ (at_xor 72 ∙ ap (bit_xor (n / 2 ^ 72 % 2 ^ 8)) e6) i
    ∷ (at_xor 64 ∙ ap (bit_xor (n / 2 ^ 64 % 2 ^ 8)) e7) i
    ∷ (at_xor 56 ∙ ap (bit_xor (n / 2 ^ 56 % 2 ^ 8)) e8) i
    ∷ (at_xor 48 ∙ ap (bit_xor (n / 2 ^ 48 % 2 ^ 8)) e9) i
    ∷ (at_xor 40 ∙ ap (bit_xor (n / 2 ^ 40 % 2 ^ 8)) e10) i
    ∷ (at_xor 32 ∙ ap (bit_xor (n / 2 ^ 32 % 2 ^ 8)) e11) i
    ∷ (at_xor 24 ∙ ap (bit_xor (n / 2 ^ 24 % 2 ^ 8)) e12) i
    ∷ (at_xor 16 ∙ ap (bit_xor (n / 2 ^ 16 % 2 ^ 8)) e13) i
    ∷ (at_xor 8 ∙ ap (bit_xor (n / 2 ^ 8 % 2 ^ 8)) e14) i
    ∷ (xor_mod n w 8 ∙ ap (bit_xor (n % 2 ^ 8)) e15) i ∷ [])

-- the number of a sum, one summand as bytes
pub number-sum : (n : ℕ) (out : List ℕ) → n < 2 ^ 128 → IsVector out
    → from_be_bytes w128 (zip2 bit_xor (to_be_bytes w128 n) out) ≡ bit_xor n (from_be_bytes w128 out)
number-sum n out lt fits = ap (from_be_bytes w128) (bytes-sum n out fits.0 (λ i. lane_fits out i fits.1))
    ∙ from-to _ (xor_lt 128 n (from_be_bytes w128 out) lt (number-lt out fits))
