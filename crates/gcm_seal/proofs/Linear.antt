-- Functions of numbers that keep sums bit by bit: two that agree on the powers of 2 are the same.
use Rattle.std.proofs.Common.{◌≡◌, ℕ, zero, suc, ◌+◌, ◌*◌, ◌/◌, ◌%◌, ◌^◌, ◌<◌, ◌==◌, true, bit_xor, sym, ap, ◌∙◌, arith}
use Rattle.std.proofs.Common.{inl, inr, lit<}
use Rattle.std.proofs.Math.Nat.{mod-eq_of_lt}
use Rattle.std.proofs.lemmas.Bool.{and_parts, cases_lt, eqb-true}
use Rattle.std.proofs.lemmas.Nat.{xor_block, xor_mod, xor_shr, mod_below, pow_pos, mod-pow-add}
use Rattle.std.proofs.Math.Numerals.{one-add}
use lib.Bits.{xor_shifted}
use Rattle.aes_block.proofs.Entries.{all_below}
use Rattle.gcm_seal.proofs.Ring.{xor_four}

abbrev pub IsLinear : (ℕ → ℕ) → Type 0
IsLinear f = (a b : ℕ) → f (bit_xor a b) ≡ bit_xor (f a) (f b)

pub linear-sum : (f g : ℕ → ℕ) → IsLinear f → IsLinear g → IsLinear (λ w. bit_xor (f w) (g w))
linear-sum f g lf lg a b = (λ i. bit_xor (lf a b i) (lg a b i)) ∙ xor_four (f a) (f b) (g a) (g b)

pub linear-after : (f g : ℕ → ℕ) → IsLinear f → IsLinear g → IsLinear (λ w. f (g w))
linear-after f g lf lg a b = ap f (lg a b) ∙ lf (g a) (g b)

pub linear-down : (k : ℕ) → IsLinear (λ w. w / 2 ^ k)
linear-down k a b = xor_shr a b k

-- up by k places, with the lowest n bits left
pub linear-up : (k n : ℕ) → IsLinear (λ w. w * 2 ^ k % 2 ^ n)
linear-up k n a b =
    let pos = pow_pos k in
    let ea : a * 2 ^ k ≡ a * 2 ^ k + 0 = omega arith in
    let eb : b * 2 ^ k ≡ b * 2 ^ k + 0 = omega arith in
    let sum : bit_xor a b * 2 ^ k + 0 ≡ bit_xor a b * 2 ^ k = omega arith in
    ap (λ (x : ℕ). x % 2 ^ n) (sym ((λ i. bit_xor (ea i) (eb i)) ∙ xor_block k a b 0 0 pos pos ∙ sum))
    ∙ xor_mod (a * 2 ^ k) (b * 2 ^ k) n

pub linear_same : (f g : ℕ → ℕ) → IsLinear f → IsLinear g → f 0 ≡ g 0
    → (n : ℕ) → all_below (λ i. f (2 ^ i) == g (2 ^ i)) n ≡ true → (w : ℕ) → w < 2 ^ n → f w ≡ g w
linear_same f g lf lg at0 zero test w lt =
    let none : w ≡ 0 = omega arith in
    rw none at0
linear_same f g lf lg at0 (suc n) test w lt =
    let parts = and_parts (f (2 ^ n) == g (2 ^ n)) (all_below (λ i. f (2 ^ i) == g (2 ^ i)) n) test in
    let d : ℕ = w / 2 ^ n % 2 in
    let r : ℕ = w % 2 ^ n in
    let small : w % 2 ^ suc n ≡ w = mod-eq_of_lt lt in
    let split : w ≡ d * 2 ^ n + r = sym small ∙ ap (λ (k : ℕ). w % 2 ^ k) (sym (one-add n)) ∙ mod-pow-add w 1 n in
    let whole : w ≡ bit_xor (d * 2 ^ n) r = split ∙ sym (xor_shifted d n r (mod_below w (2 ^ n) (pow_pos n))) in
    let below = linear_same f g lf lg at0 n parts.1 r (mod_below w (2 ^ n) (pow_pos n)) in
    let top : f (d * 2 ^ n) ≡ g (d * 2 ^ n) =
    elim (cases_lt d 1) [
      | inl less ↦
          let e : d * 2 ^ n ≡ 0 = let d0 : d ≡ 0 = omega arith in rw d0 (omega arith) in
          rw e at0
      | inr more ↦
          let e : d * 2 ^ n ≡ 2 ^ n = let d1 : d ≡ 1 = omega (arith, mod_below (w / 2 ^ n) 2 (lit< tt)) in rw d1
          (omega arith) in
          rw e (eqb-true (f (2 ^ n)) (g (2 ^ n)) parts.0)
    ] in
    ap f whole ∙ lf (d * 2 ^ n) r ∙ (λ i. bit_xor (top i) (below i)) ∙ sym (ap g whole ∙ lg (d * 2 ^ n) r)
