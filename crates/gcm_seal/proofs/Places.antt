-- Products 4 bits at a time: a polynomial in two parts acts as the sum of both, the second moved up, and a polynomial
-- acts on a power of x times a block as on the block.
use Rattle.std.proofs.Common.{◌≡◌, ℕ, zero, suc, ◌+◌, ◌/◌, ◌%◌, ◌^◌, ◌==◌, Bool, List, [], ◌∷◌, ◌++◌, length, bit_xor}
use Rattle.std.proofs.Common.{refl, sym, ap, ◌∙◌, arith}
use Rattle.std.proofs.lemmas.Nat.{shr-shr}
use lib.Bits.{xor_assoc, xor_zero_l, xor_zero_r}
use Rattle.gcm_seal.specs.Polynomials.{bits}
use Rattle.gcm_seal.specs.Inside.{step_x, act, raised_block}
use Rattle.gcm_seal.proofs.Ring.{term, step_x-xor, step_x-zero, act-step_x, length-bits}

-- ---- powers of x

pub act-raised_block : (p : List Bool) (n k : ℕ) → act p (raised_block n k) ≡ raised_block n (act p k)
unfolding raised_block
act-raised_block p zero k = refl
act-raised_block p (suc n) k = act-step_x p (raised_block n k) ∙ ap step_x (act-raised_block p n k)

-- ---- polynomials in two parts

pub act-append : (p q : List Bool) (k : ℕ) → act (p ++ q) k ≡ bit_xor (act p k) (raised_block (length p) (act q k))
unfolding raised_block
act-append [] q k = sym (xor_zero_l (act q k))
act-append (a ∷ p) q k = rw (act-append p q k, step_x-xor (act p k) (raised_block (length p) (act q k)))
    (sym (xor_assoc (term a k) (step_x (act p k)) (step_x (raised_block (length p) (act q k)))))

pub bits-append : (m n v : ℕ) → bits (m + n) v ≡ bits m (v / 2 ^ n) ++ bits n v
unfolding bits
bits-append zero n v =
    let e : 0 + n ≡ n = omega arith in
    ap (λ (k : ℕ). bits k v) e
bits-append (suc m) n v =
    let e : suc m + n ≡ suc (m + n) = omega arith in
    let turn : n + m ≡ m + n = omega arith in
    let same : v / 2 ^ n / 2 ^ m ≡ v / 2 ^ (m + n) = shr-shr v n m ∙ ap (λ (k : ℕ). v / 2 ^ k) turn in
    rw (e, same, bits-append m n v) refl

-- the highest m of m + n bits, and then the others times xᵐ
pub split : (m n v h : ℕ) → act (bits (m + n) v) h ≡ bit_xor (act (bits m (v / 2 ^ n)) h)
    (act (bits n v) (raised_block m h))
split m n v h =
    ap (λ (p : List Bool). act p h) (bits-append m n v)
    ∙ act-append (bits m (v / 2 ^ n)) (bits n v) h
    ∙ ap (bit_xor (act (bits m (v / 2 ^ n)) h))
    (ap (λ (k : ℕ). raised_block k (act (bits n v) h)) (length-bits m (v / 2 ^ n)) ∙ sym
    (act-raised_block (bits n v) m h))

pub bits-low : (u : ℕ) → bits 4 (u % 16) ≡ bits 4 u
unfolding bits
bits-low u =
    let at3 : u % 16 / 2 ^ 3 % 2 ≡ u / 2 ^ 3 % 2 = omega arith in
    let at2 : u % 16 / 2 ^ 2 % 2 ≡ u / 2 ^ 2 % 2 = omega arith in
    let at1 : u % 16 / 2 ^ 1 % 2 ≡ u / 2 ^ 1 % 2 = omega arith in
    let at0 : u % 16 / 2 ^ 0 % 2 ≡ u / 2 ^ 0 % 2 = omega arith in
    λ i. (at3 i == 1) ∷ (at2 i == 1) ∷ (at1 i == 1) ∷ (at0 i == 1) ∷ []

-- a polynomial of four terms
pub act-four : (a b c d : Bool) (p : ℕ) → act (a ∷ b ∷ c ∷ d ∷ []) p ≡ bit_xor (term a p) (bit_xor (term b (step_x p))
    (bit_xor (term c (step_x (step_x p))) (term d (step_x (step_x (step_x p))))))
act-four a b c d p =
    let q : ℕ = step_x p in
    let r : ℕ = step_x q in
    ap (bit_xor (term a p)) (sym (act-step_x (b ∷ c ∷ d ∷ []) p)
    ∙ ap (bit_xor (term b q)) (sym (act-step_x (c ∷ d ∷ []) q)
    ∙ ap (bit_xor (term c r)) (sym (act-step_x (d ∷ []) r)
    ∙ ap (bit_xor (term d (step_x r))) step_x-zero ∙ xor_zero_r (term d (step_x r)))))
