-- The ring of polynomials acts on blocks, and GHASH block by block is the sum of products. A polynomial acts by steps
-- that multiply by x, which are linear, so sums and products of polynomials act as they should, and the sum of products
-- follows by induction on the blocks. A remainder modulo 1 + x + x² + x⁷ + x¹²⁸ has the bits of what its polynomial
-- makes of the block of the polynomial 1: both take the same step at each coefficient.
use Rattle.std.proofs.Common.{◌≡◌, ℕ, zero, suc, ◌+◌, ◌*◌, ◌/◌, ◌%◌, ◌^◌, ◌<◌, ◌≤◌, ◌==◌, Bool, true, false, List, []}
use Rattle.std.proofs.Common.{◌∷◌, ◌++◌, length, take, get_or, replicate, lit<, bit_xor, refl, sym, ap, ◌∙◌}
use Rattle.std.proofs.Common.{arith, inl, inr}
use Rattle.std.specs.Prelude.{if◌then◌else◌}
use Rattle.std.proofs.Math.Numerals.{one-add}
use Rattle.std.proofs.lemmas.Bool.{cases_lt}
use Rattle.std.proofs.lemmas.Nat.{xor_comm, xor_lt, xor_shr, xor_mod, mod-pow-add, pow_pos, pow-add, mod_below}
use Rattle.std.proofs.lemmas.Nat.{shl_below, shr-shr}
use Rattle.std.proofs.lemmas.Nat.Bits.{bit_at-lt, bit_at_xor}
use Rattle.std.proofs.lemmas.List.{length-take-le}
use lib.Bits.{xor_assoc, xor_zero_r, xor_self, xor_shifted}
use Rattle.gcm_seal.specs.Polynomials.{differ, plus, product, power, bits, number_of_bits, polynomial, remainder}
use Rattle.gcm_seal.specs.Polynomials.{times_x}
use Rattle.gcm_seal.specs.Gcm.{sum_of_products, ghash, blocks, hash_input}
use Rattle.gcm_seal.proofs.Strings.{hashed_blocks}
use Rattle.std.specs.Int.{div_ceil}
use Rattle.std.proofs.lemmas.List.Sums.{fold-append}
use Rattle.gcm_seal.specs.Inside.{step_x, act, block_product, hash_after_blocks, padded_block, padded_blocks}
use Rattle.gcm_seal.specs.Inside.{sum_of_four}

-- ---- xor

pub xor_four : (a b c d : ℕ) → bit_xor (bit_xor a b) (bit_xor c d) ≡ bit_xor (bit_xor a c) (bit_xor b d)
xor_four a b c d =
    xor_assoc a b (bit_xor c d)
    ∙ ap (bit_xor a) (sym (xor_assoc b c d) ∙ ap (λ (x : ℕ). bit_xor x d) (xor_comm b c) ∙ xor_assoc c b d)
    ∙ sym (xor_assoc a c (bit_xor b d))

-- what holds of the four pairs of two bits
by_bits : (P : ℕ → ℕ → Type 0) → P 0 0 → P 0 1 → P 1 0 → P 1 1 → (p q : ℕ) → p < 2 → q < 2 → P p q
by_bits P a b c d zero zero hp hq = a
by_bits P a b c d zero (suc zero) hp hq = b
by_bits P a b c d (suc zero) zero hp hq = c
by_bits P a b c d (suc zero) (suc zero) hp hq = d
by_bits P a b c d zero (suc (suc q)) hp hq = absurd (omega arith)
by_bits P a b c d (suc zero) (suc (suc q)) hp hq = absurd (omega arith)
by_bits P a b c d (suc (suc p)) q hp hq = absurd (omega arith)

-- ---- one step

-- what stands for x¹²⁸ if the lowest bit is d
abbrev carry : ℕ → ℕ
carry d = if d == 1 then 0xe1 * 2 ^ 120 else 0

carry-xor : (p q : ℕ) → p < 2 → q < 2 → carry (bit_xor p q) ≡ bit_xor (carry p) (carry q)
carry-xor = by_bits (λ p q. carry (bit_xor p q) ≡ bit_xor (carry p) (carry q)) refl refl refl refl

pub step_x-xor : (a b : ℕ) → step_x (bit_xor a b) ≡ bit_xor (step_x a) (step_x b)
unfolding step_x
step_x-xor a b =
    rw (
      xor_mod a b 1,
      xor_shr a b 1,
      carry-xor (a % 2) (b % 2) (mod_below a 2 (omega arith))
          (mod_below b 2 (omega arith)),
    )
    (xor_four (carry (a % 2)) (carry (b % 2)) (a / 2) (b / 2))

pub step_x-zero : step_x 0 ≡ 0
unfolding step_x
step_x-zero = refl

-- an even number is halved
pub step_x-even : (n : ℕ) → step_x (n * 2) ≡ n
unfolding step_x
step_x-even n =
    let even : n * 2 % 2 ≡ 0 = omega arith in
    let half : n * 2 / 2 ≡ n = omega arith in
    rw (even, half) refl

step_x-lt : (b : ℕ) → b < 2 ^ 128 → step_x b < 2 ^ 128
unfolding step_x
step_x-lt b lt = xor_lt 128 (carry (b % 2)) (b / 2) (carry-lt (b % 2)) (omega arith) where
  carry-lt : (d : ℕ) → carry d < 2 ^ 128
  carry-lt d = elim (d == 1) as (λ (t : Bool). (if t then 0xe1 * 2 ^ 120 else 0) < 2 ^ 128)
      [ true ↦ omega arith | false ↦ omega arith ]

-- ---- how polynomials act

-- k, if there is a term
abbrev pub term : Bool → ℕ → ℕ
term a k = if a then k else 0

term-differ : (a b : Bool) (k : ℕ) → term (differ a b) k ≡ bit_xor (term a k) (term b k)
term-differ false b k = refl
term-differ true false k = sym (xor_zero_r k)
term-differ true true k = sym (xor_self k)

term-xor : (a : Bool) (k m : ℕ) → term a (bit_xor k m) ≡ bit_xor (term a k) (term a m)
term-xor false k m = refl
term-xor true k m = refl

step_x-term : (a : Bool) (k : ℕ) → step_x (term a k) ≡ term a (step_x k)
step_x-term false k = step_x-zero
step_x-term true k = refl

term-lt : (a : Bool) (k : ℕ) → k < 2 ^ 128 → term a k < 2 ^ 128
term-lt false k lt = omega arith
term-lt true k lt = lt

pub act-plus : (p q : List Bool) (k : ℕ) → act (plus p q) k ≡ bit_xor (act p k) (act q k)
act-plus [] q k = refl
act-plus (a ∷ p) [] k = sym (xor_zero_r (act (a ∷ p) k))
act-plus (a ∷ p) (b ∷ q) k = rw (term-differ a b k, act-plus p q k, step_x-xor (act p k) (act q k))
    (xor_four (term a k) (term b k) (step_x (act p k)) (step_x (act q k)))

pub act-xor : (p : List Bool) (k m : ℕ) → act p (bit_xor k m) ≡ bit_xor (act p k) (act p m)
act-xor [] k m = refl
act-xor (a ∷ p) k m = rw (term-xor a k m, act-xor p k m, step_x-xor (act p k) (act p m))
    (xor_four (term a k) (term a m) (step_x (act p k)) (step_x (act p m)))

pub act-zero : (p : List Bool) → act p 0 ≡ 0
act-zero [] = refl
act-zero (true ∷ p) = rw (act-zero p) step_x-zero
act-zero (false ∷ p) = rw (act-zero p) step_x-zero

pub act-step_x : (p : List Bool) (k : ℕ) → act p (step_x k) ≡ step_x (act p k)
act-step_x [] k = sym step_x-zero
act-step_x (a ∷ p) k = rw (act-step_x p k, step_x-xor (term a k) (step_x (act p k)), step_x-term a k) refl

act-term : (p : List Bool) (a : Bool) (k : ℕ) → act p (term a k) ≡ term a (act p k)
act-term p false k = act-zero p
act-term p true k = refl

term-product : (a : Bool) (q : List Bool) (k : ℕ) → act (if a then q else []) k ≡ term a (act q k)
term-product false q k = refl
term-product true q k = refl

pub act-product : (p q : List Bool) (k : ℕ) → act (product p q) k ≡ act p (act q k)
act-product [] q k = refl
act-product (a ∷ p) q k =
    rw (act-plus (if a then q else []) (false ∷ product p q) k, term-product a q k, act-product p q k) refl

pub act-act : (p q : List Bool) (k : ℕ) → act p (act q k) ≡ act q (act p k)
act-act [] q k = sym (act-zero q)
act-act (a ∷ p) q k =
    rw (act-xor q (term a k) (step_x (act p k)), act-term q a k, act-step_x q (act p k), act-act p q k) refl

pub act-lt : (p : List Bool) (k : ℕ) → k < 2 ^ 128 → act p k < 2 ^ 128
act-lt [] k lt = omega arith
act-lt (a ∷ p) k lt = xor_lt 128 (term a k) (step_x (act p k)) (term-lt a k lt) (step_x-lt (act p k) (act-lt p k lt))

-- ---- the polynomials of blocks

-- the block of the polynomial 1
abbrev pub one : ℕ
one = 2 ^ 127

digit-differ : (p q : ℕ) → p < 2 → q < 2 → ((p + q) % 2 == 1) ≡ differ (p == 1) (q == 1)
digit-differ = by_bits (λ p q. ((p + q) % 2 == 1) ≡ differ (p == 1) (q == 1)) refl refl refl refl

bits-xor : (n a b : ℕ) → bits n (bit_xor a b) ≡ plus (bits n a) (bits n b)
unfolding bits
bits-xor zero a b = refl
bits-xor (suc n) a b =
    rw (bit_at_xor a b n, digit-differ (a / 2 ^ n % 2) (b / 2 ^ n % 2) (bit_at-lt a n) (bit_at-lt b n), bits-xor n a b)
    refl

polynomial-xor : (a b : ℕ) → polynomial (bit_xor a b) ≡ plus (polynomial a) (polynomial b)
polynomial-xor a b = bits-xor 128 a b

digit-term : (d k : ℕ) → d < 2 → term (d == 1) k ≡ d * k
digit-term d k h =
    elim (cases_lt d 1) [
      | inl d0 ↦
          let e : d ≡ 0 = omega arith in
          rw e (omega arith)
      | inr d1 ↦
          let e : d ≡ 1 = omega arith in
          rw e (omega arith)
    ]

-- the lowest n bits of b, as coefficients from x⁰ on
act-bits : (n r b : ℕ) → n + r ≡ 128 → act (bits n b) one ≡ b % 2 ^ n * 2 ^ r
unfolding bits
act-bits zero r b e =
    let none : b % 2 ^ 0 ≡ 0 = omega arith in
    let zero_times : 0 ≡ 0 * 2 ^ r = omega arith in
    rw none zero_times
act-bits (suc n) r b e =
    let d : ℕ = b / 2 ^ n % 2 in
    let m : ℕ = b % 2 ^ n in
    let sum : n + r ≡ 127 = omega arith in
    let whole : 2 ^ n * 2 ^ r ≡ 2 ^ 127 = sym (pow-add 2 n r) ∙ ap (λ (k : ℕ). 2 ^ k) sum in
    let fits : m * 2 ^ r < 2 ^ 127 = rw (ap (λ (k : ℕ). 2 ^ k) sum) at
    (shl_below m n r (mod_below b (2 ^ n) (pow_pos n))) in
    let held = act-bits n (r + 1) b (omega arith) in
    let twice : m * 2 ^ (r + 1) ≡ m * 2 ^ r * 2 = rw (pow-add 2 r 1) (omega arith) in
    let split : b % 2 ^ suc n ≡ d * 2 ^ n + m = ap (λ (k : ℕ). b % 2 ^ k) (sym (one-add n)) ∙ mod-pow-add b 1 n in
    rw (
      held,
      twice,
      step_x-even (m * 2 ^ r),
      digit-term d one (bit_at-lt b n),
      xor_shifted d 127 (m * 2 ^ r) fits,
      split,
    )
    (omega (arith, ap (λ (x : ℕ). d * x) whole))

pub act-polynomial : (b : ℕ) → b < 2 ^ 128 → act (polynomial b) one ≡ b
act-polynomial b lt =
    let small : b % 2 ^ 128 ≡ b = omega arith in
    act-bits 128 0 b refl ∙ rw small (omega arith)

-- ---- remainders as bits

plus-nil : (p : List Bool) → plus p [] ≡ p
plus-nil [] = refl
plus-nil (a ∷ p) = refl

differ-comm : (a b : Bool) → differ a b ≡ differ b a
differ-comm true true = refl
differ-comm true false = refl
differ-comm false true = refl
differ-comm false false = refl

plus-comm : (p q : List Bool) → plus p q ≡ plus q p
plus-comm [] q = sym (plus-nil q)
plus-comm (a ∷ p) [] = refl
plus-comm (a ∷ p) (b ∷ q) = rw (differ-comm a b, plus-comm p q) refl

-- zeros above a polynomial's coefficients change no sum with as many
plus-zeros : (m : ℕ) (q : List Bool) → m ≤ length q → plus (replicate m false) q ≡ q
plus-zeros zero q le = refl
plus-zeros (suc m) [] le = absurd (omega arith)
plus-zeros (suc m) (b ∷ q) le = ap (λ (r : List Bool). b ∷ r) (plus-zeros m q (omega arith))

plus-above : (p : List Bool) (m : ℕ) (q : List Bool) → length p + m ≤ length q → plus (p ++ replicate m false) q
    ≡ plus p q
plus-above [] m q le = plus-zeros m q (omega arith)
plus-above (a ∷ p) m [] le = absurd (omega arith)
plus-above (a ∷ p) m (b ∷ q) le = ap (λ (r : List Bool). differ a b ∷ r) (plus-above p m q (omega arith))

pub length-bits : (n b : ℕ) → length (bits n b) ≡ n
unfolding bits
length-bits zero b = refl
length-bits (suc n) b = ap suc (length-bits n b)

-- the bits of half a number
bits-half : (n b : ℕ) → bits n (b / 2) ≡ take n (bits (suc n) b)
unfolding bits
bits-half zero b = refl
bits-half (suc n) b =
    let same : b / 2 / 2 ^ n ≡ b / 2 ^ suc n = shr-shr b 1 n ∙ ap (λ (k : ℕ). b / 2 ^ k) (one-add n) in
    rw (same, bits-half n b) refl

-- the lowest bit
bits-lowest : (n b : ℕ) → get_or (bits (suc n) b) n false ≡ (b % 2 == 1)
unfolding bits
bits-lowest zero b =
    let same : b / 2 ^ 0 % 2 ≡ b % 2 = omega arith in
    rw same refl
bits-lowest (suc n) b = bits-lowest n b

bits-half_whole : (b : ℕ) → b < 2 ^ 128 → bits 128 (b / 2) ≡ false ∷ take 127 (bits 128 b)
unfolding bits
bits-half_whole b lt =
    let none : b / 2 / 2 ^ 127 % 2 ≡ 0 = omega arith in
    ap (λ (d : ℕ). (d == 1) ∷ bits 127 (b / 2)) none ∙ ap (λ (l : List Bool). false ∷ l) (bits-half 127 b)

-- what stands for x¹²⁸, as bits and as a block
bits-carry : (t : Bool) (q : List Bool) → 128 ≤ length q → plus (bits 128 (if t then 0xe1 * 2 ^ 120 else 0)) q
    ≡ plus q (if t then true ∷ true ∷ true ∷ false ∷ false ∷ false ∷ false ∷ true ∷ [] else [])
unfolding bits
bits-carry true q le =
    plus-above (true ∷ true ∷ true ∷ false ∷ false ∷ false ∷ false ∷ true ∷ []) 120 q le
    ∙ plus-comm (true ∷ true ∷ true ∷ false ∷ false ∷ false ∷ false ∷ true ∷ []) q
bits-carry false q le = plus-zeros 128 q le ∙ sym (plus-nil q)

bits-step : (b : ℕ) → b < 2 ^ 128 → bits 128 (step_x b) ≡ times_x (bits 128 b)
unfolding step_x
bits-step b lt =
    let long : 128 ≤ length (false ∷ take 127 (bits 128 b)) =
    omega (arith, length-take-le 127 (bits 128 b) (omega (arith, length-bits 128 b))) in
    bits-xor 128 (carry (b % 2)) (b / 2)
    ∙ rw (bits-half_whole b lt, bits-lowest 127 b) (bits-carry (b % 2 == 1) (false ∷ take 127 (bits 128 b)) long)

-- one coefficient in front
bits-first : (a : Bool) (q : List Bool) → length q ≡ 128 → plus (bits 128 (term a one)) q ≡ plus (a ∷ []) q
unfolding bits
bits-first true q e = plus-above (true ∷ []) 127 q (omega arith)
bits-first false q e = plus-above (false ∷ []) 127 q (omega arith)

bits-none : replicate 128 false ≡ bits 128 0
unfolding bits
bits-none = refl

remainder-bits : (p : List Bool) → remainder p ≡ bits 128 (act p one)
remainder-bits [] = bits-none
remainder-bits (a ∷ p) =
    let k : ℕ = act p one in
    let kl : k < 2 ^ 128 = act-lt p one (lit< tt) in
    rw (remainder-bits p, ← bits-step k kl, bits-xor 128 (term a one) (step_x k))
    (sym (bits-first a (bits 128 (step_x k)) (length-bits 128 (step_x k))))

number-bits : (n b : ℕ) → number_of_bits (bits n b) ≡ b % 2 ^ n
unfolding bits
number-bits zero b = omega arith
number-bits (suc n) b =
    let d : ℕ = b / 2 ^ n % 2 in
    let split : b % 2 ^ suc n ≡ d * 2 ^ n + b % 2 ^ n = ap (λ (k : ℕ). b % 2 ^ k) (sym (one-add n)) ∙ mod-pow-add b 1 n
    in
    rw (length-bits n b, number-bits n b, digit-term d (2 ^ n) (bit_at-lt b n), split) refl

remainder-act : (p : List Bool) → number_of_bits (remainder p) ≡ act p one
remainder-act p =
    let small : act p one % 2 ^ 128 ≡ act p one = omega (arith, act-lt p one (lit< tt)) in
    ap number_of_bits (remainder-bits p) ∙ number-bits 128 (act p one) ∙ small

-- ---- GHASH

-- the product of two blocks, the other way round
times-act : (h v : ℕ) → h < 2 ^ 128 → block_product h v ≡ act (polynomial h) (act (polynomial v) one)
unfolding block_product
times-act h v lt = ap (act (polynomial v)) (sym (act-polynomial h lt)) ∙ act-act (polynomial v) (polynomial h) one

pub times-lt : (h v : ℕ) → h < 2 ^ 128 → block_product h v < 2 ^ 128
unfolding block_product
times-lt h v lt = act-lt (polynomial v) h lt

-- ---- four blocks at once

times-acts : (h v : ℕ) → h < 2 ^ 128 → v < 2 ^ 128 → block_product h v ≡ act (polynomial h) v
times-acts h v hl vl = times-act h v hl ∙ ap (act (polynomial h)) (act-polynomial v vl)

-- products one after another
times-last : (g h u : ℕ) → g < 2 ^ 128 → h < 2 ^ 128
    → block_product (block_product g h) u ≡ act (polynomial g) (block_product h u)
unfolding block_product
times-last g h u gl hl = ap (act (polynomial u)) (times-acts g h gl hl) ∙ act-act (polynomial u) (polynomial g) h

times-times : (g h u : ℕ) → g < 2 ^ 128 → h < 2 ^ 128
    → block_product (block_product g h) u ≡ block_product g (block_product h u)
times-times g h u gl hl = times-last g h u gl hl ∙ sym (times-acts g (block_product h u) gl (times-lt h u hl))

times-sum : (h a b : ℕ) → block_product h (bit_xor a b) ≡ bit_xor (block_product h a) (block_product h b)
unfolding block_product
times-sum h a b = ap (λ (p : List Bool). act p h) (polynomial-xor a b) ∙ act-plus (polynomial a) (polynomial b) h

-- the product with the square, and one more
pub two-products : (h u w : ℕ) → h < 2 ^ 128 → bit_xor (block_product (block_product h h) u) (block_product h w)
    ≡ block_product h (bit_xor (block_product h u) w)
two-products h u w hl =
    ap (λ (x : ℕ). bit_xor x (block_product h w)) (times-times h h u hl hl) ∙ sym (times-sum h (block_product h u) w)

xor_turned : (a b c : ℕ) → bit_xor (bit_xor a b) c ≡ bit_xor (bit_xor a c) b
xor_turned a b c = xor_assoc a b c ∙ ap (bit_xor a) (xor_comm b c) ∙ sym (xor_assoc a c b)

pub four-products : (h a b c d : ℕ) → h < 2 ^ 128 → sum_of_four h a b c d
    ≡ block_product h (bit_xor (block_product h (bit_xor (block_product h (bit_xor (block_product h a) b)) c)) d)
four-products h a b c d hl =
    let g : ℕ = block_product h h in
    let gl : g < 2 ^ 128 = times-lt h h hl in
    let x : ℕ = bit_xor (block_product g a) c in
    let y : ℕ = block_product h b in
    let e : ℕ = block_product h d in
    (λ i. bit_xor (two-products g a c gl i) (bit_xor (times-times g h b gl hl i) e))
    ∙ sym (xor_assoc (block_product g x) (block_product g y) e)
    ∙ ap (λ (z : ℕ). bit_xor z e) (sym (times-sum g x y))
    ∙ two-products h (bit_xor x y) d hl
    ∙ ap (λ (z : ℕ). block_product h (bit_xor (block_product h z) d))
    (xor_turned (block_product g a) c y ∙ ap (λ (z : ℕ). bit_xor z c) (two-products h a b hl))

-- h times the sum of y and x
times-xor : (h y x : ℕ) → h < 2 ^ 128 → y < 2 ^ 128
    → block_product h (bit_xor y x) ≡ bit_xor (act (polynomial h) y) (act (polynomial h) (act (polynomial x) one))
times-xor h y x hl yl =
    times-act h (bit_xor y x) hl
    ∙ rw (polynomial-xor y x, act-plus (polynomial y) (polynomial x) one, act-polynomial y yl)
    (act-xor (polynomial h) y (act (polynomial x) one))

hash_after_blocks-sum : (h : ℕ) (xs : List ℕ) (y : ℕ) → h < 2 ^ 128 → y < 2 ^ 128
    → hash_after_blocks h y xs ≡ bit_xor (act (power (polynomial h) (length xs)) y) (act (sum_of_products h xs) one)
hash_after_blocks-sum h [] y hl yl = sym (rw step_x-zero (xor_zero_r _ ∙ xor_zero_r y))
hash_after_blocks-sum h (x ∷ xs) y hl yl =
    let hp = polynomial h in
    let p = power hp (length xs) in
    let w = act (polynomial x) one in
    let rest = act (sum_of_products h xs) one in
    let more = hash_after_blocks-sum h xs (block_product h (bit_xor y x)) hl (times-lt h (bit_xor y x) hl) in
    let turn : act p (block_product h (bit_xor y x)) ≡ bit_xor (act (product hp p) y) (act (product hp p) w) =
    rw (times-xor h y x hl yl, act-product hp p y, act-product hp p w, act-act hp p y, act-act hp p w)
    (act-xor p (act hp y) (act hp w)) in
    let head : act (product (polynomial x) (product hp p)) one ≡ act (product hp p) w =
    act-product (polynomial x) (product hp p) one ∙ act-act (polynomial x) (product hp p) one in
    more ∙ rw (turn, act-plus (product (polynomial x) (product hp p)) (sum_of_products h xs) one, head)
    (xor_assoc (act (product hp p) y) (act (product hp p) w) rest)

-- GHASH is what the blocks give one by one
pub hash_after_blocks-ghash : (h : ℕ) (xs : List ℕ) → h < 2 ^ 128 → hash_after_blocks h 0 xs ≡ ghash h xs
unfolding ghash
hash_after_blocks-ghash h xs hl = hash_after_blocks-sum h xs 0 hl (omega arith)
    ∙ rw (act-zero (power (polynomial h) (length xs)), remainder-act (sum_of_products h xs)) refl

-- the hash of additional data a and a ciphertext c, in the code's order
pub hashed-ghash : (h : ℕ) (a c : List ℕ) → h < 2 ^ 128 → 8 * length a < 2 ^ 64 → 8 * length c < 2 ^ 64
    → block_product h (bit_xor
    (hash_after_blocks h (hash_after_blocks h 0 (padded_blocks a (div_ceil (length a) 16)))
    (padded_blocks c (div_ceil (length c) 16))) (8 * length a * 2 ^ 64 + 8 * length c))
    ≡ ghash h (blocks (hash_input a c) (length (hash_input a c) / 16))
hashed-ghash h a c hl ha hc =
    let step = λ (y x : ℕ). block_product h (bit_xor y x) in
    let p : List ℕ = padded_blocks a (div_ceil (length a) 16) in
    let q : List ℕ = padded_blocks c (div_ceil (length c) 16) in
    let n : ℕ = 8 * length a * 2 ^ 64 + 8 * length c in
    sym (ap (ghash h) (hashed_blocks a c ha hc) ∙ sym (hash_after_blocks-ghash h (p ++ q ++ n ∷ []) hl) ∙ fold-append
    step 0
    (p ++ q) (n ∷ []) ∙ ap (λ (y : ℕ). block_product h (bit_xor y n)) (fold-append step 0 p q))

-- ---- the loop over the blocks

pub hash_after_blocks-next : (h y : ℕ) (s : List ℕ) (i : ℕ)
    → block_product h (bit_xor (hash_after_blocks h y (padded_blocks s i)) (padded_block s i))
    ≡ hash_after_blocks h y (padded_blocks s (i + 1))
unfolding padded_blocks
hash_after_blocks-next h y s i =
    let next : i + 1 ≡ suc i = omega arith in
    rw next
    (sym (fold-append (λ y x. block_product h (bit_xor y x)) y (padded_blocks s i) (padded_block s i ∷ [])))
