-- Products byte by byte. A product with a block is the sum of its products with the bytes of the block, each moved up
-- to the byte's place. The code adds byte j of all of these at once, from the last byte to the first, and moves the sum
-- up by one byte before each.
use Rattle.std.proofs.Common.{◌≡◌, ℕ, zero, suc, ◌+◌, ◌-◌, ◌*◌, ◌/◌, ◌%◌, ◌^◌, ◌<◌, ◌≤◌, ◌==◌, Bool, List, [], ◌∷◌}
use Rattle.std.proofs.Common.{◌++◌, length, map, take, replicate, bit_xor, slice_index, refl, sym, ap, ◌∙◌, arith, lit<}
use Rattle.std.proofs.Common.{inl, inr, w8, Fits}
use Rattle.std.specs.Int.{w128, byte_at, bytes_high_first, from_be_bytes, to_be_bytes}
use Rattle.std.proofs.lemmas.Bool.{cases_lt}
use Rattle.std.proofs.lemmas.Nat.{pow_pos, pow-add, shl_below, shr_high, mod-pow-add}
use Rattle.std.proofs.lemmas.Nat.Bits.{bit_at_cat_low}
use Rattle.std.proofs.lemmas.List.{get_or-take, get_or_past, length-take, length-map, get_or-replicate, append-nil}
use Rattle.std.proofs.Math.Nat.{pow-suc, mod-eq_of_lt}
use lib.Arith.{digits_lt}
use lib.Bits.{xor_comm, xor_assoc, xor_block, xor_shifted, xor_zero_l, xor_zero_r}
use Rattle.std.proofs.lemmas.Simd.{length-zip2}
use lib.Lanes.{Each1, zip2, pick_l}
use Rattle.aes_block.specs.Nibbles.{IsVector}
use Rattle.aes_block.proofs.Blocks.{byte_at-byte}
use Rattle.aes_block.proofs.Places.{of_16}
use Rattle.gcm_seal.specs.Polynomials.{bits}
use Rattle.gcm_seal.specs.Inside.{step_x, act, raised_block, joined_bytes, byte_of, byte_product, block_product}
use Rattle.gcm_seal.proofs.Places.{act-append, bits-append}
use Rattle.gcm_seal.proofs.Reduction.{raised_block-xor, raised_block-zero, raised_block-add, raised_block-shifted}
use Rattle.gcm_seal.proofs.Ring.{xor_four, act-lt, length-bits}

-- ---- joined bytes

xor-up : (k a b : ℕ) → bit_xor a b * 2 ^ k ≡ bit_xor (a * 2 ^ k) (b * 2 ^ k)
xor-up k a b =
    let pos = pow_pos k in
    let ea : a * 2 ^ k + 0 ≡ a * 2 ^ k = omega arith in
    let eb : b * 2 ^ k + 0 ≡ b * 2 ^ k = omega arith in
    let ec : bit_xor a b * 2 ^ k + 0 ≡ bit_xor a b * 2 ^ k = omega arith in
    sym ((λ i. bit_xor (sym ea i) (sym eb i)) ∙ xor_block k a b 0 0 pos pos ∙ ec)

pub joined-sum : (xs ys zs : List ℕ) → length xs ≡ length ys
    → joined_bytes (zip2 bit_xor xs ys ++ zs) ≡ bit_xor (joined_bytes (xs ++ zs)) (joined_bytes ys)
joined-sum [] [] zs e = sym (xor_zero_r (joined_bytes zs))
joined-sum [] (y ∷ ys) zs e = absurd (omega (arith, e))
joined-sum (x ∷ xs) [] zs e = absurd (omega (arith, e))
joined-sum (x ∷ xs) (y ∷ ys) zs e =
    let a : ℕ = joined_bytes (xs ++ zs) in
    let b : ℕ = joined_bytes ys in
    (λ i. bit_xor (xor-up 120 x y i)
    ((ap (raised_block 8) (joined-sum xs ys zs (omega (arith, e))) ∙ raised_block-xor 8 a b) i))
    ∙ xor_four (x * 2 ^ 120) (y * 2 ^ 120) (raised_block 8 a) (raised_block 8 b)

raised_block-none : (b : ℕ) → raised_block 0 b ≡ b
unfolding raised_block
raised_block-none b = refl

pub joined-append : (xs ys : List ℕ) → joined_bytes (xs ++ ys)
    ≡ bit_xor (joined_bytes xs) (raised_block (8 * length xs) (joined_bytes ys))
joined-append [] ys = sym (ap (bit_xor 0) (raised_block-none (joined_bytes ys)) ∙ xor_zero_l (joined_bytes ys))
joined-append (x ∷ xs) ys =
    let n : ℕ = 8 * length xs in
    let whole : 8 + n ≡ 8 * suc (length xs) = omega arith in
    ap (bit_xor (x * 2 ^ 120))
    (ap (raised_block 8) (joined-append xs ys)
    ∙ raised_block-xor 8 (joined_bytes xs) (raised_block n (joined_bytes ys))
    ∙ ap (bit_xor (raised_block 8 (joined_bytes xs)))
    (raised_block-add 8 n (joined_bytes ys) ∙ ap (λ (k : ℕ). raised_block k (joined_bytes ys)) whole))
    ∙ sym (xor_assoc (x * 2 ^ 120) (raised_block 8 (joined_bytes xs))
    (raised_block (8 * suc (length xs)) (joined_bytes ys)))

joined-ended : (xs : List ℕ) → joined_bytes (xs ++ 0 ∷ []) ≡ joined_bytes xs
joined-ended xs =
    joined-append xs (0 ∷ [])
    ∙ ap (bit_xor (joined_bytes xs))
    (ap (raised_block (8 * length xs)) (raised_block-zero 8) ∙ raised_block-zero (8 * length xs))
    ∙ xor_zero_r (joined_bytes xs)

-- ---- bytes as a number

-- the number that bytes spell, the highest first
abbrev number_spelled : List ℕ → ℕ
number_spelled [] = 0
number_spelled (x ∷ xs) = x * 2 ^ (8 * length xs) + number_spelled xs

spelled-lt : (xs : List ℕ) → Each1 (Fits w8) xs → number_spelled xs < 2 ^ (8 * length xs)
spelled-lt [] fits = lit< tt
spelled-lt (x ∷ xs) fits =
    let n : ℕ = 8 * length xs in
    let whole : 2 ^ 8 * 2 ^ n ≡ 2 ^ (8 * suc (length xs)) =
    sym (pow-add 2 8 n) ∙ ap (λ (k : ℕ). 2 ^ k) (omega arith) in
    rw whole at (digits_lt {q = x} {m = 2 ^ 8} {r = number_spelled xs} {c = 2 ^ n} (fits.0.fits) (spelled-lt xs fits.1))

joined-spelled : (xs : List ℕ) → Each1 (Fits w8) xs → (r : ℕ) → 8 * length xs + r ≡ 128
    → joined_bytes xs ≡ number_spelled xs * 2 ^ r
joined-spelled [] fits r e = omega arith
joined-spelled (x ∷ xs) fits r e =
    let n : ℕ = 8 * length xs in
    let s : ℕ = number_spelled xs in
    let up : s * 2 ^ (r + 8) ≡ s * 2 ^ r * 2 ^ 8 = rw (pow-add 2 r 8) (omega arith) in
    let sum : n + r ≡ 120 = omega arith in
    let whole : 2 ^ n * 2 ^ r ≡ 2 ^ 120 = sym (pow-add 2 n r) ∙ ap (λ (k : ℕ). 2 ^ k) sum in
    let fit : s * 2 ^ r < 2 ^ 120 = rw (ap (λ (k : ℕ). 2 ^ k) sum) at (shl_below s n r (spelled-lt xs fits.1)) in
    ap (bit_xor (x * 2 ^ 120))
    (ap (raised_block 8) (joined-spelled xs fits.1 (r + 8) (omega arith) ∙ up) ∙ raised_block-shifted 8 (s * 2 ^ r))
    ∙ xor_shifted x 120 (s * 2 ^ r) fit
    ∙ omega (arith, ap (λ (y : ℕ). x * y) whole)

from_be_bytes-spelled : (v : List ℕ) → length v ≡ 16 → from_be_bytes w128 v ≡ number_spelled v
from_be_bytes-spelled =
    of_16 (λ v. from_be_bytes w128 v ≡ number_spelled v) (λ a b c d e f g h i j k l m n o p. omega arith)

pub joined-number : (v : List ℕ) → IsVector v → joined_bytes v ≡ from_be_bytes w128 v
joined-number v fits =
    joined-spelled v fits.1 0 (omega (arith, fits.0))
    ∙ omega arith
    ∙ sym (from_be_bytes-spelled v fits.0)

pub number-lt : (v : List ℕ) → IsVector v → from_be_bytes w128 v < 2 ^ 128
number-lt v fits =
    let whole : 8 * length v ≡ 128 = omega (arith, fits.0) in
    rw (ap (λ (n : ℕ). 2 ^ n) whole, sym (from_be_bytes-spelled v fits.0)) at (spelled-lt v fits.1)

pub two-joined : (p q : List ℕ) → IsVector p → IsVector q
    → bit_xor (from_be_bytes w128 p) (raised_block 128 (from_be_bytes w128 q)) ≡ joined_bytes (p ++ q)
two-joined p q fp fq =
    let whole : 8 * length p ≡ 128 = omega (arith, fp.0) in
    (λ i. bit_xor (sym (joined-number p fp) i) (raised_block 128 (sym (joined-number q fq) i)))
    ∙ sym (joined-append p q ∙ ap (λ (n : ℕ). bit_xor (joined_bytes p) (raised_block n (joined_bytes q))) whole)

-- ---- moves by a byte

-- the positions of 16 bytes of 32, from the sixteenth on
abbrev pub up : List ℕ
up = 15 ∷ 16 ∷ 17 ∷ 18 ∷ 19 ∷ 20 ∷ 21 ∷ 22 ∷ 23 ∷ 24 ∷ 25 ∷ 26 ∷ 27 ∷ 28 ∷ 29 ∷ 30 ∷ []

moved-is : (p : List ℕ) → length p ≡ 16 → (q : List ℕ) → length q ≡ 16
    → pick_l 0 (replicate 16 0 ++ p) up ++ pick_l 0 (p ++ q) up ≡ 0 ∷ take 31 (p ++ q)
moved-is =
    of_16
    (λ p. (q : List ℕ) → length q ≡ 16
    → pick_l 0 (replicate 16 0 ++ p) up ++ pick_l 0 (p ++ q) up ≡ 0 ∷ take 31 (p ++ q))
    (λ a b c d e f g h i j k l m n o p.
    let v : List ℕ = a ∷ b ∷ c ∷ d ∷ e ∷ f ∷ g ∷ h ∷ i ∷ j ∷ k ∷ l ∷ m ∷ n ∷ o ∷ p ∷ [] in
    of_16 (λ q. pick_l 0 (replicate 16 0 ++ v) up ++ pick_l 0 (v ++ q) up ≡ 0 ∷ take 31 (v ++ q))
    (λ a b c d e f g h i j k l m n o p. refl))

ended-is : (p : List ℕ) → length p ≡ 16 → (q : List ℕ) → length q ≡ 16
    → take 31 (p ++ q) ++ slice_index q 15 ∷ [] ≡ p ++ q
ended-is =
    of_16 (λ p. (q : List ℕ) → length q ≡ 16 → take 31 (p ++ q) ++ slice_index q 15 ∷ [] ≡ p ++ q)
    (λ a b c d e f g h i j k l m n o p.
    let v : List ℕ = a ∷ b ∷ c ∷ d ∷ e ∷ f ∷ g ∷ h ∷ i ∷ j ∷ k ∷ l ∷ m ∷ n ∷ o ∷ p ∷ [] in
    of_16 (λ q. take 31 (v ++ q) ++ slice_index q 15 ∷ [] ≡ v ++ q) (λ a b c d e f g h i j k l m n o p. refl))

pub high-is : (p : List ℕ) → length p ≡ 16 → (q : List ℕ) → length q ≡ 16
    → pick_l 0 (p ++ q) up ≡ slice_index p 15 ∷ take 15 q
high-is =
    of_16 (λ p. (q : List ℕ) → length q ≡ 16 → pick_l 0 (p ++ q) up ≡ slice_index p 15 ∷ take 15 q)
    (λ a b c d e f g h i j k l m n o p.
    let v : List ℕ = a ∷ b ∷ c ∷ d ∷ e ∷ f ∷ g ∷ h ∷ i ∷ j ∷ k ∷ l ∷ m ∷ n ∷ o ∷ p ∷ [] in
    of_16 (λ q. pick_l 0 (v ++ q) up ≡ slice_index v 15 ∷ take 15 q) (λ a b c d e f g h i j k l m n o p. refl))

-- the sum of 32 bytes p and q after a move, with `next` added
pub moved-joined : (p q next : List ℕ) → length p ≡ 16 → length q ≡ 16 → length next ≡ 16 → slice_index q 15 ≡ 0
    → joined_bytes (zip2 bit_xor (pick_l 0 (replicate 16 0 ++ p) up) next ++ pick_l 0 (p ++ q) up)
    ≡ bit_xor (joined_bytes next) (raised_block 8 (joined_bytes (p ++ q)))
moved-joined p q next lp lq ln none =
    let a : List ℕ = pick_l 0 (replicate 16 0 ++ p) up in
    let b : List ℕ = pick_l 0 (p ++ q) up in
    let t : List ℕ = take 31 (p ++ q) in
    let rest : joined_bytes t ≡ joined_bytes (p ++ q) =
    sym (joined-ended t) ∙ ap (λ (x : ℕ). joined_bytes (t ++ x ∷ [])) (sym none) ∙ ap joined_bytes
    (ended-is p lp q lq) in
    joined-sum a next b (sym ln)
    ∙ xor_comm (joined_bytes (a ++ b)) (joined_bytes next)
    ∙ ap (bit_xor (joined_bytes next))
    (ap joined_bytes (moved-is p lp q lq) ∙ xor_zero_l (raised_block 8 (joined_bytes t)) ∙ ap (raised_block 8) rest)

-- only zeros from place n on
abbrev pub IsNoneFrom : ℕ → List ℕ → Type 0
IsNoneFrom n q = (k : ℕ) → n ≤ k → slice_index q k ≡ 0

pub none-moved : (n x : ℕ) (q : List ℕ) → IsNoneFrom n q → IsNoneFrom (n + 1) (x ∷ take 15 q)
none-moved n x q none zero le = absurd (omega arith)
none-moved n x q none (suc k) le = elim (cases_lt k 15) [
  | inl within ↦ get_or-take 15 q k 0 within ∙ none k (omega arith)
  | inr past ↦ get_or_past (take 15 q) k 0 (omega (arith, length-take 15 q))
]

-- ---- the sum of all bytes

-- the bytes 15, 14 and so on, t of them, of f at each byte of v: each sum of them moved up by a byte before the next
abbrev pub moved_sum : (ℕ → ℕ → ℕ) → List ℕ → ℕ → ℕ
moved_sum f v zero = 0
moved_sum f v (suc t) = bit_xor (joined_bytes (map (f (15 - t)) v)) (raised_block 8 (moved_sum f v t))

-- the same of one byte's
abbrev tails : (ℕ → ℕ) → ℕ → ℕ
tails g zero = 0
tails g (suc t) = bit_xor (g (15 - t) * 2 ^ 120) (raised_block 8 (tails g t))

sum-none : (f : ℕ → ℕ → ℕ) (t : ℕ) → moved_sum f [] t ≡ 0
sum-none f zero = refl
sum-none f (suc t) = xor_zero_l _ ∙ ap (raised_block 8) (sum-none f t) ∙ raised_block-zero 8

-- the first byte apart
sum-first : (f : ℕ → ℕ → ℕ) (x : ℕ) (v : List ℕ) (t : ℕ)
    → moved_sum f (x ∷ v) t ≡ bit_xor (tails (λ j. f j x) t) (raised_block 8 (moved_sum f v t))
sum-first f x v zero = sym (xor_zero_l _ ∙ raised_block-zero 8)
sum-first f x v (suc t) =
    let a : ℕ = f (15 - t) x * 2 ^ 120 in
    let j : ℕ = joined_bytes (map (f (15 - t)) v) in
    let b : ℕ = tails (λ j. f j x) t in
    let m : ℕ = raised_block 8 (moved_sum f v t) in
    ap (bit_xor (bit_xor a (raised_block 8 j))) (ap (raised_block 8) (sum-first f x v t) ∙ raised_block-xor 8 b m)
    ∙ xor_four a (raised_block 8 j) (raised_block 8 b) (raised_block 8 m)
    ∙ ap (bit_xor (bit_xor a (raised_block 8 b))) (sym (raised_block-xor 8 j m))

-- ---- products by bytes

pub byte_at-is : (k n : ℕ) → byte_at k n ≡ n / 2 ^ (8 * k) % 2 ^ 8
byte_at-is zero n = omega arith
byte_at-is (suc k) n = ap (λ (d : ℕ). n / d % 256) (powers (suc k)) where
  powers : (k : ℕ) → 256 ^ k ≡ 2 ^ (8 * k)
  powers zero = refl
  powers (suc k) =
      let next : 8 + 8 * k ≡ 8 * suc k = omega arith in
      let turn : 2 ^ (8 * k) * 256 ≡ 2 ^ 8 * 2 ^ (8 * k) = omega arith in
      pow-suc 256 k
      ∙ ap (λ (p : ℕ). p * 256) (powers k)
      ∙ turn
      ∙ sym (pow-add 2 8 (8 * k))
      ∙ ap (λ (n : ℕ). 2 ^ n) next

length-bytes : (k n : ℕ) → length (bytes_high_first k n) ≡ k
length-bytes zero n = refl
length-bytes (suc k) n = ap suc (length-bytes k n)

spelled-bytes : (k n : ℕ) → number_spelled (bytes_high_first k n) ≡ n % 2 ^ (8 * k)
spelled-bytes zero n = omega arith
spelled-bytes (suc k) n =
    let next : 8 + 8 * k ≡ 8 * suc k = omega arith in
    (λ i. byte_at-is k n i * 2 ^ (8 * length-bytes k n i) + spelled-bytes k n i)
    ∙ sym (mod-pow-add n 8 (8 * k))
    ∙ ap (λ (m : ℕ). n % 2 ^ m) next

pub from-to : (n : ℕ) → n < 2 ^ 128 → from_be_bytes w128 (to_be_bytes w128 n) ≡ n
from-to n lt = from_be_bytes-spelled (to_be_bytes w128 n) refl ∙ spelled-bytes 16 n ∙ mod-eq_of_lt lt

pub bytes-vector : (n : ℕ) → IsVector (to_be_bytes w128 n)
bytes-vector n = (refl, go 16 n) where
  go : (k n : ℕ) → Each1 (Fits w8) (bytes_high_first k n)
  go zero n = tt
  go (suc k) n = (record { fits = byte_at-byte k n }, go k n)

-- the products with the bytes of v, each moved up to its place
abbrev by_bytes : ℕ → List ℕ → ℕ
by_bytes h [] = 0
by_bytes h (x ∷ v) = bit_xor (act (bits 8 x) h) (raised_block 8 (by_bytes h v))

tails-whole : (m : ℕ) → m < 2 ^ 128 → tails (λ j. byte_of j m) 16 ≡ m
tails-whole m lt = joined-number (to_be_bytes w128 m) (bytes-vector m) ∙ from-to m lt

sum-bytes : (h : ℕ) → h < 2 ^ 128 → (v : List ℕ) → moved_sum (byte_product h) v 16 ≡ by_bytes h v
sum-bytes h lt [] = sum-none (byte_product h) 16
sum-bytes h lt (x ∷ v) = sum-first (byte_product h) x v 16
    ∙ (λ i. bit_xor (tails-whole (act (bits 8 x) h) (act-lt (bits 8 x) h lt) i) (raised_block 8 (sum-bytes h lt v i)))

bits-cat : (n k x s : ℕ) → n ≤ k → bits n (x * 2 ^ k + s) ≡ bits n s
unfolding bits
bits-cat zero k x s le = refl
bits-cat (suc n) k x s le = λ i. (bit_at_cat_low x k s n (omega arith) i == 1) ∷ bits-cat n k x s (omega arith) i

by_bytes-product : (h : ℕ) (v : List ℕ) → Each1 (Fits w8) v → act (bits (8 * length v) (number_spelled v)) h
    ≡ by_bytes h v
unfolding bits
by_bytes-product h [] fits = refl
by_bytes-product h (x ∷ v) fits =
    let k : ℕ = 8 * length v in
    let s : ℕ = number_spelled v in
    let whole : 8 * suc (length v) ≡ 8 + k = omega arith in
    let top : (x * 2 ^ k + s) / 2 ^ k ≡ x = shr_high x k s (spelled-lt v fits.1) in
    ap (λ (n : ℕ). act (bits n (x * 2 ^ k + s)) h) whole
    ∙ ap (λ (p : List Bool). act p h)
    (bits-append 8 k (x * 2 ^ k + s) ∙ (λ i. bits 8 (top i) ++ bits-cat k k x s (omega arith) i))
    ∙ act-append (bits 8 x) (bits k s) h
    ∙ (λ i. bit_xor (act (bits 8 x) h) (raised_block (length-bits 8 x i) (by_bytes-product h v fits.1 i)))

-- all 16 moved sums are the product
pub sum-product : (h : ℕ) (v : List ℕ) → h < 2 ^ 128 → IsVector v
    → moved_sum (byte_product h) v 16 ≡ block_product h (from_be_bytes w128 v)
unfolding block_product
sum-product h v lt fits =
    let whole : 8 * length v ≡ 128 = omega (arith, fits.0) in
    sum-bytes h lt v
    ∙ sym ((λ i. act (bits (sym whole i) (from_be_bytes-spelled v fits.0 i)) h) ∙ by_bytes-product h v fits.1)

pub none-zeros : IsNoneFrom 0 (replicate 16 0)
none-zeros k le = elim (cases_lt k 16) [
  | inl within ↦ get_or-replicate 16 k 0 0 within
  | inr past ↦ get_or_past (replicate {A = ℕ} 16 0) k 0 past
]

pub joined-none : joined_bytes (replicate 16 0 ++ replicate 16 0) ≡ 0
unfolding raised_block step_x
joined-none = refl

pub sum-next : (f : ℕ → ℕ → ℕ) (v : List ℕ) (t : ℕ)
    → bit_xor (joined_bytes (map (f (15 - t)) v)) (raised_block 8 (moved_sum f v t)) ≡ moved_sum f v (t + 1)
sum-next f v t =
    let next : suc t ≡ t + 1 = omega arith in
    ap (moved_sum f v) next

joined-two : (xs ys : List ℕ) → length xs ≡ length ys
    → joined_bytes (zip2 bit_xor xs ys) ≡ bit_xor (joined_bytes xs) (joined_bytes ys)
joined-two xs ys e =
    ap joined_bytes (sym (append-nil (zip2 bit_xor xs ys)))
    ∙ joined-sum xs ys [] e
    ∙ ap (λ (l : List ℕ). bit_xor (joined_bytes l) (joined_bytes ys)) (append-nil xs)

-- the sum of two such sums: p and q are the next bytes, s the sum so far
sums-next : (f g : ℕ → ℕ → ℕ) (a b p q : List ℕ) (s t : ℕ) → length a ≡ 16 → length b ≡ 16
    → p ≡ map (f (15 - t)) a → q ≡ map (g (15 - t)) b → s ≡ bit_xor (moved_sum f a t) (moved_sum g b t)
    → bit_xor (joined_bytes (zip2 bit_xor p q)) (raised_block 8 s)
    ≡ bit_xor (moved_sum f a (t + 1)) (moved_sum g b (t + 1))
sums-next f g a b p q s t la lb ep eq es =
    let m : List ℕ = map (f (15 - t)) a in
    let n : List ℕ = map (g (15 - t)) b in
    let long : length m ≡ length n = length-map a (f (15 - t)) ∙ la ∙ sym (length-map b (g (15 - t)) ∙ lb) in
    (λ i. bit_xor (joined_bytes (zip2 bit_xor (ep i) (eq i))) (raised_block 8 (es i)))
    ∙ (λ i. bit_xor (joined-two m n long i) (raised_block-xor 8 (moved_sum f a t) (moved_sum g b t) i))
    ∙ xor_four (joined_bytes m) (joined_bytes n) (raised_block 8 (moved_sum f a t)) (raised_block 8 (moved_sum g b t))
    ∙ (λ i. bit_xor (sum-next f a t i) (sum-next g b t i))

-- the sum of four such sums, of a and c and of b and d
abbrev pub four_sums : (f g k l : ℕ → ℕ → ℕ) (a b c d : List ℕ) (t : ℕ) → ℕ
four_sums f g k l a b c d t =
    bit_xor (bit_xor (moved_sum f a t) (moved_sum k c t)) (bit_xor (moved_sum g b t) (moved_sum l d t))

pub four-next : (f g k l : ℕ → ℕ → ℕ) (a b c d : List ℕ) (s t : ℕ) → length a ≡ 16 → length b ≡ 16 → length c ≡ 16
    → length d ≡ 16 → s ≡ four_sums f g k l a b c d t
    → bit_xor (joined_bytes (zip2 bit_xor (zip2 bit_xor (map (f (15 - t)) a) (map (k (15 - t)) c))
    (zip2 bit_xor (map (g (15 - t)) b) (map (l (15 - t)) d)))) (raised_block 8 s)
    ≡ four_sums f g k l a b c d (t + 1)
four-next f g k l a b c d s t la lb lc ld e =
    let n : ℕ = 15 - t in
    let long : (f : ℕ → ℕ) (v : List ℕ) → length v ≡ 16 → length (map f v) ≡ 16 = λ f v e. length-map v f ∙ e in
    let sum : (f g : ℕ → ℕ) (v w : List ℕ) → length v ≡ 16 → length w ≡ 16
    → length (zip2 bit_xor (map f v) (map g w)) ≡ 16 =
    λ f g v w lv lw. length-zip2 bit_xor (map f v) (map g w) (long f v lv ∙ sym (long g w lw)) ∙ long f v lv in
    let p : List ℕ = zip2 bit_xor (map (f n) a) (map (k n) c) in
    let q : List ℕ = zip2 bit_xor (map (g n) b) (map (l n) d) in
    let x : ℕ = bit_xor (moved_sum f a t) (moved_sum k c t) in
    let y : ℕ = bit_xor (moved_sum g b t) (moved_sum l d t) in
    (λ i. bit_xor (joined-two p q (sum (f n) (k n) a c la lc ∙ sym (sum (g n) (l n) b d lb ld)) i)
    ((ap (raised_block 8) e ∙ raised_block-xor 8 x y) i))
    ∙ xor_four (joined_bytes p) (joined_bytes q) (raised_block 8 x) (raised_block 8 y)
    ∙ (λ i. bit_xor (sums-next f k a c (map (f n) a) (map (k n) c) x t la lc refl refl refl i)
    (sums-next g l b d (map (g n) b) (map (l n) d) y t lb ld refl refl refl i))
