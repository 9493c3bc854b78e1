-- Powers of x times a block: they keep sums, and what passes the end of a block comes back by linear maps that are
-- tested at the 128 powers of x.
use Rattle.std.proofs.Common.{◌≡◌, ℕ, zero, suc, ◌+◌, ◌*◌, ◌/◌, ◌%◌, ◌^◌, ◌<◌, ◌==◌, true, bit_xor, refl, sym, ap, ◌∙◌}
use Rattle.std.proofs.Common.{arith}
use Rattle.std.proofs.Math.Nat.{pow-suc}
use Rattle.aes_block.proofs.Entries.{all_below}
use Rattle.gcm_seal.specs.Inside.{step_x, raised_block}
use Rattle.gcm_seal.proofs.Ring.{step_x-xor, step_x-even, step_x-zero}
use Rattle.gcm_seal.proofs.Linear.{IsLinear, linear-sum, linear-after, linear-down, linear-up, linear_same}

-- ---- powers of x

pub raised_block-xor : (n : ℕ) → IsLinear (raised_block n)
unfolding raised_block
raised_block-xor zero a b = refl
raised_block-xor (suc n) a b = ap step_x (raised_block-xor n a b) ∙ step_x-xor (raised_block n a) (raised_block n b)

pub raised_block-zero : (n : ℕ) → raised_block n 0 ≡ 0
unfolding raised_block
raised_block-zero zero = refl
raised_block-zero (suc n) = ap step_x (raised_block-zero n) ∙ step_x-zero

pub raised_block-add : (m n b : ℕ) → raised_block m (raised_block n b) ≡ raised_block (m + n) b
unfolding raised_block
raised_block-add zero n b =
    let e : 0 + n ≡ n = omega arith in
    sym (ap (λ (k : ℕ). raised_block k b) e)
raised_block-add (suc m) n b =
    let e : suc m + n ≡ suc (m + n) = omega arith in
    rw e (ap step_x (raised_block-add m n b))

-- a number with n zeros at its end goes down by n places
pub raised_block-shifted : (n b : ℕ) → raised_block n (b * 2 ^ n) ≡ b
unfolding raised_block
raised_block-shifted zero b = omega arith
raised_block-shifted (suc n) b =
    let e : b * 2 ^ suc n ≡ b * 2 * 2 ^ n = rw (pow-suc 2 n) (omega arith) in
    ap step_x (ap (raised_block n) e ∙ raised_block-shifted n (b * 2)) ∙ step_x-even b

-- ---- the reduction at the end

-- what stands for x¹²⁸ • w: with the bits that pass the end, the sum of it times 1, x, x² and x⁷
unfoldable pub spill : ℕ → ℕ
spill w = bit_xor (bit_xor (bit_xor w (w * 2 ^ 127 % 2 ^ 128)) (w * 2 ^ 126 % 2 ^ 128)) (w * 2 ^ 121 % 2 ^ 128)

unfoldable pub four : ℕ → ℕ
four d = bit_xor (bit_xor (bit_xor d (d / 2 ^ 1)) (d / 2 ^ 2)) (d / 2 ^ 7)

spill-linear : IsLinear spill
unfolding spill
spill-linear =
    linear-sum (λ w. bit_xor (bit_xor w (w * 2 ^ 127 % 2 ^ 128)) (w * 2 ^ 126 % 2 ^ 128)) (λ w. w * 2 ^ 121 % 2 ^ 128)
    (linear-sum (λ w. bit_xor w (w * 2 ^ 127 % 2 ^ 128)) (λ w. w * 2 ^ 126 % 2 ^ 128)
    (linear-sum (λ w. w) (λ w. w * 2 ^ 127 % 2 ^ 128) (λ a b. refl) (linear-up 127 128)) (linear-up 126 128))
    (linear-up 121 128)

four-linear : IsLinear four
unfolding four
four-linear =
    linear-sum (λ d. bit_xor (bit_xor d (d / 2 ^ 1)) (d / 2 ^ 2)) (λ d. d / 2 ^ 7)
    (linear-sum (λ d. bit_xor d (d / 2 ^ 1)) (λ d. d / 2 ^ 2)
    (linear-sum (λ d. d) (λ d. d / 2 ^ 1) (λ a b. refl) (linear-down 1)) (linear-down 2)) (linear-down 7)

reduced_test : all_below (λ i. raised_block 128 (2 ^ i) == four (spill (2 ^ i))) 128 ≡ true
unfolding raised_block step_x four spill
reduced_test = refl

reduced-zero : raised_block 128 0 ≡ four (spill 0)
unfolding four spill
reduced-zero = raised_block-zero 128

pub raised_block-reduced : (w : ℕ) → w < 2 ^ 128 → raised_block 128 w ≡ four (spill w)
raised_block-reduced w lt =
    linear_same (raised_block 128) (λ w. four (spill w)) (raised_block-xor 128)
    (linear-after four spill four-linear spill-linear)
    reduced-zero 128 reduced_test w lt
