-- Numbers of 128 bits as bytes.
use Rattle.std.proofs.Common.{◌≡◌, ℕ, suc, ◌+◌, ◌*◌, ◌/◌, ◌%◌, ◌^◌, List, [], ◌∷◌, slice_index, refl, ap, ◌∙◌, arith}
use Rattle.std.proofs.Common.{◌<◌, drop}
use Rattle.std.specs.Int.{w128, to_be_bytes}
use lib.Lanes.{digits_l, number_l}
use Rattle.aes_block.specs.Aes.{sbox, sub_bytes, sub_word}
use Rattle.aes_block.proofs.Entries.{sbox-lt}
use Rattle.aes_block.specs.Inside.{spread, word_of, words_of}

-- 16 elements, the last first
abbrev bytes_in_reverse : List ℕ → List ℕ
bytes_in_reverse l =
    slice_index l 15 ∷ slice_index l 14 ∷ slice_index l 13 ∷ slice_index l 12 ∷ slice_index l 11 ∷ slice_index l 10 ∷
    slice_index l 9 ∷ slice_index l 8 ∷ slice_index l 7 ∷ slice_index l 6 ∷ slice_index l 5 ∷ slice_index l 4 ∷
    slice_index l 3 ∷ slice_index l 2 ∷ slice_index l 1 ∷ slice_index l 0 ∷ []

-- four bytes of a number, lowest first, and then what follows
abbrev four_bytes : ℕ → List ℕ → List ℕ
four_bytes n rest = n % 2 ^ 8 ∷ n / 2 ^ 8 % 2 ^ 8 ∷ n / 2 ^ 16 % 2 ^ 8 ∷ n / 2 ^ 24 % 2 ^ 8 ∷ rest

four-digits : (n m k : ℕ) → m ≡ n → digits_l 256 (suc (suc (suc (suc k)))) m
    ≡ four_bytes n (digits_l 256 k (n / 2 ^ 32))
four-digits n m k e =
    let e1 : n / 256 % 256 ≡ n / 2 ^ 8 % 2 ^ 8 = omega arith in
    let e2 : n / 256 / 256 % 256 ≡ n / 2 ^ 16 % 2 ^ 8 = omega arith in
    let e3 : n / 256 / 256 / 256 % 256 ≡ n / 2 ^ 24 % 2 ^ 8 = omega arith in
    let rest : n / 256 / 256 / 256 / 256 ≡ n / 2 ^ 32 = omega arith in
    ap (digits_l 256 (suc (suc (suc (suc k))))) e ∙ (λ i. n % 2 ^ 8 ∷ e1 i ∷ e2 i ∷ e3 i ∷ digits_l 256 k (rest i))

-- the bytes of two numbers of 64 bits, the last first
pub bytes-number : (n lo hi : ℕ) → lo + 2 ^ 64 * (hi + 2 ^ 64 * 0) ≡ n
    → bytes_in_reverse (digits_l 256 16 (lo + 2 ^ 64 * (hi + 2 ^ 64 * 0))) ≡ to_be_bytes w128 n
bytes-number n lo hi e =
    let a : ℕ = n / 2 ^ 32 in
    let b : ℕ = a / 2 ^ 32 in
    let c : ℕ = b / 2 ^ 32 in
    let whole : digits_l 256 16 (lo + 2 ^ 64 * (hi + 2 ^ 64 * 0))
    ≡ four_bytes n (four_bytes a (four_bytes b (four_bytes c []))) =
    four-digits n (lo + 2 ^ 64 * (hi + 2 ^ 64 * 0)) 12 e
    ∙ ap (four_bytes n) (four-digits a a 8 refl ∙ ap (four_bytes a)
    (four-digits b b 4 refl ∙ ap (four_bytes b) (four-digits c c 0 refl))) in
    let d0 : c / 2 ^ 24 % 2 ^ 8 ≡ n / 2 ^ 120 % 2 ^ 8 = omega arith in
    let d1 : c / 2 ^ 16 % 2 ^ 8 ≡ n / 2 ^ 112 % 2 ^ 8 = omega arith in
    let d2 : c / 2 ^ 8 % 2 ^ 8 ≡ n / 2 ^ 104 % 2 ^ 8 = omega arith in
    let d3 : c % 2 ^ 8 ≡ n / 2 ^ 96 % 2 ^ 8 = omega arith in
    let d4 : b / 2 ^ 24 % 2 ^ 8 ≡ n / 2 ^ 88 % 2 ^ 8 = omega arith in
    let d5 : b / 2 ^ 16 % 2 ^ 8 ≡ n / 2 ^ 80 % 2 ^ 8 = omega arith in
    let d6 : b / 2 ^ 8 % 2 ^ 8 ≡ n / 2 ^ 72 % 2 ^ 8 = omega arith in
    let d7 : b % 2 ^ 8 ≡ n / 2 ^ 64 % 2 ^ 8 = omega arith in
    let d8 : a / 2 ^ 24 % 2 ^ 8 ≡ n / 2 ^ 56 % 2 ^ 8 = omega arith in
    let d9 : a / 2 ^ 16 % 2 ^ 8 ≡ n / 2 ^ 48 % 2 ^ 8 = omega arith in
    let d10 : a / 2 ^ 8 % 2 ^ 8 ≡ n / 2 ^ 40 % 2 ^ 8 = omega arith in
    let d11 : a % 2 ^ 8 ≡ n / 2 ^ 32 % 2 ^ 8 = omega arith in
    let d12 : n / 2 ^ 24 % 2 ^ 8 ≡ n / 2 ^ 24 % 2 ^ 8 = omega arith in
    let d13 : n / 2 ^ 16 % 2 ^ 8 ≡ n / 2 ^ 16 % 2 ^ 8 = omega arith in
    let d14 : n / 2 ^ 8 % 2 ^ 8 ≡ n / 2 ^ 8 % 2 ^ 8 = omega arith in
    let d15 : n % 2 ^ 8 ≡ n % 2 ^ 8 = omega arith in
    ap bytes_in_reverse whole ∙ (λ i. d0 i ∷ d1 i ∷ d2 i ∷ d3 i ∷ d4 i ∷ d5 i ∷ d6 i ∷ d7 i ∷ d8 i ∷ d9 i ∷ d10 i
    ∷ d11 i
    ∷ d12 i ∷ d13 i ∷ d14 i ∷ d15 i ∷ [])

-- the words of a number spell its bytes
pub spread-words_of : (n : ℕ) → spread (words_of n) ≡ to_be_bytes w128 n
unfolding spread
spread-words_of n =
    let e0 : n / 2 ^ 96 % 2 ^ 32 / 2 ^ 24 % 2 ^ 8 ≡ n / 2 ^ 120 % 2 ^ 8 = omega arith in
    let e1 : n / 2 ^ 96 % 2 ^ 32 / 2 ^ 16 % 2 ^ 8 ≡ n / 2 ^ 112 % 2 ^ 8 = omega arith in
    let e2 : n / 2 ^ 96 % 2 ^ 32 / 2 ^ 8 % 2 ^ 8 ≡ n / 2 ^ 104 % 2 ^ 8 = omega arith in
    let e3 : n / 2 ^ 96 % 2 ^ 32 % 2 ^ 8 ≡ n / 2 ^ 96 % 2 ^ 8 = omega arith in
    let e4 : n / 2 ^ 64 % 2 ^ 32 / 2 ^ 24 % 2 ^ 8 ≡ n / 2 ^ 88 % 2 ^ 8 = omega arith in
    let e5 : n / 2 ^ 64 % 2 ^ 32 / 2 ^ 16 % 2 ^ 8 ≡ n / 2 ^ 80 % 2 ^ 8 = omega arith in
    let e6 : n / 2 ^ 64 % 2 ^ 32 / 2 ^ 8 % 2 ^ 8 ≡ n / 2 ^ 72 % 2 ^ 8 = omega arith in
    let e7 : n / 2 ^ 64 % 2 ^ 32 % 2 ^ 8 ≡ n / 2 ^ 64 % 2 ^ 8 = omega arith in
    let e8 : n / 2 ^ 32 % 2 ^ 32 / 2 ^ 24 % 2 ^ 8 ≡ n / 2 ^ 56 % 2 ^ 8 = omega arith in
    let e9 : n / 2 ^ 32 % 2 ^ 32 / 2 ^ 16 % 2 ^ 8 ≡ n / 2 ^ 48 % 2 ^ 8 = omega arith in
    let e10 : n / 2 ^ 32 % 2 ^ 32 / 2 ^ 8 % 2 ^ 8 ≡ n / 2 ^ 40 % 2 ^ 8 = omega arith in
    let e11 : n / 2 ^ 32 % 2 ^ 32 % 2 ^ 8 ≡ n / 2 ^ 32 % 2 ^ 8 = omega arith in
    let e12 : n % 2 ^ 32 / 2 ^ 24 % 2 ^ 8 ≡ n / 2 ^ 24 % 2 ^ 8 = omega arith in
    let e13 : n % 2 ^ 32 / 2 ^ 16 % 2 ^ 8 ≡ n / 2 ^ 16 % 2 ^ 8 = omega arith in
    let e14 : n % 2 ^ 32 / 2 ^ 8 % 2 ^ 8 ≡ n / 2 ^ 8 % 2 ^ 8 = omega arith in
    let e15 : n % 2 ^ 32 % 2 ^ 8 ≡ n % 2 ^ 8 = omega arith in
    λ i. e0 i ∷ e1 i ∷ e2 i ∷ e3 i ∷ e4 i ∷ e5 i ∷ e6 i ∷ e7 i ∷ e8 i ∷ e9 i ∷ e10 i ∷ e11 i ∷ e12 i ∷ e13 i ∷ e14 i
    ∷ e15 i ∷ []

low_word : (a b c d r : ℕ) → a < 256 → b < 256 → c < 256 → d < 256
    → (a + 256 * (b + 256 * (c + 256 * (d + 256 * r)))) % 2 ^ 32 ≡ word_of d c b a
low_word a b c d r la lb lc ld = omega arith

-- a word whose bytes go through the S-box in the lowest lanes of a vector
pub sub_word-lanes : (w : ℕ) (s : List ℕ) → s ≡ sub_bytes (digits_l 256 16 (number_l (2 ^ 32) (w ∷ 0 ∷ 0 ∷ 0 ∷ [])))
    → number_l 256 s % 2 ^ 32 ≡ sub_word w
unfolding sub_bytes sub_word
sub_word-lanes w s e =
    let m : ℕ = number_l (2 ^ 32) (w ∷ 0 ∷ 0 ∷ 0 ∷ []) in
    let alone : m ≡ w = omega arith in
    let bytes : List ℕ = four_bytes w (digits_l 256 12 (w / 2 ^ 32)) in
    let at : (k : ℕ) → sbox (w / k % 2 ^ 8) < 256 = λ k. sbox-lt (w / k % 2 ^ 8) (omega arith) in
    ap (λ (l : List ℕ). number_l 256 l % 2 ^ 32) (e ∙ ap sub_bytes (four-digits w m 12 alone))
    ∙ low_word (sbox (w % 2 ^ 8)) (sbox (w / 2 ^ 8 % 2 ^ 8)) (sbox (w / 2 ^ 16 % 2 ^ 8)) (sbox (w / 2 ^ 24 % 2 ^ 8))
    (number_l 256 (drop 4 (sub_bytes bytes))) (sbox-lt (w % 2 ^ 8) (omega arith)) (at (2 ^ 8)) (at (2 ^ 16))
    (at (2 ^ 24))
