-- Rounds on codes, byte by byte, and then on vectors.
use Rattle.std.proofs.Common.{◌≡◌, ℕ, ◌%◌, ◌^◌, ◌<◌, ◌==◌, Bool, true, bit_xor, slice_index, List, [], ◌∷◌, map, ◌∙◌}
use Rattle.std.proofs.Common.{refl, sym, ap, arith, lit<, w8, Fits, eqb-true, ◌+◌, ◌*◌, ◌++◌, length}
use Rattle.std.proofs.lemmas.Nat.{xor_comm, xor_lt, xor_shr, xor_mod, and_mask}
use Rattle.std.proofs.lemmas.Simd.{swz_l, Each1-from_get_or}
use lib.Bits.{xor_assoc}
use Rattle.std.specs.Int.{w32, to_be_bytes}
use lib.Lanes.{zip2, Each1}
use Rattle.aes_block.specs.Aes.{sbox, cell, mixed_byte, mixed_column, word_byte, add_round_key, mix_columns, shift_rows}
use Rattle.aes_block.specs.Aes.{sub_bytes}
use Rattle.aes_block.specs.Field.{times}
use Rattle.aes_block.specs.Inside.{after_round, spread}
use Rattle.aes_block.specs.Nibbles.{IsVector, entry_of, low, high, code, key_code, last_key, code_low, code_high}
use Rattle.aes_block.specs.Nibbles.{once_of, twice_of, last_of, first_part, second_part}
use Rattle.aes_block.proofs.Blocks.{IsByte, at-byte, bytes-high_first, add_round_key-bytes, sbox-byte, state_of-bytes}
use Rattle.std.specs.Prelude.{All}
use Rattle.std.proofs.lemmas.List.Elements.{All-cons, All-nil, All-get_or, All-from_get_or}
use Rattle.aes_block.proofs.Columns.{mixed_byte-lt}
use Rattle.aes_block.proofs.Entries.{SBOX, all_below, all_below_at, SBOX-sbox, sbox-lt, times-lt}
use Rattle.aes_block.proofs.Places.{of_16, lane_fits, sbox_of_code}

-- ---- sums

pub medial : (p q r s : ℕ) → bit_xor (bit_xor p q) (bit_xor r s) ≡ bit_xor (bit_xor p r) (bit_xor q s)
medial p q r s =
    xor_assoc p q (bit_xor r s)
    ∙ ap (bit_xor p) (sym (xor_assoc q r s) ∙ ap (λ (x : ℕ). bit_xor x s) (xor_comm q r) ∙ xor_assoc r q s)
    ∙ sym (xor_assoc p r (bit_xor q s))

-- the entries of a table add up as their places do
abbrev is_linear : List ℕ → Bool
is_linear t = all_below (λ p. all_below (λ q. entry_of t (bit_xor p q) == bit_xor (entry_of t p) (entry_of t q)) 16) 16

linear : (t : List ℕ) → is_linear t ≡ true → (p q : ℕ) → p < 16 → q < 16 → entry_of t (bit_xor p q)
    ≡ bit_xor (entry_of t p) (entry_of t q)
linear t test p q hp hq =
    eqb-true (entry_of t (bit_xor p q)) (bit_xor (entry_of t p) (entry_of t q))
    (all_below_at (λ q. entry_of t (bit_xor p q) == bit_xor (entry_of t p) (entry_of t q)) 16 q
    (all_below_at (λ p. all_below (λ q. entry_of t (bit_xor p q) == bit_xor (entry_of t p) (entry_of t q)) 16) 16 p test
    hp) hq)

low_linear : is_linear code_low ≡ true
low_linear = refl

high_linear : is_linear code_high ≡ true
high_linear = refl

low-mod : (x : ℕ) → low x ≡ x % 2 ^ 4
low-mod x = and_mask x 4

pub code-xor : (x y : ℕ) → x < 256 → y < 256 → code (bit_xor x y) ≡ bit_xor (code x) (code y)
unfolding code
code-xor x y hx hy =
    let l : low (bit_xor x y) ≡ bit_xor (low x) (low y) =
    low-mod (bit_xor x y) ∙ xor_mod x y 4 ∙ (λ i. bit_xor (sym (low-mod x) i) (sym (low-mod y) i)) in
    let h : high (bit_xor x y) ≡ bit_xor (high x) (high y) = xor_shr x y 4 in
    (λ i. bit_xor (entry_of code_low (l i)) (entry_of code_high (h i)))
    ∙ (λ i. bit_xor
    (linear code_low low_linear (low x) (low y) (omega (arith, low-mod x)) (omega (arith, low-mod y)) i)
    (linear code_high high_linear (high x) (high y) (omega arith) (omega arith) i))
    ∙ medial (entry_of code_low (low x)) (entry_of code_low (low y)) (entry_of code_high (high x))
    (entry_of code_high (high y))

-- ---- the parts of a round at a byte

abbrev once_is : ℕ → Bool
once_is x = once_of (code x) == code (bit_xor (slice_index SBOX x) 0x63)

once_test : all_below once_is 256 ≡ true
unfolding once_of first_part second_part code
once_test = refl

pub once-sbox : (x : ℕ) → x < 256 → once_of (code x) ≡ code (bit_xor (sbox x) 0x63)
once-sbox x lt = eqb-true (once_of (code x)) (code (bit_xor (slice_index SBOX x) 0x63))
    (all_below_at once_is 256 x once_test lt) ∙ ap (λ (s : ℕ). code (bit_xor s 0x63)) (SBOX-sbox x lt)

abbrev twice_is : ℕ → Bool
twice_is x = twice_of (code x) == code (bit_xor (times 2 (slice_index SBOX x)) 0xc6)

twice_test : all_below twice_is 256 ≡ true
unfolding twice_of first_part second_part code
twice_test = refl

pub twice-sbox : (x : ℕ) → x < 256 → twice_of (code x) ≡ code (bit_xor (times 2 (sbox x)) 0xc6)
twice-sbox x lt =
    eqb-true (twice_of (code x)) (code (bit_xor (times 2 (slice_index SBOX x)) 0xc6))
    (all_below_at twice_is 256 x twice_test lt)
    ∙ ap (λ (s : ℕ). code (bit_xor (times 2 s) 0xc6)) (SBOX-sbox x lt)

abbrev thrice_is : ℕ → Bool
thrice_is x = bit_xor (once_of (code x)) (twice_of (code x)) == code (bit_xor (times 3 (slice_index SBOX x)) 0xa5)

thrice_test : all_below thrice_is 256 ≡ true
unfolding once_of twice_of first_part second_part code
thrice_test = refl

pub thrice-sbox : (x : ℕ) → x < 256 → bit_xor (once_of (code x)) (twice_of (code x))
    ≡ code (bit_xor (times 3 (sbox x)) 0xa5)
thrice-sbox x lt =
    eqb-true (bit_xor (once_of (code x)) (twice_of (code x))) (code (bit_xor (times 3 (slice_index SBOX x)) 0xa5))
    (all_below_at thrice_is 256 x thrice_test lt)
    ∙ ap (λ (s : ℕ). code (bit_xor (times 3 s) 0xa5)) (SBOX-sbox x lt)

-- the constants of the S-box cancel
cancel : (a b c d k : ℕ) → bit_xor (bit_xor (bit_xor a 0xc6) (bit_xor b 0xa5))
    (bit_xor (bit_xor (bit_xor c 0x63) (bit_xor d 0x63)) (bit_xor k 0x63))
    ≡ bit_xor (bit_xor (bit_xor (bit_xor a b) c) d) k
cancel a b c d k =
    let x : ℕ = bit_xor a b in
    let y : ℕ = bit_xor c d in
    (λ i. bit_xor (medial a 0xc6 b 0xa5 i) (bit_xor (medial c 0x63 d 0x63 i) (bit_xor k 0x63)))
    ∙ ap (bit_xor (bit_xor x 0x63)) (medial y 0 k 0x63)
    ∙ medial x 0x63 (bit_xor y k) 0x63
    ∙ xor_comm (bit_xor x (bit_xor y k)) 0
    ∙ sym (xor_assoc x y k)
    ∙ ap (λ (z : ℕ). bit_xor z k) (sym (xor_assoc x c d))

-- a byte of a round
pub lane : (a b c d k : ℕ) → a < 256 → b < 256 → c < 256 → d < 256 → k < 256
    → bit_xor (bit_xor (twice_of (code a)) (bit_xor (once_of (code b)) (twice_of (code b))))
    (bit_xor (bit_xor (once_of (code c)) (once_of (code d))) (key_code k))
    ≡ code (bit_xor (mixed_byte (sbox a) (sbox b) (sbox c) (sbox d)) k)
unfolding key_code mixed_byte
lane a b c d k ha hb hc hd hk =
    let p : ℕ = bit_xor (times 2 (sbox a)) 0xc6 in
    let q : ℕ = bit_xor (times 3 (sbox b)) 0xa5 in
    let r : ℕ = bit_xor (sbox c) 0x63 in
    let s : ℕ = bit_xor (sbox d) 0x63 in
    let t : ℕ = bit_xor k 0x63 in
    let lp : p < 256 = xor_lt 8 (times 2 (sbox a)) 0xc6 (times-lt (sbox a) (sbox-lt a ha)).0 (lit< tt) in
    let lq : q < 256 = xor_lt 8 (times 3 (sbox b)) 0xa5 (times-lt (sbox b) (sbox-lt b hb)).1 (lit< tt) in
    let lr : r < 256 = xor_lt 8 (sbox c) 0x63 (sbox-lt c hc) (lit< tt) in
    let ls : s < 256 = xor_lt 8 (sbox d) 0x63 (sbox-lt d hd) (lit< tt) in
    let lt : t < 256 = xor_lt 8 k 0x63 hk (lit< tt) in
    (λ i. bit_xor (bit_xor (twice-sbox a ha i) (thrice-sbox b hb i))
    (bit_xor (bit_xor (once-sbox c hc i) (once-sbox d hd i)) (code t)))
    ∙ (λ i. bit_xor (sym (code-xor p q lp lq) i) (bit_xor (sym (code-xor r s lr ls) i) (code t)))
    ∙ ap (bit_xor (code (bit_xor p q))) (sym (code-xor (bit_xor r s) t (xor_lt 8 r s lr ls) lt))
    ∙ sym (code-xor (bit_xor p q) (bit_xor (bit_xor r s) t) (xor_lt 8 p q lp lq)
    (xor_lt 8 (bit_xor r s) t (xor_lt 8 r s lr ls) lt))
    ∙ ap code (cancel (times 2 (sbox a)) (times 3 (sbox b)) (sbox c) (sbox d) k)

-- a byte of the last round
pub last-lane : (a k : ℕ) → a < 256 → k < 256 → bit_xor (last_of (code a)) (last_key k) ≡ bit_xor (sbox a) k
last-lane a k ha hk = ap (bit_xor (last_of (code a))) (xor_comm k 0x63) ∙ sym (xor_assoc (last_of (code a)) 0x63 k)
    ∙ ap (λ (x : ℕ). bit_xor x k) (sbox_of_code a ha)

pub bytes-lt : (w r : ℕ) → r < 4 → word_byte w r < 256
bytes-lt w r lt = at-byte (to_be_bytes w32 w) r (bytes-high_first 4 w)

-- ---- the same of vectors

abbrev pub places0 : List ℕ
places0 = 0 ∷ 5 ∷ 10 ∷ 15 ∷ 4 ∷ 9 ∷ 14 ∷ 3 ∷ 8 ∷ 13 ∷ 2 ∷ 7 ∷ 12 ∷ 1 ∷ 6 ∷ 11 ∷ []

abbrev pub places1 : List ℕ
places1 = 5 ∷ 10 ∷ 15 ∷ 0 ∷ 9 ∷ 14 ∷ 3 ∷ 4 ∷ 13 ∷ 2 ∷ 7 ∷ 8 ∷ 1 ∷ 6 ∷ 11 ∷ 12 ∷ []

abbrev pub places2 : List ℕ
places2 = 10 ∷ 15 ∷ 0 ∷ 5 ∷ 14 ∷ 3 ∷ 4 ∷ 9 ∷ 2 ∷ 7 ∷ 8 ∷ 13 ∷ 6 ∷ 11 ∷ 12 ∷ 1 ∷ []

abbrev pub places3 : List ℕ
places3 = 15 ∷ 0 ∷ 5 ∷ 10 ∷ 3 ∷ 4 ∷ 9 ∷ 14 ∷ 7 ∷ 8 ∷ 13 ∷ 2 ∷ 11 ∷ 12 ∷ 1 ∷ 6 ∷ []

abbrev pub bytes_at_places : List ℕ → List ℕ → List ℕ
bytes_at_places v places = swz_l w8 16 v 0 places

-- what a round computes
abbrev pub round_of : List ℕ → List ℕ → List ℕ → List ℕ
round_of once twice k =
    zip2 bit_xor (zip2 bit_xor (bytes_at_places twice places0) (bytes_at_places (zip2 bit_xor once twice) places1))
    (zip2 bit_xor (zip2 bit_xor (bytes_at_places once places2) (bytes_at_places once places3)) k)

pub round-lanes : (w s : List ℕ) → IsVector s
    → round_of (map once_of (map code s)) (map twice_of (map code s)) (map key_code (spread w))
    ≡ map code (after_round w s)
unfolding add_round_key mix_columns shift_rows sub_bytes spread
round-lanes w s fits = of_16
    (λ s. Each1 (Fits w8) s → round_of (map once_of (map code s)) (map twice_of (map code s)) (map key_code (spread w))
    ≡ map code (after_round w s))
    (λ a b c d e f g h i j k l m n o p given.
    let e0 = lane a f k p (word_byte (slice_index w 0) 0) (given.0.fits) (given.1.1.1.1.1.0.fits)
    (given.1.1.1.1.1.1.1.1.1.1.0.fits) (given.1.1.1.1.1.1.1.1.1.1.1.1.1.1.1.0.fits)
    (bytes-lt (slice_index w 0) 0 (lit< tt)) in
    let e1 = lane f k p a (word_byte (slice_index w 0) 1) (given.1.1.1.1.1.0.fits) (given.1.1.1.1.1.1.1.1.1.1.0.fits)
    (given.1.1.1.1.1.1.1.1.1.1.1.1.1.1.1.0.fits) (given.0.fits) (bytes-lt (slice_index w 0) 1 (lit< tt)) in
    let e2 = lane k p a f (word_byte (slice_index w 0) 2) (given.1.1.1.1.1.1.1.1.1.1.0.fits)
    (given.1.1.1.1.1.1.1.1.1.1.1.1.1.1.1.0.fits) (given.0.fits) (given.1.1.1.1.1.0.fits)
    (bytes-lt (slice_index w 0) 2 (lit< tt)) in
    let e3 = lane p a f k (word_byte (slice_index w 0) 3) (given.1.1.1.1.1.1.1.1.1.1.1.1.1.1.1.0.fits) (given.0.fits)
    (given.1.1.1.1.1.0.fits) (given.1.1.1.1.1.1.1.1.1.1.0.fits) (bytes-lt (slice_index w 0) 3 (lit< tt)) in
    let e4 = lane e j o d (word_byte (slice_index w 1) 0) (given.1.1.1.1.0.fits) (given.1.1.1.1.1.1.1.1.1.0.fits)
    (given.1.1.1.1.1.1.1.1.1.1.1.1.1.1.0.fits) (given.1.1.1.0.fits) (bytes-lt (slice_index w 1) 0 (lit< tt)) in
    let e5 = lane j o d e (word_byte (slice_index w 1) 1) (given.1.1.1.1.1.1.1.1.1.0.fits)
    (given.1.1.1.1.1.1.1.1.1.1.1.1.1.1.0.fits) (given.1.1.1.0.fits) (given.1.1.1.1.0.fits)
    (bytes-lt (slice_index w 1) 1 (lit< tt)) in
    let e6 = lane o d e j (word_byte (slice_index w 1) 2) (given.1.1.1.1.1.1.1.1.1.1.1.1.1.1.0.fits)
    (given.1.1.1.0.fits) (given.1.1.1.1.0.fits) (given.1.1.1.1.1.1.1.1.1.0.fits)
    (bytes-lt (slice_index w 1) 2 (lit< tt)) in
    let e7 = lane d e j o (word_byte (slice_index w 1) 3) (given.1.1.1.0.fits) (given.1.1.1.1.0.fits)
    (given.1.1.1.1.1.1.1.1.1.0.fits) (given.1.1.1.1.1.1.1.1.1.1.1.1.1.1.0.fits)
    (bytes-lt (slice_index w 1) 3 (lit< tt)) in
    let e8 = lane i n c h (word_byte (slice_index w 2) 0) (given.1.1.1.1.1.1.1.1.0.fits)
    (given.1.1.1.1.1.1.1.1.1.1.1.1.1.0.fits) (given.1.1.0.fits) (given.1.1.1.1.1.1.1.0.fits)
    (bytes-lt (slice_index w 2) 0 (lit< tt)) in
    let e9 = lane n c h i (word_byte (slice_index w 2) 1) (given.1.1.1.1.1.1.1.1.1.1.1.1.1.0.fits) (given.1.1.0.fits)
    (given.1.1.1.1.1.1.1.0.fits) (given.1.1.1.1.1.1.1.1.0.fits) (bytes-lt (slice_index w 2) 1 (lit< tt)) in
    let e10 = lane c h i n (word_byte (slice_index w 2) 2) (given.1.1.0.fits) (given.1.1.1.1.1.1.1.0.fits)
    (given.1.1.1.1.1.1.1.1.0.fits) (given.1.1.1.1.1.1.1.1.1.1.1.1.1.0.fits) (bytes-lt (slice_index w 2) 2 (lit< tt))
    in
    let e11 = lane h i n c (word_byte (slice_index w 2) 3) (given.1.1.1.1.1.1.1.0.fits) (given.1.1.1.1.1.1.1.1.0.fits)
    (given.1.1.1.1.1.1.1.1.1.1.1.1.1.0.fits) (given.1.1.0.fits) (bytes-lt (slice_index w 2) 3 (lit< tt)) in
    let e12 = lane m b g l (word_byte (slice_index w 3) 0) (given.1.1.1.1.1.1.1.1.1.1.1.1.0.fits) (given.1.0.fits)
    (given.1.1.1.1.1.1.0.fits) (given.1.1.1.1.1.1.1.1.1.1.1.0.fits) (bytes-lt (slice_index w 3) 0 (lit< tt)) in
    let e13 = lane b g l m (word_byte (slice_index w 3) 1) (given.1.0.fits) (given.1.1.1.1.1.1.0.fits)
    (given.1.1.1.1.1.1.1.1.1.1.1.0.fits) (given.1.1.1.1.1.1.1.1.1.1.1.1.0.fits)
    (bytes-lt (slice_index w 3) 1 (lit< tt)) in
    let e14 = lane g l m b (word_byte (slice_index w 3) 2) (given.1.1.1.1.1.1.0.fits)
    (given.1.1.1.1.1.1.1.1.1.1.1.0.fits) (given.1.1.1.1.1.1.1.1.1.1.1.1.0.fits) (given.1.0.fits)
    (bytes-lt (slice_index w 3) 2 (lit< tt)) in
    let e15 = lane l m b g (word_byte (slice_index w 3) 3) (given.1.1.1.1.1.1.1.1.1.1.1.0.fits)
    (given.1.1.1.1.1.1.1.1.1.1.1.1.0.fits) (given.1.0.fits) (given.1.1.1.1.1.1.0.fits)
    (bytes-lt (slice_index w 3) 3 (lit< tt)) in
    (λ i. e0 i ∷ e1 i ∷ e2 i ∷ e3 i ∷ e4 i ∷ e5 i ∷ e6 i ∷ e7 i ∷ e8 i ∷ e9 i ∷ e10 i ∷ e11 i ∷ e12 i ∷ e13 i ∷ e14 i
    ∷ e15 i ∷ [])) s fits.0 fits.1

pub last-lanes : (w s : List ℕ) → IsVector s
    → zip2 bit_xor (bytes_at_places (map last_of (map code s)) places0) (map last_key (spread w))
    ≡ add_round_key w (shift_rows (sub_bytes s))
unfolding add_round_key shift_rows sub_bytes spread
last-lanes w s fits = of_16
    (λ s. Each1 (Fits w8) s → zip2 bit_xor (bytes_at_places (map last_of (map code s)) places0)
    (map last_key (spread w))
    ≡ add_round_key w (shift_rows (sub_bytes s)))
    (λ a b c d e f g h i j k l m n o p given.
    let e0 = last-lane a (word_byte (slice_index w 0) 0) (given.0.fits) (bytes-lt (slice_index w 0) 0 (lit< tt)) in
    let e1 = last-lane f (word_byte (slice_index w 0) 1) (given.1.1.1.1.1.0.fits)
    (bytes-lt (slice_index w 0) 1 (lit< tt)) in
    let e2 = last-lane k (word_byte (slice_index w 0) 2) (given.1.1.1.1.1.1.1.1.1.1.0.fits)
    (bytes-lt (slice_index w 0) 2 (lit< tt)) in
    let e3 = last-lane p (word_byte (slice_index w 0) 3) (given.1.1.1.1.1.1.1.1.1.1.1.1.1.1.1.0.fits)
    (bytes-lt (slice_index w 0) 3 (lit< tt)) in
    let e4 = last-lane e (word_byte (slice_index w 1) 0) (given.1.1.1.1.0.fits) (bytes-lt (slice_index w 1) 0 (lit< tt))
    in
    let e5 = last-lane j (word_byte (slice_index w 1) 1) (given.1.1.1.1.1.1.1.1.1.0.fits)
    (bytes-lt (slice_index w 1) 1 (lit< tt)) in
    let e6 = last-lane o (word_byte (slice_index w 1) 2) (given.1.1.1.1.1.1.1.1.1.1.1.1.1.1.0.fits)
    (bytes-lt (slice_index w 1) 2 (lit< tt)) in
    let e7 = last-lane d (word_byte (slice_index w 1) 3) (given.1.1.1.0.fits) (bytes-lt (slice_index w 1) 3 (lit< tt))
    in
    let e8 = last-lane i (word_byte (slice_index w 2) 0) (given.1.1.1.1.1.1.1.1.0.fits)
    (bytes-lt (slice_index w 2) 0 (lit< tt)) in
    let e9 = last-lane n (word_byte (slice_index w 2) 1) (given.1.1.1.1.1.1.1.1.1.1.1.1.1.0.fits)
    (bytes-lt (slice_index w 2) 1 (lit< tt)) in
    let e10 = last-lane c (word_byte (slice_index w 2) 2) (given.1.1.0.fits) (bytes-lt (slice_index w 2) 2 (lit< tt)) in
    let e11 = last-lane h (word_byte (slice_index w 2) 3) (given.1.1.1.1.1.1.1.0.fits)
    (bytes-lt (slice_index w 2) 3 (lit< tt)) in
    let e12 = last-lane m (word_byte (slice_index w 3) 0) (given.1.1.1.1.1.1.1.1.1.1.1.1.0.fits)
    (bytes-lt (slice_index w 3) 0 (lit< tt)) in
    let e13 = last-lane b (word_byte (slice_index w 3) 1) (given.1.0.fits) (bytes-lt (slice_index w 3) 1 (lit< tt)) in
    let e14 = last-lane g (word_byte (slice_index w 3) 2) (given.1.1.1.1.1.1.0.fits)
    (bytes-lt (slice_index w 3) 2 (lit< tt)) in
    let e15 = last-lane l (word_byte (slice_index w 3) 3) (given.1.1.1.1.1.1.1.1.1.1.1.0.fits)
    (bytes-lt (slice_index w 3) 3 (lit< tt)) in
    (λ i. e0 i ∷ e1 i ∷ e2 i ∷ e3 i ∷ e4 i ∷ e5 i ∷ e6 i ∷ e7 i ∷ e8 i ∷ e9 i ∷ e10 i ∷ e11 i ∷ e12 i ∷ e13 i ∷ e14 i
    ∷ e15 i ∷ [])) s fits.0 fits.1

first-lane : (a k : ℕ) → a < 256 → k < 256 → bit_xor (code a) (code k) ≡ code (bit_xor a k)
first-lane a k ha hk = sym (code-xor a k ha hk)

pub first-lanes : (w s : List ℕ) → IsVector s → zip2 bit_xor (map code s) (map code (spread w))
    ≡ map code (add_round_key w s)
unfolding add_round_key spread
first-lanes w s fits = of_16
    (λ s. Each1 (Fits w8) s → zip2 bit_xor (map code s) (map code (spread w)) ≡ map code (add_round_key w s))
    (λ a b c d e f g h i j k l m n o p given.
    let e0 = first-lane a (word_byte (slice_index w 0) 0) (given.0.fits) (bytes-lt (slice_index w 0) 0 (lit< tt)) in
    let e1 = first-lane b (word_byte (slice_index w 0) 1) (given.1.0.fits) (bytes-lt (slice_index w 0) 1 (lit< tt)) in
    let e2 = first-lane c (word_byte (slice_index w 0) 2) (given.1.1.0.fits) (bytes-lt (slice_index w 0) 2 (lit< tt)) in
    let e3 = first-lane d (word_byte (slice_index w 0) 3) (given.1.1.1.0.fits) (bytes-lt (slice_index w 0) 3 (lit< tt))
    in
    let e4 = first-lane e (word_byte (slice_index w 1) 0) (given.1.1.1.1.0.fits)
    (bytes-lt (slice_index w 1) 0 (lit< tt)) in
    let e5 = first-lane f (word_byte (slice_index w 1) 1) (given.1.1.1.1.1.0.fits)
    (bytes-lt (slice_index w 1) 1 (lit< tt)) in
    let e6 = first-lane g (word_byte (slice_index w 1) 2) (given.1.1.1.1.1.1.0.fits)
    (bytes-lt (slice_index w 1) 2 (lit< tt)) in
    let e7 = first-lane h (word_byte (slice_index w 1) 3) (given.1.1.1.1.1.1.1.0.fits)
    (bytes-lt (slice_index w 1) 3 (lit< tt)) in
    let e8 = first-lane i (word_byte (slice_index w 2) 0) (given.1.1.1.1.1.1.1.1.0.fits)
    (bytes-lt (slice_index w 2) 0 (lit< tt)) in
    let e9 = first-lane j (word_byte (slice_index w 2) 1) (given.1.1.1.1.1.1.1.1.1.0.fits)
    (bytes-lt (slice_index w 2) 1 (lit< tt)) in
    let e10 = first-lane k (word_byte (slice_index w 2) 2) (given.1.1.1.1.1.1.1.1.1.1.0.fits)
    (bytes-lt (slice_index w 2) 2 (lit< tt)) in
    let e11 = first-lane l (word_byte (slice_index w 2) 3) (given.1.1.1.1.1.1.1.1.1.1.1.0.fits)
    (bytes-lt (slice_index w 2) 3 (lit< tt)) in
    let e12 = first-lane m (word_byte (slice_index w 3) 0) (given.1.1.1.1.1.1.1.1.1.1.1.1.0.fits)
    (bytes-lt (slice_index w 3) 0 (lit< tt)) in
    let e13 = first-lane n (word_byte (slice_index w 3) 1) (given.1.1.1.1.1.1.1.1.1.1.1.1.1.0.fits)
    (bytes-lt (slice_index w 3) 1 (lit< tt)) in
    let e14 = first-lane o (word_byte (slice_index w 3) 2) (given.1.1.1.1.1.1.1.1.1.1.1.1.1.1.0.fits)
    (bytes-lt (slice_index w 3) 2 (lit< tt)) in
    let e15 = first-lane p (word_byte (slice_index w 3) 3) (given.1.1.1.1.1.1.1.1.1.1.1.1.1.1.1.0.fits)
    (bytes-lt (slice_index w 3) 3 (lit< tt)) in
    (λ i. e0 i ∷ e1 i ∷ e2 i ∷ e3 i ∷ e4 i ∷ e5 i ∷ e6 i ∷ e7 i ∷ e8 i ∷ e9 i ∷ e10 i ∷ e11 i ∷ e12 i ∷ e13 i ∷ e14 i
    ∷ e15 i ∷ [])) s fits.0 fits.1

-- a list of bytes has lanes of 8 bits
lanes-fit : (v : List ℕ) → All IsByte v → Each1 (Fits w8) v
lanes-fit v h = Each1-from_get_or (Fits w8) v 0 (λ i lt. record { fits = All-get_or IsByte v i 0 lt h })

lanes-bytes : (v : List ℕ) → Each1 (Fits w8) v → All IsByte v
lanes-bytes v fits = All-from_get_or IsByte v 0 (λ i lt. lane_fits v i fits)

column-bytes : (a b c d : ℕ) (rest : List ℕ) → IsByte a → IsByte b → IsByte c → IsByte d → All IsByte rest
    → All IsByte (mixed_column a b c d ++ rest)
column-bytes a b c d rest ha hb hc hd t =
    let p : ℕ = mixed_byte a b c d in
    let q : ℕ = mixed_byte b c d a in
    let r : ℕ = mixed_byte c d a b in
    let s : ℕ = mixed_byte d a b c in
    All-cons IsByte p (q ∷ r ∷ s ∷ rest) (mixed_byte-lt a b c d ha hb hc hd)
    (All-cons IsByte q (r ∷ s ∷ rest) (mixed_byte-lt b c d a hb hc hd ha)
    (All-cons IsByte r (s ∷ rest) (mixed_byte-lt c d a b hc hd ha hb)
    (All-cons IsByte s rest (mixed_byte-lt d a b c hd ha hb hc) t)))

mix-bytes : (s : List ℕ) → All IsByte s → All IsByte (mix_columns s)
unfolding mix_columns
mix-bytes s h =
    let at : (r c : ℕ) → IsByte (cell s r c) = λ r c. at-byte s (r + 4 * c) h in
    let from : ℕ → List ℕ → List ℕ =
    λ c rest. mixed_column (cell s 0 c) (cell s 1 c) (cell s 2 c) (cell s 3 c) ++ rest in
    let column : (c : ℕ) (rest : List ℕ) → All IsByte rest → All IsByte (from c rest) =
    λ c rest t.
    column-bytes (cell s 0 c) (cell s 1 c) (cell s 2 c) (cell s 3 c) rest (at 0 c) (at 1 c) (at 2 c) (at 3 c) t in
    column 0 (from 1 (from 2 (from 3 [])))
    (column 1 (from 2 (from 3 [])) (column 2 (from 3 []) (column 3 [] (All-nil IsByte))))

sub-bytes : (s : List ℕ) → All IsByte (shift_rows (sub_bytes s))
unfolding shift_rows sub_bytes
sub-bytes s =
    state_of-bytes (λ r c. cell (sub_bytes s) r ((c + r) % 4)) (λ r c.
    at-byte (sub_bytes s) (r + 4 * ((c + r) % 4))
    (state_of-bytes (λ r c. sbox (cell s r c)) (λ r c. sbox-byte (cell s r c))))

pub length-added : (w s : List ℕ) → length (add_round_key w s) ≡ 16
unfolding add_round_key
length-added w s = refl

added-vector : (w s : List ℕ) → All IsByte s → IsVector (add_round_key w s)
added-vector w s h = (length-added w s, lanes-fit (add_round_key w s) (add_round_key-bytes w s h))

pub after-vector : (w s : List ℕ) → IsVector (after_round w s)
after-vector w s = added-vector w _ (mix-bytes (shift_rows (sub_bytes s)) (sub-bytes s))

pub first-vector : (w s : List ℕ) → IsVector s → IsVector (add_round_key w s)
first-vector w s fits = added-vector w s (lanes-bytes s fits.1)
