-- Rounds one by one, each with its key from the list.
use Rattle.std.proofs.Common.{◌≡◌, ℕ, suc, ◌<◌, ◌+◌, ◌-◌, List, map, replicate, bit_xor, ap, subst, ◌∙◌, arith}
use lib.Lanes.{zip2}
use Rattle.aes_block.specs.declared.RoundKey.{RoundKey}
use Rattle.aes_block.specs.Aes.{aes, cipher, round_key, round_words, rounds, add_round_key, shift_rows, sub_bytes}
use Rattle.aes_block.specs.Inside.{after_round, spread}
use Rattle.aes_block.specs.Nibbles.{AreCoded, AreRoundKeys, bytes_at, IsCoded, IsVector, code, key_code, last_key}

pub start : (ws : List ℕ) (keys : List RoundKey) (b s : List ℕ) → AreRoundKeys ws keys → IsVector b
    → ((w : List ℕ) → IsVector b → bytes_at keys 0 ≡ map code (spread w) → IsCoded (add_round_key w b) s)
    → IsCoded (rounds ws b 0) s
unfolding rounds
start ws keys b s are fits made = made (round_key ws 0) fits are.0

one_more : (ws : List ℕ) (keys : List RoundKey) (b s t : List ℕ) (m : ℕ) → AreRoundKeys ws keys → suc m < 14
    → ((w a : List ℕ) → IsCoded a s → bytes_at keys (suc m) ≡ map key_code (spread w) → IsCoded (after_round w a) t)
    → IsCoded (rounds ws b m) s → IsCoded (rounds ws b (suc m)) t
unfolding rounds
one_more ws keys b s t m are lt made held = made (round_key ws (suc m)) (rounds ws b m) held
    (are.1 (suc m) (omega arith) lt)

pub step : (ws : List ℕ) (keys : List RoundKey) (b s t : List ℕ) (n : ℕ) → AreRoundKeys ws keys → 0 < n → n < 14
    → ((w a : List ℕ) → IsCoded a s → bytes_at keys n ≡ map key_code (spread w) → IsCoded (after_round w a) t)
    → IsCoded (rounds ws b (n - 1)) s → IsCoded (rounds ws b (n + 1 - 1)) t
step ws keys b s t n are pos lt made held =
    let m : ℕ = n - 1 in
    let this : n ≡ suc m = omega arith in
    let next : n + 1 - 1 ≡ suc m = omega arith in
    rw next
    (one_more ws keys b s t m are (omega arith)
    (subst (λ k. (w a : List ℕ) → IsCoded a s → bytes_at keys k ≡ map key_code (spread w) → IsCoded (after_round w a) t)
    this made) held)

pub finish : (key : List ℕ) (keys : List RoundKey) (b s r : List ℕ) (n : ℕ) → AreRoundKeys (round_words key) keys
    → n - 1 ≡ 13 → IsCoded (rounds (round_words key) b (n - 1)) s
    → ((w a : List ℕ) → IsCoded a s → bytes_at keys 14 ≡ map last_key (spread w) → r
    ≡ add_round_key w (shift_rows (sub_bytes a)))
    → r ≡ aes key b
unfolding aes cipher
finish key keys b s r n are all held made =
    let ws = round_words key in
    made (round_key ws 14) (rounds ws b 13) (subst (λ k. IsCoded (rounds ws b k) s) all held) are.2

-- ---- the same of two blocks

pub start_two : (ws : List ℕ) (keys : List RoundKey) (a b s : List ℕ) → AreRoundKeys ws keys → IsVector a → IsVector b
    → ((w : List ℕ) → IsVector a → IsVector b → bytes_at keys 0 ≡ map code (spread w)
    → AreCoded (add_round_key w a) (add_round_key w b) s) → AreCoded (rounds ws a 0) (rounds ws b 0) s
unfolding rounds
start_two ws keys a b s are fa fb made = made (round_key ws 0) fa fb are.0

one_more_two : (ws : List ℕ) (keys : List RoundKey) (a b s t : List ℕ) (m : ℕ) → AreRoundKeys ws keys → suc m < 14
    → ((w p q : List ℕ) → AreCoded p q s → bytes_at keys (suc m) ≡ map key_code (spread w)
    → AreCoded (after_round w p) (after_round w q) t)
    → AreCoded (rounds ws a m) (rounds ws b m) s → AreCoded (rounds ws a (suc m)) (rounds ws b (suc m)) t
unfolding rounds
one_more_two ws keys a b s t m are lt made held = made (round_key ws (suc m)) (rounds ws a m) (rounds ws b m) held
    (are.1 (suc m) (omega arith) lt)

pub step_two : (ws : List ℕ) (keys : List RoundKey) (a b s t : List ℕ) (n : ℕ) → AreRoundKeys ws keys → 0 < n → n < 14
    → ((w p q : List ℕ) → AreCoded p q s → bytes_at keys n ≡ map key_code (spread w)
    → AreCoded (after_round w p) (after_round w q) t) → AreCoded (rounds ws a (n - 1)) (rounds ws b (n - 1)) s
    → AreCoded (rounds ws a (n + 1 - 1)) (rounds ws b (n + 1 - 1)) t
step_two ws keys a b s t n are pos lt made held =
    let m : ℕ = n - 1 in
    let this : n ≡ suc m = omega arith in
    let next : n + 1 - 1 ≡ suc m = omega arith in
    rw next
    (one_more_two ws keys a b s t m are (omega arith)
    (subst (λ k. (w p q : List ℕ) → AreCoded p q s → bytes_at keys k ≡ map key_code (spread w)
    → AreCoded (after_round w p) (after_round w q) t) this made) held)

pub finish_two : (key : List ℕ) (keys : List RoundKey) (a b s p q : List ℕ) (n : ℕ)
    → AreRoundKeys (round_words key) keys → n - 1 ≡ 13
    → AreCoded (rounds (round_words key) a (n - 1)) (rounds (round_words key) b (n - 1)) s
    → ((w x y : List ℕ) → AreCoded x y s → bytes_at keys 14 ≡ map last_key (spread w)
    → (p ≡ add_round_key w (shift_rows (sub_bytes x))) × (q ≡ add_round_key w (shift_rows (sub_bytes y))))
    → (p ≡ aes key a) × (q ≡ aes key b)
unfolding aes cipher
finish_two key keys a b s p q n are all held made =
    let ws = round_words key in
    made (round_key ws 14) (rounds ws a 13) (rounds ws b 13)
    (subst (λ k. AreCoded (rounds ws a k) (rounds ws b k) s) all held) are.2

-- ---- the words of the rounds, as they are added

pub key-codes : (w q r : List ℕ) → q ≡ spread w → r ≡ map code (zip2 bit_xor q (replicate 16 0x63)) → r
    ≡ map key_code (spread w)
unfolding spread key_code
key-codes w q r eq er = er ∙ ap (λ q. map code (zip2 bit_xor q (replicate 16 0x63))) eq

pub last-keys : (w q : List ℕ) → q ≡ spread w → zip2 bit_xor q (replicate 16 0x63) ≡ map last_key (spread w)
unfolding spread
last-keys w q e = ap (λ q. zip2 bit_xor q (replicate 16 0x63)) e
