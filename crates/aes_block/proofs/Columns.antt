-- Bytes of words, and elements of lists one by one.
use Rattle.std.proofs.Common.{◌≡◌, ℕ, ◌+◌, ◌/◌, ◌%◌, ◌^◌, List, [], ◌∷◌, ◌++◌, bit_xor}
use Rattle.std.proofs.Common.{slice_index, zero, suc, length, drop, drop-cons, refl, arith}
use Rattle.std.proofs.lemmas.Nat.{xor_lt}
use Rattle.std.proofs.lemmas.List.{drop_all}
use Rattle.std.specs.Int.{w32, to_be_bytes}
use Rattle.aes_block.specs.Field.{times}
use Rattle.aes_block.specs.Aes.{mixed_byte}
use Rattle.aes_block.specs.Inside.{word_of}
use Rattle.aes_block.proofs.Blocks.{IsByte}
use Rattle.aes_block.proofs.Entries.{times-lt}

xor-byte : (a b : ℕ) → IsByte a → IsByte b → IsByte (bit_xor a b)
xor-byte a b ha hb = xor_lt 8 a b ha hb

pub mixed_byte-lt : (a b c d : ℕ) → IsByte a → IsByte b → IsByte c → IsByte d → IsByte (mixed_byte a b c d)
unfolding mixed_byte
mixed_byte-lt a b c d ha hb hc hd =
    xor-byte (bit_xor (bit_xor (times 2 a) (times 3 b)) c) d
    (xor-byte (bit_xor (times 2 a) (times 3 b)) c (xor-byte (times 2 a) (times 3 b) (times-lt a ha).0 (times-lt b hb).1)
    hc) hd

-- n elements from place i on, and then the rest
abbrev pub items : List ℕ → ℕ → ℕ → List ℕ → List ℕ
items xs i zero rest = rest
items xs i (suc n) rest = slice_index xs i ∷ items xs (suc i) n rest

pub items-drop : (xs : List ℕ) (n i : ℕ) (rest : List ℕ) → i + n ≡ length xs → items xs i n rest ≡ drop i xs ++ rest
items-drop xs zero i rest e = rw (drop_all i xs (omega arith)) refl
items-drop xs (suc n) i rest e = rw (items-drop xs n (suc i) rest (omega arith), drop-cons xs i 0 (omega arith)) refl

-- the bytes of the word of four bytes
pub word_of-bytes : (a b c d v : ℕ) → IsByte a → IsByte b → IsByte c → IsByte d → v ≡ word_of a b c d
    → to_be_bytes w32 v ≡ a ∷ b ∷ c ∷ d ∷ []
word_of-bytes a b c d v ha hb hc hd e =
    let e0 : v / 2 ^ 24 % 2 ^ 8 ≡ a = omega arith in
    let e1 : v / 2 ^ 16 % 2 ^ 8 ≡ b = omega arith in
    let e2 : v / 2 ^ 8 % 2 ^ 8 ≡ c = omega arith in
    let e3 : v % 2 ^ 8 ≡ d = omega arith in
    λ i. e0 i ∷ e1 i ∷ e2 i ∷ e3 i ∷ []
