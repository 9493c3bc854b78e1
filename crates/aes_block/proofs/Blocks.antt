-- What the cipher gives is a block: 16 bytes, whatever it is given.
use Rattle.std.proofs.Common.{◌≡◌, ℕ, zero, suc, ◌+◌, ◌*◌, ◌/◌, ◌%◌, ◌^◌, ◌<◌, List, [], ◌∷◌, length, slice_index, refl}
use Rattle.std.proofs.Common.{arith, lit<, inl, inr}
use Rattle.std.specs.Prelude.{All}
use Rattle.std.specs.Int.{w32, byte_at, bytes_high_first, to_be_bytes}
use Rattle.std.proofs.lemmas.Bool.{cases_lt}
use Rattle.std.proofs.lemmas.Nat.{xor_lt, mod_below}
use Rattle.std.proofs.lemmas.List.{get_or_past}
use Rattle.std.proofs.lemmas.List.Elements.{All-cons, All-nil, All-get_or}
use Rattle.aes_block.specs.Aes.{aes, cipher, add_round_key, shift_rows, sub_bytes, block_state, cell, word_byte, sbox}
use Rattle.aes_block.specs.Aes.{from_bits, affine_bit, round_key, round_words, rounds}
use Rattle.aes_block.specs.Field.{inverse}

-- a number below 256
abbrev pub IsByte : ℕ → Type 0
IsByte b = b < 256

pub length-aes : (key b : List ℕ) → length (aes key b) ≡ 16
unfolding aes cipher add_round_key
length-aes key b = refl

-- an element of a list of bytes, and 0 past its end
pub at-byte : (s : List ℕ) (i : ℕ) → All IsByte s → IsByte (slice_index s i)
at-byte s i h = elim (cases_lt i (length s)) [
  | inl within ↦ All-get_or IsByte s i 0 within h
  | inr past ↦ rw (get_or_past s i 0 past) (lit< tt)
]

pub byte_at-byte : (k n : ℕ) → IsByte (byte_at k n)
byte_at-byte zero n = mod_below n 256 (lit< tt)
byte_at-byte (suc k) n = mod_below (n / 256 ^ suc k) 256 (lit< tt)

pub bytes-high_first : (k n : ℕ) → All IsByte (bytes_high_first k n)
bytes-high_first zero n = All-nil IsByte
bytes-high_first (suc k) n = All-cons IsByte (byte_at k n) (bytes_high_first k n) (byte_at-byte k n)
    (bytes-high_first k n)

from_bits-lt : (n : ℕ) (f : ℕ → ℕ) → ((i : ℕ) → f i < 2) → from_bits n f < 2 ^ n
from_bits-lt zero f h = lit< tt
from_bits-lt (suc n) f h = omega (arith, h 0, from_bits-lt n (λ i. f (i + 1)) (λ i. h (i + 1)))

pub sbox-byte : (b : ℕ) → IsByte (sbox b)
unfolding sbox
sbox-byte b = from_bits-lt 8 (affine_bit (inverse b)) (λ i. mod_below _ 2 (lit< tt))

pub state_of-bytes : (f : ℕ → ℕ → ℕ) → ((r c : ℕ) → IsByte (f r c)) → All IsByte (block_state f)
state_of-bytes f h =
    let column : (c : ℕ) (rest : List ℕ) → All IsByte rest → All IsByte (f 0 c ∷ f 1 c ∷ f 2 c ∷ f 3 c ∷ rest) =
    λ c rest t.
    All-cons IsByte (f 0 c) (f 1 c ∷ f 2 c ∷ f 3 c ∷ rest) (h 0 c)
    (All-cons IsByte (f 1 c) (f 2 c ∷ f 3 c ∷ rest) (h 1 c)
    (All-cons IsByte (f 2 c) (f 3 c ∷ rest) (h 2 c) (All-cons IsByte (f 3 c) rest (h 3 c) t))) in
    let from : ℕ → List ℕ → List ℕ = λ c rest. f 0 c ∷ f 1 c ∷ f 2 c ∷ f 3 c ∷ rest in
    column 0 (from 1 (from 2 (from 3 [])))
    (column 1 (from 2 (from 3 [])) (column 2 (from 3 []) (column 3 [] (All-nil IsByte))))

pub add_round_key-bytes : (k s : List ℕ) → All IsByte s → All IsByte (add_round_key k s)
unfolding add_round_key
add_round_key-bytes k s h = state_of-bytes _ (λ r c.
    xor_lt 8 (cell s r c) (word_byte (slice_index k c) r) (at-byte s (r + 4 * c) h)
    (at-byte (to_be_bytes w32 (slice_index k c)) r (bytes-high_first 4 (slice_index k c))))

pub aes-bytes : (key b : List ℕ) → All IsByte (aes key b)
unfolding aes cipher shift_rows sub_bytes
aes-bytes key b =
    let s : List ℕ = rounds (round_words key) b 13 in
    add_round_key-bytes (round_key (round_words key) 14) (shift_rows (sub_bytes s))
    (state_of-bytes (λ r c. cell (sub_bytes s) r ((c + r) % 4)) (λ r c.
    at-byte (sub_bytes s) (r + 4 * ((c + r) % 4))
    (state_of-bytes (λ r c. sbox (cell s r c)) (λ r c. sbox-byte (cell s r c)))))
