-- AES-256 in Galois/Counter Mode (SP 800-38D), with an IV of 12 bytes and a tag of 12 bytes, as
-- functions on lists of bytes.
use Rattle.std.specs.Prelude.{ℕ, zero, suc, ◌+◌, ◌-◌, ◌*◌, ◌/◌, ◌%◌, ◌^◌, List, [], ◌∷◌, ◌++◌, length, take, drop, Bool}
use Rattle.std.specs.Prelude.{replicate, bit_xor, slice_range, bytes_eq}
use Rattle.std.specs.Int.{w32, w64, w128, from_be_bytes, to_be_bytes, div_ceil}
use Rattle.aes_block.specs.Aes.{Key, Block, aes}
use Rattle.gcm_seal.specs.Polynomials.{Polynomial, plus, product, power, polynomial, number_of_bits, remainder}

-- additional data, a plaintext or a ciphertext
abbrev pub Bytes : Type 0
Bytes = List ℕ

-- an initialization vector of 12 bytes
abbrev pub Iv : Type 0
Iv = List ℕ

-- a tag of 12 bytes
abbrev pub Tag : Type 0
Tag = List ℕ

-- the number that the 16 bytes of a block spell, the highest first
abbrev pub BlockNumber : Type 0
BlockNumber = ℕ

-- J₀: the IV, 31 zero bits and a one (7.1, step 2, for an IV of 96 bits)
abbrev pub first_counter : Iv → Block
first_counter iv = iv ++ 0 ∷ 0 ∷ 0 ∷ 1 ∷ []

-- inc₃₂: the last 4 bytes of a block, counted up by one (6.2)
abbrev pub increment : Block → Block
increment b = take 12 b ++ to_be_bytes w32 ((from_be_bytes w32 (drop 12 b) + 1) % 2 ^ 32)

-- J₀ after n increments
unfoldable pub counter : Iv → ℕ → Block
counter iv zero = first_counter iv
counter iv (suc n) = increment (counter iv n)

-- the first n blocks of the key stream: the cipher's output at the counter blocks from inc₃₂(J₀) on
-- (6.5, and 7.1, step 3)
unfoldable pub key_stream : Key → Iv → ℕ → Bytes
key_stream key iv zero = []
key_stream key iv (suc n) = key_stream key iv n ++ aes key (counter iv (suc n))

-- the bytes of two strings combined, as many as the first has
abbrev pub combined_bytes : Bytes → Bytes → Bytes
combined_bytes [] ks = []
combined_bytes (x ∷ xs) [] = x ∷ xs
combined_bytes (x ∷ xs) (k ∷ ks) = bit_xor x k ∷ combined_bytes xs ks

-- GCTR from inc₃₂(J₀) on, of a piece of its input (6.5): the bytes that stand at place n of the
-- plaintext or of the ciphertext, combined with the key stream from its byte n on
unfoldable pub masked_bytes : Key → Iv → ℕ → Bytes → Bytes
masked_bytes key iv n xs = combined_bytes xs (drop n (key_stream key iv (div_ceil (n + length xs) 16)))

-- GCTR from inc₃₂(J₀) on, of a whole plaintext or ciphertext (6.5)
abbrev pub gctr : Key → Iv → Bytes → Bytes
gctr key iv xs = masked_bytes key iv 0 xs

-- H, the hash subkey: the cipher's output at the zero block (7.1, step 1)
unfoldable pub hash_key : Key → BlockNumber
hash_key key = from_be_bytes w128 (aes key (replicate 16 0))

-- the zeros that fill up the last block of a string (7.1, step 4)
abbrev pub padding_zeros : Bytes → Bytes
padding_zeros s = replicate (16 * div_ceil (length s) 16 - length s) 0

-- what is hashed: the additional data and the ciphertext, each with its padding, and their lengths
-- in bits (7.1, step 5)
abbrev pub hash_input : Bytes → Bytes → Bytes
hash_input a c =
    (a ++ padding_zeros a) ++ (c ++ padding_zeros c)
    ++ (to_be_bytes w64 (8 * length a) ++ to_be_bytes w64 (8 * length c))

-- block i of a string
abbrev pub block : Bytes → ℕ → BlockNumber
block s i = from_be_bytes w128 (slice_range s (16 * i) (16 * i + 16))

-- the first n blocks of a string
unfoldable pub blocks : Bytes → ℕ → List BlockNumber
blocks s zero = []
blocks s (suc n) = blocks s n ++ block s n ∷ []

-- X₁ • Hᵐ + X₂ • Hᵐ⁻¹ + … + Xₘ • H for the blocks X₁, …, Xₘ (6.4)
abbrev pub sum_of_products : BlockNumber → List BlockNumber → Polynomial
sum_of_products h [] = []
sum_of_products h (x ∷ xs) =
    plus (product (polynomial x) (power (polynomial h) (suc (length xs)))) (sum_of_products h xs)

-- the sum, reduced: GHASH of the blocks under H (6.4)
unfoldable pub ghash : BlockNumber → List BlockNumber → BlockNumber
ghash h xs = number_of_bits (remainder (sum_of_products h xs))

-- the tag of additional data and a ciphertext: the first 12 bytes of GCTR from J₀ on of their hash,
-- which is one block, combined with the cipher's output at J₀ (7.1, steps 5 and 6)
unfoldable pub tag_of : Key → Iv → Bytes → Bytes → Tag
tag_of key iv a c =
    let s = hash_input a c in
    take 12 (to_be_bytes w128 (bit_xor (ghash (hash_key key) (blocks s (length s / 16)))
    (from_be_bytes w128 (aes key (first_counter iv)))))

-- the ciphertext of a plaintext (7.1, step 3)
unfoldable pub ciphertext_of : Key → Iv → Bytes → Bytes
ciphertext_of key iv p = gctr key iv p

-- the ciphertext and the tag of additional data and a plaintext (7.1)
unfoldable pub seal_of : Key → Iv → Bytes → Bytes → Bytes × Tag
seal_of key iv a p = (ciphertext_of key iv p, tag_of key iv a (ciphertext_of key iv p))

-- the plaintext of a ciphertext (7.2, step 4), which is answered only if the tag verifies (step 8)
unfoldable pub open_of : Key → Iv → Bytes → Bytes
open_of key iv c = gctr key iv c

-- the tag is the one of the additional data and the ciphertext (7.2, steps 5 to 8)
unfoldable pub verifies : Key → Iv → Bytes → Bytes → Tag → Bool
verifies key iv a c tag = bytes_eq tag (tag_of key iv a c)
