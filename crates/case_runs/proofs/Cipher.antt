-- AES-256 in Galois/Counter Mode from the round words and the hash key of a key, with the S-box by its table: the same
-- bytes, in far fewer steps of the checker.
use Rattle.std.proofs.Common.{◌≡◌, ℕ, zero, suc, ◌+◌, ◌/◌, Bool, true, false, List, [], ◌++◌, refl, sym, ap, ap₂}
use Rattle.std.specs.Prelude.{take, drop, length, replicate, bit_xor, slice_index, nat_lt, if◌then◌else◌}
use Rattle.std.specs.Int.{w128, from_be_bytes, to_be_bytes, div_ceil}
use Rattle.std.proofs.lemmas.Bool.{ltb-true}
use Rattle.aes_block.proofs.Entries.{SBOX, SBOX-sbox}
use Rattle.aes_block.specs.Aes.{Key, Block, Word, block_state, cell, round_key, round_words, sbox, sub_bytes}
use Rattle.aes_block.specs.Aes.{shift_rows, mix_columns, add_round_key, rounds, cipher, aes}
use Rattle.gcm_seal.specs.Gcm.{Bytes, Iv, Tag, BlockNumber, first_counter, counter, key_stream, combined_bytes}
use Rattle.gcm_seal.specs.Gcm.{masked_bytes, hash_key, hash_input, blocks, ghash, tag_of}

-- ---- the cipher

abbrev sbox_if : Bool → ℕ → ℕ
sbox_if in_table b = if in_table then slice_index SBOX b else sbox b

by_table : (b : ℕ) (in_table : Bool) → nat_lt b 256 ≡ in_table → sbox b ≡ sbox_if in_table b
by_table b true lt = sym (SBOX-sbox b (ltb-true b 256 lt))
by_table b false lt = refl

abbrev table_bytes : Block → Block
table_bytes s = block_state (λ r c. sbox_if (nat_lt (cell s r c) 256) (cell s r c))

bytes_are : (s t : Block) → s ≡ t → sub_bytes s ≡ table_bytes t
unfolding sub_bytes
bytes_are s t same i = block_state (λ r c. by_table (cell (same i) r c) (nat_lt (cell (same i) r c) 256) refl i)

abbrev table_rounds : List Word → Block → ℕ → Block
table_rounds ws s zero = add_round_key (round_key ws 0) s
table_rounds ws s (suc n) =
    add_round_key (round_key ws (suc n)) (mix_columns (shift_rows (table_bytes (table_rounds ws s n))))

rounds_are : (ws : List Word) (s : Block) (n : ℕ) → rounds ws s n ≡ table_rounds ws s n
unfolding rounds
rounds_are ws s zero = refl
rounds_are ws s (suc n) = ap (λ (t : Block). add_round_key (round_key ws (suc n)) (mix_columns (shift_rows t)))
    (bytes_are (rounds ws s n) (table_rounds ws s n) (rounds_are ws s n))

abbrev table_cipher : List Word → Block → Block
table_cipher ws s = add_round_key (round_key ws 14) (shift_rows (table_bytes (table_rounds ws s 13)))

aes_is : (k : Key) (ws : List Word) (b : Block) → round_words k ≡ ws → aes k b ≡ table_cipher ws b
unfolding aes cipher
aes_is k ws b words i = add_round_key (round_key (words i) 14)
    (shift_rows (bytes_are (rounds (words i) b 13) (table_rounds (words i) b 13) (rounds_are (words i) b 13) i))

pub hash_key_is : (k : Key) {ws : List Word} → round_words k ≡ ws
    → hash_key k ≡ from_be_bytes w128 (table_cipher ws (replicate 16 0))
unfolding hash_key
hash_key_is k {ws} words i = from_be_bytes w128 (aes_is k ws (replicate 16 0) words i)

-- ---- bodies and tags

abbrev table_stream : List Word → Iv → ℕ → Bytes
table_stream ws iv zero = []
table_stream ws iv (suc n) = table_stream ws iv n ++ table_cipher ws (counter iv (suc n))

stream_is : (k : Key) (ws : List Word) (iv : Iv) → round_words k ≡ ws → (n : ℕ)
    → key_stream k iv n ≡ table_stream ws iv n
unfolding key_stream
stream_is k ws iv words zero = refl
stream_is k ws iv words (suc n) =
    ap₂ (λ (xs ys : Bytes). xs ++ ys) (stream_is k ws iv words n) (aes_is k ws (counter iv (suc n)) words)

abbrev table_masked : List Word → Iv → ℕ → Bytes → Bytes
table_masked ws iv n xs = combined_bytes xs (drop n (table_stream ws iv (div_ceil (n + length xs) 16)))

pub masked_is : (k : Key) (iv : Iv) (n : ℕ) (xs : Bytes) {ws : List Word} → round_words k ≡ ws
    → masked_bytes k iv n xs ≡ table_masked ws iv n xs
unfolding masked_bytes
masked_is k iv n xs {ws} words i = combined_bytes xs (drop n (stream_is k ws iv words (div_ceil (n + length xs) 16) i))

abbrev table_tag : List Word → BlockNumber → Iv → Bytes → Bytes → Tag
table_tag ws h iv a c =
    let s = hash_input a c in
    take 12 (to_be_bytes w128 (bit_xor (ghash h (blocks s (length s / 16)))
    (from_be_bytes w128 (table_cipher ws (first_counter iv)))))

pub tag_is : (k : Key) (iv : Iv) (a c : Bytes) {ws : List Word} {h : BlockNumber} → round_words k ≡ ws
    → hash_key k ≡ h → tag_of k iv a c ≡ table_tag ws h iv a c
unfolding tag_of
tag_is k iv a c {ws} {h} words hash i =
    take 12 (to_be_bytes w128 (bit_xor (ghash (hash i) (blocks (hash_input a c) (length (hash_input a c) / 16)))
    (from_be_bytes w128 (aes_is k ws (first_counter iv) words i))))
