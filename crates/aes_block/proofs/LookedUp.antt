-- AES-256 with its S-box looked up in the table, which computes sooner: the same function.
use Rattle.std.proofs.Common.{◌≡◌, ℕ, zero, suc, ◌+◌, ◌-◌, ◌%◌, ◌/◌, ◌==◌, nat_lt, Bool, true, false}
use Rattle.std.proofs.Common.{if◌then◌else◌, List, [], ◌∷◌, ◌++◌, map, slice_index, bit_xor, refl, sym, ap, ◌∙◌}
use Rattle.std.specs.Int.{w32, from_be_bytes, to_be_bytes}
use Rattle.std.proofs.lemmas.Bool.{ltb-true}
use Rattle.aes_block.specs.Aes.{Word, Key, Block, block_state, cell, round_key, rot_word, rcon, key_words, temp, sbox}
use Rattle.aes_block.specs.Aes.{sub_bytes, shift_rows, mix_columns, add_round_key, sub_word, expansion, rounds}
use Rattle.aes_block.specs.Aes.{cipher, aes}
use Rattle.aes_block.proofs.Entries.{SBOX, SBOX-sbox}

abbrev pub looked_up : ℕ → ℕ
looked_up b = if nat_lt b 256 then slice_index SBOX b else sbox b

sbox-looked_up_as : (b : ℕ) (t : Bool) → nat_lt b 256 ≡ t → sbox b ≡ (if t then slice_index SBOX b else sbox b)
sbox-looked_up_as b true e = sym (SBOX-sbox b (ltb-true b 256 e))
sbox-looked_up_as b false e = refl

sbox-looked_up : (b : ℕ) → sbox b ≡ looked_up b
sbox-looked_up b = sbox-looked_up_as b (nat_lt b 256) refl

unfoldable pub looked_up_bytes : Block → Block
looked_up_bytes s = block_state (λ r c. looked_up (cell s r c))

sub_bytes-looked_up : (s : Block) → sub_bytes s ≡ looked_up_bytes s
unfolding sub_bytes looked_up_bytes
sub_bytes-looked_up s = λ i. block_state (λ r c. sbox-looked_up (cell s r c) i)

unfoldable pub looked_up_rounds : List Word → Block → ℕ → Block
looked_up_rounds ws s zero = add_round_key (round_key ws 0) s
looked_up_rounds ws s (suc n) =
    add_round_key (round_key ws (suc n)) (mix_columns (shift_rows (looked_up_bytes (looked_up_rounds ws s n))))

rounds-looked_up : (ws : List Word) (s : Block) (n : ℕ) → rounds ws s n ≡ looked_up_rounds ws s n
unfolding rounds looked_up_rounds
rounds-looked_up ws s zero = refl
rounds-looked_up ws s (suc n) =
    ap (λ t. add_round_key (round_key ws (suc n)) (mix_columns (shift_rows t)))
    (sub_bytes-looked_up (rounds ws s n) ∙ ap looked_up_bytes (rounds-looked_up ws s n))

unfoldable pub looked_up_cipher : List Word → Block → Block
looked_up_cipher ws s = add_round_key (round_key ws 14) (shift_rows (looked_up_bytes (looked_up_rounds ws s 13)))

cipher-looked_up : (ws : List Word) (s : Block) → cipher ws s ≡ looked_up_cipher ws s
unfolding cipher looked_up_cipher
cipher-looked_up ws s = ap (λ t. add_round_key (round_key ws 14) (shift_rows t))
    (sub_bytes-looked_up (rounds ws s 13) ∙ ap looked_up_bytes (rounds-looked_up ws s 13))

unfoldable pub looked_up_word : Word → Word
looked_up_word w = from_be_bytes w32 (map looked_up (to_be_bytes w32 w))

sub_word-looked_up : (w : Word) → sub_word w ≡ looked_up_word w
unfolding sub_word looked_up_word
sub_word-looked_up w = λ i. from_be_bytes w32 (map (λ b. sbox-looked_up b i) (to_be_bytes w32 w))

unfoldable pub looked_up_temp : Word → ℕ → Word
looked_up_temp t i =
    if i % 8 == 0 then bit_xor (looked_up_word (rot_word t)) (rcon (i / 8))
    else if i % 8 == 4 then looked_up_word t
    else t

temp-looked_up : (t : Word) (n : ℕ) → temp t n ≡ looked_up_temp t n
unfolding temp looked_up_temp
temp-looked_up t n = λ i.
    if n % 8 == 0 then bit_xor (sub_word-looked_up (rot_word t) i) (rcon (n / 8))
    else if n % 8 == 4 then sub_word-looked_up t i
    else t

unfoldable pub looked_up_next : List Word → ℕ → Word
looked_up_next ws i = bit_xor (slice_index ws (i - 8)) (looked_up_temp (slice_index ws (i - 1)) i)

unfoldable pub looked_up_expansion : Key → ℕ → List Word
looked_up_expansion k zero = key_words k 8
looked_up_expansion k (suc n) =
    looked_up_expansion k n ++ looked_up_next (looked_up_expansion k n) (n + 8) ∷ []

pub expansion-looked_up : (k : Key) (n : ℕ) → expansion k n ≡ looked_up_expansion k n
unfolding expansion looked_up_expansion looked_up_next
expansion-looked_up k zero = refl
expansion-looked_up k (suc n) =
    (λ i. expansion k n ++ bit_xor (slice_index (expansion k n) (n + 8 - 8))
    (temp-looked_up (slice_index (expansion k n) (n + 8 - 1)) (n + 8) i) ∷ [])
    ∙ ap (λ ws. ws ++ looked_up_next ws (n + 8) ∷ []) (expansion-looked_up k n)

unfoldable pub looked_up_aes : Key → Block → Block
looked_up_aes k b = looked_up_cipher (looked_up_expansion k 52) b

pub aes-looked_up : (k : Key) (b : Block) → aes k b ≡ looked_up_aes k b
unfolding aes looked_up_aes
aes-looked_up k b = ap (λ ws. cipher ws b) (expansion-looked_up k 52) ∙ cipher-looked_up (looked_up_expansion k 52) b
