-- Only private functions, and what a type keeps of its private fields, cite this: the state as four words, a column
-- each, and the round keys, as the code keeps them. Aes says what the cipher is.
use Rattle.std.specs.Prelude.{ℕ, ◌/◌, ◌%◌, ◌^◌, List, [], ◌∷◌, ◌++◌, slice_index}
use Rattle.std.specs.Int.{w32, from_be_bytes, to_be_bytes}
use Rattle.aes_block.specs.Aes.{Block, add_round_key, mix_columns, shift_rows, sub_bytes}

-- the word of four bytes, highest first
abbrev pub word_of : ℕ → ℕ → ℕ → ℕ → ℕ
word_of a b c d = from_be_bytes w32 (a ∷ b ∷ c ∷ d ∷ [])

-- the state of four words
unfoldable pub spread : List ℕ → List ℕ
spread s =
    to_be_bytes w32 (slice_index s 0) ++ (to_be_bytes w32 (slice_index s 1)
    ++ (to_be_bytes w32 (slice_index s 2) ++ to_be_bytes w32 (slice_index s 3)))

-- the four words of a number of 128 bits, highest first
abbrev pub words_of : ℕ → List ℕ
words_of n = n / 2 ^ 96 % 2 ^ 32 ∷ n / 2 ^ 64 % 2 ^ 32 ∷ n / 2 ^ 32 % 2 ^ 32 ∷ n % 2 ^ 32 ∷ []

-- the block after a round with the words k
abbrev pub after_round : List ℕ → Block → Block
after_round k b = add_round_key k (mix_columns (shift_rows (sub_bytes b)))
