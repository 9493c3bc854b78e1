-- Only private functions cite this: the S-box by look-ups of 4 bits (M. Hamburg, Accelerating AES with vector permute
-- instructions, 2009). A byte is kept as its code, the two parts, of 4 bits each, of an element of a field of degree 2
-- over one of 16 elements; inverses come from tables of 16 entries. A place from 128 on stands for no entry, and
-- gives 0.
use Rattle.std.specs.Prelude.{◌≡◌, ◌<◌, ℕ, Bool, length, map, ◌/◌, List, [], ◌∷◌, ◌++◌, get_or, cond, leb, ltb, bit_and}
use Rattle.std.specs.Prelude.{bit_xor, ◌||◌}
use Rattle.aes_block.specs.declared.RoundKey.{RoundKey}
use mir.Val.{Fits}
use mir.Syntax.{w8}
use lib.Lanes.{Each1}
use Rattle.aes_block.specs.Aes.{round_key}
use Rattle.aes_block.specs.Inside.{spread}

abbrev pub inverses : List ℕ
inverses = 128 ∷ 1 ∷ 8 ∷ 13 ∷ 15 ∷ 6 ∷ 5 ∷ 14 ∷ 2 ∷ 12 ∷ 11 ∷ 10 ∷ 9 ∷ 3 ∷ 7 ∷ 4 ∷ []

abbrev pub scaled_values : List ℕ
scaled_values = 128 ∷ 7 ∷ 11 ∷ 15 ∷ 6 ∷ 10 ∷ 4 ∷ 1 ∷ 9 ∷ 8 ∷ 5 ∷ 2 ∷ 12 ∷ 14 ∷ 13 ∷ 3 ∷ []

abbrev pub code_low : List ℕ
code_low = 0 ∷ 112 ∷ 42 ∷ 90 ∷ 152 ∷ 232 ∷ 178 ∷ 194 ∷ 8 ∷ 120 ∷ 34 ∷ 82 ∷ 144 ∷ 224 ∷ 186 ∷ 202 ∷ []

abbrev pub code_high : List ℕ
code_high = 0 ∷ 77 ∷ 124 ∷ 49 ∷ 125 ∷ 48 ∷ 1 ∷ 76 ∷ 129 ∷ 204 ∷ 253 ∷ 176 ∷ 252 ∷ 177 ∷ 128 ∷ 205 ∷ []

abbrev pub once_first : List ℕ
once_first = 0 ∷ 62 ∷ 80 ∷ 203 ∷ 143 ∷ 225 ∷ 155 ∷ 177 ∷ 68 ∷ 245 ∷ 42 ∷ 20 ∷ 110 ∷ 122 ∷ 223 ∷ 165 ∷ []

abbrev pub once_second : List ℕ
once_second = 0 ∷ 35 ∷ 226 ∷ 250 ∷ 21 ∷ 212 ∷ 24 ∷ 54 ∷ 239 ∷ 217 ∷ 46 ∷ 13 ∷ 193 ∷ 204 ∷ 247 ∷ 59 ∷ []

abbrev pub twice_first : List ℕ
twice_first = 0 ∷ 36 ∷ 113 ∷ 11 ∷ 198 ∷ 147 ∷ 122 ∷ 226 ∷ 205 ∷ 47 ∷ 152 ∷ 188 ∷ 85 ∷ 233 ∷ 183 ∷ 94 ∷ []

abbrev pub twice_second : List ℕ
twice_second = 0 ∷ 41 ∷ 225 ∷ 10 ∷ 64 ∷ 136 ∷ 235 ∷ 105 ∷ 74 ∷ 35 ∷ 130 ∷ 171 ∷ 200 ∷ 99 ∷ 161 ∷ 194 ∷ []

abbrev pub last_first : List ℕ
last_first = 0 ∷ 199 ∷ 189 ∷ 111 ∷ 23 ∷ 109 ∷ 210 ∷ 208 ∷ 120 ∷ 168 ∷ 2 ∷ 197 ∷ 122 ∷ 191 ∷ 170 ∷ 21 ∷ []

abbrev pub last_second : List ℕ
last_second = 0 ∷ 106 ∷ 187 ∷ 95 ∷ 165 ∷ 116 ∷ 228 ∷ 207 ∷ 250 ∷ 53 ∷ 43 ∷ 65 ∷ 209 ∷ 144 ∷ 30 ∷ 142 ∷ []

-- what a look-up at a place gives
abbrev pub entry_of : List ℕ → ℕ → ℕ
entry_of table j = cond (leb 128 j) 0 (get_or table j 0)

-- a place that a look-up may be given
abbrev pub is_lookup_place : ℕ → Bool
is_lookup_place j = leb 128 j || ltb j 16

abbrev pub low : ℕ → ℕ
low x = bit_and x 15

abbrev pub high : ℕ → ℕ
high x = x / 16

-- the code of a byte
unfoldable pub code : ℕ → ℕ
code x = bit_xor (entry_of code_low (low x)) (entry_of code_high (high x))

abbrev pub nibble_sum : ℕ → ℕ
nibble_sum x = bit_xor (low x) (high x)

abbrev pub first_place : ℕ → ℕ
first_place x = bit_xor (entry_of inverses (high x)) (entry_of scaled_values (low x))

abbrev pub second_place : ℕ → ℕ
second_place x = bit_xor (entry_of inverses (nibble_sum x)) (entry_of scaled_values (low x))

-- the two places at which the S-box of a code is looked up
unfoldable pub first_part : ℕ → ℕ
first_part x = bit_xor (entry_of inverses (first_place x)) (nibble_sum x)

unfoldable pub second_part : ℕ → ℕ
second_part x = bit_xor (entry_of inverses (second_place x)) (high x)

-- the S-box of a code but for its constant: as a byte, as a code, and twice it as a code
unfoldable pub last_of : ℕ → ℕ
last_of x = bit_xor (entry_of last_first (first_part x)) (entry_of last_second (second_part x))

unfoldable pub once_of : ℕ → ℕ
once_of x = bit_xor (entry_of once_first (first_part x)) (entry_of once_second (second_part x))

unfoldable pub twice_of : ℕ → ℕ
twice_of x = bit_xor (entry_of twice_first (first_part x)) (entry_of twice_second (second_part x))

-- a vector of 16 bytes
abbrev pub IsVector : List ℕ → Type 0
IsVector v = (length v ≡ 16) × Each1 (Fits w8) v

-- v has the codes of the block s
abbrev pub IsCoded : List ℕ → List ℕ → Type 0
IsCoded s v = IsVector s × (v ≡ map code s)

-- v has the codes of the blocks s and t, one after the other
abbrev pub AreCoded : List ℕ → List ℕ → List ℕ → Type 0
AreCoded s t v = IsVector s × IsVector t × (v ≡ map code s ++ map code t)

-- a byte of the words of a round, as a round with MixColumns and the last round add it: with the constant of the S-box
unfoldable pub key_code : ℕ → ℕ
key_code k = code (bit_xor k 0x63)

abbrev pub last_key : ℕ → ℕ
last_key k = bit_xor k 0x63

abbrev pub bytes_at : List RoundKey → ℕ → List ℕ
bytes_at keys n = (get_or keys n (record { bytes = [] })).bytes

-- the words of each round, as they are added
abbrev pub AreRoundKeys : List ℕ → List RoundKey → Type 0
AreRoundKeys words keys =
    (bytes_at keys 0 ≡ map code (spread (round_key words 0)))
    × ((n : ℕ) → 0 < n → n < 14 → bytes_at keys n ≡ map key_code (spread (round_key words n)))
    × (bytes_at keys 14 ≡ map last_key (spread (round_key words 14)))
