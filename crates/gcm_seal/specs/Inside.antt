-- Only private functions, and what a type keeps of its private fields, cite this: GHASH block by block, as the code
-- computes it. Gcm says what GHASH is.
use Rattle.std.specs.Prelude.{◌≡◌, ℕ, zero, suc, ◌*◌, ◌/◌, ◌%◌, ◌^◌, ◌==◌, ◌<◌, slice_index, List, [], ◌∷◌, ◌++◌}
use Rattle.std.specs.Prelude.{drop, get_or, bit_xor, if◌then◌else◌, fold}
use Rattle.std.specs.Int.{w128, from_be_bytes, to_be_bytes}
use Rattle.gcm_seal.specs.Polynomials.{Polynomial, bits, polynomial}
use Rattle.gcm_seal.specs.Gcm.{Bytes, BlockNumber}
use Rattle.gcm_seal.specs.declared.ghash.Multiples.{Multiples}
use Rattle.gcm_seal.specs.declared.ghash.Row.{Row}
use Rattle.gcm_seal.specs.declared.ghash.Steps.{Steps}

-- x • b modulo 1 + x + x² + x⁷ + x¹²⁸, for a block as a number
unfoldable pub step_x : BlockNumber → BlockNumber
step_x b = bit_xor (if b % 2 == 1 then 0xe1 * 2 ^ 120 else 0) (b / 2)

-- the sum of xⁱ • k over the terms xⁱ of p
abbrev pub act : Polynomial → BlockNumber → BlockNumber
act [] k = 0
act (a ∷ p) k = bit_xor (if a then k else 0) (step_x (act p k))

-- xⁿ • b
unfoldable pub raised_block : ℕ → BlockNumber → BlockNumber
raised_block zero b = b
raised_block (suc n) b = step_x (raised_block n b)

-- the product of two blocks
unfoldable pub block_product : BlockNumber → BlockNumber → BlockNumber
block_product h v = act (polynomial v) h

-- the hash y after the blocks xs
abbrev pub hash_after_blocks : BlockNumber → BlockNumber → List BlockNumber → BlockNumber
hash_after_blocks h y xs = fold (λ y x. block_product h (bit_xor y x)) y xs

-- block i of a string, with zeros past its end
abbrev pub padded_block : Bytes → ℕ → BlockNumber
padded_block s i = from_be_bytes w128 (drop (16 * i) s)

-- the first n blocks of a string, with zeros past its end
unfoldable pub padded_blocks : Bytes → ℕ → List BlockNumber
padded_blocks s zero = []
padded_blocks s (suc n) = padded_blocks s n ++ padded_block s n ∷ []

-- byte j of a block, the highest the first
abbrev pub byte_of : ℕ → BlockNumber → ℕ
byte_of j b = slice_index (to_be_bytes w128 b) j

-- byte j of the product of h and the polynomial of a byte
abbrev pub byte_product : BlockNumber → ℕ → ℕ → ℕ
byte_product h j x = byte_of j (act (bits 8 x) h)

-- the sum of bytes, each moved up to its place: byte i times x⁸ⁱ
abbrev pub joined_bytes : List ℕ → BlockNumber
joined_bytes [] = 0
joined_bytes (b ∷ bs) = bit_xor (b * 2 ^ 120) (raised_block 8 (joined_bytes bs))

-- b, x • b, x² • b and x³ • b, as bytes
abbrev pub AreSteps : BlockNumber → Steps → Type 0
AreSteps b s =
    (s.once ≡ to_be_bytes w128 b) × (s.by_x ≡ to_be_bytes w128 (step_x b))
    × (s.by_x2 ≡ to_be_bytes w128 (step_x (step_x b))) × (s.by_x3 ≡ to_be_bytes w128 (step_x (step_x (step_x b))))

-- byte j of the multiples of b by the polynomials of 4 bits
abbrev pub IsTable : BlockNumber → ℕ → List ℕ → Type 0
IsTable b j table = (n : ℕ) → n < 16 → slice_index table n ≡ byte_of j (act (bits 4 n) b)

-- byte j of the multiples of h by the upper 4 bits of a byte, and by the lower
abbrev pub IsRow : BlockNumber → ℕ → Row → Type 0
IsRow h j row = IsTable h j row.upper × IsTable (raised_block 4 h) j row.lower

abbrev pub row_at : List Row → ℕ → Row
row_at rows j = get_or rows j (record { upper = []; lower = [] })

abbrev pub AreRows : BlockNumber → List Row → Type 0
AreRows h rows = (j : ℕ) → j < 16 → IsRow h j (row_at rows j)

-- the rows of h and of its powers
abbrev pub AreMultiples : BlockNumber → Multiples → Type 0
AreMultiples h m =
    let square = block_product h h in
    AreRows h m.first × AreRows square m.second × AreRows (block_product square h) m.third
    × AreRows (block_product square square) m.fourth

-- the products of four blocks with the powers of h, the fourth first, added up
abbrev pub sum_of_four : BlockNumber → BlockNumber → BlockNumber → BlockNumber → BlockNumber → BlockNumber
sum_of_four h a b c d =
    let square = block_product h h in
    bit_xor (bit_xor (block_product (block_product square square) a) (block_product square c))
    (bit_xor (block_product (block_product square h) b) (block_product h d))
