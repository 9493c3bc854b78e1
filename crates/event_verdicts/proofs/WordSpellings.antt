-- Numbers and bytes are written without a space.
use Rattle.std.proofs.Common.{rules, suc, true, nat_lt, slice_index, ◌<◌, ◌/◌, ◌%◌, ◌^◌, ℕ, List, [], ◌∷◌, refl, arith}
use Rattle.std.specs.Fmt.{decimal}
use Rattle.std.specs.Str.Parse.{AllDigits}
use Rattle.std.proofs.lemmas.Bool.{ltb-true, agree_below_at}
use Rattle.std.proofs.lemmas.Fmt.{decimal_is_IsNumeral}
use Rattle.std.proofs.lemmas.Str.Parse.{digit_from_value}
use Rattle.hex.specs.Hex.{encode_lower, encode_with, lower_digits, IsBytes}
use Rattle.ide_types.specs.Names.{Text}
use Rattle.event_verdicts.specs.Words.{bytes_word}
use Rattle.event_verdicts.proofs.Joins.{IsWord}

pub digits_word : (ds : Text) → AllDigits 10 ds → IsWord ds
digits_word [] h = tt
digits_word (d ∷ ds) h = (omega (arith, digit_from_value d h.0), digits_word ds h.1)

pub decimal_word : (n : ℕ) → n < 2 ^ 64 → IsWord (decimal n)
decimal_word n h = digits_word (decimal n) (decimal_is_IsNumeral n h).0.1

pub glyph : (k : ℕ) → k < 16 → 32 < slice_index lower_digits k
glyph k lt = ltb-true _ _ (agree_below_at (λ n. nat_lt 32 (slice_index lower_digits n)) (λ n. true) 16 k refl lt)

pub hex_word : (bs : List ℕ) → IsBytes bs → IsWord (encode_lower bs)
unfolding encode_with
hex_word [] h = tt
hex_word (b ∷ bs) h =
    let fits : b < 256 = h 0 in
    (glyph (b / 16) (omega arith), (glyph (b % 16) (omega arith), hex_word bs (λ k. h (suc k))))

pub bytes_are_word : (bs : List ℕ) → IsBytes bs → IsWord (bytes_word bs)
bytes_are_word [] h = search rules
bytes_are_word (b ∷ bs) h = hex_word (b ∷ bs) h
