-- Numbers and bytes as words, and that they are read back.
use Rattle.std.proofs.Common.{◌≡◌, refl, ℕ, zero, suc, ◌/◌, ◌%◌, ◌<◌, ◌≤◌, ◌^◌, ◌==◌, ◌&&◌, nat_le, Bool, true, false}
use Rattle.std.proofs.Common.{List, [], ◌∷◌, length, Some, arith, codes, slice_index, lit≤}
use Rattle.std.specs.Prelude.{nat_eq}
use Rattle.std.specs.List.{AllByRecursion, list_all, starts_with}
use Rattle.std.proofs.lemmas.List.Sums.{AllPass-from_list_all}
use Rattle.std.specs.Char.{digit_value}
use Rattle.std.specs.Fmt.{decimal}
use Rattle.std.specs.Str.{bytes_eq}
use Rattle.std.specs.Str.Parse.{AllDigits}
use Rattle.std.proofs.lemmas.Bool.{lt-ltb, le-leb}
use Rattle.std.proofs.lemmas.Bool.Decides.{nat_tests}
use Rattle.std.proofs.lemmas.Fmt.{decimal_is_IsNumeral, length-decimal-le}
use Rattle.std.proofs.lemmas.Str.Parse.{digit_from_value}
use Rattle.hex.specs.Hex.{encode_lower, encode_with, lower_digits, IsBytes}
use Rattle.hex.proofs.HexLemmas.{decode_of-encode_lower, length-encode_with}
use Rattle.ide_types.specs.Names.{Text}
use Rattle.script_events.specs.Words.{is_digit, number_of_word, bytes_in}
use Rattle.history_events.proofs.Words.{is_glyph, IsWord}

-- ---- decimal numbers

digit_glyph : (c : ℕ) → digit_value c < 10 → is_glyph c ≡ true
digit_glyph c small =
    let within = digit_from_value c small in
    rw (le-leb 33 c (omega (arith, within)), le-leb c 126 (omega (arith, within))) refl

digit_glyphs : (ds : Text) → AllDigits 10 ds → list_all is_glyph ds ≡ true
digit_glyphs [] all = refl
digit_glyphs (d ∷ ds) all = rw (digit_glyph d all.0, digit_glyphs ds all.1) refl

are_digits : (ds : Text) → AllDigits 10 ds → list_all (is_digit 10) ds ≡ true
are_digits [] all = refl
are_digits (d ∷ ds) all = rw (lt-ltb (digit_value d) 10 all.0, are_digits ds all.1) refl

pub decimal_word : (n : ℕ) → n < 2 ^ 64 → IsWord (decimal n)
decimal_word n few =
    let numeral = decimal_is_IsNumeral n few in
    record { some = omega (arith, numeral.0.0); glyphs = digit_glyphs (decimal n) numeral.0.1 }

pub decimal_short : (n : ℕ) → n < 2 ^ 64 → length (decimal n) ≤ 20
decimal_short n few = length-decimal-le 20 n (lit≤ tt) (omega (arith, few)) few

and_false : (b : Bool) → (b && false) ≡ false
and_false true = refl
and_false false = refl

-- x is no digit
x_apart : (c : ℕ) → digit_value c < 10 → (120 == c) ≡ false
x_apart c small = let within = digit_from_value c small in grind (arith, nat_tests)

plain_start : (ds : Text) → AllDigits 10 ds → starts_with nat_eq ds (codes "0x") ≡ false
plain_start [] all = refl
plain_start (a ∷ []) all = and_false _
plain_start (a ∷ b ∷ ds) all = rw (x_apart b all.1.0) (and_false _)

pub number_back : (n : ℕ) → n < 2 ^ 64 → number_of_word (decimal n) ≡ Some n
unfolding number_of_word
number_back n few =
    let numeral = decimal_is_IsNumeral n few in
    let some : nat_le 1 (length (decimal n)) ≡ true = le-leb 1 (length (decimal n)) (omega (arith, numeral.0.0)) in
    let short : nat_le (length (decimal n)) 20 ≡ true = le-leb (length (decimal n)) 20 (decimal_short n few) in
    rw (
      plain_start (decimal n) numeral.0.1,
      short,
      some,
      are_digits (decimal n) numeral.0.1,
      numeral.1,
      lt-ltb n (2 ^ 64) few,
    ) refl

-- ---- bytes

digit_at : (d : ℕ) → d < 16 → is_glyph (slice_index lower_digits d) ≡ true
digit_at d lt = AllPass-from_list_all is_glyph lower_digits refl d 0 lt

pub hex_glyphs : (bs : List ℕ) → AllByRecursion (λ b. b < 256) bs → list_all is_glyph (encode_lower bs) ≡ true
unfolding encode_with
hex_glyphs [] all = refl
hex_glyphs (b ∷ bs) all =
    let low = all.0 in
    rw (
      digit_at (b / 16) (omega (arith, low)),
      digit_at (b % 16) (omega arith),
      hex_glyphs bs all.1,
    ) refl

pub hex_word : (b : ℕ) (bs : List ℕ) → AllByRecursion (λ b. b < 256) (b ∷ bs) → IsWord (encode_lower (b ∷ bs))
hex_word b bs all =
    let long = length-encode_with lower_digits (b ∷ bs) in
    record { some = omega (arith, long); glyphs = hex_glyphs (b ∷ bs) all }

pub are_bytes : (bs : List ℕ) → AllByRecursion (λ b. b < 256) bs → IsBytes bs
are_bytes [] all i = omega arith
are_bytes (b ∷ bs) all zero = all.0
are_bytes (b ∷ bs) all (suc i) = are_bytes bs all.1 i

-- two digits are no single sign
no_sign : (a b : ℕ) (w : Text) → bytes_eq (a ∷ b ∷ w) (codes "-") ≡ false
no_sign a b w = and_false _

signless : (b : ℕ) (bs : List ℕ) → bytes_eq (encode_lower (b ∷ bs)) (codes "-") ≡ false
unfolding encode_with
signless b bs = no_sign (slice_index lower_digits (b / 16)) (slice_index lower_digits (b % 16)) (encode_lower bs)

pub bytes_back : (b : ℕ) (bs : List ℕ) → AllByRecursion (λ b. b < 256) (b ∷ bs)
    → bytes_in (encode_lower (b ∷ bs)) ≡ Some (b ∷ bs)
unfolding bytes_in
bytes_back b bs all = rw (signless b bs, decode_of-encode_lower (b ∷ bs) (are_bytes (b ∷ bs) all)) refl
