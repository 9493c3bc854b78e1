-- Numbers on the command line: a decimal number passes, and is read as it is written.
use Rattle.std.proofs.Common.{◌≡◌, ◌<◌, ◌≤◌, ℕ, [], ◌∷◌, Bool, true, false, refl, arith}
use Rattle.std.proofs.lemmas.Fmt.{decimal_is_IsNumeral}
use Rattle.std.proofs.lemmas.Str.Parse.{digit_at, digit_from_value, without_leading_plus_none}
use Rattle.std.specs.Prelude.{◌^◌, if◌then◌else◌}
use Rattle.std.specs.Fmt.{decimal}
use Rattle.std.specs.Str.Parse.{IsNumeral, digits_value, without_leading_plus}
use Rattle.clap.specs.Words.{IsUnsignedIn, Text}
use Rattle.clap.specs.ValueTests.{is_unsigned_in}
use Rattle.clap.specs.declared.builder.value_parser.ValueParser.TheVariants as vp
use Rattle.clap.proofs.ValueTestLemmas.{Accepts-accepts, accepts-Accepts}
use Rattle.cli_words.specs.Words.{IsName, number_of}

pub numeral_is_name : (text : Text) → IsNumeral 10 text → IsName text
numeral_is_name [] h = absurd (omega arith)
numeral_is_name (x ∷ xs) h = let digit = digit_from_value x h.1.0 in grind arith

pub decimal_is_name : (n : ℕ) → n < 2 ^ 64 → IsName (decimal n)
decimal_is_name n wide = numeral_is_name (decimal n) (decimal_is_IsNumeral n wide).0

-- a decimal number has no sign
plain_decimal : (n : ℕ) → n < 2 ^ 64 → without_leading_plus (decimal n) ≡ decimal n
plain_decimal n wide =
    let d = decimal_is_IsNumeral n wide in
    let digit = digit_at (decimal n) 0 d.0.1 d.0.0 in
    without_leading_plus_none (decimal n) (λ plus. absurd (omega arith))

pub decimal_passes : (low high n : ℕ) → n < 2 ^ 64 → low ≤ n → n ≤ high → is_unsigned_in low high (decimal n) ≡ true
decimal_passes low high n wide least most =
    let d = decimal_is_IsNumeral n wide in
    Accepts-accepts false (vp.Unsigned low high) (decimal n)
    (rw (plain_decimal n wide, d.1) (d.0, wide, least, most))

pub decimal_is_read : (low high n : ℕ) → n < 2 ^ 64 → low ≤ n → n ≤ high → number_of low high (decimal n) ≡ n
decimal_is_read low high n wide least most =
    rw (decimal_passes low high n wide least most, plain_decimal n wide, (decimal_is_IsNumeral n wide).1) refl

-- ---- what is read of a text

abbrev pub IsRead : Text → Type 0
IsRead text = IsNumeral 10 (without_leading_plus text) × (digits_value 10 (without_leading_plus text) < 2 ^ 32)

pub number_is_read : (low high : ℕ) (text : Text) (n : ℕ)
    → IsRead text × (n ≡ digits_value 10 (without_leading_plus text)) → low ≤ n → n ≤ high → n ≡ number_of low high text
number_is_read low high text n h least most =
    let passes : is_unsigned_in low high text ≡ true = Accepts-accepts false (vp.Unsigned low high) text
    (h.0.0, omega (arith, h.0.1), omega (arith, h.1, least), omega (arith, h.1, most)) in
    rw passes h.1

refused : (low high : ℕ) (text : Text) (b : Bool) → is_unsigned_in low high text ≡ b
    → (IsUnsignedIn low high text → ⊥) → low ≡ (if b then digits_value 10 (without_leading_plus text) else low)
refused low high text true passes none = absurd (none (accepts-Accepts false (vp.Unsigned low high) text passes))
refused low high text false passes none = refl

pub nothing_is_read : (low high : ℕ) (text : Text) → high < 2 ^ 32 → (IsRead text → ⊥) → low ≡ number_of low high text
nothing_is_read low high text narrow none = refused low high text (is_unsigned_in low high text) refl
    (λ h. none (h.0, omega (arith, h.3, narrow)))
