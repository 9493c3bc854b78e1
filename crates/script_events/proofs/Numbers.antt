-- Digits that std reads.
use Rattle.std.proofs.Common.{zero, suc, ◌≡◌, ◌<◌, ◌≤◌, ◌^◌, ◌&&◌, ◌==◌, ℕ, nat_lt, nat_le, Bool, true, false, [], ◌∷◌}
use Rattle.std.proofs.Common.{length, slice_index, Some, None, Result, Ok, Err, refl, sym, arith, inl, inr}
use Rattle.std.specs.Prelude.{if◌then◌else◌}
use Rattle.std.specs.List.{list_all}
use Rattle.std.specs.Result.{result_ok}
use Rattle.std.specs.Char.{digit_value}
use Rattle.std.specs.Str.{IsUtf8}
use Rattle.std.specs.Str.Parse.{AllDigits, IsNumeral, digits_value, ParsesUnsigned}
use Rattle.std.proofs.lemmas.Str.{IsUtf8-from_ascii}
use Rattle.std.proofs.lemmas.Bool.{and_parts, cases_Bool, ltb-true, ltb-false, lt-ltb, leb-true, le-leb}
use Rattle.ide_types.specs.Names.{Text}
use Rattle.script_events.specs.Words.{is_digit, some_digits_value}

-- ---- digits as a test and as facts

test_digits : (radix : ℕ) (ds : Text) → AllDigits radix ds → list_all (is_digit radix) ds ≡ true
test_digits radix [] all = refl
test_digits radix (d ∷ ds) all = rw (lt-ltb (digit_value d) radix all.0, test_digits radix ds all.1) refl

all_digits : (radix : ℕ) (ds : Text) → list_all (is_digit radix) ds ≡ true → AllDigits radix ds
all_digits radix [] test = tt
all_digits radix (d ∷ ds) test =
    let parts = and_parts (is_digit radix d) (list_all (is_digit radix) ds) test in
    (ltb-true (digit_value d) radix parts.0, all_digits radix ds parts.1)

-- ---- digits are ASCII

not_below : (c n : ℕ) → n ≤ c → nat_lt c n ≡ false
not_below c n le = elim (cases_Bool (nat_lt c n)) [
  | inl less ↦ absurd (omega (arith, ltb-true c n less))
  | inr more ↦ more
]

above_letters : (c : ℕ) → 123 ≤ c → digit_value c ≡ 36
above_letters c le =
    rw (
      not_below c 48 (omega (arith, le)),
      not_below c 58 (omega (arith, le)),
      not_below c 65 (omega (arith, le)),
      not_below c 91 (omega (arith, le)),
      not_below c 97 (omega (arith, le)),
      not_below c 123 le,
    ) refl

small_digit : (c : ℕ) → digit_value c < 36 → c < 128
small_digit c lt = elim (cases_Bool (nat_lt c 123)) [
  | inl less ↦ omega (arith, ltb-true c 123 less)
  | inr more ↦ absurd (let is = above_letters c (ltb-false c 123 more) in omega (arith, is, lt))
]

ascii_digits : (radix : ℕ) (ds : Text) → radix ≤ 36 → AllDigits radix ds → (i : ℕ) → slice_index ds i < 128
ascii_digits radix [] few all zero = omega arith
ascii_digits radix [] few all (suc i) = omega arith
ascii_digits radix (d ∷ ds) few all zero = small_digit d (omega (arith, few, all.0))
ascii_digits radix (d ∷ ds) few all (suc i) = ascii_digits radix ds few all.1 i

-- ---- what std reads

-- a numeral below 2 ^ 64
abbrev IsRead : ℕ → Text → Type 0
IsRead radix ds = IsNumeral radix ds × (digits_value radix ds < 2 ^ 64)

is_value : (radix : ℕ) (ds : Text) → IsRead radix ds → some_digits_value radix ds ≡ Some (digits_value radix ds)
is_value radix ds read =
    rw (
      le-leb 1 (length ds) (omega (arith, read.0.0)),
      test_digits radix ds read.0.1,
      lt-ltb (digits_value radix ds)
          (2 ^ 64) read.1,
    ) refl

no_value : (radix : ℕ) (ds : Text) → ¬ (IsRead radix ds) → some_digits_value radix ds ≡ None
no_value radix ds none = by_tests (nat_le 1 (length ds)) (list_all (is_digit radix) ds)
    (nat_lt (digits_value radix ds) (2 ^ 64)) refl refl refl
  where
    by_tests : (a b c : Bool) → nat_le 1 (length ds) ≡ a → list_all (is_digit radix) ds ≡ b
        → nat_lt (digits_value radix ds) (2 ^ 64) ≡ c
        → (if a && b && c then Some (digits_value radix ds) else None) ≡ None
    by_tests true true true x y z = absurd
        (none (
          (omega (arith, leb-true 1 (length ds) x), all_digits radix ds y),
          ltb-true (digits_value radix ds)
              (2 ^ 64) z,
        ))
    by_tests true true false x y z = refl
    by_tests true false c x y z = refl
    by_tests false b c x y z = refl

-- what std reads of an unsigned text
pub value_read : {E : Type 0} (radix : ℕ) (ds : Text) (r : Result ℕ E) → (slice_index ds 0 == 43) ≡ false
    → ParsesUnsigned 64 radix ds r → result_ok r ≡ some_digits_value radix ds
value_read radix ds (Ok n) plain reads =
    let is = rw plain at reads in
    rw is.1 (sym (is_value radix ds is.0))
value_read radix ds (Err e) plain reads =
    let is = rw plain at reads in
    sym (no_value radix ds is)

-- what is no text is no number
pub no_text : (radix : ℕ) (ds : Text) → radix ≤ 36 → ¬ (IsUtf8 ds) → None ≡ some_digits_value radix ds
no_text radix ds few none = sym
    (no_value radix ds (λ read. none (IsUtf8-from_ascii ds (ascii_digits radix ds few read.0.1))))
