-- Strings of hexadecimal digits are printed between quotes as they are.
use Rattle.std.proofs.Common.{◌≡◌, refl, ℕ, ◌/◌, ◌%◌, ◌<◌, ◌==◌, ◌&&◌, Bool, true, false}
use Rattle.std.proofs.Common.{not, List, [], ◌∷◌, ◌++◌, arith, slice_index}
use Rattle.std.specs.List.{AllByRecursion, list_all, list_any}
use Rattle.std.proofs.lemmas.Bool.{and_parts}
use Rattle.std.proofs.lemmas.List.Sums.{AllPass-from_list_all}
use Rattle.hex.specs.Hex.{encode_lower, encode_with, lower_digits}
use Rattle.toml_writer.specs.Text.{encoding_of, escaped, has, is_control, needs_escape, quotes_after, string_text}
use Rattle.ide_types.specs.Names.{Text}

-- no character that a basic string escapes
unfoldable pub plain : ℕ → Bool
plain c = not (is_control c) && (not (c == 92) && (not (c == 34) && (not (c == 10) && not (needs_escape false 0 c))))

record IsPlain (c : ℕ) : Type 0 where
  pub control : is_control c ≡ false
  pub backslash : (c == 92) ≡ false
  pub quote : (c == 34) ≡ false
  pub line_feed : (c == 10) ≡ false
  pub escape : needs_escape false 0 c ≡ false

is_false : (b : Bool) → not b ≡ true → b ≡ false
is_false false h = refl
is_false true h = absurd cc

plain_is : (c : ℕ) → plain c ≡ true → IsPlain c
unfolding plain
plain_is c h =
    let a = and_parts _ _ h in
    let b = and_parts _ _ a.1 in
    let d = and_parts _ _ b.1 in
    let e = and_parts _ _ d.1 in
    record {
      control = is_false _ a.0;
      backslash = is_false _ b.0;
      quote = is_false _ d.0;
      line_feed = is_false _ e.0;
      escape = is_false _ e.1;
    }

digits_plain : list_all plain lower_digits ≡ true
unfolding plain needs_escape
digits_plain = refl

digit_plain : (d : ℕ) → d < 16 → plain (slice_index lower_digits d) ≡ true
digit_plain d lt = AllPass-from_list_all plain lower_digits digits_plain d 0 lt

pub hex_plain : (bs : List ℕ) → AllByRecursion (λ b. b < 256) bs → list_all plain (encode_lower bs) ≡ true
unfolding encode_with
hex_plain [] all = refl
hex_plain (b ∷ bs) all =
    let low = all.0 in
    rw (digit_plain (b / 16) (omega (arith, low)), digit_plain (b % 16) (omega arith), hex_plain bs all.1) refl

no_control : (s : Text) → list_all plain s ≡ true → list_any is_control s ≡ false
no_control [] h = refl
no_control (c ∷ cs) h =
    let parts = and_parts (plain c) (list_all plain cs) h in
    rw ((plain_is c parts.0).control, no_control cs parts.1) refl

none : (x : ℕ) (s : Text) → list_all plain s ≡ true → ((c : ℕ) → IsPlain c → (c == x) ≡ false) → has x s ≡ false
none x [] h apart = refl
none x (c ∷ cs) h apart =
    let parts = and_parts (plain c) (list_all plain cs) h in
    rw (apart c (plain_is c parts.0), none x cs parts.1 apart) refl

basic_is : (s : Text) → list_all plain s ≡ true → escaped false 0 s ≡ s
unfolding escaped quotes_after
basic_is [] h = refl
basic_is (c ∷ cs) h =
    let parts = and_parts (plain c) (list_all plain cs) h in
    let is = plain_is c parts.0 in
    rw (is.escape, is.quote, basic_is cs parts.1) refl

pub string_plain : (s : Text) → list_all plain s ≡ true → string_text s ≡ 34 ∷ (s ++ 34 ∷ [])
unfolding string_text encoding_of
string_plain s h =
    rw (
      no_control s h,
      none 92 s h (λ c is. is.backslash),
      none 34 s h (λ c is. is.quote),
      none 10 s h (λ c is. is.line_feed),
      basic_is s h,
    ) refl
