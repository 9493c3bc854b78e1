-- Numbers and bytes are read back from their words.
use Rattle.std.proofs.Common.{true, false, nat_eq, ◌&&◌, slice_index, ◌≡◌, ◌<◌, ◌/◌, ◌^◌, ℕ, List, [], ◌∷◌, Bool, refl}
use Rattle.std.proofs.Common.{codes, get_or}
use Rattle.std.specs.Prelude.{if◌then◌else◌}
use Rattle.std.specs.Option.{unwrap_or}
use Rattle.std.specs.Result.{result_ok}
use Rattle.std.specs.Fmt.{decimal}
use Rattle.std.specs.Str.{bytes_eq}
use Rattle.std.specs.Str.Parse.{digits_value}
use Rattle.std.proofs.lemmas.Fmt.{decimal_is_IsNumeral}
use Rattle.hex.specs.Hex.{decode_of, encode_lower, encode_with, lower_digits, IsBytes}
use Rattle.hex.proofs.HexLemmas.{decode_of-encode_lower}
use Rattle.ide_types.specs.Names.{Text}
use Rattle.event_verdicts.specs.Words.{bytes_word}

abbrev pub word_at : List Text → ℕ → Text
word_at ws i = get_or ws i []

abbrev pub number : Text → ℕ
number w = digits_value 10 w

abbrev pub bytes : Text → List ℕ
bytes w = if bytes_eq w (codes "-") then [] else unwrap_or (result_ok (decode_of w)) []

pub number_back : (n : ℕ) → n < 2 ^ 64 → number (decimal n) ≡ n
number_back n h = (decimal_is_IsNumeral n h).1

pub and_false : (b : Bool) → (b && false) ≡ false
and_false true = refl
and_false false = refl

pub not_dash : (b : ℕ) (bs : List ℕ) → bytes_eq (encode_lower (b ∷ bs)) (codes "-") ≡ false
unfolding encode_with
not_dash b bs = and_false (nat_eq (slice_index lower_digits (b / 16)) 45)

pub bytes_back : (bs : List ℕ) → IsBytes bs → bytes (bytes_word bs) ≡ bs
bytes_back [] h = refl
bytes_back (b ∷ bs) h = rw (not_dash b bs, decode_of-encode_lower (b ∷ bs) h) refl

-- the bytes that pairs of hexadecimal digits write
abbrev pub pairs : Text → List ℕ
pairs w = unwrap_or (result_ok (decode_of w)) []

pub pairs_back : (bs : List ℕ) → IsBytes bs → pairs (encode_lower bs) ≡ bs
pairs_back bs h = rw (decode_of-encode_lower bs h) refl
