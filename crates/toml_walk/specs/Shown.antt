-- How a key that no table has stands in a line: as TOML writes it, in printable ASCII.
use Rattle.std.specs.Prelude.{ℕ, ◌+◌, ◌/◌, ◌%◌, ◌==◌, ◌&&◌, ◌||◌, nat_le, nat_lt, Bool, not, List, [], ◌∷◌, ◌++◌}
use Rattle.std.specs.Prelude.{length, flat_map, if◌then◌else◌, codes}
use Rattle.std.specs.List.{list_any}
use Rattle.std.specs.Str.{chars}
use Rattle.ide_types.specs.Names.{is_printable}

-- a letter, a digit, '_' or '-'
abbrev pub is_bare_byte : ℕ → Bool
is_bare_byte b =
    ((nat_le 97 b && nat_le b 122) || (nat_le 65 b && nat_le b 90))
    || ((nat_le 48 b && nat_le b 57) || (b == 95 || b == 45))

abbrev pub is_quoted_byte : ℕ → Bool
is_quoted_byte b = not (is_bare_byte b)

-- a bare key has such bytes alone, and at least one (TOML 1.0, keys)
abbrev pub is_bare : List ℕ → Bool
is_bare key = not (length key == 0 || list_any is_quoted_byte key)

-- an upper-case hexadecimal digit
abbrev pub upper_digit : ℕ → ℕ
upper_digit d = if nat_lt d 10 then 48 + d else 55 + d

-- the last four hexadecimal digits of a number
abbrev pub four_digits : ℕ → List ℕ
four_digits n =
    upper_digit (n / 4096 % 16) ∷ upper_digit (n / 256 % 16) ∷ upper_digit (n / 16 % 16) ∷ upper_digit (n % 16) ∷ []

-- the escapes of characters by their numbers, of four or of eight digits
abbrev pub numbered_escape : ℕ → List ℕ
numbered_escape c =
    if nat_lt c 65536 then codes "\\u" ++ four_digits c
    else codes "\\U" ++ four_digits (c / 65536) ++ four_digits c

-- a character of a basic string: an escape of its own, itself if it is printable ASCII, or by its number (TOML 1.0,
-- strings)
abbrev pub shown_char : ℕ → List ℕ
shown_char c =
    if c == 34 then codes "\\\""
    else if c == 92 then codes "\\\\"
    else if c == 8 then codes "\\b"
    else if c == 9 then codes "\\t"
    else if c == 10 then codes "\\n"
    else if c == 12 then codes "\\f"
    else if c == 13 then codes "\\r"
    else if is_printable c then c ∷ []
    else numbered_escape c

-- the characters as a basic string
abbrev pub quoted_text : List ℕ → List ℕ
quoted_text cs = codes "\"" ++ flat_map shown_char cs ++ codes "\""

-- a bare key as it is, and any other as a basic string
abbrev pub spelled_key : List ℕ → List ℕ
spelled_key key = if is_bare key then key else quoted_text (chars key)
