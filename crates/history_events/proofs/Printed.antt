-- The topology's text prints the table.
use Rattle.std.proofs.Common.{◌≡◌, refl, sym, ◌∙◌, subst, ℕ, ◌≤◌, pos, Bool, true, false, List, [], ◌∷◌, ◌++◌, length}
use Rattle.std.proofs.Common.{arith, append_assoc, codes, SFits}
use Rattle.std.specs.Fmt.{decimal, digits}
use Rattle.std.specs.Int.{w64}
use Rattle.std.proofs.Math.Facts.{sfits_lit}
use Rattle.hex.specs.Hex.{encode_lower}
use Rattle.toml.specs.Data.{Data, string, array}
use Rattle.toml.specs.Tables.{Expression}
use Rattle.toml.specs.Text.{IsDocumentText, IsItemsText, IsLinesText, IsValueText}
use Rattle.toml_writer.specs.Text.{encoding_of, escaped, key_text, needs_escape, path_text, quotes_after, string_text}
use Rattle.ide_types.specs.Names.{Text}
use Rattle.history_events.specs.TopologyText.{bar_text, interface_text, key_item, key_items, link_text, memory_text}
use Rattle.history_events.specs.TopologyText.{range_text, stream_text, topology_with, zeros}
use Rattle.history_events.proofs.TextKeys.{Key, Keys}
use Rattle.history_events.proofs.Strings.{hex_plain, string_plain}
use Rattle.history_events.proofs.Table.{header, info_digits, key_data, key_list, lines_are, lines_with, number, own}
use Rattle.history_events.proofs.Table.{only, pair, table_with}

-- ---- values

abbrev text_in_quotes : Text → Text
text_in_quotes s = 34 ∷ (s ++ 34 ∷ [])

key_value_text : (k : List ℕ) → Key k → IsValueText true (key_data k) (text_in_quotes (encode_lower k))
key_value_text k key = sym (string_plain (encode_lower k) (hex_plain k key.bytes))

-- what stands after the digits of a key
item_whole : (digits rest : Text) → (codes "\n    \"" ++ (digits ++ codes "\",")) ++ rest
    ≡ codes "\n    " ++ (text_in_quotes digits ++ (codes "," ++ rest))
item_whole digits rest = simp append_assoc refl

keys_text : (first : Bool) (ks : List (List ℕ)) → Keys ks
    → IsItemsText true true first (key_list ks) (key_items ks ++ codes "\n]")
keys_text first [] keys = refl
keys_text first (k ∷ ks) keys = (
  text_in_quotes (encode_lower k),
  key_items ks ++ codes "\n]",
  append_assoc (key_item k) (key_items ks) (codes "\n]") ∙ item_whole (encode_lower k) (key_items ks ++ codes "\n]"),
  key_value_text k keys.0,
  keys_text false ks keys.1,
)

keys_value : (ks : List (List ℕ)) → Keys ks → 2 ≤ length ks
    → IsValueText true (array (key_list ks)) (codes "[" ++ (key_items ks ++ codes "\n]"))
keys_value [] keys two = absurd (omega (arith, two))
keys_value (k ∷ []) keys two = absurd (omega (arith, two))
keys_value (k ∷ l ∷ ks) keys two = (key_items (k ∷ l ∷ ks) ++ codes "\n]", refl, keys_text true (k ∷ l ∷ ks) keys)

-- ---- lines

-- the text writes these lines, after others or not
record Prints (started : Bool) (es : List Expression) (text : Text) : Type 0 where
  pub lines : IsLinesText true started es text

no_more : Prints true [] []
no_more = record { lines = refl }

own_line : (started : Bool) (name : Text) (d : Data) (this : Text) (es : List Expression) (rest : Text)
    → key_text name ≡ name → IsValueText true d this → Prints true es rest
    → Prints started (own name d ∷ es) (name ++ (codes " = " ++ (this ++ 10 ∷ rest)))
own_line started name d this es rest bare value more =
    let line = name ++ (codes " = " ++ (this ++ 10 ∷ [])) in
    let whole : name ++ (codes " = " ++ (this ++ 10 ∷ rest)) ≡ line ++ rest = simp append_assoc refl in
    record { lines = (line, rest, whole, (this, rw bare refl, value), more.lines) }

keys_line : (started : Bool) (name : Text) (ks : List (List ℕ)) (es : List Expression) (rest : Text)
    → key_text name ≡ name → Keys ks → 2 ≤ length ks → Prints true es rest
    → Prints started (own name (array (key_list ks)) ∷ es)
    (name ++ (codes " = [" ++ (key_items ks ++ (codes "\n]\n" ++ rest))))
keys_line started name ks es rest bare keys two more =
    let value = codes "[" ++ (key_items ks ++ codes "\n]") in
    let whole : name ++ (codes " = " ++ (value ++ 10 ∷ rest))
    ≡ name ++ (codes " = [" ++ (key_items ks ++ (codes "\n]\n" ++ rest))) = simp append_assoc refl in
    subst (λ (t : Text). Prints started (own name (array (key_list ks)) ∷ es) t) whole
    (own_line started name (array (key_list ks)) value es rest bare (keys_value ks keys two) more)

header_line : (path : List Text) (name shown : Text) (es : List Expression) (rest : Text)
    → path_text path ++ key_text name ≡ shown → Prints true es rest
    → Prints true (header path name ∷ es) (codes "\n[[" ++ (shown ++ (codes "]]\n" ++ rest)))
header_line path name shown es rest is more =
    let line = codes "\n[[" ++ (shown ++ codes "]]\n") in
    let whole : codes "\n[[" ++ (shown ++ (codes "]]\n" ++ rest)) ≡ line ++ rest = simp append_assoc refl in
    record { lines = (line, rest, whole, rw is refl, more.lines) }

-- ---- the fixed lines, from the last on

number_line : (name : Text) (n : ℕ) (shown : Text) (es : List Expression) (rest : Text) → key_text name ≡ name
    → SFits w64 (pos n) → shown ≡ decimal n → Prints true es rest
    → Prints true (own name (number n) ∷ es) (name ++ (codes " = " ++ (shown ++ 10 ∷ rest)))
number_line name n shown es rest bare fits is more = own_line true name (number n) shown es rest bare (is, fits) more

memory_lines : Prints true
    (header [] (codes "memory") ∷ own (codes "base") (number 268435456) ∷ own (codes "size") (number 65536) ∷ [])
    memory_text
unfolding memory_text key_text digits
memory_lines =
    header_line [] (codes "memory") (codes "memory") _ _ refl
    (number_line (codes "base") 268435456 (codes "268435456") _ _ refl (sfits_lit tt) refl
    (number_line (codes "size") 65536 (codes "65536") _ _ refl (sfits_lit tt) refl no_more))

one_range : IsValueText true (array (only (array (pair (number 1073741824) (number 1074790399)))))
    (codes "[[\n    1073741824,\n    1074790399,\n]]")
unfolding digits
one_range = (
  codes "[\n    1073741824,\n    1074790399,\n]]",
  refl,
  (
    codes "[\n    1073741824,\n    1074790399,\n]",
    codes "]",
    refl,
    (
      codes "\n    1073741824,\n    1074790399,\n]",
      refl,
      (
        codes "1073741824",
        codes "\n    1074790399,\n]",
        refl,
        (refl, sfits_lit tt),
        (codes "1074790399", codes "\n]", refl, (refl, sfits_lit tt), refl),
      ),
    ),
    refl,
  ),
)

two_ids : IsValueText true (array (pair (number 256) (number 256))) (codes "[\n    256,\n    256,\n]")
unfolding digits
two_ids = (
  codes "\n    256,\n    256,\n]",
  refl,
  (
    codes "256",
    codes "\n    256,\n]",
    refl,
    (refl, sfits_lit tt),
    (codes "256", codes "\n]", refl, (refl, sfits_lit tt), refl),
  ),
)

selective : IsValueText true (string (codes "selective")) (codes "\"selective\"")
unfolding string_text encoding_of escaped needs_escape quotes_after
selective = refl

abbrev StreamLines : List Expression → List Expression
StreamLines es =
    header (codes "link" ∷ []) (codes "stream")
    ∷ own (codes "id") (number 5)
    ∷ own (codes "kind") (string (codes "selective"))
    ∷ own (codes "ranges") (array (only (array (pair (number 1073741824) (number 1074790399)))))
    ∷ own (codes "rid") (array (pair (number 256) (number 256)))
    ∷ es

stream_lines : (es : List Expression) (rest : Text) → Prints true es rest → Prints true (StreamLines es)
    (stream_text ++ (range_text ++ rest))
unfolding stream_text range_text key_text digits
stream_lines es rest more =
    header_line (codes "link" ∷ []) (codes "stream") (codes "link.stream") _ _ refl
    (number_line (codes "id") 5 (codes "5") _ _ refl (sfits_lit tt) refl
    (own_line true (codes "kind") (string (codes "selective")) (codes "\"selective\"") _ _ refl selective
    (own_line true (codes "ranges") (array (only (array (pair (number 1073741824) (number 1074790399)))))
    (codes "[[\n    1073741824,\n    1074790399,\n]]") _ _ refl one_range
    (own_line true (codes "rid") (array (pair (number 256) (number 256))) (codes "[\n    256,\n    256,\n]") es rest
    refl
    two_ids more))))

zeros_plain : string_text info_digits ≡ text_in_quotes info_digits
unfolding string_text encoding_of escaped needs_escape quotes_after
zeros_plain = refl

abbrev InterfaceLines : List Expression → List Expression
InterfaceLines es =
    header (codes "link" ∷ []) (codes "interface")
    ∷ own (codes "cacheline") (number 16)
    ∷ own (codes "command") (number 6)
    ∷ own (codes "info") (string info_digits)
    ∷ own (codes "rid") (number 256)
    ∷ own (codes "stream") (number 5)
    ∷ header (codes "link" ∷ codes "interface" ∷ []) (codes "bars")
    ∷ own (codes "base") (number 1073741824)
    ∷ own (codes "pages") (number 16)
    ∷ es

-- what stands in `interface_text` after the end of the nonces
abbrev interface_start : Text
interface_start = codes "\n[[link.interface]]\ncacheline = 16\ncommand = 6\ninfo = \""
    ++ (zeros ++ (zeros ++ codes "\"\nrid = 256\nstream = 5\n"))

interface_lines : (es : List Expression) (rest : Text) → Prints true es rest → Prints true (InterfaceLines es)
    (interface_start ++ (bar_text ++ rest))
unfolding bar_text key_text digits
interface_lines es rest more =
    header_line (codes "link" ∷ []) (codes "interface") (codes "link.interface") _ _ refl
    (number_line (codes "cacheline") 16 (codes "16") _ _ refl (sfits_lit tt) refl
    (number_line (codes "command") 6 (codes "6") _ _ refl (sfits_lit tt) refl
    (own_line true (codes "info") (string info_digits) (text_in_quotes info_digits) _ _ refl (sym zeros_plain)
    (number_line (codes "rid") 256 (codes "256") _ _ refl (sfits_lit tt) refl
    (number_line (codes "stream") 5 (codes "5") _ _ refl (sfits_lit tt) refl
    (header_line (codes "link" ∷ codes "interface" ∷ []) (codes "bars") (codes "link.interface.bars") _ _ refl
    (number_line (codes "base") 1073741824 (codes "1073741824") _ _ refl (sfits_lit tt) refl
    (number_line (codes "pages") 16 (codes "16") es rest refl (sfits_lit tt) refl more))))))))

-- ---- the whole

abbrev fixed_lines : List Expression
fixed_lines =
    InterfaceLines (StreamLines
    (header [] (codes "memory") ∷ own (codes "base") (number 268435456) ∷ own (codes "size") (number 65536) ∷ []))

all_lines : (pool nonces : List (List ℕ)) → Keys pool → Keys nonces → 2 ≤ length pool → 2 ≤ length nonces
    → Prints false (lines_with pool nonces) (topology_with pool nonces)
unfolding link_text interface_text key_text digits
all_lines pool nonces keys others two both =
    let last = interface_lines (StreamLines _) _ (stream_lines _ _ memory_lines) in
    keys_line false (codes "pool") pool _ _ refl keys two
    (number_line (codes "version") 1 (codes "1") _ _ refl (sfits_lit tt) refl
    (header_line [] (codes "link") (codes "link") _ _ refl
    (keys_line true (codes "nonces") nonces fixed_lines _ refl others both last)))

pub printed : (pool nonces : List (List ℕ)) → Keys pool → Keys nonces → 2 ≤ length pool → 2 ≤ length nonces
    → IsDocumentText true (table_with pool nonces) (topology_with pool nonces)
printed pool nonces keys others two both =
    subst (λ (es : List Expression). IsLinesText true false es (topology_with pool nonces))
    (sym (lines_are pool nonces)) (all_lines pool nonces keys others two both).lines
