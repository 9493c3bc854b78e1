-- The table that the topology's text prints, by the keys of its pool and its nonces.
use Rattle.std.proofs.Common.{◌≡◌, refl, ℕ, ◌≤◌, pos, true, false, List, [], ◌∷◌, ◌++◌, map, codes, lit≤}
use Rattle.hex.specs.Hex.{encode_lower}
use Rattle.toml.specs.Data.{Data, string, integer, array, table, Items, no_items, item, Members, no_members, member}
use Rattle.toml.specs.Data.{items_depth, members_depth, items_have_valid_dates, members_have_valid_dates}
use Rattle.toml.specs.Data.{items_are_sorted, members_are_sorted}
use Rattle.toml.specs.Tables.{Expression, key_value, array_table}
use Rattle.toml.specs.Text.{expressions, is_section, section}
use Rattle.toml.specs.View.{items_of}
use Rattle.ide_types.specs.Names.{Text}
use Rattle.history_events.specs.TopologyText.{zeros}

abbrev pub key_data : List ℕ → Data
key_data key = string (encode_lower key)

abbrev pub key_list : List (List ℕ) → Items
key_list keys = items_of (map key_data keys)

abbrev pub number : ℕ → Data
number n = integer (pos n)

abbrev pub only : Data → Items
only d = item d no_items

abbrev pub pair : Data → Data → Items
pair d e = item d (item e no_items)

abbrev pub info_digits : Text
info_digits = zeros ++ zeros

abbrev pub bar_table : Members
bar_table = member (codes "base") (number 1073741824) (member (codes "pages") (number 16) no_members)

abbrev pub interface_table : Members
interface_table =
    member (codes "bars") (array (only (table bar_table)))
    (member (codes "cacheline") (number 16)
    (member (codes "command") (number 6)
    (member (codes "info") (string info_digits)
    (member (codes "rid") (number 256)
    (member (codes "stream") (number 5) no_members)))))

abbrev pub stream_table : Members
stream_table =
    member (codes "id") (number 5)
    (member (codes "kind") (string (codes "selective"))
    (member (codes "ranges") (array (only (array (pair (number 1073741824) (number 1074790399)))))
    (member (codes "rid") (array (pair (number 256) (number 256))) no_members)))

abbrev pub link_table : List (List ℕ) → Members
link_table nonces =
    member (codes "interface") (array (only (table interface_table)))
    (member (codes "nonces") (array (key_list nonces))
    (member (codes "stream") (array (only (table stream_table))) no_members))

abbrev pub region_table : Members
region_table = member (codes "base") (number 268435456) (member (codes "size") (number 65536) no_members)

abbrev pub table_with : (pool nonces : List (List ℕ)) → Members
table_with pool nonces =
    member (codes "link") (array (only (table (link_table nonces))))
    (member (codes "memory") (array (only (table region_table)))
    (member (codes "pool") (array (key_list pool))
    (member (codes "version") (number 1) no_members)))

-- ---- keys are no tables

pub keys_no_section : (keys : List (List ℕ)) → is_section (array (key_list keys)) ≡ false
keys_no_section [] = refl
keys_no_section (k ∷ ks) = refl

pub keys_no_lines : (path : List (List ℕ)) (name : Text) (keys : List (List ℕ))
    → section (path, name) (array (key_list keys)) ≡ []
keys_no_lines path name [] = refl
keys_no_lines path name (k ∷ ks) = refl

-- the lines, each a pair under its header, or a header
abbrev pub own : Text → Data → Expression
own name d = (([], name), key_value d)

abbrev pub header : List Text → Text → Expression
header path name = ((path, name), array_table)

abbrev pub lines_with : (pool nonces : List (List ℕ)) → List Expression
lines_with pool nonces =
    own (codes "pool") (array (key_list pool))
    ∷ own (codes "version") (number 1)
    ∷ header [] (codes "link")
    ∷ own (codes "nonces") (array (key_list nonces))
    ∷ header (codes "link" ∷ []) (codes "interface")
    ∷ own (codes "cacheline") (number 16)
    ∷ own (codes "command") (number 6)
    ∷ own (codes "info") (string info_digits)
    ∷ own (codes "rid") (number 256)
    ∷ own (codes "stream") (number 5)
    ∷ header (codes "link" ∷ codes "interface" ∷ []) (codes "bars")
    ∷ own (codes "base") (number 1073741824)
    ∷ own (codes "pages") (number 16)
    ∷ header (codes "link" ∷ []) (codes "stream")
    ∷ own (codes "id") (number 5)
    ∷ own (codes "kind") (string (codes "selective"))
    ∷ own (codes "ranges") (array (only (array (pair (number 1073741824) (number 1074790399)))))
    ∷ own (codes "rid") (array (pair (number 256) (number 256)))
    ∷ header [] (codes "memory")
    ∷ own (codes "base") (number 268435456)
    ∷ own (codes "size") (number 65536)
    ∷ []

pub lines_are : (pool nonces : List (List ℕ)) → expressions (table_with pool nonces) ≡ lines_with pool nonces
lines_are pool nonces =
    rw (
      keys_no_section pool,
      keys_no_section nonces,
      keys_no_lines [] (codes "pool") pool,
      keys_no_lines (codes "link" ∷ []) (codes "nonces") nonces,
    ) refl

-- ---- what a printed table needs

keys_flat : (keys : List (List ℕ)) → items_depth (key_list keys) ≡ 0
keys_flat [] = refl
keys_flat (k ∷ ks) = rw (keys_flat ks) refl

keys_dated : (keys : List (List ℕ)) → items_have_valid_dates (key_list keys) ≡ true
keys_dated [] = refl
keys_dated (k ∷ ks) = keys_dated ks

keys_sorted : (keys : List (List ℕ)) → items_are_sorted (key_list keys) ≡ true
keys_sorted [] = refl
keys_sorted (k ∷ ks) = keys_sorted ks

pub flat : (pool nonces : List (List ℕ)) → members_depth (table_with pool nonces) ≤ 80
flat pool nonces = rw (keys_flat pool, keys_flat nonces) (lit≤ tt)

pub dated : (pool nonces : List (List ℕ)) → members_have_valid_dates (table_with pool nonces) ≡ true
dated pool nonces = rw (keys_dated pool, keys_dated nonces) refl

pub sorted : (pool nonces : List (List ℕ)) → members_are_sorted (table_with pool nonces) ≡ true
sorted pool nonces = rw (keys_sorted pool, keys_sorted nonces) refl
