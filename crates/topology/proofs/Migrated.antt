-- The table with `version` 2 means the plan of the table, version aside.
use Rattle.std.proofs.Common.{◌≡◌, refl, sym, ◌∙◌, true, List, Option, Some, None}
use Rattle.std.specs.Ordering.{nat_cmp, match_ordering}
use Rattle.std.specs.Cmp.Lexicographic.{slice_cmp}
use Rattle.std.specs.declared.cmp.Ordering.{Ordering}
use Rattle.std.specs.declared.cmp.Ordering.TheVariants.{Less, Equal, Greater}
use Rattle.toml.specs.Data.{Data, Members, no_members, member, get_member}
use Rattle.toml_walk.specs.Walk.{Text, is_known, key_names, unknown_in}
use Rattle.topology.specs.Migration.{with_member}

-- ---- another key's value

skipped : (o : Ordering) (rest : Option Data) (d : Data) → (o ≡ Equal → ⊥) → match_ordering o rest (Some d) rest ≡ rest
skipped Less rest d h = refl
skipped Equal rest d h = absurd (h refl)
skipped Greater rest d h = refl

-- a key that is told apart from this one
abbrev pub Apart : Text → Text → Type 0
Apart name key = (other : Text) → slice_cmp nat_cmp key other ≡ Equal → slice_cmp nat_cmp name other ≡ Equal → ⊥

other_at : (o : Ordering) (name key other : Text) (d e : Data) (ms : Members) → slice_cmp nat_cmp key other ≡ o
    → slice_cmp nat_cmp key key ≡ Equal → Apart name key → get_member name (with_member key d ms) ≡ get_member name ms
    → get_member name (with_member key d (member other e ms)) ≡ get_member name (member other e ms)
other_at Less name key other d e ms is same apart later = rw is
    (skipped (slice_cmp nat_cmp name key) (get_member name (member other e ms)) d (apart key same))
other_at Equal name key other d e ms is same apart later =
    rw is (skipped (slice_cmp nat_cmp name other) (get_member name ms) d (apart other is) ∙ sym
    (skipped (slice_cmp nat_cmp name other) (get_member name ms) e (apart other is)))
other_at Greater name key other d e ms is same apart later = rw (is, later) refl

pub other_value : (name key : Text) (d : Data) (ms : Members) → slice_cmp nat_cmp key key ≡ Equal → Apart name key
    → get_member name (with_member key d ms) ≡ get_member name ms
other_value name key d no_members same apart = skipped (slice_cmp nat_cmp name key) None d (apart key same)
other_value name key d (member other e ms) same apart = other_at (slice_cmp nat_cmp key other) name key other d e ms
    refl same apart (other_value name key d ms same apart)

-- ---- the key's value

own_at : (o : Ordering) (key other : Text) (d e : Data) (ms : Members) → slice_cmp nat_cmp key other ≡ o
    → slice_cmp nat_cmp key key ≡ Equal
    → get_member key (with_member key d ms) ≡ Some d → get_member key (with_member key d (member other e ms)) ≡ Some d
own_at Less key other d e ms is same later = rw (is, same) refl
own_at Equal key other d e ms is same later = rw (is, is) refl
own_at Greater key other d e ms is same later = rw (is, is, later) refl

pub own_value : (key : Text) (d : Data) (ms : Members) → slice_cmp nat_cmp key key ≡ Equal
    → get_member key (with_member key d ms) ≡ Some d
own_value key d no_members same = rw same refl
own_value key d (member other e ms) same = own_at (slice_cmp nat_cmp key other) key other d e ms refl same
    (own_value key d ms same)

-- ---- the keys

known_at : (o : Ordering) (known : List Text) (key other : Text) (d e : Data) (ms : Members)
    → slice_cmp nat_cmp key other ≡ o → is_known known key ≡ true → unknown_in known (key_names (with_member key d ms))
    ≡ unknown_in known (key_names ms) → unknown_in known (key_names (with_member key d (member other e ms)))
    ≡ unknown_in known (key_names (member other e ms))
known_at Less known key other d e ms is there later = rw (is, there) refl
known_at Equal known key other d e ms is there later = rw is refl
known_at Greater known key other d e ms is there later = rw (is, later) refl

-- one more known key makes no key unknown
pub same_unknown : (known : List Text) (key : Text) (d : Data) (ms : Members) → is_known known key ≡ true
    → unknown_in known (key_names (with_member key d ms)) ≡ unknown_in known (key_names ms)
same_unknown known key d no_members there = rw there refl
same_unknown known key d (member other e ms) there = known_at (slice_cmp nat_cmp key other) known key other d e ms refl
    there (same_unknown known key d ms there)
