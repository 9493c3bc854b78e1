-- The keys of a table ascend, and the first unknown one is the least.
use Rattle.std.proofs.Common.{◌≡◌, Bool, true, false, List, [], ◌∷◌, map, Some, refl, sym, subst, ◌∙◌, ◌⊎◌, inl, inr}
use Rattle.std.proofs.Common.{zero, suc, String, string_bytes, arith}
use Rattle.std.specs.List.{AllByRecursion}
use Rattle.std.specs.List.Sorted.{IsStrictlySortedBy}
use Rattle.std.specs.Cmp.Lexicographic.{slice_cmp}
use Rattle.std.specs.Ordering.{nat_cmp}
use Rattle.std.specs.declared.cmp.Ordering.TheVariants.{Less}
use Rattle.std.specs.String.{string_cmp}
use Rattle.std.specs.BTreeMap.{BTreeMap, IsOrdered, keys}
use Rattle.std.specs.declared.alloc.Global.{Global}
use Rattle.std.proofs.lemmas.Bool.{true≢false}
use Rattle.std.proofs.lemmas.List.Elements.{All-cons, All-from_recursion}
use Rattle.toml.specs.View.{table_view}
use Rattle.toml.specs.declared.value.Value.{Value}
use Rattle.toml_walk.specs.Walk.{Text, is_known, unknown_in, key_names, Ascend, IsLeastUnknown}
use Rattle.toml_walk.proofs.Lists.{keys_of_view}

below : (k : String Global) (ks : List (String Global)) → AllByRecursion (λ y. string_cmp k y ≡ Less) ks
    → AllByRecursion (λ y. slice_cmp nat_cmp (string_bytes k) y ≡ Less) (map string_bytes ks)
below k [] h = tt
below k (y ∷ ys) h = (h.0, below k ys h.1)

ascending : (ks : List (String Global)) → IsStrictlySortedBy string_cmp ks → Ascend (map string_bytes ks)
unfolding IsStrictlySortedBy
ascending [] h = tt
ascending (k ∷ ks) h = (below k ks h.0, ascending ks h.1)

pub table_ascends : (m : BTreeMap (String Global) Value) → IsOrdered string_cmp m → Ascend (key_names (table_view m))
table_ascends m h = subst Ascend (sym (keys_of_view m)) (ascending (keys m) h)

behind : (known : List Text) (key : Text) (ks : List Text) → AllByRecursion (λ k. slice_cmp nat_cmp key k ≡ Less) ks
    → AllByRecursion (λ k. is_known known k ≡ false → (k ≡ key) ⊎ (slice_cmp nat_cmp key k ≡ Less)) ks
behind known key [] h = tt
behind known key (k ∷ ks) h = (λ _. inr h.0, behind known key ks h.1)

first_or_later : (b : Bool) (known : List Text) (k : Text) (ks : List Text) (key : Text) → is_known known k ≡ b
    → AllByRecursion (λ y. slice_cmp nat_cmp k y ≡ Less) ks
    → (unknown_in known ks ≡ Some key → IsLeastUnknown known ks key) → unknown_in known (k ∷ ks) ≡ Some key
    → IsLeastUnknown known (k ∷ ks) key
first_or_later true known k ks key is above later e =
    let rest = later (rw is at e) in
    let less = rest.there.1 in
    record {
      there = (suc rest.there.0, omega arith, rest.there.2);
      unknown = rest.unknown;
      least = All-cons (λ x. is_known known x ≡ false → (x ≡ key) ⊎ (slice_cmp nat_cmp key x ≡ Less)) k ks
          (λ no. absurd (true≢false (sym is ∙ no))) rest.least;
    }
first_or_later false known k ks key is above later e =
    let first : Some k ≡ Some key = rw is at e in
    let same : k ≡ key = cc in
    subst (IsLeastUnknown known (k ∷ ks)) same (record {
      there = (zero, omega arith, refl);
      unknown = is;
      least = All-from_recursion (λ x. is_known known x ≡ false → (x ≡ k) ⊎ (slice_cmp nat_cmp k x ≡ Less)) (k ∷ ks)
          (λ _. inl refl, behind known k ks above);
    })

-- the keys before the first unknown one are known, and those after it are greater
pub unknown_is_least : (known keys : List Text) (key : Text) → Ascend keys → unknown_in known keys ≡ Some key
    → IsLeastUnknown known keys key
unfolding IsStrictlySortedBy
unknown_is_least known [] key up e = absurd cc
unknown_is_least known (k ∷ ks) key up e = first_or_later (is_known known k) known k ks key refl up.0
    (unknown_is_least known ks key up.1) e
