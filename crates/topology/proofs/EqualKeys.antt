-- Looking equal keys up among the later ones, from the last key to the first.
use Rattle.std.proofs.Common.{◌≡◌, ◌∙◌, refl, ℕ, suc, ◌+◌, ◌-◌, ◌≤◌, ◌<◌, List, [], ◌∷◌, Option, Some, drop, length}
use Rattle.std.proofs.Common.{get_or, arith, drop-cons}
use Rattle.std.proofs.lemmas.Map.Text.{is_eq-slice_cmp}
use Rattle.std.proofs.lemmas.Cmp.{nat_list_eq_equiv}
use Rattle.std.specs.BTreeMap.{BTreeMap, get, Updates}
use Rattle.std.specs.Cmp.Lexicographic.{slice_cmp}
use Rattle.std.specs.List.{position_from}
use Rattle.std.specs.Ordering.{nat_cmp}
use Rattle.std.specs.Str.{bytes_eq}
use Rattle.topology.specs.Rules.{pair_or_next, pair_from}

-- of the keys from place i on, the least pair was found, and the map has the first place of each
pub record Looked (keys : List (List ℕ)) (places : BTreeMap (List ℕ) ℕ) (pair : Option (ℕ × ℕ)) (i : ℕ) : Type 0 where
  pub within : i ≤ length keys
  pub least : pair ≡ pair_from bytes_eq i (drop i keys)
  pub first : (key : List ℕ) → get (slice_cmp nat_cmp) places key ≡ position_from (bytes_eq key) i (drop i keys)

-- one more key was looked up
pub looked_more : (keys : List (List ℕ)) (m n : BTreeMap (List ℕ) ℕ) (pair : Option (ℕ × ℕ)) (old : Option ℕ) (i : ℕ)
    → 0 < i → Looked keys m pair i → old ≡ get (slice_cmp nat_cmp) m (get_or keys (i - 1) [])
    → Updates (slice_cmp nat_cmp) m n (get_or keys (i - 1) []) (Some (i - 1))
    → Looked keys n (pair_or_next (i - 1) old pair) (i - 1)
looked_more keys m n pair old i some h e u =
    let lt : i - 1 < length keys = omega (arith, h.within) in
    let next : suc (i - 1) ≡ i = omega arith in
    let more : (i - 1) + 1 ≡ i = omega arith in
    let front : drop (i - 1) keys ≡ get_or keys (i - 1) [] ∷ drop i keys = rw next at (drop-cons keys (i - 1) [] lt) in
    record {
      within = omega (arith, h.within);
      least = rw (front, more, e, h.first (get_or keys (i - 1) []), h.least) refl;
      first = λ q. u.0 q ∙ rw (
        front,
        more,
        is_eq-slice_cmp (get_or keys (i - 1) []) q,
        nat_list_eq_equiv.symm q (get_or keys (i - 1) []),
        h.first q,
      ) refl;
    }
