-- The manager's streams in one list, link by link.
use Rattle.all_ends.proofs.Terms.{◌≡◌, ℕ, suc, zero, ◌+◌, ◌<◌, ◌==◌, false, List, [], ◌∷◌, ◌++◌, refl, ap, sym, ◌∙◌}
use Rattle.all_ends.proofs.Terms.{subst, arith, Option, None, option_map, map, slice_set, slice_index_or, nat_tests}
use Rattle.all_ends.proofs.Terms.{different-false, StreamStage, StreamPlan, StreamView, first_named, line_ops}
use Rattle.all_ends.proofs.Terms.{views_after, ops_by_line, name_of, names_of, names_from_line}
use Rattle.machine_ports.specs.Machine as machine

-- ---- names

-- none of these names is of the link
abbrev pub Apart : ℕ → List (ℕ × ℕ) → Type 0
Apart line [] = Unit {0}
Apart line (n ∷ ns) = ((n.0 == line) ≡ false) × Apart line ns

apart_names : (from line : ℕ) (ss : List StreamPlan) (rest : List (ℕ × ℕ)) → (from == line) ≡ false → Apart line rest
    → Apart line (names_of from ss ++ rest)
apart_names from line [] rest differs more = more
apart_names from line (s ∷ ss) rest differs more = (differs, apart_names from line ss rest differs more)

-- no later link has a stream of an earlier one
apart_from : (links : List (List StreamPlan)) (from line : ℕ) → line < from → Apart line (names_from_line from links)
apart_from [] from line lt = tt
apart_from (ss ∷ links) from line lt = apart_names from line ss (names_from_line (from + 1) links)
    (grind (arith, nat_tests, lt)) (apart_from links (from + 1) line (omega (arith, lt)))

pub behind_names : (line : ℕ) (ss : List StreamPlan) (vs : List StreamView) (rest : List (ℕ × ℕ)) → map name_of vs
    ≡ names_of line ss ++ rest → map name_of (views_after ss vs) ≡ rest
behind_names line [] vs rest names = names
behind_names line (s ∷ ss) [] rest names = absurd cc
behind_names line (s ∷ ss) (v ∷ vs) rest names = behind_names line ss vs rest cc

-- ---- the operation on a stream of a link, by the machine

none_named : (line id : ℕ) (vs : List StreamView) → Apart line (map name_of vs) → first_named line id vs ≡ None
none_named line id [] apart = refl
none_named line id (v ∷ vs) apart = rw apart.0 (none_named line id vs apart.1)

first_other : (line other : ℕ) (ss : List StreamPlan) (vs : List StreamView) (rest : List (ℕ × ℕ)) (id : ℕ)
    → (line == other) ≡ false → map name_of vs ≡ names_of line ss ++ rest
    → first_named other id vs ≡ first_named other id (views_after ss vs)
first_other line other [] vs rest id apart names = refl
first_other line other (s ∷ ss) [] rest id apart names = absurd cc
first_other line other (s ∷ ss) (v ∷ vs) rest id apart names =
    let name : name_of v ≡ (line, s.id) = cc in
    let more : map name_of vs ≡ names_of line ss ++ rest = cc in
    grind (arith, name, first_other line other ss vs rest id apart more)

first_here : (line : ℕ) (ss : List StreamPlan) (vs : List StreamView) (rest : List (ℕ × ℕ)) (id : ℕ)
    → map name_of vs ≡ names_of line ss ++ rest → Apart line rest
    → option_map (λ (v : StreamView). v.op) (first_named line id vs) ≡ machine.found_by_id ss (line_ops ss vs) id
first_here line [] vs rest id names apart = ap (λ (o : Option StreamView). option_map (λ (v : StreamView). v.op) o)
    (none_named line id vs (subst (λ (ns : List (ℕ × ℕ)). Apart line ns) (sym names) apart))
first_here line (s ∷ ss) [] rest id names apart = absurd cc
first_here line (s ∷ ss) (v ∷ vs) rest id names apart =
    let name : name_of v ≡ (line, s.id) = cc in
    let more : map name_of vs ≡ names_of line ss ++ rest = cc in
    grind (arith, nat_tests, name, first_here line ss vs rest id more apart)

pub op_found : (links : List (List StreamPlan)) (from i line : ℕ) (vs : List StreamView) (id : ℕ) → from + i ≡ line
    → map name_of vs ≡ names_from_line from links → option_map (λ (v : StreamView). v.op) (first_named line id vs)
    ≡ machine.found_by_id (slice_index_or links i []) (slice_index_or (ops_by_line links vs) i []) id
op_found [] from i line [] id at names = refl
op_found [] from i line (v ∷ vs) id at names = absurd cc
op_found (ss ∷ links) from zero line vs id at names =
    let same : from ≡ line = omega arith in
    first_here line ss vs (names_from_line (from + 1) links) id
    (subst (λ (n : ℕ). map name_of vs ≡ names_of n ss ++ names_from_line (from + 1) links) same names)
    (apart_from links (from + 1) line (omega arith))
op_found (ss ∷ links) from (suc i) line vs id at names =
    ap (λ (o : Option StreamView). option_map (λ (v : StreamView). v.op) o)
    (first_other from line ss vs (names_from_line (from + 1) links) id (different-false from line (omega arith)) names)
    ∙ op_found links (from + 1) i line (views_after ss vs) id (omega arith)
    (behind_names from ss vs (names_from_line (from + 1) links) names)

-- ---- the operations of all links, if the streams of one link change

-- the change of a link's streams by `f` is that of its operations by `g`, and no other link sees it
pub record ChangesLink (line : ℕ) (f : List StreamView → List StreamView)
    (g : List StreamPlan → List StreamStage → List StreamStage) :
    Type 0 where
  pub here : (ss : List StreamPlan) (vs : List StreamView) (rest : List (ℕ × ℕ)) → map name_of vs ≡ names_of line ss
      ++ rest → Apart line rest
      → (line_ops ss (f vs) ≡ g ss (line_ops ss vs)) × (views_after ss (f vs) ≡ views_after ss vs)
  pub other : (from : ℕ) (ss : List StreamPlan) (vs : List StreamView) (rest : List (ℕ × ℕ)) → (from == line) ≡ false
      → map name_of vs ≡ names_of from ss ++ rest
      → (line_ops ss (f vs) ≡ line_ops ss vs) × (views_after ss (f vs) ≡ f (views_after ss vs))

pub ops_changed : (line : ℕ) (f : List StreamView → List StreamView)
    (g : List StreamPlan → List StreamStage → List StreamStage) → ChangesLink line f g
    → (links : List (List StreamPlan)) (from i : ℕ) (vs : List StreamView) → from + i ≡ line → map name_of vs
    ≡ names_from_line from links → ops_by_line links (f vs) ≡ slice_set (ops_by_line links vs) i
    (g (slice_index_or links i []) (slice_index_or (ops_by_line links vs) i []))
ops_changed line f g c [] from i vs at names = refl
ops_changed line f g c (ss ∷ links) from zero vs at names =
    let same : from ≡ line = omega arith in
    let h = c.here ss vs (names_from_line (from + 1) links)
    (subst (λ (n : ℕ). map name_of vs ≡ names_of n ss ++ names_from_line (from + 1) links) same names)
    (apart_from links (from + 1) line (omega arith)) in
    (λ j. h.0 j ∷ ops_by_line links (h.1 j))
ops_changed line f g c (ss ∷ links) from (suc i) vs at names =
    let o = c.other from ss vs (names_from_line (from + 1) links) (different-false from line (omega arith)) names in
    (λ j. o.0 j ∷ ops_by_line links (o.1 j))
    ∙ ap (λ (os : List (List StreamStage)). line_ops ss vs ∷ os)
    (ops_changed line f g c links (from + 1) i (views_after ss vs) (omega arith)
    (behind_names from ss vs (names_from_line (from + 1) links) names))
