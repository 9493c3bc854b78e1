-- Counting rules one after another adds to each count how often its rule was told, if each stands once in the list and
-- no count reaches its last value.
use Rattle.std.proofs.Common.{◌≡◌, ℕ, suc, ◌+◌, ◌≤◌, Bool, true, false, List, [], ◌∷◌, length, map, refl, sym}
use Rattle.std.proofs.Common.{ap, ◌∙◌, arith}
use Rattle.std.specs.List.{AllByRecursion}
use Rattle.std.specs.Bool.{one_answer}
use Rattle.std.specs.Prelude.{if◌then◌else◌, nat_eq, slice_index, slice_set}
use Rattle.std.specs.Cmp.Lexicographic.{bytes_decides, pointwise}
use Rattle.ide_types.specs.{Text}
use Rattle.rule_counts.specs.Names.{answering_rules}
use Rattle.rule_counts.specs.Told.{times_in}
use Rattle.rule_counts.specs.Counting.{counted_all, one_more, place_in}
use Rattle.rule_counts.specs.Laws.{IsListed}

abbrev pub once : Bool → ℕ
once b = if b then 1 else 0

pub same_map : (f g : Text → ℕ) → ((name : Text) → f name ≡ g name) → (names : List Text) → map f names ≡ map g names
same_map f g same names = λ i. map (λ name. same name i) names

swapped : (a b : Text) → pointwise nat_eq a b ≡ pointwise nat_eq b a
swapped a b = one_answer (pointwise nat_eq a b) (pointwise nat_eq b a) (bytes_decides a b)
    (λ is. sym ((bytes_decides b a).0 is), λ is. (bytes_decides b a).1 (sym is))

-- the count of one name with one rule more
abbrev more : (Text → ℕ) → Text → Text → ℕ
more f rule name = f name + times_in (rule ∷ []) name

more_is : (f : Text → ℕ) (rule name : Text) (b : Bool) → pointwise nat_eq name rule ≡ b → f name + once b
    ≡ more f rule name
more_is f rule name b is =
    let test : pointwise nat_eq rule name ≡ b = swapped rule name ∙ is in
    rw test (omega arith)

none_more : (names : List Text) (rule : Text) (f : Text → ℕ) → times_in names rule ≡ 0
    → map f names ≡ map (more f rule) names
none_more [] rule f none = refl
none_more (name ∷ names) rule f none = by (pointwise nat_eq name rule) refl none (λ no. none_more names rule f no)
  where
    by : (b : Bool) → pointwise nat_eq name rule ≡ b → once b + times_in names rule ≡ 0
        → (times_in names rule ≡ 0 → map f names ≡ map (more f rule) names)
        → map f (name ∷ names) ≡ map (more f rule) (name ∷ names)
    by true is none later = absurd (omega (arith, none))
    by false is none later =
        let head : f name ≡ more f rule name = omega (arith, more_is f rule name false is) in
        let rest = later (omega (arith, none)) in
        λ i. head i ∷ rest i

-- the last value of a count
abbrev pub last_count : ℕ
last_count = 18446744073709551615

pub more_once : (n : ℕ) → n + 1 ≤ last_count → one_more n ≡ n + 1
more_once n most = grind (arith, most)

one_counted : (names : List Text) (rule : Text) (f : Text → ℕ) → times_in names rule ≡ 1
    → ((name : Text) → f name + 1 ≤ last_count)
    → slice_set (map f names) (place_in names rule) (one_more (slice_index (map f names) (place_in names rule)))
    ≡ map (more f rule) names
one_counted [] rule f one most = absurd (omega (arith, one))
one_counted (name ∷ names) rule f one most =
    by (pointwise nat_eq name rule) refl one (λ is. one_counted names rule f is most)
  where
    by : (b : Bool) → pointwise nat_eq name rule ≡ b → once b + times_in names rule ≡ 1
        → (times_in names rule ≡ 1
        → slice_set (map f names) (place_in names rule) (one_more (slice_index (map f names) (place_in names rule)))
        ≡ map (more f rule) names)
        → slice_set (map f (name ∷ names)) (if b then 0 else suc (place_in names rule))
        (one_more (slice_index (map f (name ∷ names)) (if b then 0 else suc (place_in names rule))))
        ≡ map (more f rule) (name ∷ names)
    by true is one later =
        let head : one_more (f name) ≡ more f rule name =
        more_once (f name) (most name) ∙ more_is f rule name true is in
        let rest = none_more names rule f (omega (arith, one)) in
        λ i. head i ∷ rest i
    by false is one later =
        let head : f name ≡ more f rule name = omega (arith, more_is f rule name false is) in
        let rest = later (omega (arith, one)) in
        λ i. head i ∷ rest i

pub all_counted : (rules : List Text) (f : Text → ℕ) → AllByRecursion IsListed rules
    → ((name : Text) → f name + length rules ≤ last_count)
    → counted_all rules (map f answering_rules) ≡ map (λ (name : Text). f name + times_in rules name) answering_rules
all_counted [] f listed most = same_map f (λ (name : Text). f name + 0) (λ name. omega arith) answering_rules
all_counted (rule ∷ rules) f listed most =
    ap (counted_all rules)
    (one_counted answering_rules rule f listed.0 (λ name. omega (arith, most name)))
    ∙ all_counted rules (more f rule) listed.1 (λ name. omega (arith, most name, few_more name))
    ∙ same_map (λ (name : Text). more f rule name + times_in rules name)
    (λ (name : Text). f name + times_in (rule ∷ rules) name) (λ name. omega arith) answering_rules
  where
    one_or_none : (b : Bool) → once b ≤ 1
    one_or_none true = omega arith
    one_or_none false = omega arith

    few_more : (name : Text) → more f rule name ≤ f name + 1
    few_more name = omega (arith, one_or_none (pointwise nat_eq rule name))

pub times_few : (rules : List Text) (name : Text) → times_in rules name ≤ length rules
times_few [] name = omega arith
times_few (rule ∷ rules) name = by (pointwise nat_eq rule name) (times_few rules name)
  where
    by : (b : Bool) → times_in rules name ≤ length rules → once b + times_in rules name ≤ length (rule ∷ rules)
    by true few = omega (arith, few)
    by false few = omega (arith, few)
