-- The stream of the least ID, and tests of lists, one element at a time.
use Rattle.std.proofs.Common.{◌≡◌, ℕ, suc, ◌+◌, ◌<◌, length, take, get_or, Bool, false, ◌||◌, ◌==◌, List}
use Rattle.std.proofs.Common.{[], ◌∷◌, ◌++◌, Option, Some, None, refl, sym, ap, ◌∙◌, inl, inr, arith, ◌⊎◌, ◌&&◌}
use Rattle.std.specs.Prelude.{if◌then◌else◌, nat_lt, IfSome}
use Rattle.std.specs.List.{list_any, position_or_len}
use Rattle.std.specs.Option.{option_map}
use Rattle.std.proofs.Math.Seq.{take-suc}
use Rattle.std.proofs.lemmas.Bool.{cases_Bool, true≢false}
use Rattle.std.proofs.lemmas.Bool.Decides.{nat_tests}
use Rattle.ide_types.specs.declared.stream.StreamPlan.{StreamPlan}
use Rattle.ide_types.specs.declared.stream.Selector.{Selector}
use Rattle.tlp_layout.specs.declared.choice.ChosenStream.{ChosenStream}
use Rattle.tlp_layout.specs.declared.choice.Way.{Way}
use Rattle.tlp_layout.specs.Choice.{lesser_id, least_of, plan_place}
use Rattle.tlp_layout.specs.Ways.{one_before}

-- ---- the stream of the least ID

-- of streams that stand from a place on
abbrev pub least_from : Way → (Selector → Bool) → List StreamPlan → ℕ → Option ChosenStream
least_from way test [] i = None
least_from way test (s ∷ ss) i = one_before (test s.selector) way s.id i (least_from way test ss (i + 1))

id_before : (b : Bool) (way : Way) (id i : ℕ) (o : Option ChosenStream) (m : Option ℕ)
    → option_map (λ (c : ChosenStream). c.id) o ≡ m
    → option_map (λ (c : ChosenStream). c.id) (one_before b way id i o) ≡ (if b then lesser_id id m else m)
id_before b way id i o m is = grind (arith, nat_tests)

pub least_from-id : (way : Way) (test : Selector → Bool) (ss : List StreamPlan) (i : ℕ)
    → option_map (λ (c : ChosenStream). c.id) (least_from way test ss i) ≡ least_of test ss
least_from-id way test [] i = refl
least_from-id way test (s ∷ ss) i = id_before (test s.selector) way s.id i (least_from way test ss (i + 1))
    (least_of test ss) (least_from-id way test ss (i + 1))

-- it is the one before, or another ID that was there
one_of_two : (b : Bool) (way : Way) (id i : ℕ) (o : Option ChosenStream) (c : ChosenStream)
    → one_before b way id i o ≡ Some c
    → (c ≡ record { way = way; id = id; place = i }) ⊎ ((o ≡ Some c) × ((id == c.id) ≡ false))
one_of_two b way id i None c is = inl (grind (arith, nat_tests))
one_of_two b way id i (Some other) c is = elim (cases_Bool (id == other.id)) [
  | inl e ↦ inl (grind (arith, nat_tests))
  | inr e ↦ elim (cases_Bool (b && nat_lt id other.id)) [
    | inl l ↦ inl (grind (arith, nat_tests))
    | inr l ↦ inr (grind (arith, nat_tests), grind (arith, nat_tests))
  ]
]

-- how it was chosen, and that its place is the first of its ID
pub record IsFirst (way : Way) (ss : List StreamPlan) (i : ℕ) (c : ChosenStream) : Type 0 where
  pub named : c.way ≡ way
  pub within : position_or_len (λ (s : StreamPlan). s.id == c.id) ss < length ss
  pub at : i + position_or_len (λ (s : StreamPlan). s.id == c.id) ss ≡ c.place

pub least_from-first : (way : Way) (test : Selector → Bool) (ss : List StreamPlan) (i : ℕ) (c : ChosenStream)
    → least_from way test ss i ≡ Some c → IsFirst way ss i c
least_from-first way test [] i c is = absurd cc
least_from-first way test (s ∷ ss) i c is =
    elim (one_of_two (test s.selector) way s.id i (least_from way test ss (i + 1)) c is) [
      | inl e ↦ rw e (record { named = refl; within = grind (arith, nat_tests); at = grind (arith, nat_tests) })
      | inr h ↦
          let f = least_from-first way test ss (i + 1) c h.0 in
          let no = h.1 in
          record {
            named = f.named;
            within = grind (arith, nat_tests, f.within);
            at = grind (arith, nat_tests, f.at);
          }
    ]

first_place : (way : Way) (ss : List StreamPlan) (c : ChosenStream) → IsFirst way ss 0 c
    → plan_place ss c.id ≡ Some c.place
first_place way ss c f = grind (arith, nat_tests, f.within, f.at)

module _ (way : Way) (test : Selector → Bool) (ss : List StreamPlan) where
  pub way_if : (o : Option ChosenStream) → o ≡ least_from way test ss 0 → IfSome o (λ c. c.way ≡ way)
  way_if None is = tt
  way_if (Some c) is = (least_from-first way test ss 0 c (sym is)).named

  pub place_if : (o : Option ChosenStream) → o ≡ least_from way test ss 0
      → IfSome o (λ c. plan_place ss c.id ≡ Some c.place)
  place_if None is = tt
  place_if (Some c) is = first_place way ss c (least_from-first way test ss 0 c (sym is))

-- ---- tests of lists

pub list_any-append_one : {X : Type 0} (test : X → Bool) (xs : List X) (x : X) → list_any test xs ≡ false
    → list_any test (xs ++ x ∷ []) ≡ test x
list_any-append_one test [] x none = elim (cases_Bool (test x)) [ inl e ↦ rw e refl | inr e ↦ rw e refl ]
list_any-append_one test (y ∷ ys) x none = elim (cases_Bool (test y)) [
  | inl e ↦ let h : (test y || list_any test ys) ≡ false = none in absurd (true≢false (sym (rw e refl) ∙ h))
  | inr e ↦ rw e (list_any-append_one test ys x (rw e at none))
]

next : {X : Type 0} (xs : List X) (i : ℕ) (d : X) → i < length xs → take (i + 1) xs ≡ take i xs ++ get_or xs i d ∷ []
next xs i d less =
    let one_more : i + 1 ≡ suc i = omega arith in
    rw one_more (take-suc xs i d less)

pub list_any-next : {X : Type 0} (test : X → Bool) (xs : List X) (i : ℕ) (d : X) → i < length xs
    → list_any test (take i xs) ≡ false → test (get_or xs i d) ≡ false → list_any test (take (i + 1) xs) ≡ false
list_any-next {X} test xs i d less none other = ap (λ (l : List X). list_any test l) (next xs i d less)
    ∙ list_any-append_one test (take i xs) (get_or xs i d) none ∙ other
