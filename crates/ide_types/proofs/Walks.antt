-- How far bytes walk, and what a reading answers: the value of a spelling, or the cause at the first fault.
use Rattle.std.proofs.Common.{◌≡◌, ℕ, ◌<◌, ◌≤◌, Bool, ltb, IsTrue, ◌&&◌, List, [], ◌∷◌, ◌++◌, length, get_or, take, Ok}
use Rattle.std.proofs.Common.{Err, refl, sym, ap, subst, ◌∙◌, arith, inl, inr, append_assoc, true≢false, length-append}
use Rattle.std.proofs.Common.{take_at}
use Rattle.std.specs.Prelude.{◌⊎◌, ◌↔◌}
use Rattle.std.proofs.lemmas.Bool.{cases_eq, cases_lt, cases_Bool, eq-eqb, ne_eqb, ltb-true, lt-ltb, le-ltb, and_parts}
use Rattle.std.proofs.lemmas.Bool.{and_from}
use Rattle.std.proofs.lemmas.List.{take-append-le, get_or-append_right}
use Rattle.ide_types.specs.Fronts.{IsFaultPlace}
use Rattle.ide_types.specs.Walks.{walked_from, walk_length, whole_reading}
use Rattle.ide_types.proofs.Fronts.{IsGrammar, EndsAt, Walks, fitting_like, size_like, walks_push, place_of, same_place}

-- a prefix wants more if it is shorter than it says
abbrev pub wants : (List ℕ → ℕ) → List ℕ → Bool
wants size s = ltb (length s) (size s)

module _ {Spelled : List ℕ → Type 0} {size : List ℕ → ℕ} {fits : List ℕ → ℕ → Bool} {few : ℕ}
    (g : IsGrammar Spelled size fits few) where
  ends_here : (front rest : List ℕ) → Walks size fits front →
      (0 < length rest → length front < size front → IsTrue (fits front (get_or rest 0 0)) → ⊥)
      → EndsAt size fits (front ++ rest) (length front)
  ends_here front rest w stop =
      let whole : take (length front) (front ++ rest) ≡ front = take_at front rest (length front) refl in
      let one : length front ≤ length front = omega arith in
      let same : take (length front) front ≡ take (length front) (front ++ rest) = sym
      (take-append-le (length front) front rest one) in
      let byte : get_or (front ++ rest) (length front) 0 ≡ get_or rest 0 0 = get_or-append_right front rest _ _ 0 refl
      one ∙ ap (λ (i : ℕ). get_or rest i 0) (omega arith) in
      record {
        within = omega (arith, length-append front rest);
        sized = omega (arith, w.sized, size_like g (length front) front (front ++ rest) same, g.least (front ++ rest));
        fitting = fitting_like fits (length front) front (front ++ rest) same w.fitting;
        off = λ lt more t.
            let here : length front < size front = omega
            (arith, size_like g (length front) front (front ++ rest) same, g.least front) in
            stop (omega (arith, length-append front rest)) here (rw (whole, byte) at t);
      }

  ends_at : (front rest : List ℕ) → Walks size fits front → EndsAt size fits (front ++ rest)
      (walked_from (wants size) fits front rest)
  unfolding walked_from
  ends_at front [] w = ends_here front [] w (λ lt more f. absurd (omega arith))
  ends_at front (b ∷ rest) w = elim (cases_Bool (wants size front && fits front b)) [
    | inl on ↦
        let p = and_parts (wants size front) (fits front b) on in
        let next = ends_at (front ++ b ∷ []) rest (walks_push g front b w (ltb-true _ _ p.0) p.1) in
        let place = walked_from (wants size) fits (front ++ b ∷ []) rest in
        rw on (subst (λ (s : List ℕ). EndsAt size fits s place) (append_assoc front (b ∷ []) rest) next)
    | inr off ↦ rw off (ends_here front (b ∷ rest) w
        (λ lt more f. true≢false (sym (and_from (wants size front) (fits front b) (lt-ltb _ _ more) f) ∙ off)))
  ]

  -- what a reading of these bytes answers
  answer : {V F : Type 0} (value : List ℕ → V) (cause : List ℕ → ℕ → F) (s : List ℕ)
      → (Spelled s × (whole_reading (wants size) fits value cause s ≡ Ok (value s)))
      ⊎ ((place : ℕ) × IsFaultPlace Spelled s place
      × (whole_reading (wants size) fits value cause s ≡ Err (cause s place)))
  unfolding whole_reading walk_length
  answer value cause s =
      let place = walked_from (wants size) fits [] s in
      let e : EndsAt size fits s place = ends_at [] s
      (record { fitting = λ i lt. absurd (omega arith); sized = omega arith }) in
      elim (cases_eq place (length s)) [
        | inl all ↦ elim (cases_lt (length s) (size s)) [
          | inl more ↦ rw (eq-eqb _ _ all, lt-ltb _ _ more) (inr (place, place_of g s place e (λ _. omega arith), refl))
          | inr done ↦ rw (eq-eqb _ _ all, le-ltb _ _ done)
              (inl (g.whole s (rw all at e.fitting) (omega (arith, e.sized)), refl))
        ]
        | inr part ↦ rw (ne_eqb _ _ part) (inr (place, place_of g s place e (λ all. absurd (part all)), refl))
      ]

  -- what is spelled is read as its value, and nothing else is read
  pub reads_iff : {V F : Type 0} (value : List ℕ → V) (cause : List ℕ → ℕ → F) (Spells : V → List ℕ → Type 0)
      → ((s : List ℕ) → Spelled s → (v : V) × Spells v s) →
      ((v : V) (s : List ℕ) → Spells v s → Spelled s × (value s ≡ v))
      → (v : V) (s : List ℕ) → (Spells v s) ↔ (whole_reading (wants size) fits value cause s ≡ Ok v)
  reads_iff value cause Spells some only v s = (
    λ p. elim (answer value cause s) [
      | inl ok ↦ ok.1 ∙ ap (λ x. Ok x) (only v s p).1
      | inr err ↦ absurd (err.1.not_spelled (only v s p).0)
    ],
    λ e. elim (answer value cause s) [
      | inl ok ↦
          let is = some s ok.0 in
          let one = (only is.0 s is.1).1 in
          let read : Ok (value s) ≡ Ok v = sym ok.1 ∙ e in
          let same : is.0 ≡ v = cc in
          subst (λ x. Spells x s) same is.1
      | inr err ↦ let wrong : Err (cause s err.0) ≡ Ok v = sym err.2 ∙ e in absurd cc
    ],
  )

  -- and what goes off is refused for the cause there, and nothing else is refused
  pub refuses_iff : {V F : Type 0} (value : List ℕ → V) (cause : List ℕ → ℕ → F) (f : F) (s : List ℕ)
      → ((place : ℕ) × IsFaultPlace Spelled s place × (f ≡ cause s place)) ↔
      (whole_reading (wants size) fits value cause s ≡ Err f)
  refuses_iff value cause f s = (
    λ p. elim (answer value cause s) [
      | inl ok ↦ absurd (p.1.not_spelled ok.0)
      | inr err ↦ err.2 ∙ ap (λ q. Err (cause s q)) (same_place Spelled s err.0 p.0 err.1 p.1) ∙ ap (λ x. Err x)
          (sym p.2)
    ],
    λ e. elim (answer value cause s) [
      | inl ok ↦ let wrong : Ok (value s) ≡ Err f = sym ok.1 ∙ e in absurd cc
      | inr err ↦ let same : Err f ≡ Err (cause s err.0) = sym e ∙ err.2 in (err.0, err.1, cc)
    ],
  )
