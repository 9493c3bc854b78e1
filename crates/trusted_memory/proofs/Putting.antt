-- The bytes of a payload, put one by one.
use Rattle.std.proofs.Common.{◌≡◌, ◌≢◌, ℕ, ◌+◌, ◌-◌, ◌<◌, true, false, cond, ◌&&◌, leb, ltb, eqb, List, length, get_or}
use Rattle.std.proofs.Common.{refl, sym, ap, ◌∙◌, subst, inl, inr, arith, get_or-set_other, get_or-set_same}
use Rattle.std.proofs.Math.ListN.{set}
use Rattle.std.proofs.lemmas.Bool.{cases_Bool, eqb-true, eqb-false}
use Rattle.std.proofs.lemmas.Bool.Decides.{nat_tests}
use Rattle.trusted_memory.specs.Spans.{is_enabled}
use Rattle.trusted_memory.specs.Writes.{Write}

-- place k once the bytes before place i of the payload stand
abbrev pub put_to : Write → ℕ → ℕ → List ℕ → ℕ → ℕ
put_to w start i old k = cond ((leb start k && ltb k (start + i)) && is_enabled w.span (k - start))
    (get_or w.payload (k - start) 0) (get_or old k 0)

ltb-next_other : (k start i : ℕ) → k ≢ start + i → ltb k (start + (i + 1)) ≡ ltb k (start + i)
ltb-next_other k start i other = grind (arith, nat_tests)

ltb-here : (start i : ℕ) → ltb (start + i) (start + i) ≡ false
ltb-here start i = grind (arith, nat_tests)

ltb-next : (start i : ℕ) → ltb (start + i) (start + (i + 1)) ≡ true
ltb-next start i = grind (arith, nat_tests)

leb-here : (start i : ℕ) → leb start (start + i) ≡ true
leb-here start i = grind (arith, nat_tests)

put_here : (w : Write) (start i : ℕ) (old bytes new : List ℕ) → start + i < length bytes
    → new ≡ cond (is_enabled w.span i) (set bytes (start + i) (get_or w.payload i 0)) bytes
    → get_or bytes (start + i) 0 ≡ put_to w start i old (start + i) → get_or new (start + i) 0
    ≡ put_to w start (i + 1) old (start + i)
put_here w start i old bytes new less is before =
    let place : (start + i) - start ≡ i = omega arith in
    let old_byte : get_or bytes (start + i) 0 ≡ get_or old (start + i) 0 = before ∙ rw
    (leb-here start i, ltb-here start i) refl in
    elim (cases_Bool (is_enabled w.span i)) [
      | inl e ↦
          ap (λ (s : List ℕ). get_or s (start + i) 0) is ∙ rw (leb-here start i, ltb-next start i, place, e)
          (get_or-set_same bytes (start + i) _ 0 less)
      | inr e ↦
          ap (λ (s : List ℕ). get_or s (start + i) 0) is ∙ rw (leb-here start i, ltb-next start i, place, e) old_byte
    ]

put_other : (w : Write) (start i : ℕ) (old bytes new : List ℕ) (k : ℕ) → k ≢ start + i
    → new ≡ cond (is_enabled w.span i) (set bytes (start + i) (get_or w.payload i 0)) bytes
    → get_or bytes k 0 ≡ put_to w start i old k → get_or new k 0 ≡ put_to w start (i + 1) old k
put_other w start i old bytes new k other is before =
    let same : get_or new k 0 ≡ get_or bytes k 0 = elim (cases_Bool (is_enabled w.span i)) [
      | inl e ↦ ap (λ (s : List ℕ). get_or s k 0) is ∙ rw e (get_or-set_other bytes (start + i) k _ 0 other)
      | inr e ↦ ap (λ (s : List ℕ). get_or s k 0) is ∙ rw e refl
    ] in
    same ∙ before ∙ rw (ltb-next_other k start i other) refl

pub put_next : (w : Write) (start i : ℕ) (old bytes new : List ℕ) → start + i < length bytes
    → new ≡ cond (is_enabled w.span i) (set bytes (start + i) (get_or w.payload i 0)) bytes
    → ((k : ℕ) → get_or bytes k 0 ≡ put_to w start i old k) → (k : ℕ) → get_or new k 0 ≡ put_to w start (i + 1) old k
put_next w start i old bytes new less is before k = elim (cases_Bool (eqb k (start + i))) [
  | inl e ↦
      let here = eqb-true k (start + i) e in
      subst (λ (j : ℕ). get_or new j 0 ≡ put_to w start (i + 1) old j) (sym here)
      (put_here w start i old bytes new less is (before (start + i)))
  | inr e ↦ put_other w start i old bytes new k (eqb-false k (start + i) e) is (before k)
]
