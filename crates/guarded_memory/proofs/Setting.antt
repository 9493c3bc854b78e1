-- The bytes of a payload, set one by one.
use Rattle.std.proofs.Common.{◌≡◌, ◌≢◌, ℕ, ◌+◌, ◌-◌, Bool, true, false, cond, ◌&&◌, leb, ltb, eqb}
use Rattle.std.proofs.Common.{get_or, refl, sym, ◌∙◌, inl, inr, subst, arith}
use Rattle.std.proofs.lemmas.Bool.{cases_Bool, eqb-true, eqb-false}
use Rattle.std.proofs.lemmas.Bool.Decides.{nat_tests}
use Rattle.trusted_memory.specs.Spans.{is_enabled}
use Rattle.trusted_memory.specs.Writes.{Write}

-- the byte at a place once the first n bytes of the payload are set, from an offset of a range on
abbrev pub set_to : ℕ → ℕ → ℕ → Write → ℕ → (ℕ → ℕ → ℕ → ℕ) → ℕ → ℕ → ℕ → ℕ
set_to i b offset w n old j c a =
    cond ((eqb i j && eqb b c) && ((leb offset a && ltb a (offset + n)) && is_enabled w.span (a - offset)))
    (get_or w.payload (a - offset) 0) (old j c a)

-- ---- one more

ltb-other : (a offset n : ℕ) → a ≢ offset + n → ltb a (offset + (n + 1)) ≡ ltb a (offset + n)
ltb-other a offset n other = grind (arith, nat_tests)

ltb-here : (offset n : ℕ) → ltb (offset + n) (offset + n) ≡ false
ltb-here offset n = grind (arith, nat_tests)

ltb-next : (offset n : ℕ) → ltb (offset + n) (offset + (n + 1)) ≡ true
ltb-next offset n = grind (arith, nat_tests)

leb-here : (offset n : ℕ) → leb offset (offset + n) ≡ true
leb-here offset n = grind (arith, nat_tests)

eqb-here : (n : ℕ) → eqb n n ≡ true
eqb-here n = grind (arith, nat_tests)

here : (p e : Bool) (v x : ℕ) → cond ((p && true) && e) v (cond (p && ((true && false) && e)) v x)
    ≡ cond (p && ((true && true) && e)) v x
here true true v x = refl
here true false v x = refl
here false e v x = refl

elsewhere : (p e : Bool) (v x : ℕ) → cond ((p && false) && e) v x ≡ x
elsewhere true e v x = refl
elsewhere false e v x = refl

set_here : (i b offset : ℕ) (w : Write) (n : ℕ) (old : ℕ → ℕ → ℕ → ℕ) (j c now next : ℕ)
    → now ≡ set_to i b offset w n old j c (offset + n)
    → next ≡ cond (((eqb i j && eqb b c) && eqb (offset + n) (offset + n)) && is_enabled w.span n)
    (get_or w.payload n 0) now
    → next ≡ set_to i b offset w (n + 1) old j c (offset + n)
set_here i b offset w n old j c now next before is =
    let place : (offset + n) - offset ≡ n = omega arith in
    let was : now ≡ cond ((eqb i j && eqb b c) && ((true && false) && is_enabled w.span n)) (get_or w.payload n 0)
    (old j c (offset + n)) = before ∙ rw (leb-here offset n, ltb-here offset n, place) refl in
    is ∙ rw (eqb-here (offset + n), leb-here offset n, ltb-next offset n, place, was)
    (here (eqb i j && eqb b c) (is_enabled w.span n) (get_or w.payload n 0) (old j c (offset + n)))

pub set_next : (i b offset : ℕ) (w : Write) (n : ℕ) (old now next : ℕ → ℕ → ℕ → ℕ)
    → ((j c a : ℕ) → now j c a ≡ set_to i b offset w n old j c a)
    → ((j c a : ℕ) → next j c a ≡ cond (((eqb i j && eqb b c) && eqb (offset + n) a) && is_enabled w.span n)
    (get_or w.payload n 0) (now j c a))
    → (j c a : ℕ) → next j c a ≡ set_to i b offset w (n + 1) old j c a
set_next i b offset w n old now next before is j c a = elim (cases_Bool (eqb (offset + n) a)) [
  | inl e ↦
      subst (λ (q : ℕ). next j c q ≡ set_to i b offset w (n + 1) old j c q) (eqb-true (offset + n) a e)
      (set_here i b offset w n old j c (now j c (offset + n)) (next j c (offset + n)) (before j c (offset + n))
      (is j c (offset + n)))
  | inr e ↦
      let other : a ≢ offset + n = λ same. eqb-false (offset + n) a e (sym same) in
      is j c a ∙ rw e (elsewhere (eqb i j && eqb b c) (is_enabled w.span n) (get_or w.payload n 0) (now j c a))
      ∙ before j c a ∙ rw (ltb-other a offset n other) refl
]
