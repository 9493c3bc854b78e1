-- Where a claim was found.
use Rattle.std.proofs.Common.{◌≡◌, ℕ, zero, suc, drop, ◌+◌, Bool, true, false, cond, List, [], ◌∷◌, Option, Some, None}
use Rattle.std.proofs.Common.{unwrap_or, is_some, refl, sym, ap, ◌∙◌, subst, inl, inr, arith}
use Rattle.std.specs.Prelude.{slice_get}
use Rattle.std.specs.Option.{option_or, option_map}
use Rattle.std.proofs.lemmas.Bool.{cases_Bool, true≢false}
use Rattle.ide_types.specs.declared.interface.BarPlan.{BarPlan}
use Rattle.trusted_memory.specs.declared.span.Span.{Span}
use Rattle.guarded_memory.specs.declared.status.InterfaceStatus.{InterfaceStatus}
use Rattle.guarded_memory.specs.declared.claims.Claim.{Claim}
use Rattle.guarded_memory.specs.Claims.{holds_span, first_passing, holding_bar, claimed_bar, new_claim}
use Rattle.guarded_memory.specs.Claims.{first_claim_from, claim_of}

abbrev PassesAt : {X : Type 0} → (X → Bool) → ℕ → List X → ℕ × X → Type 0
PassesAt {X} test n xs r = (j : ℕ) × (r.0 ≡ n + j) × (slice_get xs j ≡ Some r.1) × (test r.1 ≡ true)

passing_here : {X : Type 0} (test : X → Bool) (n : ℕ) (x : X) (xs : List X) (r : ℕ × X) → (n, x) ≡ r → test x ≡ true
    → PassesAt test n (x ∷ xs) r
passing_here {X} test n x xs r same passes =
    let number : r.0 ≡ n = sym (ap (λ (p : ℕ × X). p.0) same) in (
      0,
      omega (arith, number),
      ap (λ (p : ℕ × X). Some p.1) same,
      sym (ap (λ (p : ℕ × X). test p.1) same) ∙ passes,
    )

passing_later : {X : Type 0} (test : X → Bool) (n : ℕ) (x : X) (xs : List X) (r : ℕ × X)
    → PassesAt test (n + 1) xs r → PassesAt test n (x ∷ xs) r
passing_later test n x xs r p = (suc p.0, omega (arith, p.1), p.2, p.3)

found : {X : Type 0} (test : X → Bool) (n : ℕ) (xs : List X) (r : ℕ × X) → first_passing test n xs ≡ Some r
    → PassesAt test n xs r
found {X} test n [] r e = absurd (true≢false (sym (ap (λ (o : Option (ℕ × X)). is_some o) e)))
found {X} test n (x ∷ xs) r e = elim (cases_Bool (test x)) [
  | inl y ↦
      passing_here test n x xs r (ap (λ (o : Option (ℕ × X)). unwrap_or o (n, x)) (rw y at e)) y
  | inr z ↦ passing_later test n x xs r (found test (n + 1) xs r (rw z at e))
]

-- ---- interfaces

abbrev ClaimsAt : ℕ → List InterfaceStatus → Span → Claim → Type 0
ClaimsAt n xs s c = (j : ℕ) × (c.interface ≡ n + j) × (slice_get xs j ≡ Some c.status)
    × (claimed_bar c.status s ≡ Some (c.bar, c.range))

claims_step : (n : ℕ) (x : InterfaceStatus) (xs : List InterfaceStatus) (s : Span) (c : Claim)
    (o : Option (ℕ × BarPlan))
    → claimed_bar x s ≡ o → option_or (option_map (new_claim n x) o) (first_claim_from (n + 1) xs s) ≡ Some c
    → (first_claim_from (n + 1) xs s ≡ Some c → ClaimsAt (n + 1) xs s c) → ClaimsAt n (x ∷ xs) s c
claims_step n x xs s c None is e next = let p = next e in (suc p.0, omega (arith, p.1), p.2, p.3)
claims_step n x xs s c (Some bar) is e next =
    let same : new_claim n x bar ≡ c = ap (λ (o : Option Claim). unwrap_or o (new_claim n x bar)) e in
    subst (λ (d : Claim). ClaimsAt n (x ∷ xs) s d) same (0, omega arith, refl, is)

claims_at : (n : ℕ) (xs : List InterfaceStatus) (s : Span) (c : Claim) → first_claim_from n xs s ≡ Some c
    → ClaimsAt n xs s c
claims_at n [] s c e = absurd (true≢false (sym (ap (λ (o : Option Claim). is_some o) e)))
claims_at n (x ∷ xs) s c e = claims_step n x xs s c (claimed_bar x s) refl e (claims_at (n + 1) xs s c)

-- the interface and the BAR of a claim stand so, and the range holds the span
pub record IsClaimed (xs : List InterfaceStatus) (s : Span) (c : Claim) : Type 0 where
  pub interface : slice_get xs c.interface ≡ Some c.status
  pub bar : slice_get c.status.bars c.bar ≡ Some c.range
  pub holds : holds_span c.range s ≡ true

if_some : (m : Bool) (o : Option (ℕ × BarPlan)) (r : ℕ × BarPlan) → cond m o None ≡ Some r → o ≡ Some r
if_some true o r e = e
if_some false o r e = absurd (true≢false (sym (ap (λ (p : Option (ℕ × BarPlan)). is_some p) e)))

pub claimed : (xs : List InterfaceStatus) (s : Span) (c : Claim) → claim_of xs s ≡ Some c → IsClaimed xs s c
claimed xs s c e =
    let p = claims_at 0 xs s c e in
    let i : p.0 ≡ c.interface = omega (arith, p.1) in
    let held = if_some c.status.memory_space (holding_bar c.status.bars s) (c.bar, c.range) p.3 in
    let q = found (λ range. holds_span range s) 0 c.status.bars (c.bar, c.range) held in
    let b : q.0 ≡ c.bar = omega (arith, q.1) in
    record {
      interface = subst (λ (k : ℕ). slice_get xs k ≡ Some c.status) i p.2;
      bar = subst (λ (k : ℕ). slice_get c.status.bars k ≡ Some c.range) b q.2;
      holds = q.3;
    }

-- ---- interface after interface

drop_at : {X : Type 0} (xs : List X) (i : ℕ) (x : X) → slice_get xs i ≡ Some x → drop i xs ≡ x ∷ drop (i + 1) xs
drop_at {X} [] zero x e = absurd (true≢false (sym (ap (λ (o : Option X). is_some o) e)))
drop_at {X} [] (suc i) x e = absurd (true≢false (sym (ap (λ (o : Option X). is_some o) e)))
drop_at {X} (y ∷ xs) zero x e = ap (λ (o : Option X). unwrap_or o y ∷ xs) e
drop_at {X} (y ∷ xs) (suc i) x e =
    let next : suc (i + 1) ≡ suc i + 1 = omega arith in
    subst (λ (k : ℕ). drop i xs ≡ x ∷ drop k (y ∷ xs)) next (drop_at xs i x e)

-- the claim from an interface on is its own, or that of those behind it
pub first_claim_from-next : (n i : ℕ) (xs : List InterfaceStatus) (s : Span) (x : InterfaceStatus)
    (o : Option (ℕ × BarPlan))
    → slice_get xs i ≡ Some x → claimed_bar x s ≡ o → first_claim_from n (drop i xs) s
    ≡ option_or (option_map (new_claim n x) o) (first_claim_from (n + 1) (drop (i + 1) xs) s)
first_claim_from-next n i xs s x o is bar =
    ap (λ (ys : List InterfaceStatus). first_claim_from n ys s) (drop_at xs i x is)
    ∙ ap (λ (p : Option (ℕ × BarPlan)). option_or (option_map (new_claim n x) p)
    (first_claim_from (n + 1) (drop (i + 1) xs) s)) bar
