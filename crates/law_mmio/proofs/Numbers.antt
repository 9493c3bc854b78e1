-- What writes leave at an address, and what claims them, in numbers.
use Rattle.std.proofs.Common.{◌≡◌, ℕ, zero, suc, ◌+◌, ◌-◌, ◌*◌, ◌<◌, ◌≤◌, Bool, true, false, cond, List, [], ◌∷◌}
use Rattle.std.proofs.Common.{Option, Some}
use Rattle.std.proofs.Common.{None, refl, sym, ap, ◌∙◌, subst, inl, inr, arith, ◌⊎◌}
use Rattle.std.specs.Prelude.{slice_get, if◌then◌else◌}
use Rattle.std.specs.Option.{option_or, option_map}
use Rattle.std.proofs.lemmas.Bool.{cases_Bool, cases_lt, true≢false}
use Rattle.std.proofs.lemmas.Bool.Decides.{nat_tests}
use Rattle.ide_types.specs.declared.interface.BarPlan.{BarPlan}
use Rattle.trusted_memory.specs.declared.span.Span.{Span}
use Rattle.trusted_memory.specs.Spans.{enables, is_enabled}
use Rattle.trusted_memory.specs.Writes.{Write}
unfoldable use Rattle.trusted_memory.specs.Writes.{byte_last_written}
use Rattle.trusted_memory.proofs.Turns.{byte_last_written-next}
use Rattle.guarded_memory.specs.declared.status.InterfaceStatus.{InterfaceStatus}
use Rattle.guarded_memory.specs.declared.claims.Claim.{Claim}
use Rattle.guarded_memory.specs.Claims.{holds_span, first_passing, holding_bar, claimed_bar, new_claim}
use Rattle.guarded_memory.specs.Claims.{first_claim_from, claim_of}
use Rattle.law_mmio.specs.Numbers.{NamesByte, IsLastByte, HasBytes, MayClaim, IsLeastClaim}
use Rattle.law_mmio.specs.Numbers.{ClaimsLeast}

-- ---- bytes

pub named : (s : Span) (at : ℕ) → enables s at ≡ true → NamesByte s at
named s at is = record {
  from = grind (arith, nat_tests, is);
  to = grind (arith, nat_tests, is);
  enable = grind (arith, is);
}

pub not_named : (s : Span) (at : ℕ) → enables s at ≡ false → NamesByte s at → ⊥
not_named s at is names =
    let from = names.from in
    let to = names.to in
    let enable = names.enable in
    true≢false (sym (enabled from to enable) ∙ is)
  where
    enabled : s.address ≤ at → at < s.address + 4 * s.length → is_enabled s (at - s.address) ≡ true
        → enables s at ≡ true
    enabled from to enable = grind (arith, nat_tests, from, to, enable)

later_last : (w : Write) (ws : List Write) (at byte : ℕ) → enables w.span at ≡ false → IsLastByte ws at byte
    → IsLastByte (w ∷ ws) at byte
later_last w ws at byte not (inl of) = inl (record {
  write = of.write;
  place = suc of.place;
  stands = of.stands;
  names = of.names;
  last = before;
  byte_is = of.byte_is;
})
  where
    before : (i : ℕ) (v : Write) → i < suc of.place → slice_get (w ∷ ws) i ≡ Some v → NamesByte v.span at → ⊥
    before zero v less is names = let same : w ≡ v = cc (is) in
        not_named v.span at (ap (λ (x : Write). enables x.span at) (sym same) ∙ not) names
    before (suc i) v less is names = of.last i v (omega (arith, less)) is names
later_last w ws at byte not (inr of) = inr (record { none = before; byte_is = of.byte_is })
  where
    before : (i : ℕ) (v : Write) → slice_get (w ∷ ws) i ≡ Some v → NamesByte v.span at → ⊥
    before zero v is names = let same : w ≡ v = cc (is) in
        not_named v.span at (ap (λ (x : Write). enables x.span at) (sym same) ∙ not) names
    before (suc i) v is names = of.none i v is names

pub last_byte : (ws : List Write) (at : ℕ) → IsLastByte ws at (byte_last_written ws at)
unfolding byte_last_written
last_byte [] at = inr (record { none = λ i w is. absurd cc; byte_is = refl })
last_byte (w ∷ ws) at = elim (cases_Bool (enables w.span at)) [
  | inl is ↦ inl (record {
    write = w;
    place = 0;
    stands = refl;
    names = named w.span at is;
    last = λ i v less. absurd (omega (arith, less));
    byte_is = rw is refl;
  })
  | inr not ↦
      let same : byte_last_written (w ∷ ws) at ≡ byte_last_written ws at = byte_last_written-next w ws at
      ∙ rw not refl in
      subst (IsLastByte (w ∷ ws) at) (sym same)
      (later_last w ws at (byte_last_written ws at) not (last_byte ws at))
]

-- ---- the first that passes

record IsFirst {X : Type 0} (test : X → Bool) (n : ℕ) (xs : List X) (r : ℕ × X) : Type 0 where
  place : ℕ
  number : r.0 ≡ n + place
  stands : slice_get xs place ≡ Some r.1
  passes : test r.1 ≡ true
  first : (i : ℕ) (x : X) → i < place → slice_get xs i ≡ Some x → test x ≡ false

-- what is so of the first is so of each, if it is of those behind
first_too : {X : Type 0} (P : X → Type 0) (y : X) (ys : List X) (n : ℕ) → P y
    → ((i : ℕ) (x : X) → i < n → slice_get ys i ≡ Some x → P x) → (i : ℕ) (x : X) → i < suc n
    → slice_get (y ∷ ys) i ≡ Some x → P x
first_too P y ys n here later zero x less is = subst P (cc (is)) here
first_too P y ys n here later (suc i) x less is = later i x (omega (arith, less)) is

all_too : {X : Type 0} (P : X → Type 0) (y : X) (ys : List X) → P y
    → ((i : ℕ) (x : X) → slice_get ys i ≡ Some x → P x) → (i : ℕ) (x : X) → slice_get (y ∷ ys) i ≡ Some x → P x
all_too P y ys here later zero x is = subst P (cc (is)) here
all_too P y ys here later (suc i) x is = later i x is

none_step : {X : Type 0} (test : X → Bool) (n : ℕ) (y : X) (ys : List X) (b : Bool) → test y ≡ b
    → (if b then Some (n, y) else first_passing test (n + 1) ys) ≡ None
    → (first_passing test (n + 1) ys ≡ None → (i : ℕ) (x : X) → slice_get ys i ≡ Some x → test x ≡ false)
    → (i : ℕ) (x : X) → slice_get (y ∷ ys) i ≡ Some x → test x ≡ false
none_step test n y ys true here e later = absurd cc
none_step test n y ys false not e later = all_too (λ z. test z ≡ false) y ys not (later e)

none_passes : {X : Type 0} (test : X → Bool) (n : ℕ) (xs : List X) → first_passing test n xs ≡ None
    → (i : ℕ) (x : X) → slice_get xs i ≡ Some x → test x ≡ false
none_passes test n [] e = λ i x is. absurd cc
none_passes test n (y ∷ ys) e = none_step test n y ys (test y) refl e (none_passes test (n + 1) ys)

first_step : {X : Type 0} (test : X → Bool) (n : ℕ) (y : X) (ys : List X) (r : ℕ × X) (b : Bool) → test y ≡ b
    → (if b then Some (n, y) else first_passing test (n + 1) ys) ≡ Some r
    → (first_passing test (n + 1) ys ≡ Some r → IsFirst test (n + 1) ys r) → IsFirst test n (y ∷ ys) r
first_step test n y ys r true here e later =
    let same : (n, y) ≡ r = cc (e) in
    subst (IsFirst test n (y ∷ ys)) same (record {
      place = 0;
      number = omega arith;
      stands = refl;
      passes = here;
      first = λ i x less. absurd (omega (arith, less));
    })
first_step test n y ys r false not e later =
    let p = later e in
    let number = p.number in
    record {
      place = suc p.place;
      number = omega (arith, number);
      stands = p.stands;
      passes = p.passes;
      first = first_too (λ z. test z ≡ false) y ys p.place not p.first;
    }

first_passes : {X : Type 0} (test : X → Bool) (n : ℕ) (xs : List X) (r : ℕ × X) → first_passing test n xs ≡ Some r
    → IsFirst test n xs r
first_passes test n [] r e = absurd cc
first_passes test n (y ∷ ys) r e = first_step test n y ys r (test y) refl e (first_passes test (n + 1) ys r)

-- ---- one interface

has_span : (range : BarPlan) (s : Span) → HasBytes range s.address (4 * s.length) → holds_span range s ≡ true
has_span range s has =
    let from = has.0 in
    let to = has.1 in
    grind (arith, nat_tests, from, to)

span_has : (range : BarPlan) (s : Span) → holds_span range s ≡ true → HasBytes range s.address (4 * s.length)
span_has range s holds = (grind (arith, nat_tests, holds), grind (arith, nat_tests, holds))

no_claim : (x : InterfaceStatus) (s : Span) → claimed_bar x s ≡ None → x.memory_space ≡ true → (b : ℕ)
    (range : BarPlan) → slice_get x.bars b ≡ Some range → HasBytes range s.address (4 * s.length) → ⊥
no_claim x s e space b range at has =
    let none : holding_bar x.bars s ≡ None = rw space at e in
    true≢false (sym (has_span range s has) ∙ none_passes (λ r. holds_span r s) 0 x.bars none b range at)

-- it claims by its first such BAR
own_claim : (x : InterfaceStatus) (s : Span) (r : ℕ × BarPlan) (m : Bool) → x.memory_space ≡ m
    → cond m (holding_bar x.bars s) None ≡ Some r
    → (x.memory_space ≡ true) × IsFirst (λ range. holds_span range s) 0 x.bars r
own_claim x s r true space e = (space, first_passes (λ range. holds_span range s) 0 x.bars r e)
own_claim x s r false space e = absurd cc

-- ---- all interfaces

record IsFirstClaim (n : ℕ) (xs : List InterfaceStatus) (s : Span) (c : Claim) : Type 0 where
  place : ℕ
  number : c.interface ≡ n + place
  stands : slice_get xs place ≡ Some c.status
  bar : claimed_bar c.status s ≡ Some (c.bar, c.range)
  first : (i : ℕ) (y : InterfaceStatus) → i < place → slice_get xs i ≡ Some y → claimed_bar y s ≡ None

claim_step : (n : ℕ) (x : InterfaceStatus) (xs : List InterfaceStatus) (s : Span) (c : Claim)
    (o : Option (ℕ × BarPlan)) → claimed_bar x s ≡ o
    → option_or (option_map (new_claim n x) o) (first_claim_from (n + 1) xs s) ≡ Some c
    → (first_claim_from (n + 1) xs s ≡ Some c → IsFirstClaim (n + 1) xs s c) → IsFirstClaim n (x ∷ xs) s c
claim_step n x xs s c None is e later =
    let p = later e in
    let number = p.number in
    record {
      place = suc p.place;
      number = omega (arith, number);
      stands = p.stands;
      bar = p.bar;
      first = first_too (λ y. claimed_bar y s ≡ None) x xs p.place is p.first;
    }
claim_step n x xs s c (Some r) is e later =
    let same : new_claim n x r ≡ c = cc (e) in
    subst (IsFirstClaim n (x ∷ xs) s) same (record {
      place = 0;
      number = omega arith;
      stands = refl;
      bar = is;
      first = λ i y less. absurd (omega (arith, less));
    })

first_claim : (n : ℕ) (xs : List InterfaceStatus) (s : Span) (c : Claim) → first_claim_from n xs s ≡ Some c
    → IsFirstClaim n xs s c
first_claim n [] s c e = absurd cc
first_claim n (x ∷ xs) s c e = claim_step n x xs s c (claimed_bar x s) refl e (first_claim (n + 1) xs s c)

none_claim_step : (n : ℕ) (x : InterfaceStatus) (xs : List InterfaceStatus) (s : Span) (o : Option (ℕ × BarPlan))
    → claimed_bar x s ≡ o → option_or (option_map (new_claim n x) o) (first_claim_from (n + 1) xs s) ≡ None
    → (first_claim_from (n + 1) xs s ≡ None → (i : ℕ) (y : InterfaceStatus) → slice_get xs i ≡ Some y
    → claimed_bar y s ≡ None) → (i : ℕ) (y : InterfaceStatus) → slice_get (x ∷ xs) i ≡ Some y
    → claimed_bar y s ≡ None
none_claim_step n x xs s None is e later = all_too (λ y. claimed_bar y s ≡ None) x xs is (later e)
none_claim_step n x xs s (Some r) is e later = absurd cc

none_claims : (n : ℕ) (xs : List InterfaceStatus) (s : Span) → first_claim_from n xs s ≡ None → (i : ℕ)
    (y : InterfaceStatus) → slice_get xs i ≡ Some y → claimed_bar y s ≡ None
none_claims n [] s e = λ i y is. absurd cc
none_claims n (x ∷ xs) s e = none_claim_step n x xs s (claimed_bar x s) refl e (none_claims (n + 1) xs s)

least_claim : (xs : List InterfaceStatus) (s : Span) (c : Claim) → claim_of xs s ≡ Some c → IsLeastClaim xs s c
least_claim xs s c e = record {
  interface = subst (λ (k : ℕ). slice_get xs k ≡ Some c.status) (sym at) p.stands;
  memory_space = own.0;
  bar = subst (λ (k : ℕ). slice_get c.status.bars k ≡ Some c.range) (sym bar_at) q.stands;
  has = span_has c.range s q.passes;
  least = least;
}
  where
    p : IsFirstClaim 0 xs s c
    p = first_claim 0 xs s c e

    at : c.interface ≡ p.place
    at = let number = p.number in omega (arith, number)

    own : (c.status.memory_space ≡ true) × IsFirst (λ range. holds_span range s) 0 c.status.bars (c.bar, c.range)
    own = own_claim c.status s (c.bar, c.range) c.status.memory_space refl p.bar

    q : IsFirst (λ range. holds_span range s) 0 c.status.bars (c.bar, c.range)
    q = own.1

    bar_at : c.bar ≡ q.place
    bar_at = let number = q.number in omega (arith, number)

    same_place : (place b : ℕ) (m : MayClaim xs s place b) → place ≡ p.place → b < q.place → ⊥
    same_place place b m here less =
        let status : m.status ≡ c.status = cc (sym m.stands ∙ ap (slice_get xs) here ∙ p.stands) in
        let bar = subst (λ (x : InterfaceStatus). slice_get x.bars b ≡ Some m.range) status m.at_bar in
        true≢false (sym (has_span m.range s m.has) ∙ q.first b m.range less bar)

    least : (place b : ℕ) → MayClaim xs s place b → (c.interface < place) ⊎ ((place ≡ c.interface) × (c.bar ≤ b))
    least place b m = elim (cases_lt place p.place) [
      | inl before ↦ absurd (no_claim m.status s (p.first place m.status before m.stands) m.memory_space b m.range
          m.at_bar m.has)
      | inr most ↦ elim (cases_lt p.place place) [
        | inl behind ↦ inl (omega (arith, at, behind))
        | inr none ↦
            let here : place ≡ p.place = omega (arith, most, none) in
            elim (cases_lt b q.place) [
              | inl less ↦ absurd (same_place place b m here less)
              | inr from ↦ inr (omega (arith, here, at), omega (arith, from, bar_at))
            ]
      ]
    ]

pub claims_least : (xs : List InterfaceStatus) (s : Span) → ClaimsLeast xs s
claims_least xs s = record {
  some = least_claim xs s;
  none = λ e place b m. no_claim m.status s (none_claims 0 xs s e place m.status m.stands) m.memory_space b m.range
      m.at_bar m.has;
}
