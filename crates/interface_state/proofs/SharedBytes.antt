-- Ranges that share a byte.
use Rattle.std.proofs.Common.{◌≡◌, ℕ, suc, min, max, Bool, true, false, ◌||◌, List, [], ◌∷◌, AllPairs, All, refl, ap}
use Rattle.std.proofs.Common.{◌∙◌, arith}
use Rattle.std.proofs.lemmas.Bool.Decides.{nat_tests}
use Rattle.std.specs.List.{list_any}
use Rattle.std.proofs.lemmas.Bool.{ltb-true, lt-ltb}
use Rattle.std.proofs.lemmas.List.Elements.{All-nil, All-cons}
use Rattle.std.proofs.lemmas.List.Kept.{AllPairs-cons}
use Rattle.ide_types.specs.declared.interface.BarPlan.{BarPlan}
use Rattle.interface_state.specs.Bars.{bar_end, bars_overlap, any_overlap}
use Rattle.interface_state.specs.Laws.{HasByte, OverlapIsShared, OverlapsArePairs}

shared : (bar other : BarPlan) → bars_overlap bar other ≡ true → (byte : ℕ) × HasByte bar byte × HasByte other byte
shared bar other e =
    let below = ltb-true (max bar.base other.base) (min (bar_end bar) (bar_end other)) e in
    (max bar.base other.base, (omega arith, omega arith), (omega arith, omega arith))

overlapping : (bar other : BarPlan) → (byte : ℕ) × HasByte bar byte × HasByte other byte → bars_overlap bar other ≡ true
overlapping bar other (byte, mine, its) = lt-ltb (max bar.base other.base) (min (bar_end bar) (bar_end other))
    (omega (arith, mine.0, mine.1, its.0, its.1))

pub overlap_is_shared : OverlapIsShared
overlap_is_shared bar other = (shared bar other, overlapping bar other)

neither : (a b : Bool) → (a || b) ≡ false → (a ≡ false) × (b ≡ false)
neither a b e = grind (arith, nat_tests)

none_passes : {A : Type 0} (p : A → Bool) (xs : List A) → list_any p xs ≡ false → All (λ x. p x ≡ false) xs
none_passes p [] e = All-nil (λ x. p x ≡ false)
none_passes p (x ∷ xs) e =
    let both = neither (p x) (list_any p xs) e in
    All-cons (λ y. p y ≡ false) x xs both.0 (none_passes p xs both.1)

all_fail : {A : Type 0} (p : A → Bool) (xs : List A) → All (λ x. p x ≡ false) xs → list_any p xs ≡ false
all_fail p [] all = refl
all_fail p (x ∷ xs) all = ap (λ (b : Bool). b || list_any p xs) (all 0 x (omega arith)) ∙ all_fail p xs
    (λ i d lt. all (suc i) d (omega arith))

pairs_apart : (bars : List BarPlan) → any_overlap bars ≡ false
    → AllPairs (λ bar other. bars_overlap bar other ≡ false) bars
pairs_apart [] e = λ i j d lt within. absurd (omega arith)
pairs_apart (bar ∷ bars) e =
    let both = neither (list_any (bars_overlap bar) bars) (any_overlap bars) e in
    AllPairs-cons (λ one other. bars_overlap one other ≡ false) bar bars (none_passes (bars_overlap bar) bars both.0)
    (pairs_apart bars both.1)

apart_pairs : (bars : List BarPlan) → AllPairs (λ bar other. bars_overlap bar other ≡ false) bars → any_overlap bars
    ≡ false
apart_pairs [] apart = refl
apart_pairs (bar ∷ bars) apart =
    let first = all_fail (bars_overlap bar) bars (λ i d lt. apart 0 (suc i) d (omega arith) (omega arith)) in
    ap (λ (b : Bool). b || any_overlap bars) first
    ∙ apart_pairs bars (λ i j d lt within. apart (suc i) (suc j) d (omega arith) (omega arith))

pub overlaps_are_pairs : OverlapsArePairs
overlaps_are_pairs bars = (pairs_apart bars, apart_pairs bars)
