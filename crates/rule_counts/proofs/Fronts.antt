-- What came ahead of a unit when it was sealed, by what is noted of seals: on a closed stream, of unit 1, the units
-- that
-- were ended under the draws from Base on, below the unit's.
use Rattle.std.proofs.Common.{◌≡◌, ℕ, zero, suc, ◌+◌, ◌≤◌, ◌==◌, ◌&&◌, Bool, true, false, List, [], ◌∷◌, ◌++◌, length}
use Rattle.std.proofs.Common.{map, refl, sym, ap, ◌∙◌, arith, filter, inl, inr}
use Rattle.std.proofs.lemmas.Bool.{and_parts, cases_Bool, eqb-true}
use Rattle.std.proofs.lemmas.Bool.Decides.{nat_tests}
use Rattle.std.proofs.lemmas.List.Sums.{sum_by-cons}
use Rattle.std.specs.Prelude.{count_by, if◌then◌else◌, nat_le, nat_lt}
use Rattle.ide_types.specs.declared.plan.Plan.{Plan}
use Rattle.event_verdicts.specs.declared.verdict.SealedPacket.{SealedPacket}
use Rattle.ide_prefix.specs.Packet.{Packet}
use Rattle.law_delivery.proofs.SameFronts.{no_front}
use Rattle.law_sealing.proofs.Fits.{StreamsFit}
use Rattle.law_sealing.proofs.FirstFronts.{front_is, sum_sent}
use Rattle.law_sealing.proofs.Fronts.{IsSealedIn}
use Rattle.law_sealing.proofs.Totals.{total, total-none, total-same}
use Rattle.spec_keys.specs.History.{History, base}
use Rattle.spec_links.specs.Cause.{CauseLaw}
use Rattle.spec_links.specs.KeyFacts.{DrawFacts}
use Rattle.spec_links.specs.Plan.{SubStream, is_closed, is_same}
use Rattle.spec_links.specs.History.{SealedList, ahead_sent, is_sealed_under, sealed_packets, sub_stream_of}
unfoldable use Rattle.spec_links.specs.History.{ahead_of_unit, sub_stream_packets}
use Rattle.spec_links.specs.Units.{units_finished}
unfoldable use Rattle.spec_links.specs.Units.{units}
use Rattle.spec_stream.specs.Sending.{total_ahead}
use Rattle.rule_counts.specs.Units.{ends_between}
use Rattle.rule_counts.proofs.UnitsAfter.{AreDescribed}

-- ---- units that were ended

abbrev one_if : Bool → ℕ
one_if b = if b then 1 else 0

ends : List Packet → ℕ
ends [] = 0
ends (p ∷ ps) = one_if p.prefix.m + ends ps

ends_are : (got ps : List Packet) → length (units_finished got ps) ≡ ends ps
unfolding ends
ends_are got [] = refl
ends_are got (p ∷ ps) = by p.prefix.m (ends_are [] ps) (ends_are (got ++ p ∷ []) ps)
  where
    by : (m : Bool) → length (units_finished [] ps) ≡ ends ps → length (units_finished (got ++ p ∷ []) ps) ≡ ends ps
        → length (if m then (got ++ p ∷ []) ∷ units_finished [] ps else units_finished (got ++ p ∷ []) ps)
        ≡ one_if m + ends ps
    by true ended more = omega (arith, ended)
    by false ended more = omega (arith, more)

units_are : (ps : List Packet) → length (units ps) ≡ ends ps
unfolding units
units_are ps = ends_are [] ps

-- a value is added at one draw, if a test holds
joined_below : (t : Bool) (from n d k : ℕ) (f g : ℕ → ℕ) → ((i : ℕ) → g i ≡ f i + (if t && (d == i) then k else 0))
    → total from n g ≡ total from n f + (if t && nat_le from d && nat_lt d n then k else 0)
joined_below t from zero d k f g more = grind (arith, nat_tests)
joined_below t from (suc n) d k f g more = grind (arith, nat_tests, joined_below t from n d k f g more, more n)

module _ (s : SubStream) (from j : ℕ) where
  abbrev test : SealedPacket → Bool
  test = ends_between s from j

  abbrev ended : SealedList → ℕ → ℕ
  ended xs i = ends (sub_stream_packets xs s i)

  one_ended : (x : SealedPacket × Packet) (xs : SealedList) (i : ℕ) → ended (x ∷ xs) i ≡ ended xs i
      + (if is_same (sub_stream_of x.0) s && (x.0.draw == i) then one_if x.1.prefix.m else 0)
  unfolding sub_stream_packets ends
  one_ended x xs i = by (is_sealed_under s i x)
    where
      by : (b : Bool) → ends (map (λ (y : SealedPacket × Packet). y.1)
          (if b then x ∷ filter (is_sealed_under s i) xs else filter (is_sealed_under s i) xs))
          ≡ ended xs i + (if b then one_if x.1.prefix.m else 0)
      by true = omega arith
      by false = omega arith

  one_test : (t l m n : Bool) → (if t && l && m then one_if n else 0) ≡ one_if (t && l && m && n)
  one_test true true true n = refl
  one_test true true false n = refl
  one_test true false m n = refl
  one_test false l m n = refl

  counted : (xs : SealedList) → AreDescribed xs
      → count_by test (map (λ (x : SealedPacket × Packet). x.0) xs) ≡ total from j (ended xs)
  unfolding sub_stream_packets ends
  counted [] each = sym (total-none from j)
  counted (x ∷ xs) each =
      let d = x.0 in
      let t = is_same (sub_stream_of d) s in
      let rest = counted xs each.1 in
      let here = joined_below t from j d.draw (one_if x.1.prefix.m) (ended xs) (ended (x ∷ xs))
      (one_ended x xs) in
      let one = one_test t (nat_le from d.draw) (nat_lt d.draw j) d.m in
      let m : (if t && nat_le from d.draw && nat_lt d.draw j then one_if x.1.prefix.m else 0)
      ≡ (if t && nat_le from d.draw && nat_lt d.draw j then one_if d.m else 0) =
      ap (λ (b : Bool). if t && nat_le from d.draw && nat_lt d.draw j then one_if b else 0) (sym each.0) in
      omega (
        arith,
        rest,
        here,
        one,
        m,
        sum_by-cons (λ (y : SealedPacket). one_if (test y)) d (map (λ (x : SealedPacket × Packet). x.0) xs),
      )

-- the units that were ended of the draws from Base on, below this one
pub ended_below : (plan : Plan) (h : History) (s : SubStream) (from j : ℕ) → AreDescribed (sealed_packets plan h)
    → count_by (ends_between s from j) (map (λ (x : SealedPacket × Packet). x.0) (sealed_packets plan h))
    ≡ sum_sent plan h s from j
ended_below plan h s from j each =
    counted s from j (sealed_packets plan h) each
    ∙ total-same from j _ _ (λ i above less. sym (units_are (sub_stream_packets (sealed_packets plan h) s i)))

-- ---- what came ahead

pub ahead_is : (plan : Plan) → StreamsFit plan → DrawFacts plan → (h : History) → CauseLaw plan h → (s : SubStream)
    (j n : ℕ) → IsSealedIn plan h s j → base h s.line s.stream ≤ j
    → ahead_sent plan h s j (n + 1)
    ≡ total_ahead (is_closed plan s.line s.stream) (n + 1) (sum_sent plan h s (base h s.line s.stream) j)
unfolding ahead_of_unit
ahead_is plan fits facts h cause s j n sealed up = elim (cases_Bool (is_closed plan s.line s.stream && (n + 1 == 1))) [
  | inl on ↦
      let parts = and_parts (is_closed plan s.line s.stream) (n + 1 == 1) on in
      let first : n + 1 ≡ 1 = eqb-true (n + 1) 1 parts.1 in
      rw first (front_is plan fits facts h cause s j sealed up)
  | inr off ↦ no_front plan h s j (n + 1) off ∙ rw off refl
]
