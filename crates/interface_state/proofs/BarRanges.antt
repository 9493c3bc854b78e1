-- The ranges of a report, BAR by BAR.
use Rattle.std.proofs.Common.{◌≡◌, ℕ, zero, suc, ◌+◌, ◌*◌, ◌/◌, ◌%◌, ◌^◌, ◌≤◌, ◌==◌, Bool, true, false, List, [], ◌∷◌}
use Rattle.std.proofs.Common.{◌++◌, length, drop, Some, None, if◌then◌else◌, sym, ap, ◌∙◌, arith, append-nil}
use Rattle.std.proofs.lemmas.Bool.Decides.{nat_tests}
use Rattle.std.specs.Prelude.{All, slice_get, slice_index}
use Rattle.std.specs.List.{flat_map, filter_map, cons_option, enumerate_from, AllByRecursion}
use Rattle.std.proofs.Math.ListN.{drop_of_length-le}
use Rattle.std.proofs.lemmas.List.Elements.{All-from_recursion, recursion_from_All}
use Rattle.ide_types.specs.declared.interface.BarPlan.{BarPlan}
use Rattle.tdisp_codec.specs.declared.report.ReportRange.{ReportRange}
use Rattle.tdisp_codec.specs.Ranges.{range_bytes, FitsRange}
use Rattle.ide_types.specs.declared.interface.InterfacePlan.{InterfacePlan}
use Rattle.ide_types.specs.Fits.{FitsBar}
use Rattle.interface_state.specs.declared.register_set.Registers.{Registers}
use Rattle.interface_state.specs.Bars.{bar_moved, bar_at, bars_of, FitsReported, reported_range, reported_ranges}

-- the bytes of the ranges of BARs that are numbered from n
abbrev bytes_from : ℕ → ℕ → List BarPlan → List ℕ
bytes_from offset n bars = flat_map range_bytes (filter_map (reported_range offset) (enumerate_from n bars))

-- the bytes of the BARs' ranges up to place i
pub record Reported (offset : ℕ) (bars : List BarPlan) (out : List ℕ) (i : ℕ) : Type 0 where
  pub bytes : out ++ bytes_from offset i (drop i bars) ≡ bytes_from offset 0 bars
  pub room : length out ≤ 16 * i

pub reported_all : (offset i : ℕ) (bars : List BarPlan) (out : List ℕ) → Reported offset bars out i → length bars ≤ i
    → out ≡ flat_map range_bytes (reported_ranges offset bars)
reported_all offset i bars out reported end =
    let none : drop i bars ≡ [] = drop_of_length-le bars end in
    sym (append-nil out) ∙ (ap (λ (x : List BarPlan). out ++ bytes_from offset i x) (sym none) ∙ reported.bytes)

fits_cons : (b : Bool) (r : ReportRange) (rs : List ReportRange) → FitsRange r → AllByRecursion FitsRange rs
    → AllByRecursion FitsRange (cons_option (if b then None else Some r) rs)
fits_cons true r rs fits all = all
fits_cons false r rs fits all = (fits, all)

fits_from : (offset n : ℕ) (bars : List BarPlan) → n + length bars ≤ 6 → AllByRecursion FitsReported bars
    → AllByRecursion FitsRange (filter_map (reported_range offset) (enumerate_from n bars))
fits_from offset n [] few all = tt
fits_from offset n (bar ∷ bars) few all =
    let range : ReportRange = record
    { first_page = (bar.base + offset) % 2 ^ 64 / 4096; pages = bar.pages; attributes = bar.attributes; id = n } in
    let fits : FitsRange range = record
    { first_page = omega arith; pages = all.0.pages; attributes = all.0.attributes; id = omega arith } in
    fits_cons (bar.pages == 0) range (filter_map (reported_range offset) (enumerate_from (n + 1) bars)) fits
    (fits_from offset (n + 1) bars (omega arith) all.1)

pub ranges_fit : (offset : ℕ) (bars : List BarPlan) → length bars ≤ 6 → All FitsReported bars
    → All FitsRange (reported_ranges offset bars)
ranges_fit offset bars few all = All-from_recursion FitsRange (reported_ranges offset bars)
    (fits_from offset 0 bars (omega arith) (recursion_from_All FitsReported bars all))

-- ---- lengths

length-from : (offset n : ℕ) (bars : List BarPlan) → length (filter_map (reported_range offset) (enumerate_from n bars))
    ≤ length bars
length-from offset n [] = omega arith
length-from offset n (bar ∷ bars) = let few = length-from offset (n + 1) bars in grind (arith, nat_tests)

pub length-reported : (offset : ℕ) (bars : List BarPlan) → length (reported_ranges offset bars) ≤ length bars
length-reported offset bars = length-from offset 0 bars

-- ---- the BARs of an interface

moved_fits : (bars : List BarPlan) (n base : ℕ) → AllByRecursion FitsBar bars
    → FitsReported (bar_moved base (slice_get bars n))
moved_fits [] n base all = record { pages = omega arith; attributes = omega arith }
moved_fits (bar ∷ bars) zero base all =
    let pages = all.0.pages in
    let attributes = all.0.attributes in
    record { pages = omega arith; attributes = omega arith }
moved_fits (bar ∷ bars) (suc n) base all = moved_fits bars n base all.1

pub bars_fit : (plan : InterfacePlan) (registers : Registers) → All FitsBar plan.bars
    → All FitsReported (bars_of plan registers)
bars_fit plan registers each =
    let all = recursion_from_All FitsBar plan.bars each in
    let at : (n : ℕ) → FitsReported (bar_at plan.bars registers.bars n) = λ n. moved_fits plan.bars n
    (slice_index registers.bars n) all in
    All-from_recursion FitsReported (bars_of plan registers) (at 0, (at 1, (at 2, (at 3, (at 4, (at 5, tt))))))
