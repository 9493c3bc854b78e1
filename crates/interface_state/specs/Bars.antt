-- The base address registers of a device interface and the ranges that they map (PCI Express Base 6.0 section
-- 7.5.1.2.1), and the ranges that its report names (TDISP section 11.3, in this profile's layout).
use Rattle.std.specs.Prelude.{ℕ, ◌+◌, ◌*◌, ◌/◌, ◌%◌, ◌^◌, ◌==◌, ◌||◌, ◌<◌, nat_lt, max, min, Bool, false, List, [], ◌∷◌}
use Rattle.std.specs.Prelude.{slice_get, slice_index, Option, Some, None, if◌then◌else◌}
use Rattle.std.specs.List.{list_any, filter_map, enumerate_from}
use Rattle.ide_types.specs.declared.interface.BarPlan.{BarPlan}
use Rattle.ide_types.specs.declared.interface.InterfacePlan.{InterfacePlan}
use Rattle.tdisp_codec.specs.declared.report.ReportRange.{ReportRange}
use Rattle.interface_state.specs.declared.register_set.Registers.{Registers}

-- a BAR moved to this base; without pages if the interface has none
abbrev pub bar_moved : ℕ → Option BarPlan → BarPlan
bar_moved base (Some bar) = record { base = base; pages = bar.pages; attributes = bar.attributes }
bar_moved base None = record { base = base; pages = 0; attributes = 0 }

-- BAR n: its base by the registers, its range by the topology
abbrev pub bar_at : List BarPlan → List ℕ → ℕ → BarPlan
bar_at bars bases n = bar_moved (slice_index bases n) (slice_get bars n)

-- the six BARs by their number
abbrev pub bars_of : InterfacePlan → Registers → List BarPlan
bars_of plan registers =
    bar_at plan.bars registers.bars 0 ∷ bar_at plan.bars registers.bars 1 ∷ bar_at plan.bars registers.bars 2
    ∷ bar_at plan.bars registers.bars 3 ∷ bar_at plan.bars registers.bars 4 ∷ bar_at plan.bars registers.bars 5 ∷ []

-- ---- overlap

-- one past its last byte, as a whole number
abbrev pub bar_end : BarPlan → ℕ
bar_end bar = bar.base + 4096 * bar.pages

-- some byte is in both
abbrev pub bars_overlap : BarPlan → BarPlan → Bool
bars_overlap bar other = nat_lt (max bar.base other.base) (min (bar_end bar) (bar_end other))

-- the bytes of two of them overlap
abbrev pub any_overlap : List BarPlan → Bool
any_overlap [] = false
any_overlap (bar ∷ bars) = list_any (bars_overlap bar) bars || any_overlap bars

-- ---- the report's ranges

-- a report has room for its pages and attributes
pub record FitsReported (bar : BarPlan) : Type 0 where
  pub pages : bar.pages < 2 ^ 32
  pub attributes : bar.attributes < 2 ^ 16

-- the range of a BAR with its number, if it has pages: its first page is moved by the MMIO reporting offset, modulo
-- 2^64
abbrev pub reported_range : ℕ → ℕ × BarPlan → Option ReportRange
reported_range offset (number, bar) =
    if bar.pages == 0 then None
    else Some (record {
      first_page = (bar.base + offset) % 2 ^ 64 / 4096;
      pages = bar.pages;
      attributes = bar.attributes;
      id = number;
    })

abbrev pub reported_ranges : ℕ → List BarPlan → List ReportRange
reported_ranges offset bars = filter_map (reported_range offset) (enumerate_from 0 bars)
