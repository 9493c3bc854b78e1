-- The MMIO ranges of a report as bytes, 16 each (TDISP section 11.3, in this profile).
use Rattle.std.specs.Prelude.{ℕ, zero, suc, ◌<◌, ◌/◌, ◌^◌, List, [], ◌∷◌, ◌++◌, length, drop}
use Rattle.byteorder.specs.Endian.{little_bytes, little_number}
use Rattle.tdisp_codec.specs.declared.report.ReportRange.{ReportRange}

abbrev pub range_bytes : ReportRange → List ℕ
range_bytes range =
    little_bytes 8 range.first_page
    ++ (little_bytes 4 range.pages ++ (little_bytes 2 range.attributes ++ little_bytes 2 range.id))

-- its fields have their widths
pub record FitsRange (range : ReportRange) : Type 0 where
  pub first_page : range.first_page < 2 ^ 64
  pub pages : range.pages < 2 ^ 32
  pub attributes : range.attributes < 2 ^ 16
  pub id : range.id < 2 ^ 16

-- the range in the first 16 bytes
abbrev pub range_from : List ℕ → ReportRange
range_from bytes = record {
  first_page = little_number 8 bytes;
  pages = little_number 4 (drop 8 bytes);
  attributes = little_number 2 (drop 12 bytes);
  id = little_number 2 (drop 14 bytes);
}

-- the ranges in the first bytes, 16 each
unfoldable pub first_ranges : ℕ → List ℕ → List ReportRange
first_ranges zero bytes = []
first_ranges (suc count) bytes = range_from bytes ∷ first_ranges count (drop 16 bytes)

abbrev pub ranges_in : List ℕ → List ReportRange
ranges_in bytes = first_ranges (length bytes / 16) bytes
