-- The report of an interface as bytes (TDISP section 11.3, in this profile).
use Rattle.std.specs.Prelude.{ℕ, ◌≡◌, ◌+◌, ◌*◌, ◌<◌, ◌^◌, ◌==◌, List, ◌++◌, length, take, drop, replicate, All, Result}
use Rattle.std.specs.Prelude.{if◌then◌else◌}
use Rattle.std.specs.List.{flat_map}
use Rattle.byteorder.specs.Endian.{little_bytes, little_number}
use Rattle.tdisp_codec.specs.declared.fault.TdispFault.{TdispFault}
use Rattle.tdisp_codec.specs.declared.fault.TdispFault.TheVariants.{Short, Trailing}
use Rattle.tdisp_codec.specs.declared.report.ReportRange.{ReportRange}
use Rattle.tdisp_codec.specs.declared.report.ReportView.{ReportView}
use Rattle.tdisp_codec.specs.Messages.{IsIgnored, length_fault, read_or}
use Rattle.tdisp_codec.specs.Ranges.{range_bytes, FitsRange, ranges_in}

-- a report as a value
pub record Report : Type 0 where
  pub info : ℕ
  pub msix : ℕ
  pub lnr : ℕ
  pub tph : ℕ
  pub ranges : List ReportRange
  pub device : List ℕ

abbrev pub report_shown : ReportView → Report
report_shown view = record {
  info = view.info;
  msix = view.msix;
  lnr = view.lnr;
  tph = view.tph;
  ranges = ranges_in view.ranges.bytes.now;
  device = view.device.now;
}

-- interface info, two reserved bytes, MSI-X, LNR and TPH control, the ranges after their count, and the device's own
-- information after its length
abbrev pub report_bytes : List ℕ → Report → List ℕ
report_bytes reserved report =
    little_bytes 2 report.info
    ++ (reserved ++ (little_bytes 2 report.msix
    ++ (little_bytes 2 report.lnr ++ (little_bytes 4 report.tph ++ (little_bytes 4 (length report.ranges)
    ++ (flat_map range_bytes report.ranges ++ (little_bytes 4 (length report.device) ++ report.device)))))))

-- as it is written, with 0 in the reserved bytes
abbrev pub report_spelling : Report → List ℕ
report_spelling report = report_bytes (replicate 2 0) report

-- its lists are no longer than their counts can say
pub record IsCountedReport (report : Report) : Type 0 where
  pub ranges : length report.ranges < 2 ^ 32
  pub device : length report.device < 2 ^ 32

-- its fields have their widths
pub record FitsReport (report : Report) : Type 0 where
  pub info : report.info < 2 ^ 16
  pub msix : report.msix < 2 ^ 16
  pub lnr : report.lnr < 2 ^ 16
  pub tph : report.tph < 2 ^ 32
  pub ranges : All FitsRange report.ranges
  pub device : All (λ b. b < 256) report.device
  pub counted : IsCountedReport report

-- the bytes are the report's, but for the reserved ones, which may hold anything
pub record SpellsReport (report : Report) (bytes : List ℕ) : Type 0 where
  pub fits : FitsReport report
  pub reserved : IsIgnored 2
  pub spelled : bytes ≡ report_bytes reserved.bytes report

-- ---- reading, in which bytes that are missing count as 0

abbrev pub range_count : List ℕ → ℕ
range_count bytes = little_number 4 (drop 12 bytes)

-- where the length of the device's own information stands
abbrev pub device_place : List ℕ → ℕ
device_place bytes = 16 + 16 * range_count bytes

abbrev pub report_size : List ℕ → ℕ
report_size bytes = device_place bytes + 4 + little_number 4 (drop (device_place bytes) bytes)

abbrev pub report_in : List ℕ → Report
report_in bytes = record {
  info = little_number 2 bytes;
  msix = little_number 2 (drop 4 bytes);
  lnr = little_number 2 (drop 6 bytes);
  tph = little_number 4 (drop 8 bytes);
  ranges = ranges_in (take (16 * range_count bytes) (drop 16 bytes));
  device = drop (device_place bytes + 4) bytes;
}

-- the report, or the first fault
abbrev pub report_reading : List ℕ → Result Report TdispFault
report_reading bytes = read_or (report_in bytes) (length_fault (report_size bytes) bytes)

abbrev pub report_fault_at : List ℕ → ℕ → TdispFault
report_fault_at bytes place = if place == length bytes then Short place else Trailing place
