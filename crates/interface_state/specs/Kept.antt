-- The report of a device interface, as a lock keeps it (TDISP section 11.3, in this profile's layout).
use Rattle.std.specs.Prelude.{ℕ, ◌+◌, ◌≤◌, List, length}
use Rattle.ide_types.specs.declared.interface.InterfacePlan.{InterfacePlan}
use Rattle.tdisp_codec.specs.Reports.{Report, report_spelling}
use Rattle.interface_state.specs.declared.register_set.Registers.{Registers}
use Rattle.interface_state.specs.declared.states.Lock.{Lock}
use Rattle.interface_state.specs.RegisterValues.{bit_at}
use Rattle.interface_state.specs.Bars.{bars_of, reported_ranges}

-- DMA without PASID, and firmware updates not permitted if lock flag 0 is set
abbrev pub interface_info : ℕ → ℕ
interface_info flags = 2 + bit_at 0 flags

-- the report of an interface with these registers, under the flags and the MMIO reporting offset of a lock
abbrev pub interface_report : InterfacePlan → Registers → ℕ → ℕ → Report
interface_report plan registers flags offset = record {
  info = interface_info flags;
  msix = registers.msix;
  lnr = registers.lnr;
  tph = registers.tph;
  ranges = reported_ranges offset (bars_of plan registers);
  device = plan.info;
}

-- its bytes
abbrev pub interface_report_bytes : InterfacePlan → Registers → ℕ → ℕ → List ℕ
interface_report_bytes plan registers flags offset = report_spelling (interface_report plan registers flags offset)

-- those of a lock: of the registers that it kept
abbrev pub kept_report : InterfacePlan → Lock → List ℕ
kept_report plan lock = interface_report_bytes plan lock.registers lock.flags lock.offset

-- no longer than the longest report: 20 bytes, 16 for each of six ranges, and 1,024 of the device's own information
abbrev pub IsShortReport : List ℕ → Type 0
IsShortReport bytes = length bytes ≤ 1140
