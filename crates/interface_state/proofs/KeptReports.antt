-- The report of a lock: its length.
use Rattle.std.proofs.Common.{◌≡◌, ◌+◌, ◌*◌, ◌≤◌, length, arith, length-append}
use Rattle.ide_types.specs.declared.interface.InterfacePlan.{InterfacePlan}
use Rattle.ide_types.specs.Fits.{AreBytes}
use Rattle.tdisp_codec.specs.Reports.{Report, report_spelling, FitsReport}
use Rattle.interface_state.specs.declared.states.Lock.{Lock}
use Rattle.interface_state.specs.Bars.{bars_of, reported_ranges}
use Rattle.interface_state.specs.Kept.{kept_report, interface_report}
use Rattle.interface_state.specs.Held.{FitsTdi, FitsShown}
use Rattle.tdisp_codec.proofs.RangeBytes.{length-ranges}
use Rattle.interface_state.proofs.BarRanges.{length-reported, ranges_fit, bars_fit}

pub length-spelling : (r : Report) → length (report_spelling r) ≡ 20 + 16 * length r.ranges + length r.device
length-spelling r = let ranges = length-ranges r.ranges in grind (arith, length-append)

pub kept_short : (plan : InterfacePlan) (lock : Lock) → FitsTdi plan → length (kept_report plan lock) ≤ 1140
kept_short plan lock fits =
    let ranges : length (reported_ranges lock.offset (bars_of plan lock.registers)) ≤ 6 = length-reported lock.offset
    (bars_of plan lock.registers) in
    let info = fits.info in
    omega (arith, length-spelling (interface_report plan lock.registers lock.flags lock.offset))

-- the plan bounds the ranges and the information, the widths of registers the rest
pub report_fits : (plan : InterfacePlan) (lock : Lock) → FitsTdi plan → AreBytes plan.info → FitsShown lock.registers
    → FitsReport (interface_report plan lock.registers lock.flags lock.offset)
report_fits plan lock fits octets shown =
    let bars = bars_of plan lock.registers in
    let few = length-reported lock.offset bars in
    let info = fits.info in
    let flags = lock.flags in
    record {
      info = omega arith;
      msix = shown.msix;
      lnr = shown.lnr;
      tph = shown.tph;
      ranges = ranges_fit lock.offset bars (omega arith) (bars_fit plan lock.registers fits.each_bar);
      device = octets;
      counted = record { ranges = omega (arith, few); device = omega (arith, info) };
    }
