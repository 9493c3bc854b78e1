-- The report of a lock is one that the manager takes.
use Rattle.std.proofs.Common.{◌<◌, length, replicate, arith}
use Rattle.ide_types.specs.Fits.{AreBytes}
use Rattle.tdisp_codec.specs.Reports.{Report, report_spelling}
use Rattle.tdisp_codec.proofs.Octets.{AreOctets, octets, all_of, are_bytes, joins, two_bytes, four_bytes, zero_bytes_by}
use Rattle.tdisp_codec.proofs.RangeBytes.{range_octets}
use Rattle.std.proofs.lemmas.List.Elements.{All-from_recursion}
use Rattle.interface_state.specs.Kept.{kept_report, interface_report}
use Rattle.interface_state.proofs.KeptReports.{length-spelling, kept_short}
use Rattle.interface_ends.specs.Exchanges.{ReportsFit}

spelled_octets : (r : Report) → AreBytes r.device → AreOctets (report_spelling r)
spelled_octets r device =
    joins (two_bytes r.info)
    (joins (octets (replicate 2 0) (All-from_recursion (λ b. b < 256) (replicate 2 0) (zero_bytes_by 2)))
    (joins (two_bytes r.msix) (joins (two_bytes r.lnr) (joins (four_bytes r.tph)
    (joins (four_bytes (length r.ranges))
    (joins (range_octets r.ranges) (joins (four_bytes (length r.device)) (octets r.device device))))))))

pub reports_fit : ReportsFit
reports_fit plan lock fits info =
    let r = interface_report plan lock.registers lock.flags lock.offset in
    record {
      some = omega (arith, length-spelling r);
      short = kept_short plan lock fits;
      bytes = all_of (kept_report plan lock) (are_bytes (spelled_octets r info));
    }
