use Rattle.interface_state.specs.Kept.{interface_report}
use Rattle.interface_state.proofs.KeptReports.{kept_short, report_fits}
use Rattle.interface_state.proofs.laws.reports_are_spelled.Goals as goal

pub returns-clause-short : goal.returns-clause-short
returns-clause-short c = kept_short

pub returns-clause-spelled : goal.returns-clause-spelled
returns-clause-spelled c = λ plan lock fits octets shown.
    c.report_read_again.ensures.spells (interface_report plan lock.registers lock.flags lock.offset)
    (report_fits plan lock fits octets shown)
