use Rattle.interface_ends.proofs.Reports.{reports_read, reports_refused}
use Rattle.interface_ends.proofs.walk_laws.reports_are_read.Goals as goal

pub returns-clause-read : goal.returns-clause-read
returns-clause-read c = reports_read c.exchanges_are_due.ensures

pub returns-clause-refused : goal.returns-clause-refused
returns-clause-refused c = reports_refused c.exchanges_are_due.ensures
