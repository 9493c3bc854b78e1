use Rattle.case_runs.proofs.Refreshes.{open_tail_due, closed_tail_due}
use Rattle.case_runs.proofs.on_scripts.closed_stream.Goals as goal

pub returns-clause-open_is_accepted : goal.returns-clause-open_is_accepted
returns-clause-open_is_accepted c = open_tail_due

pub returns-clause-closed_fails : goal.returns-clause-closed_fails
returns-clause-closed_fails c = closed_tail_due
