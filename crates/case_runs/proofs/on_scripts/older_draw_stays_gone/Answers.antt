use Rattle.case_runs.proofs.Refreshes.{older_gone, older_due}
use Rattle.case_runs.proofs.on_scripts.older_draw_stays_gone.Goals as goal

pub returns-clause-gone : goal.returns-clause-gone
returns-clause-gone c = older_gone

pub returns-clause-verdicts : goal.returns-clause-verdicts
returns-clause-verdicts c = older_due
