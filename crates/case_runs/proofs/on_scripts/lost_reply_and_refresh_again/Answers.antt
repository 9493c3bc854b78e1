use Rattle.case_runs.proofs.Refreshes.{reply_lost_due}
use Rattle.case_runs.proofs.on_scripts.lost_reply_and_refresh_again.Goals as goal

pub returns : goal.returns
returns c = reply_lost_due
