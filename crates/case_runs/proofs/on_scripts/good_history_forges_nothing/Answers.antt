use Rattle.case_runs.proofs.Unforged.{good_history}
use Rattle.case_runs.proofs.on_scripts.good_history_forges_nothing.Goals as goal

pub returns : goal.returns
returns c = good_history
