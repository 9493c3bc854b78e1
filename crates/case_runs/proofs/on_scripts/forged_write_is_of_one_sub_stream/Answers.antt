use Rattle.case_runs.proofs.Forged.{forged_once_due, is_forged, reads_unforged}
use Rattle.case_runs.proofs.on_scripts.forged_write_is_of_one_sub_stream.Goals as goal

pub returns-clause-verdicts : goal.returns-clause-verdicts
returns-clause-verdicts c = forged_once_due

pub returns-clause-forged : goal.returns-clause-forged
returns-clause-forged c = is_forged

pub returns-clause-others : goal.returns-clause-others
returns-clause-others c = reads_unforged
