use Rattle.case_runs.proofs.Writes.{trusted_due, rekeyed_due}
use Rattle.case_runs.proofs.on_scripts.write_is_altered.Goals as goal

pub returns-clause-trusted : goal.returns-clause-trusted
returns-clause-trusted c = trusted_due

pub returns-clause-rekeyed : goal.returns-clause-rekeyed
returns-clause-rekeyed c = rekeyed_due
