use Rattle.interface_state.proofs.Entered.{lock_is_entered, run_is_entered}
use Rattle.interface_state.proofs.laws.states_are_entered.Goals as goal

pub returns-clause-lock : goal.returns-clause-lock
returns-clause-lock c = lock_is_entered

pub returns-clause-run : goal.returns-clause-run
returns-clause-run c = run_is_entered
