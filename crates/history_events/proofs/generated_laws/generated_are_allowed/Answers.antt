use Rattle.history_events.proofs.GeneratedAllowed.{all_allowed, few_events}
use Rattle.history_events.proofs.Forms.{generated_form}
use Rattle.history_events.proofs.generated_laws.generated_are_allowed.Goals as goal

pub returns : goal.returns
returns c = record { allowed = all_allowed; forms = generated_form; few = few_events }
