use Rattle.history_events.proofs.PlanFits.{plan_given}
use Rattle.history_events.proofs.generated_plan.topology.Goals as goal

pub returns-clause-fits : goal.returns-clause-fits
returns-clause-fits c = plan_given c.the_plan.result c.the_plan.ensures
