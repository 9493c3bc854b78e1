use Rattle.script_runs.proofs.Generating.{follows_first}
use Rattle.script_runs.proofs.generated.first_world.Goals as goal

pub returns-clause-follows : goal.returns-clause-follows
returns-clause-follows c = follows_first c.in_ok-plan.plan c.in_ok-world.world c.new.result c.in_ok-plan.ensures.plan
    c.in_ok-world.ensures c.new.ensures
