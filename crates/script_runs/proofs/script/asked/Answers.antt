use Rattle.script_runs.proofs.Events.{allowed_of}
use Rattle.script_runs.proofs.script.asked.Goals as goal

pub returns-clause-allowed : goal.returns-clause-allowed
returns-clause-allowed c = allowed_of c.args.line.now _ c.parse_line.ensures.gives
