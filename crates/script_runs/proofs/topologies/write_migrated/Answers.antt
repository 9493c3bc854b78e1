use Rattle.script_runs.proofs.Migrating.{writes_nothing}
use Rattle.script_runs.proofs.topologies.write_migrated.Goals as goal

pub returns-in-Err-Memory : goal.returns-in-Err-Memory
returns-in-Err-Memory g c = writes_nothing c.args.front.now (g.O.Sink.seen c.args.out.now)
