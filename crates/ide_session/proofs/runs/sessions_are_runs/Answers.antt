use Rattle.ide_session.proofs.SessionRuns.{sessions_are_runs}
use Rattle.ide_session.proofs.runs.sessions_are_runs.Goals as goal

pub returns : goal.returns
returns c = sessions_are_runs c.laws_hold.ensures
