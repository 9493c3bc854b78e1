use Rattle.ide_prefix.proofs.Cuts.{bounded, sync_iff, carries_head}
use Rattle.ide_prefix.proofs.laws.carried_head.Goals as goal

pub returns-clause-sync : goal.returns-clause-sync
returns-clause-sync c = sync_iff

pub returns-clause-carried : goal.returns-clause-carried
returns-clause-carried c = carries_head

pub returns-clause-lengths : goal.returns-clause-lengths
returns-clause-lengths c = bounded
