use Rattle.std.proofs.Common.{refl}
use Rattle.trusted_memory.specs.Writes.{byte_last_written}
use Rattle.guarded_memory.proofs.laws.mmio_cases.Goals as goal

pub returns-clause-shut : goal.returns-clause-shut
returns-clause-shut c = (refl, refl, refl, refl, refl, refl, refl, refl, refl, refl, refl, refl, refl)

pub returns-clause-opened : goal.returns-clause-opened
returns-clause-opened c = (refl, refl)

pub returns-clause-unclaimed : goal.returns-clause-unclaimed
returns-clause-unclaimed c = (refl, refl, refl, refl, refl, refl)

pub returns-clause-crossing : goal.returns-clause-crossing
returns-clause-crossing c = (refl, refl)

pub returns-clause-stored : goal.returns-clause-stored
unfolding byte_last_written
returns-clause-stored c = (refl, refl, refl, refl, refl, refl, refl)

pub returns-clause-cleared : goal.returns-clause-cleared
unfolding byte_last_written
returns-clause-cleared c = (refl, refl, refl, refl, refl)
