use Rattle.spec_interfaces.proofs.Bound.{bind_law as holds, peer_seals_bound}
use Rattle.spec_interfaces.proofs.laws.bind_law.Goals as goal

pub returns-clause-law : goal.returns-clause-law
returns-clause-law c = holds

pub returns-clause-sealed : goal.returns-clause-sealed
returns-clause-sealed c = peer_seals_bound
