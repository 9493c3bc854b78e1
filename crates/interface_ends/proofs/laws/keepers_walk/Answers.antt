use Rattle.interface_ends.proofs.Walks.{keeper_walks}
use Rattle.interface_ends.proofs.laws.keepers_walk.Goals as goal

pub returns : goal.returns
returns c = keeper_walks
