use Rattle.toml_walk.proofs.Unknown.{unknown_is_least}
use Rattle.toml_walk.proofs.laws.unknown_is_least.Goals as goal

pub returns : goal.returns
returns c = unknown_is_least
