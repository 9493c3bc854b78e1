use Rattle.law_keys.proofs.Gos.{set_go_finds_key as holds}
use Rattle.law_keys.proofs.laws.set_go_finds_key.Goals as goal

pub returns : goal.returns
returns c = holds
