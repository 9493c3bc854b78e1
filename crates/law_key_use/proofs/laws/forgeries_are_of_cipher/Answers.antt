use Rattle.law_key_use.proofs.Forgeries.{forgeries as holds}
use Rattle.law_key_use.proofs.laws.forgeries_are_of_cipher.Goals as goal

pub returns : goal.returns
returns c = holds
