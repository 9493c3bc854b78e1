use Rattle.law_bindings.proofs.AllLaws.{trusted_on_all_streams as holds}
use Rattle.law_bindings.proofs.laws.trusted_on_all_streams.Goals as goal

pub returns : goal.returns
returns c = holds
