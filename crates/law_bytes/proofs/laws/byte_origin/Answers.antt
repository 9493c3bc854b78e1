use Rattle.law_bytes.proofs.AllLaws.{byte_origin as holds}
use Rattle.law_bytes.proofs.laws.byte_origin.Goals as goal

pub returns : goal.returns
returns c = holds
