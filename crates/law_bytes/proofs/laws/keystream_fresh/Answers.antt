use Rattle.law_bytes.proofs.AllLaws.{keystream_fresh as holds}
use Rattle.law_bytes.proofs.laws.keystream_fresh.Goals as goal

pub returns : goal.returns
returns c = holds
