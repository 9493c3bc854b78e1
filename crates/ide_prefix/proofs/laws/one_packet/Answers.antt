use Rattle.ide_prefix.proofs.Cuts.{same_packet}
use Rattle.ide_prefix.proofs.laws.one_packet.Goals as goal

pub returns-clause-one_value : goal.returns-clause-one_value
returns-clause-one_value c = same_packet
