use Rattle.ide_prefix.proofs.Units.{one_list}
use Rattle.ide_prefix.proofs.laws.one_unit.Goals as goal

pub returns : goal.returns
returns c = one_list
