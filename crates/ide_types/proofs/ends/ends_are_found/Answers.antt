use Rattle.ide_types.proofs.EndsFound.{end_found}
use Rattle.ide_types.proofs.ends.ends_are_found.Goals as goal

pub returns : goal.returns
returns c = end_found
