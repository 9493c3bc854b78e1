use Rattle.ide_prefix.proofs.Written.{keeps}
use Rattle.ide_prefix.proofs.unit_laws.written_keeps_lengths.Goals as goal

pub returns : goal.returns
returns c = keeps
