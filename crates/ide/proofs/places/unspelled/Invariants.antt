use Rattle.std.proofs.Common.{length}
use Rattle.ide.proofs.places.unspelled.Given as goal

abbrev pub decreases-lines : goal.decreases-lines
decreases-lines l = length l.rest
