use Rattle.std.proofs.Common.{length}
use Rattle.ide.proofs.places.words_in.Given as goal

abbrev pub decreases-words : goal.decreases-words
decreases-words l = length l.rest
