use Rattle.std.proofs.Common.{ap, bit_xor, map, ◌∙◌}
use lib.Lanes.{zip2}
use Rattle.aes_block.specs.Nibbles.{last_of}
use Rattle.aes_block.proofs.Codes.{bytes_at_places, places0, last-lanes}
use Rattle.aes_block.proofs.lanes.last_round.Goals as goal

pub returns : goal.returns
returns c = λ w s is k.
    (λ i. zip2 bit_xor (bytes_at_places ((c.last.ensures ∙ ap (map last_of) is.1) i) places0) (k i))
    ∙ last-lanes w s is.0
