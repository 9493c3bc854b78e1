use Rattle.std.proofs.Common.{ap, ◌∙◌, map}
use Rattle.aes_block.specs.Nibbles.{once_of, twice_of}
use Rattle.aes_block.proofs.Codes.{round_of, round-lanes, after-vector}
use Rattle.aes_block.proofs.lanes.round.Goals as goal

pub returns : goal.returns
returns c = λ w s is k. (
  after-vector w s,
  (λ i. round_of ((c.once_and_twice-p.ensures.once ∙ ap (map once_of) is.1) i)
      ((c.once_and_twice-p.ensures.twice ∙ ap (map twice_of) is.1) i) (k i))
      ∙ round-lanes w s is.0,
)
