use Rattle.std.proofs.Common.{map, ◌++◌, ◌∙◌}
use Rattle.aes_block.specs.Nibbles.{code, once_of, twice_of}
use Rattle.aes_block.proofs.Codes.{after-vector}
use Rattle.aes_block.proofs.Halves.{map-two, round-two, two_of}
use Rattle.aes_block.proofs.pairs.round.Goals as goal

pub returns : goal.returns
returns c = λ w s t is k.
    let v = c.args.v in
    let once = map-two once_of v c.once_and_twice-p.result.0 (map code s) (map code t)
    c.once_and_twice-p.ensures.once is.2 in
    let twice = map-two twice_of v c.once_and_twice-p.result.1 (map code s) (map code t)
    c.once_and_twice-p.ensures.twice is.2 in
    let keys = c.side_by_side.ensures.both ∙ (λ i. k i ++ k i) in
    (after-vector w s, after-vector w t, (λ i. two_of (once i) (twice i) (keys i)) ∙ round-two w s t is.0 is.1)
