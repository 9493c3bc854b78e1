use Rattle.std.proofs.Common.{bit_xor, ◌++◌, ◌∙◌}
use lib.Lanes.{zip2}
use Rattle.aes_block.specs.Nibbles.{code}
use Rattle.aes_block.proofs.Codes.{first-vector}
use Rattle.aes_block.proofs.Halves.{first-two, map-two}
use Rattle.aes_block.proofs.pairs.first_round.Goals as goal

pub returns : goal.returns
returns c = λ w fa fb k.
    let a = c.args.a in
    let b = c.args.b in
    let codes = map-two code c.side_by_side.result c.coded.result a b c.coded.ensures c.side_by_side.ensures.both in
    let keys = c.side_by_side-2.ensures.both ∙ (λ i. k i ++ k i) in
    (first-vector w a fa, first-vector w b fb, (λ i. zip2 bit_xor (codes i) (keys i)) ∙ first-two w a b fa fb)
