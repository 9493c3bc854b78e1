use Rattle.std.proofs.Common.{bit_xor, map, ◌++◌, ◌∙◌}
use lib.Lanes.{zip2}
use Rattle.aes_block.specs.Aes.{add_round_key, shift_rows, sub_bytes}
use Rattle.aes_block.specs.Nibbles.{code, last_of}
use Rattle.aes_block.proofs.Codes.{length-added, places0, bytes_at_places}
use Rattle.aes_block.proofs.Halves.{last-two, map-two}
use Rattle.aes_block.proofs.pairs.last_round.Goals as goal

pub returns : goal.returns
returns c = λ w s t is k.
    let bytes = map-two last_of c.args.v c.last.result (map code s) (map code t) c.last.ensures is.2 in
    let keys = c.side_by_side.ensures.both ∙ (λ i. k i ++ k i) in
    c.halves.ensures (add_round_key w (shift_rows (sub_bytes s))) (add_round_key w (shift_rows (sub_bytes t)))
    (length-added w (shift_rows (sub_bytes s))) (length-added w (shift_rows (sub_bytes t)))
    ((λ i. zip2 bit_xor (bytes_at_places (bytes i) (places0 ++ places0)) (keys i)) ∙ last-two w s t is.0 is.1)
