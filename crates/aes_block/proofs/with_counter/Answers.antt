use Rattle.std.proofs.Common.{◌++◌, slice_index, sym, ◌∙◌}
use Rattle.std.specs.Int.{w32, to_be_bytes}
use Rattle.aes_block.specs.Inside.{spread}
use Rattle.aes_block.proofs.Columns.{word_of-bytes, items-drop}
use Rattle.aes_block.proofs.with_counter.Goals as goal

pub returns : goal.returns
unfolding spread
returns c =
    let b = c.args.front.now in
    let n = to_be_bytes w32 c.args.n in
    let e0 = word_of-bytes (slice_index b 0) (slice_index b 1) (slice_index b 2) (slice_index b 3)
    c.from_be_bytes.result (c.fits-front 0) (c.fits-front 1) (c.fits-front 2) (c.fits-front 3)
    c.from_be_bytes.ensures in
    let e1 = word_of-bytes (slice_index b 4) (slice_index b 5) (slice_index b 6) (slice_index b 7)
    c.from_be_bytes-2.result (c.fits-front 4) (c.fits-front 5) (c.fits-front 6) (c.fits-front 7)
    c.from_be_bytes-2.ensures in
    let e2 = word_of-bytes (slice_index b 8) (slice_index b 9) (slice_index b 10) (slice_index b 11)
    c.from_be_bytes-3.result (c.fits-front 8) (c.fits-front 9) (c.fits-front 10) (c.fits-front 11)
    c.from_be_bytes-3.ensures in
    c.vector.ensures ∙ (λ i. e0 i ++ (e1 i ++ (e2 i ++ n))) ∙ items-drop b 12 0 n (sym c.told-front)
