use Rattle.std.proofs.Common.{◌≡◌, ℕ, List, length, bit_xor, sym, ap, ◌∙◌, arith}
use Rattle.std.proofs.lemmas.List.{take_all}
use Rattle.std.proofs.lemmas.Simd.{put_chunk_whole, length-zip2}
use lib.Lanes.{zip2, put_chunk}
use Rattle.gcm_seal.proofs.Strings.{zip2-combined_bytes}
use Rattle.gcm_seal.proofs.combine_block.Goals as goal

pub returns : goal.returns
returns c =
    let xs = c.args.buf.now in
    let out = c.args.out in
    let same : length xs ≡ length out = omega (arith, c.requires, c.fits-out.0) in
    let ys : List ℕ = zip2 bit_xor xs out in
    ap (λ (l : List ℕ). put_chunk 0 xs (zip2 bit_xor l out)) (take_all 16 xs (omega (arith, c.requires)))
    ∙ put_chunk_whole xs ys (sym (length-zip2 bit_xor xs out same))
    ∙ zip2-combined_bytes xs out same
