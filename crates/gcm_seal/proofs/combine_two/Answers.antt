use Rattle.gcm_seal.proofs.Pieces.{two_blocks}
use Rattle.gcm_seal.proofs.combine_two.Goals as goal

pub returns : goal.returns
returns c = λ key iv block first second.
    two_blocks key iv block c.args.buf.now c.combine_block.new.buf c.combine_block-2.new.buf _ _
    c.requires first second c.combine_block.ensures c.combine_block-2.ensures
