use Rattle.gcm_seal.proofs.Pieces.{two_pieces}
use Rattle.gcm_seal.proofs.Gcm.mask.Goals as goal

pub returns : goal.returns
returns c =
    two_pieces c.args.self.now c.args.iv.now c.args.from c.min-first.result c.args.buf.now c.mask_in_block.new.buf
    c.mask_blocks.new.buf
    c.min-first.ensures c.mask_in_block.ensures c.mask_blocks.ensures
