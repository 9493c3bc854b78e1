use Rattle.gcm_seal.proofs.Gcm.mask_two.Goals as goal

pub returns : goal.returns
returns c = c.combine_two.ensures c.args.self.now c.args.iv.now c.args.block c.outputs_two-out.ensures.first
    c.outputs_two-out.ensures.second
