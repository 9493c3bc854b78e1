use Rattle.std.proofs.Common.{sym}
use Rattle.gcm_seal.specs.Gcm.{ciphertext_of, seal_of}
use Rattle.gcm_seal.proofs.Gcm.seal.Goals as goal

pub returns : goal.returns
unfolding seal_of ciphertext_of
returns c =
    let masks = c.mask.ensures in
    λ i. (sym masks i, (rw masks at (sym c.tag.ensures)) i)
