use Rattle.std.proofs.Common.{refl}
use Rattle.gcm_seal.proofs.Lookups.{row-is}
use Rattle.gcm_seal.proofs.ghash.row_of.Goals as goal

pub returns : goal.returns
returns c = λ b d bs ds.
    row-is b d c.args.s.now c.args.t.now c.args.j _ _ _ _ bs ds c.requires c.chosen.ensures c.chosen-2.ensures
    c.chosen-3.ensures c.chosen-4.ensures _ refl
