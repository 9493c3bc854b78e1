use Rattle.std.proofs.Common.{refl}
use Rattle.gcm_seal.specs.Inside.{raised_block}
use Rattle.gcm_seal.proofs.ghash.times_x4.Goals as goal

pub returns : goal.returns
unfolding raised_block
returns c = rw (c.times_x-4.ensures, c.times_x-3.ensures, c.times_x-2.ensures, c.times_x.ensures) refl
