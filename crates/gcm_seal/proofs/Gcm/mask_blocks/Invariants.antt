use Rattle.std.proofs.Common.{◌≡◌, ◌*◌}
use Rattle.gcm_seal.proofs.Pieces.{front_masked}
use Rattle.gcm_seal.proofs.Gcm.mask_blocks.Given as goal

abbrev pub invariant-fours : goal.invariant-fours
invariant-fours l = l.buf ≡ front_masked l.self l.iv (16 * l.block) (64 * l.i) l.initial.buf
