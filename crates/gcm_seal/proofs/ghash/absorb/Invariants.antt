use Rattle.std.proofs.Common.{◌≡◌, ◌<◌, ◌^◌, ◌*◌, ℕ}
use Rattle.gcm_seal.specs.Inside.{hash_after_blocks, padded_blocks, AreMultiples}
use Rattle.gcm_seal.proofs.ghash.absorb.Given as goal

abbrev pub invariant-fours : goal.invariant-fours
invariant-fours l = (h : ℕ) → h < 2 ^ 128 → AreMultiples h l.m → l.x
    ≡ hash_after_blocks h l.y (padded_blocks l.s (4 * l.i))

abbrev pub invariant-rest : goal.invariant-rest
invariant-rest l = (h : ℕ) → h < 2 ^ 128 → AreMultiples h l.m → l.x ≡ hash_after_blocks h l.y (padded_blocks l.s l.i)
