use Rattle.std.proofs.Common.{◌≡◌, ◌<◌, ℕ, length, slice_index}
use Rattle.gcm_seal.proofs.ghash.last_block.Given as goal

abbrev pub invariant-loop-k : goal.invariant-loop-k
invariant-loop-k l = record {
  long : length l.b ≡ 16;
  copied : (j : ℕ) → j < l.k → slice_index l.b j ≡ slice_index l.rest j;
}
