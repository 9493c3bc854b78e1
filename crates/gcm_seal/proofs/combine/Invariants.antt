use Rattle.std.proofs.Common.{◌≡◌, ◌<◌, ◌≤◌, ℕ, bit_xor, slice_index}
use Rattle.gcm_seal.proofs.combine.Given as goal

abbrev pub invariant-loop-k : goal.invariant-loop-k
invariant-loop-k l = record {
  done : (i : ℕ) → i < l.k → slice_index l.buf i ≡ bit_xor (slice_index l.initial.buf i) (slice_index l.out i);
  left : (i : ℕ) → l.k ≤ i → slice_index l.buf i ≡ slice_index l.initial.buf i;
}
