use Rattle.std.proofs.Common.{◌≡◌, ◌<◌, ℕ, length}
use Rattle.gcm_seal.specs.Inside.{IsRow, row_at}
use Rattle.gcm_seal.proofs.ghash.rows.Given as goal

abbrev pub invariant-loop-j : goal.invariant-loop-j
invariant-loop-j l = record {
  long : length l.rows ≡ 16;
  made : (k : ℕ) → k < l.j → IsRow l.fn.h k (row_at l.rows k);
}
