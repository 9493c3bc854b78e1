use Rattle.std.proofs.Common.{◌≡◌, ◌++◌, ℕ}
use Rattle.gcm_seal.specs.Inside.{AreRows, byte_product, joined_bytes}
use Rattle.gcm_seal.proofs.Moves.{IsNoneFrom, moved_sum}
use Rattle.gcm_seal.proofs.ghash.product.Given as goal

abbrev pub invariant-loop-i : goal.invariant-loop-i
invariant-loop-i l = record {
  none : IsNoneFrom l.i l.high;
  sum : (h : ℕ) → AreRows h l.rows → joined_bytes (l.low ++ l.high) ≡ moved_sum (byte_product h) l.v l.i;
}
