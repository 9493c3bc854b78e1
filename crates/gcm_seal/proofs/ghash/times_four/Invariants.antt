use Rattle.std.proofs.Common.{◌≡◌, ◌++◌, ℕ}
use Rattle.gcm_seal.specs.Inside.{AreRows, byte_product, joined_bytes}
use Rattle.gcm_seal.proofs.Moves.{IsNoneFrom, four_sums}
use Rattle.gcm_seal.proofs.ghash.times_four.Given as goal

abbrev pub invariant-loop-i : goal.invariant-loop-i
invariant-loop-i l = record {
  none : IsNoneFrom l.i l.high;
  sum : (f g k h : ℕ) → AreRows h l.fn.m.first → AreRows k l.fn.m.second → AreRows g l.fn.m.third
      → AreRows f l.fn.m.fourth
      → joined_bytes (l.low ++ l.high)
      ≡ four_sums (byte_product f) (byte_product g) (byte_product k) (byte_product h) l.fn.a l.fn.b l.fn.c l.fn.d l.i;
}
