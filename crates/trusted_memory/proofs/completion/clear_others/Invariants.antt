use Rattle.std.proofs.Common.{◌≡◌, ℕ, ◌<◌, ◌≤◌, cond, get_or}
use Rattle.trusted_memory.specs.Spans.{is_enabled}
use Rattle.trusted_memory.proofs.completion.clear_others.Given as goal

abbrev pub invariant-loop-i : goal.invariant-loop-i
invariant-loop-i l = record {
  before : (k : ℕ) → k < l.i → get_or l.bytes k 0 ≡ cond (is_enabled l.span k) (get_or l.initial.bytes k 0) 0;
  behind : (k : ℕ) → l.i ≤ k → get_or l.bytes k 0 ≡ get_or l.initial.bytes k 0;
}
