use Rattle.std.proofs.Common.{◌≡◌, drop}
use Rattle.guarded_memory.specs.Claims.{holds_span, first_passing, holding_bar}
use Rattle.guarded_memory.proofs.claims.holding_bar.Given as goal

abbrev pub invariant-loop-i : goal.invariant-loop-i
invariant-loop-i l = first_passing (λ range. holds_span range l.span) l.i (drop l.i l.bars) ≡ holding_bar l.bars l.span
