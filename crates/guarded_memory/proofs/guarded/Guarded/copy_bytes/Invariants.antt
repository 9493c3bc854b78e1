use Rattle.std.proofs.Common.{◌≡◌, ℕ, ◌+◌, ◌<◌, get_or}
use Rattle.guarded_memory.specs.Contents.{mmio_byte}
use Rattle.guarded_memory.proofs.guarded.Guarded.copy_bytes.Given as goal

-- the bytes before place i stand
abbrev pub invariant-loop-i : goal.invariant-loop-i
invariant-loop-i l = (k : ℕ) → k < l.i → get_or l.buf k 0 ≡ mmio_byte l.self l.interface l.bar (l.offset + k)
