use Rattle.std.proofs.Common.{◌≡◌, ℕ, ◌+◌, ◌<◌, get_or}
use Rattle.trusted_memory.specs.Memory.{byte_at}
use Rattle.trusted_memory.proofs.trusted.Trusted.copy_bytes.Given as goal

-- the bytes before place i stand
abbrev pub invariant-loop-i : goal.invariant-loop-i
invariant-loop-i l = (k : ℕ) → k < l.i → get_or l.buf k 0 ≡ byte_at l.self.contents (l.at + k)
