use Rattle.std.proofs.Common.{◌≡◌, ℕ, get_or}
use Rattle.trusted_memory.specs.Writes.{write_of}
use Rattle.trusted_memory.proofs.Putting.{put_to}
use Rattle.trusted_memory.proofs.page.put_all.Given as goal

-- the bytes before place i of the payload stand
abbrev pub invariant-loop-i : goal.invariant-loop-i
invariant-loop-i l = (k : ℕ) → get_or l.bytes k 0 ≡ put_to (write_of l.write) l.start l.i l.initial.bytes k
