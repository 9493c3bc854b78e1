use Rattle.std.proofs.Common.{sym}
use Rattle.guarded_memory.proofs.Shown.{byte_shown-none}
use Rattle.guarded_memory.proofs.guarded.Guarded.make.Goals as goal

pub returns-clause-stands : goal.returns-clause-stands
returns-clause-stands c = rw c.new.ensures.empty (λ i b a. sym (byte_shown-none i b a))
