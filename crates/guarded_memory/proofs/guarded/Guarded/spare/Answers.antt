use Rattle.guarded_memory.proofs.Paged.{byte_same}
use Rattle.guarded_memory.proofs.guarded.Guarded.spare.Goals as goal

pub returns-clause-bytes : goal.returns-clause-bytes
returns-clause-bytes c = rw (← c.self.view_is)
    (byte_same c.self.inside.pages.entries c.reserve.new.self.entries c.in_ok-reserve.ensures.entries.2)
