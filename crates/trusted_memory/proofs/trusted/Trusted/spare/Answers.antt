use Rattle.trusted_memory.proofs.Written.{has_page-same}
use Rattle.trusted_memory.proofs.trusted.Trusted.spare.Goals as goal

pub returns-clause-pages : goal.returns-clause-pages
returns-clause-pages c =
    rw (← c.self.view_is)
    (has_page-same c.self.inside.regions.items c.self.inside.pages.entries c.reserve.new.self.entries 0 0
    c.in_ok-reserve.ensures.entries.2)
