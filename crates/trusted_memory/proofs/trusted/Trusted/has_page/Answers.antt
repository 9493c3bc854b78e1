use Rattle.std.proofs.Common.{sym, ◌∙◌}
use Rattle.trusted_memory.proofs.Written.{has_page-lookup}
use Rattle.trusted_memory.proofs.trusted.Trusted.has_page.Goals as goal

pub returns : goal.returns
returns c = rw (← c.self.view_is)
    (c.contains_key.ensures ∙ sym
    (has_page-lookup c.self.inside.regions.items c.self.inside.pages.entries 0 c.args.number))
