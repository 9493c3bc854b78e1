use Rattle.std.proofs.Common.{ℕ, Some, List, ap}
use Rattle.guarded_memory.specs.declared.names.PageName.{PageName}
use Rattle.guarded_memory.specs.Happenings.{AllReset}
use Rattle.guarded_memory.specs.Contents.{mmio_byte, byte_in_pages}
use Rattle.guarded_memory.proofs.Shown.{leads_one}
use Rattle.guarded_memory.proofs.guarded.Guarded.reset_all.Goals as goal

pub returns-clause-leads : goal.returns-clause-leads
returns-clause-leads c = leads_one (mmio_byte c.args.self.now) (byte_in_pages c.clear.new.self.entries) (Some AllReset)
    (λ i b a. ap (λ (es : List (PageName × List ℕ)). byte_in_pages es i b a) c.clear.ensures.empty)
