use Rattle.std.proofs.Common.{sym, ap, ◌∙◌}
use Rattle.trusted_memory.specs.Writes.{write_of, byte_written}
use Rattle.trusted_memory.specs.Memory.{MemoryContents, byte_at}
use Rattle.trusted_memory.proofs.Admitted.{leads_applied, admitted_if_none}
use Rattle.trusted_memory.proofs.trusted.Trusted.apply.Goals as goal

pub returns-in-None-clause-leads : goal.returns-in-None-clause-leads
returns-in-None-clause-leads c =
    let w = write_of c.args.write.now in
    leads_applied c.args.self.now.contents c.store.new.self.contents _ w
    (admitted_if_none c.args.self.now.contents.regions c.args.trusted c.args.grant w
    (sym c.block_cause.ensures ∙ c.in-None.is))
    (λ a. c.store.ensures.bytes a ∙ ap (λ (m : MemoryContents). byte_written w (byte_at m) a)
    c.bring_page.ensures.contents)
