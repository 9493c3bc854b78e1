use Rattle.std.proofs.Common.{rules, not, eqb, Some}
use Rattle.std.proofs.lemmas.Map.Made.{filter_same_pairs}
use Rattle.guarded_memory.specs.Happenings.{InterfaceReset}
use Rattle.guarded_memory.specs.Contents.{mmio_byte}
use Rattle.guarded_memory.proofs.Paged.{byte_left}
use Rattle.guarded_memory.proofs.Shown.{leads_one}
use Rattle.guarded_memory.proofs.guarded.Guarded.reset.Goals as goal

pub returns-clause-bytes : goal.returns-clause-bytes
returns-clause-bytes c =
    let left = filter_same_pairs _ (λ e. not (eqb c.args.interface e.0.interface)) _ (λ k v b w f' t. search rules)
    c.self.inside.pages.entries c.retain.new.self.entries c.retain.ensures.filtered in
    rw (← c.self.view_is)
    (byte_left (λ name. eqb c.args.interface name.interface) c.self.inside.pages.entries c.retain.new.self.entries left)

pub returns-clause-leads : goal.returns-clause-leads
returns-clause-leads c =
    leads_one (mmio_byte c.args.self.now) _ (Some (InterfaceReset c.args.interface)) (returns-clause-bytes c)
