use Rattle.std.proofs.Common.{rules, not, Some}
use Rattle.std.proofs.lemmas.Map.Made.{filter_same_pairs}
use Rattle.guarded_memory.specs.Happenings.{clears, InterfaceStopped}
use Rattle.guarded_memory.specs.Contents.{mmio_byte}
use Rattle.guarded_memory.proofs.Paged.{byte_left}
use Rattle.guarded_memory.proofs.Shown.{leads_one}
use Rattle.guarded_memory.proofs.guarded.Guarded.stop_interface.Goals as goal

pub returns-clause-bytes : goal.returns-clause-bytes
returns-clause-bytes c =
    let stopped = InterfaceStopped c.args.interface c.args.bars.now in
    let left = filter_same_pairs _ (λ e. not (clears stopped e.0.interface e.0.bar)) _ (λ k v b w f' t. search rules)
    c.self.inside.pages.entries c.retain.new.self.entries c.retain.ensures.filtered in
    rw (← c.self.view_is)
    (byte_left (λ name. clears stopped name.interface name.bar) c.self.inside.pages.entries c.retain.new.self.entries
    left)

pub returns-clause-leads : goal.returns-clause-leads
returns-clause-leads c = leads_one (mmio_byte c.args.self.now) _
    (Some (InterfaceStopped c.args.interface c.args.bars.now)) (returns-clause-bytes c)
