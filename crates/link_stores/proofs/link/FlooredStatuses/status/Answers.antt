use Rattle.std.proofs.Common.{ℕ, ◌<◌, Some, ap, sym, subst, ◌∙◌}
use Rattle.guarded_memory.specs.Statuses.{interface_status}
use Rattle.link_stores.proofs.Statuses.{as_many, stands_at}
use Rattle.link_stores.proofs.link.FlooredStatuses.status.Goals as goal

pub interface-requires : goal.interface-requires
interface-requires c = subst (λ (n : ℕ). c.args.place < n)
    (as_many c.args.self.now.floors.now 0 c.args.self.now.interfaces.now.interfaces) c.requires

pub returns : goal.returns
returns c =
    stands_at c.args.self.now.floors.now c.args.self.now.interfaces.now.interfaces c.args.place c.interface.result.now
    c.interface.ensures
    ∙ ap (λ (n : ℕ). Some (interface_status c.interface.result.now n)) (sym c.floor.ensures)
    ∙ ap Some (sym c.of.ensures)
