use Rattle.std.proofs.Common.{rules, not}
use Rattle.arrayvec.proofs.ArrayVecLemmas.{filter-from_retain}
use Rattle.interface_state.specs.Bindings.{is_binding_on}
use Rattle.interface_state.proofs.bindings.Bindings.remove.Goals as goal

pub returns : goal.returns
returns c =
    rw (← c.self.view_is)
    (filter-from_retain _ (λ b. not (is_binding_on c.args.stream b)) _ (λ x b f' y t. search rules)
    c.self.inside.list.items c.retain.new.self.items c.retain.ensures.filtered)
