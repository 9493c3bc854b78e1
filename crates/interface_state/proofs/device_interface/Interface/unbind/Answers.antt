use Rattle.std.proofs.Common.{sym, subst, List}
use Rattle.ide_types.specs.declared.binding.Binding.{Binding}
use Rattle.interface_state.specs.Held.{IsBound}
use Rattle.interface_state.proofs.Bound.{bound_without}
use Rattle.interface_state.proofs.device_interface.Interface.unbind.Goals as goal

pub invariant_of-self : goal.invariant_of-self
invariant_of-self c =
    let i = c.self.invariant in
    record {
      fits = i.fits;
      listed = i.listed;
      report = i.report;
      bound = subst (λ (bs : List Binding). IsBound c.self.inside.state bs) (sym c.remove.ensures)
          (bound_without c.self.inside.state c.self.inside.bindings c.args.stream i.bound);
    }
