use Rattle.all_ends.proofs.Terms.{subst, slice_set, EndsView}
use Rattle.all_ends.specs.AllEnds.{CallsAtLink}
use Rattle.interface_state.specs.Machine.{WriteRegister}
use Rattle.all_ends.proofs.Lent.{call_there}
use Rattle.all_ends.proofs.all_ends.AllEnds.write_register.Goals as goal

pub returns : goal.returns
returns c =
    let old : EndsView = record {
      links = c.self.inside.links.items;
      near = c.self.inside.near.items;
      pairs = c.self.inside.pairs.items;
      peers = c.self.inside.peers.items;
    } in
    subst (λ (v : EndsView). CallsAtLink v c.args.link c.args.place (WriteRegister c.args.register c.args.value)
    c.state.result
    (record old {
      links = slice_set old.links c.args.link
          (record c.index_mut-ends.result.now { device = c.write_register.new.self });
    })) c.self.view_is
    (call_there old c.args.link c.args.place (WriteRegister c.args.register c.args.value) c.state.result
    c.index_mut-ends.result.now c.write_register.new.self c.index_mut-ends.ensures.value c.write_register.ensures
    c.state.ensures)
