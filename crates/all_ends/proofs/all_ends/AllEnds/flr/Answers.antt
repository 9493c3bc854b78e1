use Rattle.all_ends.proofs.Terms.{subst, slice_set, EndsView}
use Rattle.all_ends.specs.AllEnds.{CallsAtLink}
use Rattle.interface_state.specs.Machine.{LevelReset}
use Rattle.all_ends.proofs.Lent.{call_there}
use Rattle.all_ends.proofs.all_ends.AllEnds.flr.Goals as goal

pub returns : goal.returns
returns c =
    let old : EndsView = record {
      links = c.self.inside.links.items;
      near = c.self.inside.near.items;
      pairs = c.self.inside.pairs.items;
      peers = c.self.inside.peers.items;
    } in
    subst (λ (v : EndsView). CallsAtLink v c.args.link c.args.place LevelReset c.state.result
    (record old {
      links = slice_set old.links c.args.link
          (record c.index_mut-ends.result.now { device = c.flr.new.self });
    })) c.self.view_is
    (call_there old c.args.link c.args.place LevelReset c.state.result
    c.index_mut-ends.result.now c.flr.new.self c.index_mut-ends.ensures.value c.flr.ensures
    c.state.ensures)
