use Rattle.all_ends.proofs.Terms.{subst, slice_set, EndsView}
use Rattle.all_ends.specs.AllEnds.{CallsAtLink}
use Rattle.interface_state.specs.Machine.{FirmwareUpdate}
use Rattle.all_ends.proofs.Lent.{call_there}
use Rattle.all_ends.proofs.all_ends.AllEnds.firmware.Goals as goal

pub returns : goal.returns
returns c =
    let old : EndsView = record {
      links = c.self.inside.links.items;
      near = c.self.inside.near.items;
      pairs = c.self.inside.pairs.items;
      peers = c.self.inside.peers.items;
    } in
    subst (λ (v : EndsView). CallsAtLink v c.args.link c.args.place FirmwareUpdate c.state.result
    (record old {
      links = slice_set old.links c.args.link
          (record c.index_mut-ends.result.now { device = c.firmware.new.self });
    })) c.self.view_is
    (call_there old c.args.link c.args.place FirmwareUpdate c.state.result
    c.index_mut-ends.result.now c.firmware.new.self c.index_mut-ends.ensures.value c.firmware.ensures
    c.state.ensures)
