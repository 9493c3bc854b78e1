use Rattle.all_ends.proofs.Terms.{◌∙◌, subst, slice_set, EndsView, LinkEnds, PairEnds, peer_live}
use Rattle.link_ends.specs.DeviceEnds.{secure_or_live}
use Rattle.spec_interfaces.specs.Peers.{live_by_id}
use Rattle.interface_ends.specs.Replies.{settled_interfaces}
use Rattle.all_ends.specs.Ends.{live_of}
use Rattle.all_ends.specs.AllEnds.{OperatesAt, Settles}
use Rattle.all_ends.proofs.Lent.{operate_link, operate_near, operate_pair}
use Rattle.all_ends.proofs.all_ends.AllEnds.operate.Goals as goal

pub returns-in-Link-clause-operates : goal.returns-in-Link-clause-operates
returns-in-Link-clause-operates c =
    let old : EndsView = record {
      links = c.self.inside.links.items;
      near = c.self.inside.near.items;
      pairs = c.self.inside.pairs.items;
      peers = c.self.inside.peers.items;
    } in
    let i = c.in-Link.i in
    let x : LinkEnds = c.index_mut.result.now in
    let y : LinkEnds = c.operate.new.ends in
    let settles : Settles (peer_live old i) x y = c.operate.ensures.settles
    ∙ (λ j. settled_interfaces (secure_or_live y.device.port (λ stream.
    live_by_id (live_of (c.deref.ensures.value j)) (c.deref-in-Link.ensures.value j) i stream)) x.device.interfaces) in
    subst (λ (v : EndsView). OperatesAt v c.args.line c.args.keeper.now.keys c.args.op c.args.loss c.operate.result
    (record old { links = slice_set old.links i y }) c.operate.new.self.keys) c.self.view_is
    (operate_link old c.args.line i c.args.keeper.now.keys c.operate.new.self.keys c.args.op c.args.loss
    c.operate.result x y c.in-Link.ensures c.index_mut.ensures.value c.operate.ensures.operates
    c.operate.ensures.units settles)

pub returns-in-Near-clause-operates : goal.returns-in-Near-clause-operates
returns-in-Near-clause-operates c =
    let old : EndsView = record {
      links = c.self-in-Near.inside.links.items;
      near = c.self-in-Near.inside.near.items;
      pairs = c.self-in-Near.inside.pairs.items;
      peers = c.self-in-Near.inside.peers.items;
    } in
    let i = c.in-Near.i in
    let y : LinkEnds = c.operate_near.new.ends in
    subst (λ (v : EndsView). OperatesAt v c.args.line c.args.keeper.now.keys c.args.op c.args.loss
    c.operate_near.result (record old { near = slice_set old.near i y }) c.operate_near.new.self.keys)
    c.self-in-Near.view_is
    (operate_near old c.args.line i c.args.keeper.now.keys c.operate_near.new.self.keys c.args.op c.args.loss
    c.operate_near.result c.index_mut-in-Near.result.now y c.in-Near.ensures c.index_mut-in-Near.ensures.value
    c.operate_near.ensures.operates c.operate_near.ensures.units)

pub returns-in-Pair-clause-operates : goal.returns-in-Pair-clause-operates
returns-in-Pair-clause-operates c =
    let old : EndsView = record {
      links = c.self-in-Pair.inside.links.items;
      near = c.self-in-Pair.inside.near.items;
      pairs = c.self-in-Pair.inside.pairs.items;
      peers = c.self-in-Pair.inside.peers.items;
    } in
    let i = c.in-Pair.i in
    let y : PairEnds = c.operate_pair-outcome.new.ends in
    subst (λ (v : EndsView). OperatesAt v c.args.line c.args.keeper.now.keys c.args.op c.args.loss
    c.operate_pair-outcome.result c.settle_pair.new.self c.operate_pair-outcome.new.self.keys)
    c.self-in-Pair.view_is
    (operate_pair old c.args.line i c.args.keeper.now.keys c.operate_pair-outcome.new.self.keys c.args.op c.args.loss
    c.operate_pair-outcome.result c.index_mut-in-Pair.result.now y c.settle_pair.new.self c.in-Pair.ensures
    c.index_mut-in-Pair.ensures.value c.operate_pair-outcome.ensures.operates c.operate_pair-outcome.ensures.units
    c.settle_pair.ensures)
