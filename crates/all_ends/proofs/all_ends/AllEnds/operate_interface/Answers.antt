use Rattle.all_ends.proofs.Terms.{◌≡◌, ℕ, subst, Option, slice_get, slice_set, EndsView, LinkEnds}
use Rattle.std.specs.Prelude.{IfSome}
use Rattle.spec_interfaces.specs.Peers.{live_by_id}
use Rattle.link_ends.specs.Hosts.{operated_on}
use Rattle.interface_ends.specs.Keepers.{Ended}
use Rattle.all_ends.specs.Ends.{live_of}
use Rattle.all_ends.specs.AllEnds.{AsksAtLink}
use Rattle.all_ends.proofs.Lent.{asks_there}
use Rattle.all_ends.proofs.all_ends.AllEnds.operate_interface.Goals as goal

pub returns : goal.returns
returns c =
    let old : EndsView = record {
      links = c.self.inside.links.items;
      near = c.self.inside.near.items;
      pairs = c.self.inside.pairs.items;
      peers = c.self.inside.peers.items;
    } in
    let x : LinkEnds = c.index_mut-ends.result.now in
    let y : LinkEnds = c.operate_interface.new.ends in
    let e : Ended = record {
      outcome = c.operate_interface.result;
      manager = c.operate_interface.new.self.interfaces;
      device = y.device.interfaces;
    } in
    let operated = subst (λ (live : ℕ → Option ℕ). IfSome
    (slice_get c.args.keeper.now.interfaces.interfaces c.args.interface)
    (λ i. e ≡ operated_on c.args.interface c.args.op c.args.loss c.args.keeper.now.keys live
    c.args.keeper.now.interfaces x i))
    (λ j. (λ stream. live_by_id (live_of (c.deref.ensures.value j)) (c.deref-2.ensures.value j) c.args.link stream))
    c.operate_interface.ensures.operated in
    subst (λ (v : EndsView). AsksAtLink v c.args.link c.args.keeper.now c.args.interface c.args.op c.args.loss
    c.operate_interface.result (record old { links = slice_set old.links c.args.link y })
    c.operate_interface.new.self) c.self.view_is
    (asks_there old c.args.link c.args.keeper.now c.operate_interface.new.self c.args.interface c.args.op c.args.loss
    c.operate_interface.result x y c.index_mut-ends.ensures.value operated c.operate_interface.ensures.keys
    c.operate_interface.ensures.peer_draws c.operate_interface.ensures.ends)
