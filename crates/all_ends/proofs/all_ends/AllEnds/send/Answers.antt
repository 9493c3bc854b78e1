use Rattle.all_ends.proofs.Terms.{arith, subst, slice_set, EndsView}
use Rattle.all_ends.specs.AllEnds.{SendsAtEnd}
use Rattle.std.specs.Prelude.{◌^◌}
use Rattle.all_ends.proofs.Lent.{send_link, send_near, link_few, near_few, near_within}
use Rattle.all_ends.proofs.all_ends.AllEnds.send.Goals as goal

pub send-requires : goal.send-requires
send-requires c = record {
  few =
      link_few c.args.end (2 ^ 40) c.in-Link.i c.self.view_is c.requires.here c.index_mut.result.now c.requires.few
      c.in-Link.ensures c.index_mut.ensures.value;
}

pub index_mut-requires-in-Near : goal.index_mut-requires-in-Near
index_mut-requires-in-Near c = omega (
  arith,
  near_within c.args.end (2 ^ 40) c.in-Near.i c.self-in-Near.view_is c.requires.here c.in-Near.ensures,
  c.self-in-Near.inside.near.ok.0,
)

pub send_near-requires : goal.send_near-requires
send_near-requires c = near_few c.args.end (2 ^ 40) c.in-Near.i c.self-in-Near.view_is c.requires.here
    c.index_mut-in-Near.result.now c.requires.few c.in-Near.ensures c.index_mut-in-Near.ensures.value

pub returns-in-Link : goal.returns-in-Link
returns-in-Link c =
    let old : EndsView = record {
      links = c.self.inside.links.items;
      near = c.self.inside.near.items;
      pairs = c.self.inside.pairs.items;
      peers = c.self.inside.peers.items;
    } in
    subst (λ (v : EndsView). SendsAtEnd v c.args.end c.args.tlp.now c.args.more c.args.trusted c.send.result
    (record old { links = slice_set old.links c.in-Link.i c.send.new.self }) c.send.new.out) c.self.view_is
    (send_link old c.args.end c.args.tlp.now c.args.more c.args.trusted c.send.result c.send.new.out c.in-Link.i
    c.index_mut.result.now c.send.new.self c.in-Link.ensures c.index_mut.ensures.value c.send.ensures.sent
    c.send.ensures.ends)

pub returns-in-Near : goal.returns-in-Near
returns-in-Near c =
    let old : EndsView = record {
      links = c.self-in-Near.inside.links.items;
      near = c.self-in-Near.inside.near.items;
      pairs = c.self-in-Near.inside.pairs.items;
      peers = c.self-in-Near.inside.peers.items;
    } in
    subst (λ (v : EndsView). SendsAtEnd v c.args.end c.args.tlp.now c.args.more c.args.trusted c.send_near.result
    (record old { near = slice_set old.near c.in-Near.i c.send_near.new.ends }) c.send_near.new.out)
    c.self-in-Near.view_is
    (send_near old c.args.end c.args.tlp.now c.args.more c.args.trusted c.send_near.result c.send_near.new.out
    c.in-Near.i c.index_mut-in-Near.result.now c.send_near.new.ends c.in-Near.ensures
    c.index_mut-in-Near.ensures.value c.send_near.ensures.sent c.send_near.ensures.ends)
