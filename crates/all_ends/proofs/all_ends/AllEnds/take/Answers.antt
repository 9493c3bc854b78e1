use Rattle.all_ends.proofs.Terms.{arith, subst, slice_set, EndsView}
use Rattle.all_ends.specs.AllEnds.{TakesAt}
use Rattle.std.specs.Prelude.{◌^◌}
use Rattle.all_ends.proofs.Lent.{take_link, take_near, take_pair, link_few, near_few, near_within, pair_few}
use Rattle.all_ends.proofs.Lent.{pair_within}
use Rattle.all_ends.proofs.all_ends.AllEnds.take.Goals as goal

pub take-requires : goal.take-requires
take-requires c = link_few c.args.end (2 ^ 40) c.in-Link.i c.self.view_is c.requires.here c.index_mut.result.now
    c.requires.few c.in-Link.ensures c.index_mut.ensures.value

pub index_mut-requires-in-Near : goal.index_mut-requires-in-Near
index_mut-requires-in-Near c = omega (
  arith,
  near_within c.args.end (2 ^ 40) c.in-Near.i c.self.view_is c.requires.here c.in-Near.ensures,
  c.self.inside.near.ok.0,
)

pub take-requires-in-Near : goal.take-requires-in-Near
take-requires-in-Near c = near_few c.args.end (2 ^ 40) c.in-Near.i c.self.view_is c.requires.here
    c.index_mut-in-Near.result.now c.requires.few c.in-Near.ensures c.index_mut-in-Near.ensures.value

pub index_mut-requires-in-Pair : goal.index_mut-requires-in-Pair
index_mut-requires-in-Pair c = omega (
  arith,
  pair_within c.args.end (2 ^ 40) c.in-Pair.i c.self.view_is c.requires.here c.in-Pair.ensures,
  c.self.inside.pairs.ok.0,
)

pub take_pair-requires : goal.take_pair-requires
take_pair-requires c = pair_few c.args.end (2 ^ 40) c.in-Pair.i c.self.view_is c.requires.here
    c.index_mut-in-Pair.result.now c.requires.few c.in-Pair.ensures c.index_mut-in-Pair.ensures.value

pub returns-in-Link : goal.returns-in-Link
returns-in-Link c =
    let old : EndsView = record {
      links = c.self.inside.links.items;
      near = c.self.inside.near.items;
      pairs = c.self.inside.pairs.items;
      peers = c.self.inside.peers.items;
    } in
    subst (λ (v : EndsView). TakesAt v c.args.end c.args.bytes.now c.take.result
    (record old { links = slice_set old.links c.in-Link.i c.take.new.self })) c.self.view_is
    (take_link old c.args.end c.args.bytes.now c.in-Link.i c.take.result c.index_mut.result.now c.take.new.self
    c.in-Link.ensures c.index_mut.ensures.value c.take.ensures.answer c.take.ensures.ends)

pub returns-in-Near : goal.returns-in-Near
returns-in-Near c =
    let old : EndsView = record {
      links = c.self.inside.links.items;
      near = c.self.inside.near.items;
      pairs = c.self.inside.pairs.items;
      peers = c.self.inside.peers.items;
    } in
    subst (λ (v : EndsView). TakesAt v c.args.end c.args.bytes.now c.take-in-Near.result
    (record old { near = slice_set old.near c.in-Near.i c.take-in-Near.new.self })) c.self.view_is
    (take_near old c.args.end c.args.bytes.now c.in-Near.i c.take-in-Near.result c.index_mut-in-Near.result.now
    c.take-in-Near.new.self c.in-Near.ensures c.index_mut-in-Near.ensures.value c.take-in-Near.ensures.answer
    c.take-in-Near.ensures.ends)

pub returns-in-Pair : goal.returns-in-Pair
returns-in-Pair c =
    let old : EndsView = record {
      links = c.self.inside.links.items;
      near = c.self.inside.near.items;
      pairs = c.self.inside.pairs.items;
      peers = c.self.inside.peers.items;
    } in
    subst (λ (v : EndsView). TakesAt v c.args.end c.args.bytes.now c.take_pair.result
    (record old { pairs = slice_set old.pairs c.in-Pair.i c.take_pair.new.ends })) c.self.view_is
    (take_pair old c.args.end c.args.bytes.now c.in-Pair.i c.take_pair.result c.index_mut-in-Pair.result.now
    c.take_pair.new.ends c.in-Pair.ensures c.index_mut-in-Pair.ensures.value c.take_pair.ensures.answer
    c.take_pair.ensures.ends)
