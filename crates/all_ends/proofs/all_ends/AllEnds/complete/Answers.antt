use Rattle.all_ends.proofs.Terms.{arith, subst, slice_set, EndsView}
use Rattle.all_ends.specs.AllEnds.{SealsAtEnd, step_on_stream}
use Rattle.std.specs.Prelude.{◌^◌}
use Rattle.all_ends.proofs.Lent.{step_link, step_near, step_pair, link_few, near_few, pair_few, near_within}
use Rattle.all_ends.proofs.Lent.{pair_within}
use Rattle.all_ends.proofs.all_ends.AllEnds.complete.Goals as goal

pub seal_hosted-requires : goal.seal_hosted-requires
seal_hosted-requires c = link_few c.args.end (2 ^ 40) c.in-Link.i c.self.view_is c.requires.here
    c.index_mut.result.now c.requires.few c.in-Link.ensures c.index_mut.ensures.value

pub index_mut-requires-in-Near : goal.index_mut-requires-in-Near
index_mut-requires-in-Near c = omega (
  arith,
  near_within c.args.end (2 ^ 40) c.in-Near.i c.self.view_is c.requires.here c.in-Near.ensures,
  c.self.inside.near.ok.0,
)

pub seal_hosted-requires-in-Near : goal.seal_hosted-requires-in-Near
seal_hosted-requires-in-Near c = near_few c.args.end (2 ^ 40) c.in-Near.i c.self.view_is c.requires.here
    c.index_mut-in-Near.result.now c.requires.few c.in-Near.ensures c.index_mut-in-Near.ensures.value

pub index_mut-requires-in-Pair : goal.index_mut-requires-in-Pair
index_mut-requires-in-Pair c = omega (
  arith,
  pair_within c.args.end (2 ^ 40) c.in-Pair.i c.self.view_is c.requires.here c.in-Pair.ensures,
  c.self.inside.pairs.ok.0,
)

pub seal_pair-requires : goal.seal_pair-requires
seal_pair-requires c = pair_few c.args.end (2 ^ 40) c.in-Pair.i c.self.view_is c.requires.here
    c.index_mut-in-Pair.result.now c.requires.few c.in-Pair.ensures c.index_mut-in-Pair.ensures.value

pub returns-in-Link : goal.returns-in-Link
returns-in-Link c =
    let old : EndsView = record {
      links = c.self.inside.links.items;
      near = c.self.inside.near.items;
      pairs = c.self.inside.pairs.items;
      peers = c.self.inside.peers.items;
    } in
    subst (λ (v : EndsView). SealsAtEnd v c.args.end c.args.tlp.now c.args.stream c.args.trusted c.seal_hosted.result
    (record old { links = slice_set old.links c.in-Link.i c.seal_hosted.new.ends }) c.seal_hosted.new.out)
    c.self.view_is
    (step_link old c.args.end (step_on_stream c.args.tlp.now c.args.stream c.args.trusted) c.seal_hosted.result
    c.seal_hosted.new.out c.in-Link.i c.index_mut.result.now c.seal_hosted.new.ends c.in-Link.ensures
    c.index_mut.ensures.value c.seal_hosted.ensures.sent c.seal_hosted.ensures.ends)

pub returns-in-Near : goal.returns-in-Near
returns-in-Near c =
    let old : EndsView = record {
      links = c.self.inside.links.items;
      near = c.self.inside.near.items;
      pairs = c.self.inside.pairs.items;
      peers = c.self.inside.peers.items;
    } in
    subst (λ (v : EndsView). SealsAtEnd v c.args.end c.args.tlp.now c.args.stream c.args.trusted
    c.seal_hosted-in-Near.result
    (record old { near = slice_set old.near c.in-Near.i c.seal_hosted-in-Near.new.ends })
    c.seal_hosted-in-Near.new.out) c.self.view_is
    (step_near old c.args.end (step_on_stream c.args.tlp.now c.args.stream c.args.trusted)
    c.seal_hosted-in-Near.result c.seal_hosted-in-Near.new.out c.in-Near.i c.index_mut-in-Near.result.now
    c.seal_hosted-in-Near.new.ends c.in-Near.ensures c.index_mut-in-Near.ensures.value
    c.seal_hosted-in-Near.ensures.sent c.seal_hosted-in-Near.ensures.ends)

pub returns-in-Pair : goal.returns-in-Pair
returns-in-Pair c =
    let old : EndsView = record {
      links = c.self.inside.links.items;
      near = c.self.inside.near.items;
      pairs = c.self.inside.pairs.items;
      peers = c.self.inside.peers.items;
    } in
    subst (λ (v : EndsView). SealsAtEnd v c.args.end c.args.tlp.now c.args.stream c.args.trusted c.seal_pair.result
    (record old { pairs = slice_set old.pairs c.in-Pair.i c.seal_pair.new.ends }) c.seal_pair.new.out)
    c.self.view_is
    (step_pair old c.args.end (step_on_stream c.args.tlp.now c.args.stream c.args.trusted) c.seal_pair.result
    c.seal_pair.new.out c.in-Pair.i c.index_mut-in-Pair.result.now c.seal_pair.new.ends c.in-Pair.ensures
    c.index_mut-in-Pair.ensures.value c.seal_pair.ensures.sent c.seal_pair.ensures.ends)
