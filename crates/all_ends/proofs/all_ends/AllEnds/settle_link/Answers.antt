use Rattle.all_ends.proofs.Terms.{◌∙◌, ap, List, EndsView, LinkEnds, changed_at, settled_ends, settled_link}
use Rattle.spec_interfaces.specs.Peers.{live_by_id}
use Rattle.all_ends.specs.Ends.{live_of}
use Rattle.all_ends.proofs.all_ends.AllEnds.settle_link.Goals as goal

pub returns : goal.returns
returns c =
    let old : EndsView = record {
      links = c.self.inside.links.items;
      near = c.self.inside.near.items;
      pairs = c.self.inside.pairs.items;
      peers = c.self.inside.peers.items;
    } in
    ap (λ (ls : List LinkEnds). record old { links = ls })
    (c.settle_one.ensures
    ∙ (λ j. changed_at old.links c.args.link (settled_ends (λ stream.
    live_by_id (live_of (c.deref.ensures.value j)) (c.deref-2.ensures.value j) c.args.link stream))))
    ∙ ap (λ (v : EndsView). settled_link v c.args.link) c.self.view_is
