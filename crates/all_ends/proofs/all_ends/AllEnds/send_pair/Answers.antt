use Rattle.all_ends.proofs.Terms.{◌≡◌, ◌∙◌, ◌-◌, ap, sym, subst, arith, nat_tests, nat_lt, Bool, true, false}
use Rattle.all_ends.proofs.Terms.{option_map, if◌then◌else◌, slice_set, EndsView}
use Rattle.ide_port.specs.{Trusting}
use Rattle.all_ends.specs.Ends.{far_hop_trust, bound_trust, bound_on, pair_trust}
use Rattle.all_ends.specs.AllEnds.{SendsAtEnd}
use Rattle.std.specs.Prelude.{◌^◌}
use Rattle.all_ends.proofs.Lent.{send_pair, pair_few, pair_within}
use Rattle.all_ends.proofs.all_ends.AllEnds.send_pair.Goals as goal

pub send_far-requires : goal.send_far-requires
send_far-requires c = pair_few c.args.end (2 ^ 40) c.args.i c.self.view_is c.requires.here c.index_mut.result.now
    c.requires.few c.requires.place c.index_mut.ensures.value

pub index_mut-requires-else-i-lt-HOPS : goal.index_mut-requires-else-i-lt-HOPS
index_mut-requires-else-i-lt-HOPS c = omega (
  arith,
  pair_within c.args.end (2 ^ 40) c.args.i c.self.view_is c.requires.here c.requires.place,
  c.self.inside.pairs.ok.0,
)

pub send_peer-requires : goal.send_peer-requires
send_peer-requires c = pair_few c.args.end (2 ^ 40) c.args.i c.self.view_is c.requires.here
    c.index_mut-else-i-lt-HOPS.result.now c.requires.few c.requires.place c.index_mut-else-i-lt-HOPS.ensures.value

pub returns-then-i-lt-HOPS : goal.returns-then-i-lt-HOPS
returns-then-i-lt-HOPS c =
    let old : EndsView = record {
      links = c.self.inside.links.items;
      near = c.self.inside.near.items;
      pairs = c.self.inside.pairs.items;
      peers = c.self.inside.peers.items;
    } in
    let far : Trusting = far_hop_trust c.args.end.side c.args.trusted in
    let less = c.if-i-lt-HOPS.true in
    let hop : nat_lt c.args.i 8 ≡ true = grind (arith, nat_tests, less) in
    subst (λ (v : EndsView). SendsAtEnd v c.args.end c.args.tlp.now c.args.more c.args.trusted c.send_far.result
    (record old { pairs = slice_set old.pairs c.args.i c.send_far.new.ends }) c.send_far.new.out) c.self.view_is
    (send_pair old c.args.end c.args.tlp.now c.args.more c.args.trusted c.send_far.result c.send_far.new.out c.args.i
    c.index_mut.result.now c.send_far.new.ends far c.requires.place c.index_mut.ensures.value c.send_far.ensures.sent
    (sym (ap (λ (b : Bool). if b then far
    else bound_trust (bound_on old.links old.peers c.args.end.side (c.args.i - 8))) hop)) c.send_far.ensures.ends)

pub returns-else-i-lt-HOPS : goal.returns-else-i-lt-HOPS
returns-else-i-lt-HOPS c =
    let old : EndsView = record {
      links = c.self.inside.links.items;
      near = c.self.inside.near.items;
      pairs = c.self.inside.pairs.items;
      peers = c.self.inside.peers.items;
    } in
    let bound : Trusting = bound_trust (option_map (λ d. d.now) c.bound_on-interfaces.result) in
    let least = c.if-i-lt-HOPS.false in
    let hop : nat_lt c.args.i 8 ≡ false = grind (arith, nat_tests, least) in
    let links_are : c.deref.result.now ≡ old.links = c.deref.ensures.value in
    let peers_are : c.deref-else-i-lt-HOPS.result.now ≡ old.peers = c.deref-else-i-lt-HOPS.ensures.value in
    let same : bound ≡ pair_trust old c.args.end.side c.args.i c.args.trusted =
    ap bound_trust c.bound_on-interfaces.ensures
    ∙ ((λ j. bound_trust (bound_on (links_are j) (peers_are j) c.args.end.side (c.args.i - 8)))
    ∙ sym (ap (λ (b : Bool). if b then far_hop_trust c.args.end.side c.args.trusted
    else bound_trust (bound_on old.links old.peers c.args.end.side (c.args.i - 8))) hop)) in
    subst (λ (v : EndsView). SendsAtEnd v c.args.end c.args.tlp.now c.args.more c.args.trusted c.send_peer.result
    (record old { pairs = slice_set old.pairs c.args.i c.send_peer.new.ends }) c.send_peer.new.out) c.self.view_is
    (send_pair old c.args.end c.args.tlp.now c.args.more c.args.trusted c.send_peer.result c.send_peer.new.out
    c.args.i
    c.index_mut-else-i-lt-HOPS.result.now c.send_peer.new.ends bound c.requires.place
    c.index_mut-else-i-lt-HOPS.ensures.value c.send_peer.ensures.sent same c.send_peer.ensures.ends)
