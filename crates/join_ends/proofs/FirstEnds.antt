-- The ends of all lines before the first event: their ports are those of the machine's first state, they are the
-- plan's, and no unit was finished at them.
use Rattle.std.proofs.Common.{◌≡◌, ℕ, suc, zero, ◌+◌, ◌-◌, ◌<◌, ◌≤◌, List, [], ◌∷◌, ◌++◌, length, map, refl, ap, sym}
use Rattle.std.proofs.Common.{◌∙◌, arith, subst, Option, Some, None, Bool, true, false}
use Rattle.std.specs.Prelude.{slice_get, All}
use Rattle.std.specs.List.{slice_index_or}
use Rattle.std.specs.Option.{option_map}
use Rattle.std.proofs.lemmas.List.{append_assoc, length-append, length-map, get_or_append_left}
use Rattle.std.proofs.lemmas.List.Elements.{All-head, All-tail}
use Rattle.std.proofs.lemmas.Option.{none-some, same_Some, slice_get_within}
use Rattle.ide_types.specs.declared.port.Side.{Side}
use Rattle.ide_types.specs.declared.port.Side.TheVariants.{Host, Device}
use Rattle.ide_types.specs.Lines.{is_hosted}
use Rattle.ide_types.specs.declared.plan.Plan.{Plan}
use Rattle.ide_types.specs.declared.plan.LinkPlan.{LinkPlan}
use Rattle.ide_types.specs.declared.plan.PeerPlan.{PeerPlan}
use Rattle.ide_types.specs.declared.stream.StreamPlan.{StreamPlan}
use Rattle.ide_types.specs.declared.interface.InterfacePlan.{InterfacePlan}
use Rattle.ide_types.specs.Fits.{FitsInterface, FitsLink, FitsPlan}
use Rattle.key_slots.specs.{new_pool}
use Rattle.key_host.specs.Streams.{StreamView, new_stream}
use Rattle.key_host.specs.Managers.{new_manager}
use Rattle.spec_links.specs.Plan.{streams_by_link, streams_of, hop_streams, hop_by_link, peer_streams, lone_stream}
use Rattle.spec_links.specs.Plan.{in_eight, behind_near, behind_links}
unfoldable use Rattle.spec_links.specs.Plan.{streams_by_line}
use Rattle.spec_links.proofs.Ends.{link_row, behind_eight}
use Rattle.machine_ports.specs.Machine.{first_ports, first_state, port_at}
use Rattle.ide_port.specs.{PortEnd, PortUnitsAtMost}
use Rattle.ide_port.proofs.Units.{new-units}
use Rattle.link_ends.specs.declared.pair.PairEnds.{PairEnds}
use Rattle.link_ends.specs.LineEnds.{new_pair}
use Rattle.all_ends.specs.{LinkEnds, new_ends, port_in, KeeperView}
use Rattle.all_ends.specs.Requester.{requester_of}
use Rattle.all_ends.specs.Ends.{ends_from, near_from, pairs_from, new_all_ends, port_at_place, pair_port, line_place}
use Rattle.all_ends.specs.States.{ports_in, pair_ports, in_sixteen, rows_of, state_of, ops_by_line, IsLink, IsPair}
use Rattle.all_ends.specs.States.{AreLinks, IsBounded, StreamKept, KeptBy, name_of}
use Rattle.all_ends.specs.declared.places.LinePlace.{LinePlace}
use Rattle.all_ends.specs.declared.places.LinePlace.TheVariants.{Link, Near, Pair}
use Rattle.join_ends.proofs.FirstRows.{Rows, manager_rows, length_eight}
use Rattle.join_ends.proofs.FirstStreams.{ops_first, names_first, each_first, ports_both, ports_eight}

-- ---- the machine's first state

ports_links : (limit from : ℕ) (ls : List LinkPlan) → ports_in (ends_from limit from ls)
    ≡ first_ports (map (λ (l : LinkPlan). l.streams) ls)
ports_links limit from [] = refl
ports_links limit from (l ∷ ls) =
    let more = ports_links limit (from + 1) ls in λ i. first_ports (l.streams ∷ []) ++ more i

ports_near : (limit line : ℕ) (rows : Rows) → ports_in (near_from limit line rows) ≡ first_ports rows
ports_near limit line [] = refl
ports_near limit line (r ∷ rows) = let more = ports_near limit (line + 1) rows in λ i. first_ports (r ∷ []) ++ more i

ports_pairs : (limit line : ℕ) (rows : Rows) → pair_ports (pairs_from limit line rows) ≡ first_ports rows
ports_pairs limit line [] = refl
ports_pairs limit line (r ∷ rows) = let more = ports_pairs limit (line + 1) rows in λ i. first_ports (r ∷ []) ++ more i

rows_first : (plan : Plan) → rows_of (new_all_ends plan) ≡ first_ports (streams_by_line plan)
unfolding streams_by_line
rows_first plan =
    let links = first_ports (streams_by_link plan) in
    let limit = plan.units_per_key in
    (λ i. in_sixteen (ports_links limit 0 plan.links i) ++ ports_near limit 8 (in_eight (hop_by_link plan)) i
    ++ ports_pairs limit 16 (behind_near plan) i)
    ∙ (append_assoc (in_sixteen links) (first_ports (in_eight (hop_by_link plan))) (first_ports (behind_near plan))
    ∙ ((λ i. sym (ports_eight (streams_by_link plan)) i
    ++ sym (ports_both (in_eight (hop_by_link plan)) (behind_near plan)) i)
    ∙ sym (ports_both (in_eight (streams_by_link plan)) (behind_links plan))))

abbrev pub first_keeper : Plan → KeeperView
first_keeper plan = record { manager = new_manager plan.links plan.peers; pool = new_pool plan.pool }

pub state_first : (plan : Plan) → FitsPlan plan
    → state_of plan (new_all_ends plan) (first_keeper plan) [] ≡ first_state plan
state_first plan fits =
    let ops = ap (ops_by_line (streams_by_line plan)) (manager_rows plan fits.links_most)
    ∙ ops_first 0 (streams_by_line plan) in
    λ i. record (first_state plan) { ports = rows_first plan i; ops = ops i }

-- ---- the ends are the plan's

many_links : (limit from : ℕ) (ls : List LinkPlan) → length (ends_from limit from ls) ≡ length ls
many_links limit from [] = refl
many_links limit from (l ∷ ls) = ap suc (many_links limit (from + 1) ls)

many_near : (limit line : ℕ) (rows : Rows) → length (near_from limit line rows) ≡ length rows
many_near limit line [] = refl
many_near limit line (r ∷ rows) = ap suc (many_near limit (line + 1) rows)

many_pairs : (limit line : ℕ) (rows : Rows) → length (pairs_from limit line rows) ≡ length rows
many_pairs limit line [] = refl
many_pairs limit line (r ∷ rows) = ap suc (many_pairs limit (line + 1) rows)

requester_small : (ss : List StreamPlan) (is : List InterfacePlan) → All (FitsInterface ss) is → requester_of is ≤ 65535
requester_small ss [] fit = omega arith
requester_small ss (i ∷ is) fit = let x = All-head (FitsInterface ss) i is fit in x.requester

-- a hosted line, as it was made
record IsMade (limit line : ℕ) (ss : List StreamPlan) (l : LinkEnds) : Type 0 where
  requester : ℕ
  interfaces : List InterfacePlan
  nonces : List (List ℕ)
  ends : l ≡ new_ends line ss limit requester interfaces nonces
  small : requester ≤ 65535

link_made : (limit from : ℕ) (ls : List LinkPlan) (i line : ℕ) (l : LinkEnds) → from + i ≡ line → All FitsLink ls
    → slice_get (ends_from limit from ls) i ≡ Some l
    → IsMade limit line (slice_index_or (map (λ (p : LinkPlan). p.streams) ls) i []) l
link_made limit from [] i line l at fit is = absurd (none-some l is)
link_made limit from (x ∷ ls) zero line l at fit is =
    let f = All-head FitsLink x ls fit in
    let same : from ≡ line = omega arith in
    record {
      requester = requester_of x.interfaces;
      interfaces = x.interfaces;
      nonces = x.nonces;
      ends = sym (same_Some _ l is) ∙ ap
          (λ (n : ℕ). new_ends n x.streams limit (requester_of x.interfaces) x.interfaces x.nonces) same;
      small = requester_small x.streams x.interfaces f.each_interface;
    }
link_made limit from (x ∷ ls) (suc i) line l at fit is = link_made limit (from + 1) ls i line l (omega arith)
    (All-tail FitsLink x ls fit) is

near_made : (limit from : ℕ) (rows : Rows) (i line : ℕ) (l : LinkEnds) → from + i ≡ line
    → slice_get (near_from limit from rows) i ≡ Some l → IsMade limit line (slice_index_or rows i []) l
near_made limit from [] i line l at is = absurd (none-some l is)
near_made limit from (r ∷ rows) zero line l at is =
    let same : from ≡ line = omega arith in
    record {
      requester = 0;
      interfaces = [];
      nonces = [];
      ends = sym (same_Some _ l is) ∙ ap (λ (n : ℕ). new_ends n r limit 0 [] []) same;
      small = omega arith;
    }
near_made limit from (r ∷ rows) (suc i) line l at is = near_made limit (from + 1) rows i line l (omega arith) is

pair_made : (limit from : ℕ) (rows : Rows) (i line : ℕ) (l : PairEnds) → from + i ≡ line
    → slice_get (pairs_from limit from rows) i ≡ Some l → l ≡ new_pair line (slice_index_or rows i []) limit
pair_made limit from [] i line l at is = absurd (none-some l is)
pair_made limit from (r ∷ rows) zero line l at is =
    let same : from ≡ line = omega arith in
    sym (same_Some _ l is) ∙ ap (λ (n : ℕ). new_pair n r limit) same
pair_made limit from (r ∷ rows) (suc i) line l at is = pair_made limit (from + 1) rows i line l (omega arith) is

-- rows of streams of the lines of hops, and of those between devices
near_row : (plan : Plan) (i : ℕ) → i < 8 → length plan.links ≤ 8
    → slice_index_or (in_eight (hop_by_link plan)) i [] ≡ streams_of plan (8 + i)
unfolding streams_by_line
near_row plan i less few =
    let place : 8 + i - 8 ≡ i = omega arith in
    let hops : length (hop_by_link plan) ≤ 8
    = omega (arith, length-map plan.links (λ (l : LinkPlan). hop_streams l.hop), few) in
    let many = length_eight (hop_by_link plan) hops in
    sym (behind_eight (streams_by_link plan) (behind_links plan) (8 + i) (omega arith)
    ∙ (ap (λ (n : ℕ). slice_index_or (behind_links plan) n []) place
    ∙ get_or_append_left (in_eight (hop_by_link plan)) (behind_near plan) [] i (omega (arith, many, less))))

pair_row : (plan : Plan) (i : ℕ) → slice_index_or (behind_near plan) i [] ≡ streams_of plan (16 + i)
unfolding streams_by_line
pair_row plan i =
    let place : 16 + i - 8 ≡ 8 + i = omega arith in
    let more : 8 + i - 8 ≡ i = omega arith in
    sym (behind_eight (streams_by_link plan) (behind_links plan) (16 + i) (omega arith)
    ∙ (ap (λ (n : ℕ). slice_index_or (behind_links plan) n []) place
    ∙ (behind_eight (hop_by_link plan) (behind_near plan) (8 + i) (omega arith)
    ∙ ap (λ (n : ℕ). slice_index_or (behind_near plan) n []) more)))

made_is : (plan : Plan) (line : ℕ) (ss : List StreamPlan) (l : LinkEnds) → IsMade plan.units_per_key line ss l
    → ss ≡ streams_of plan line → IsLink plan line l
made_is plan line ss l m same = record {
  host = record {
    name = ap (λ (x : LinkEnds). x.host.name) m.ends;
    plans = ap (λ (x : LinkEnds). x.host.plans) m.ends ∙ same;
    limit = ap (λ (x : LinkEnds). x.host.limit) m.ends;
  };
  device = record {
    name = ap (λ (x : LinkEnds). x.device.port.name) m.ends;
    plans = ap (λ (x : LinkEnds). x.device.port.plans) m.ends ∙ same;
    limit = ap (λ (x : LinkEnds). x.device.port.limit) m.ends;
  };
  requester = subst (λ (x : LinkEnds). x.device.requester ≤ 65535) (sym m.ends) m.small;
}

pair_is : (plan : Plan) (line : ℕ) (ss : List StreamPlan) (l : PairEnds) → l ≡ new_pair line ss plan.units_per_key
    → ss ≡ streams_of plan line → IsPair plan line l
pair_is plan line ss l made same = record {
  near_side = ap (λ (x : PairEnds). x.near.side) made;
  far_side = ap (λ (x : PairEnds). x.far.side) made;
  near = record {
    name = ap (λ (x : PairEnds). x.near.port.name) made;
    plans = ap (λ (x : PairEnds). x.near.port.plans) made ∙ same;
    limit = ap (λ (x : PairEnds). x.near.port.limit) made;
  };
  far = record {
    name = ap (λ (x : PairEnds). x.far.port.name) made;
    plans = ap (λ (x : PairEnds). x.far.port.plans) made ∙ same;
    limit = ap (λ (x : PairEnds). x.far.port.limit) made;
  };
}

kept_new : (b : Bool) (plan : Plan) (line id : ℕ) → KeptBy b plan (new_stream line id)
kept_new true plan line id = tt
kept_new false plan line id = tt

module _ (plan : Plan) (fits : FitsPlan plan) where
  abbrev limit : ℕ
  limit = plan.units_per_key

  hops_few : length (hop_by_link plan) ≤ 8
  hops_few = omega (arith, length-map plan.links (λ (l : LinkPlan). hop_streams l.hop), fits.links_most)

  near_eight : length (new_all_ends plan).near ≡ 8
  near_eight = many_near limit 8 (in_eight (hop_by_link plan)) ∙ length_eight (hop_by_link plan) hops_few

  pub links_first : AreLinks plan (new_all_ends plan) (first_keeper plan)
  links_first = record {
    fits = fits;
    many = many_links limit 0 plan.links;
    near_many = near_eight;
    pairs_many = pairs_eight;
    peers_are = refl;
    each_link = λ i l is.
        made_is plan i _ l (link_made limit 0 plan.links i i l (omega arith) fits.each_link is)
        (sym (link_row plan i (link_there i l is)));
    each_near = λ i l is.
        made_is plan (8 + i) _ l (near_made limit 8 (in_eight (hop_by_link plan)) i (8 + i) l refl is)
        (near_row plan i (near_there i l is) fits.links_most);
    each_pair = λ i l is. pair_is plan (16 + i) _ l (pair_made limit 16 (behind_near plan) i (16 + i) l refl is)
        (pair_row plan i);
    names = ap (map name_of) (manager_rows plan fits.links_most) ∙ names_first 0 (streams_by_line plan);
    kept = λ i v is.
        each_first (StreamKept plan) (λ line id. kept_new (is_hosted line) plan line id) 0 (streams_by_line plan) i v
        (ap (λ (vs : List StreamView). slice_get vs i) (sym (manager_rows plan fits.links_most)) ∙ is);
    keys = refl;
  }
    where
      link_there : (i : ℕ) (l : LinkEnds) → slice_get (ends_from limit 0 plan.links) i ≡ Some l → i < 8
      link_there i l is = omega (
        arith,
        slice_get_within (ends_from limit 0 plan.links) i l is,
        many_links limit 0 plan.links,
        fits.links_most,
      )

      near_there : (i : ℕ) (l : LinkEnds) → slice_get (new_all_ends plan).near i ≡ Some l → i < 8
      near_there i l is = omega (arith, slice_get_within (new_all_ends plan).near i l is, near_eight)

      pairs_eight : length (new_all_ends plan).pairs ≡ 8 + length plan.peers
      pairs_eight = many_pairs limit 16 (behind_near plan) ∙ both
        where
          both : length (in_eight (hop_by_link plan) ++ peer_streams plan) ≡ 8 + length plan.peers
          both =
              let all = length-append (in_eight (hop_by_link plan)) (peer_streams plan) in
              let hops = length_eight (hop_by_link plan) hops_few in
              let peers = length-map plan.peers (λ (p : PeerPlan). lone_stream p.id p.aggregation ∷ []) in
              omega (arith, all, hops, peers)

  -- ---- no unit was finished

  new_ports : (side : Side) (line : ℕ) (ss : List StreamPlan) (l : LinkEnds) → IsMade limit line ss l
      → PortUnitsAtMost 0 (port_in side l)
  new_ports Host line ss l m = subst (λ (x : LinkEnds). PortUnitsAtMost 0 x.host) (sym m.ends)
      (new-units (port_at Host line) ss limit)
  new_ports Device line ss l m = subst (λ (x : LinkEnds). PortUnitsAtMost 0 x.device.port) (sym m.ends)
      (new-units (port_at Device line) ss limit)

  new_pair_ports : (side : Side) (line : ℕ) (ss : List StreamPlan) (l : PairEnds) → l ≡ new_pair line ss limit
      → PortUnitsAtMost 0 (pair_port side l)
  new_pair_ports Host line ss l m = subst (λ (x : PairEnds). PortUnitsAtMost 0 x.near.port) (sym m)
      (new-units (port_at Host line) ss limit)
  new_pair_ports Device line ss l m = subst (λ (x : PairEnds). PortUnitsAtMost 0 x.far.port) (sym m)
      (new-units (port_at Device line) ss limit)

  mapped : {A : Type 0} (f : A → PortEnd) (o : Option A) (e : PortEnd)
      → ((x : A) → o ≡ Some x → PortUnitsAtMost 0 (f x)) → option_map f o ≡ Some e → PortUnitsAtMost 0 e
  mapped f None e each is = absurd (none-some e is)
  mapped f (Some x) e each is = subst (λ (p : PortEnd). PortUnitsAtMost 0 p) (same_Some (f x) e is) (each x refl)

  units_at : (side : Side) (p : LinePlace) (e : PortEnd) → port_at_place (new_all_ends plan) side p ≡ Some e
      → PortUnitsAtMost 0 e
  units_at side (Link i) e is = mapped (port_in side) (slice_get (new_all_ends plan).links i) e
      (λ l at. new_ports side i _ l (link_made limit 0 plan.links i i l (omega arith) fits.each_link at)) is
  units_at side (Near i) e is = mapped (port_in side) (slice_get (new_all_ends plan).near i) e
      (λ l at. new_ports side (8 + i) _ l (near_made limit 8 (in_eight (hop_by_link plan)) i (8 + i) l refl at)) is
  units_at side (Pair i) e is = mapped (pair_port side) (slice_get (new_all_ends plan).pairs i) e
      (λ l at. new_pair_ports side (16 + i) _ l (pair_made limit 16 (behind_near plan) i (16 + i) l refl at)) is

  pub bounded_first : IsBounded (new_all_ends plan) [] 0
  bounded_first = record {
    few = omega (arith, many_links limit 0 plan.links, fits.links_most);
    units = λ end e is. units_at end.side (line_place end.line) e is;
    sealed_here = λ i p is. absurd (none-some p is);
  }
