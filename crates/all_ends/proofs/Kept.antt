-- What always holds of the ends of all lines, kept by a change of one of them: each end keeps its name, plans and
-- limit, and has one unit more in a sub-stream at the most.
use Rattle.all_ends.proofs.Terms.{◌≡◌, ℕ, suc, zero, ◌+◌, ◌≤◌, List, [], ◌∷◌, ◌++◌, length, refl, ap, sym, ◌∙◌, subst}
use Rattle.all_ends.proofs.Terms.{arith, Option, Some, None, option_map, map, slice_get, same_Some, none-some, Side}
use Rattle.all_ends.proofs.Terms.{Host, Device, PortName, Plan, StreamState, LinkPacket, port_at, PortEnd, LinkEnds}
use Rattle.all_ends.proofs.Terms.{PairEnds, EndsView, port_in, with_port, pair_port, with_pair_port, KeeperView}
use Rattle.all_ends.proofs.Terms.{ports_in, in_sixteen, pair_ports, rows_of, name_of, IsPort, IsLink, IsPair, IsBounded}
use Rattle.all_ends.proofs.Terms.{AreLinks, StreamKept, StreamView, LinePlace, Link, Near, Pair, line_place}
use Rattle.all_ends.proofs.Terms.{port_at_place, port_on, with_port_at_place, with_port_on, changed_at, settled_link}
use Rattle.all_ends.proofs.Terms.{settled_ends, peer_live, settled_first_links}
use Rattle.std.specs.Prelude.{IsSome, Bool, true, false, if◌then◌else◌, nat_lt, ◌-◌}
use Rattle.ide_types.specs.declared.plan.PeerPlan.{PeerPlan}
use Rattle.all_ends.specs.Ends.{settled_peer, settled_place}
use Rattle.all_ends.proofs.ByPlace.{changed_length, each_changed}
use Rattle.all_ends.proofs.Finds.{mapped}
use Rattle.ide_port.specs.{UnitsGrow}
use Rattle.ide_port.proofs.Units.{stays, grow-on}

-- ---- one end

-- the same streams
pub record Keeps (e e' : PortEnd) : Type 0 where
  pub name : e'.name ≡ e.name
  pub plans : e'.plans ≡ e.plans
  pub limit : e'.limit ≡ e.limit

pub as_before : (e : PortEnd) → Keeps e e
as_before e = record { name = refl; plans = refl; limit = refl }

port_kept : (plan : Plan) (end : PortName) (e e' : PortEnd) → IsPort plan end e → Keeps e e' → IsPort plan end e'
port_kept plan end e e' is keeps = record {
  name = keeps.name ∙ is.name;
  plans = keeps.plans ∙ is.plans;
  limit = keeps.limit ∙ is.limit;
}

-- ---- the ends of one line

pub record KeepsEnds (l l' : LinkEnds) : Type 0 where
  pub host : Keeps l.host l'.host
  pub device : Keeps l.device.port l'.device.port
  pub requester : l'.device.requester ≡ l.device.requester

pub record KeepsPair (l l' : PairEnds) : Type 0 where
  pub near_side : l'.near.side ≡ l.near.side
  pub far_side : l'.far.side ≡ l.far.side
  pub near : Keeps l.near.port l'.near.port
  pub far : Keeps l.far.port l'.far.port

link_kept : (plan : Plan) (line : ℕ) (l l' : LinkEnds) → KeepsEnds l l' → IsLink plan line l → IsLink plan line l'
link_kept plan line l l' keeps is = record {
  host = port_kept plan (port_at Host line) l.host l'.host is.host keeps.host;
  device = port_kept plan (port_at Device line) l.device.port l'.device.port is.device keeps.device;
  requester = subst (λ (n : ℕ). n ≤ 65535) (sym keeps.requester) is.requester;
}

pair_kept : (plan : Plan) (line : ℕ) (l l' : PairEnds) → KeepsPair l l' → IsPair plan line l → IsPair plan line l'
pair_kept plan line l l' keeps is = record {
  near_side = keeps.near_side ∙ is.near_side;
  far_side = keeps.far_side ∙ is.far_side;
  near = port_kept plan (port_at Host line) l.near.port l'.near.port is.near keeps.near;
  far = port_kept plan (port_at Device line) l.far.port l'.far.port is.far keeps.far;
}

pub port_put : (s : Side) (l : LinkEnds) (e : PortEnd) → Keeps (port_in s l) e → KeepsEnds l (with_port s e l)
port_put Host l e keeps = record { host = keeps; device = as_before l.device.port; requester = refl }
port_put Device l e keeps = record { host = as_before l.host; device = keeps; requester = refl }

pub pair_put : (s : Side) (l : PairEnds) (e : PortEnd) → Keeps (pair_port s l) e → KeepsPair l (with_pair_port s e l)
pair_put Host l e keeps = record { near_side = refl; far_side = refl; near = keeps; far = as_before l.far.port }
pair_put Device l e keeps = record { near_side = refl; far_side = refl; near = as_before l.near.port; far = keeps }

pub settled_keeps : (live : ℕ → Option ℕ) (l : LinkEnds) → KeepsEnds l (settled_ends live l)
settled_keeps live l = record { host = as_before l.host; device = as_before l.device.port; requester = refl }

-- ---- the ends of the plan

module _ (plan : Plan) (v : EndsView) (k : KeeperView) (links : AreLinks plan v k) where
  pub links_kept : (i : ℕ) (f : LinkEnds → LinkEnds) →
      ((l : LinkEnds) → slice_get v.links i ≡ Some l → KeepsEnds l (f l))
      → AreLinks plan (record v { links = changed_at v.links i f }) k
  links_kept i f keeps = record {
    fits = links.fits;
    many = changed_length v.links i f ∙ links.many;
    near_many = links.near_many;
    pairs_many = links.pairs_many;
    peers_are = links.peers_are;
    each_link = each_changed (IsLink plan) v.links i f links.each_link
        (λ l at is. link_kept plan i l (f l) (keeps l at) is);
    each_near = links.each_near;
    each_pair = links.each_pair;
    names = links.names;
    kept = links.kept;
    keys = links.keys;
  }

  pub near_kept : (i : ℕ) (f : LinkEnds → LinkEnds) → ((l : LinkEnds) → slice_get v.near i ≡ Some l → KeepsEnds l (f l))
      → AreLinks plan (record v { near = changed_at v.near i f }) k
  near_kept i f keeps = record {
    fits = links.fits;
    many = links.many;
    near_many = changed_length v.near i f ∙ links.near_many;
    pairs_many = links.pairs_many;
    peers_are = links.peers_are;
    each_link = links.each_link;
    each_near = each_changed (λ j l. IsLink plan (8 + j) l) v.near i f links.each_near
        (λ l at is. link_kept plan (8 + i) l (f l) (keeps l at) is);
    each_pair = links.each_pair;
    names = links.names;
    kept = links.kept;
    keys = links.keys;
  }

  pub pairs_kept : (i : ℕ) (f : PairEnds → PairEnds) →
      ((l : PairEnds) → slice_get v.pairs i ≡ Some l → KeepsPair l (f l))
      → AreLinks plan (record v { pairs = changed_at v.pairs i f }) k
  pairs_kept i f keeps = record {
    fits = links.fits;
    many = links.many;
    near_many = links.near_many;
    pairs_many = changed_length v.pairs i f ∙ links.pairs_many;
    peers_are = links.peers_are;
    each_link = links.each_link;
    each_near = links.each_near;
    each_pair = each_changed (λ j l. IsPair plan (16 + j) l) v.pairs i f links.each_pair
        (λ l at is. pair_kept plan (16 + i) l (f l) (keeps l at) is);
    names = links.names;
    kept = links.kept;
    keys = links.keys;
  }

  -- with another manager
  pub keeper_kept : (k' : KeeperView) → map name_of k'.manager.streams ≡ map name_of k.manager.streams
      → ((i : ℕ) (s : StreamView) → slice_get k'.manager.streams i ≡ Some s → StreamKept plan s)
      → k'.pool.keys ≡ k.pool.keys → AreLinks plan v k'
  keeper_kept k' names kept keys = record {
    fits = links.fits;
    many = links.many;
    near_many = links.near_many;
    pairs_many = links.pairs_many;
    peers_are = links.peers_are;
    each_link = links.each_link;
    each_near = links.each_near;
    each_pair = links.each_pair;
    names = names ∙ links.names;
    kept = kept;
    keys = keys ∙ links.keys;
  }

  -- with something else at an end
  end_kept_at : (s : Side) (place : LinePlace) (e e' : PortEnd) → port_at_place v s place ≡ Some e → Keeps e e'
      → AreLinks plan (with_port_at_place v s place e') k
  end_kept_at s (Link i) e e' is keeps =
      let x = mapped (λ (l : LinkEnds). port_in s l) (slice_get v.links i) e is in
      links_kept i (with_port s e')
      (λ l at. port_put s l e' (subst (λ (p : PortEnd). Keeps p e')
      (sym x.2 ∙ ap (λ (y : LinkEnds). port_in s y) (same_Some x.0 l (sym x.1 ∙ at))) keeps))
  end_kept_at s (Near i) e e' is keeps =
      let x = mapped (λ (l : LinkEnds). port_in s l) (slice_get v.near i) e is in
      near_kept i (with_port s e')
      (λ l at. port_put s l e' (subst (λ (p : PortEnd). Keeps p e')
      (sym x.2 ∙ ap (λ (y : LinkEnds). port_in s y) (same_Some x.0 l (sym x.1 ∙ at))) keeps))
  end_kept_at s (Pair i) e e' is keeps =
      let x = mapped (λ (l : PairEnds). pair_port s l) (slice_get v.pairs i) e is in
      pairs_kept i (with_pair_port s e')
      (λ l at. pair_put s l e' (subst (λ (p : PortEnd). Keeps p e')
      (sym x.2 ∙ ap (λ (y : PairEnds). pair_port s y) (same_Some x.0 l (sym x.1 ∙ at))) keeps))

  pub end_kept : (end : PortName) (e e' : PortEnd) → port_on v end ≡ Some e → Keeps e e'
      → AreLinks plan (with_port_on v end e') k
  end_kept end e e' is keeps = end_kept_at end.side (line_place end.line) e e' is keeps

  pub settled_kept : (i : ℕ) → AreLinks plan (settled_link v i) k
  settled_kept i = links_kept i (settled_ends (peer_live v i)) (λ l at. settled_keeps (peer_live v i) l)

-- ---- devices that settle

pub below_kept : (plan : Plan) (n : ℕ) (v : EndsView) (k : KeeperView) → AreLinks plan v k
    → AreLinks plan (settled_first_links n v) k
below_kept plan zero v k links = links
below_kept plan (suc n) v k links = settled_kept plan (settled_first_links n v) k (below_kept plan n v k links) n

peer_kept : (plan : Plan) (o : Option PeerPlan) (v : EndsView) (k : KeeperView) → AreLinks plan v k
    → AreLinks plan (settled_peer o v) k
peer_kept plan None v k links = links
peer_kept plan (Some p) v k links = settled_kept plan (settled_link v p.near) k (settled_kept plan v k links p.near)
    p.far

pub place_kept : (plan : Plan) (i : ℕ) (v : EndsView) (k : KeeperView) → AreLinks plan v k
    → AreLinks plan (settled_place (Pair i) v) k
place_kept plan i v k links = by_test (nat_lt i 8)
  where
    by_test : (b : Bool) → AreLinks plan (if b then v else settled_peer (slice_get v.peers (i - 8)) v) k
    by_test true = links
    by_test false = peer_kept plan (slice_get v.peers (i - 8)) v k links

-- the ports are seen, and not the interfaces
pub ports_seen : (ls : List LinkEnds) (i : ℕ) (f : LinkEnds → LinkEnds)
    → ((l : LinkEnds) → (f l).host.states ≡ l.host.states)
    → ((l : LinkEnds) → (f l).device.port.states ≡ l.device.port.states) → ports_in (changed_at ls i f) ≡ ports_in ls
ports_seen [] i f host device = refl
ports_seen (l ∷ ls) zero f host device = (λ j. host l j ∷ device l j ∷ ports_in ls)
ports_seen (l ∷ ls) (suc i) f host device =
    ap (λ (rows : List (List StreamState)). l.host.states ∷ l.device.port.states ∷ rows) (ports_seen ls i f host device)

pub settled_rows : (v : EndsView) (i : ℕ) → rows_of (settled_link v i) ≡ rows_of v
settled_rows v i = ap (λ (rows : List (List StreamState)). in_sixteen rows ++ ports_in v.near ++ pair_ports v.pairs)
    (ports_seen v.links i (settled_ends (peer_live v i)) (λ l. refl) (λ l. refl))

pub below_rows : (n : ℕ) (v : EndsView) → rows_of (settled_first_links n v) ≡ rows_of v
below_rows zero v = refl
below_rows (suc n) v = settled_rows (settled_first_links n v) n ∙ below_rows n v

pub place_rows : (i : ℕ) (v : EndsView) → rows_of (settled_place (Pair i) v) ≡ rows_of v
place_rows i v = by_test (nat_lt i 8)
  where
    of_peer : (o : Option PeerPlan) → rows_of (settled_peer o v) ≡ rows_of v
    of_peer None = refl
    of_peer (Some p) = settled_rows (settled_link v p.near) p.far ∙ settled_rows v p.near

    by_test : (b : Bool) → rows_of (if b then v else settled_peer (slice_get v.peers (i - 8)) v) ≡ rows_of v
    by_test true = refl
    by_test false = of_peer (slice_get v.peers (i - 8))

-- ---- how many units there were

-- the same ends are there, with so many more units at the most
pub record Grows (n : ℕ) (v v' : EndsView) : Type 0 where
  pub many : length v'.links ≡ length v.links
  pub there : (end : PortName) → IsSome (port_on v end) → IsSome (port_on v' end)
  pub units : (end : PortName) (y : PortEnd) → port_on v' end ≡ Some y
      → (x : PortEnd) × (port_on v end ≡ Some x) × UnitsGrow n x y

pub grows_then : (m n : ℕ) (u v w : EndsView) → Grows m u v → Grows n v w → Grows (m + n) u w
grows_then m n u v w first second = record {
  many = second.many ∙ first.many;
  there = λ end is. second.there end (first.there end is);
  units = λ end y is. (let a = second.units end y is in let b = first.units end a.0 a.1 in
      (b.0, b.1, grow-on m n b.0 a.0 y b.2 a.2));
}

-- of a list of which one item changes
module _ {A : Type 0} (n : ℕ) (g : A → PortEnd) (f : A → A) where
  there_after : (xs : List A) (i j : ℕ) → IsSome (option_map g (slice_get xs j))
      → IsSome (option_map g (slice_get (changed_at xs i f) j))
  there_after [] i j is = is
  there_after (x ∷ xs) zero zero is = refl
  there_after (x ∷ xs) zero (suc j) is = is
  there_after (x ∷ xs) (suc i) zero is = is
  there_after (x ∷ xs) (suc i) (suc j) is = there_after xs i j is

  units_after : (xs : List A) (i j : ℕ) → ((x : A) → slice_get xs i ≡ Some x → UnitsGrow n (g x) (g (f x)))
      → (y : PortEnd) → option_map g (slice_get (changed_at xs i f) j) ≡ Some y
      → (x : PortEnd) × (option_map g (slice_get xs j) ≡ Some x) × UnitsGrow n x y
  units_after [] i j grow y is = absurd (none-some y is)
  units_after (x ∷ xs) zero zero grow y is =
      let more = grow x refl in
      (g x, refl, subst (λ (p : PortEnd). UnitsGrow n (g x) p) (same_Some (g (f x)) y is) more)
  units_after (x ∷ xs) zero (suc j) grow y is = (y, is, stays n y)
  units_after (x ∷ xs) (suc i) zero grow y is = (y, is, stays n y)
  units_after (x ∷ xs) (suc i) (suc j) grow y is = units_after xs i j grow y is

module _ (n : ℕ) (v : EndsView) (i : ℕ) where
  pub links_grow : (f : LinkEnds → LinkEnds)
      → ((s : Side) (l : LinkEnds) → slice_get v.links i ≡ Some l → UnitsGrow n (port_in s l) (port_in s (f l)))
      → Grows n v (record v { links = changed_at v.links i f })
  links_grow f grow = record {
    many = changed_length v.links i f;
    there = λ end is. there_at end.side (line_place end.line) is;
    units = λ end y is. units_at end.side (line_place end.line) y is;
  }
    where
      v' : EndsView
      v' = record v { links = changed_at v.links i f }

      there_at : (s : Side) (place : LinePlace) → IsSome (port_at_place v s place) → IsSome (port_at_place v' s place)
      there_at s (Link j) is = there_after n (λ (l : LinkEnds). port_in s l) f v.links i j is
      there_at s (Near j) is = is
      there_at s (Pair j) is = is

      units_at : (s : Side) (place : LinePlace) (y : PortEnd) → port_at_place v' s place ≡ Some y
          → (x : PortEnd) × (port_at_place v s place ≡ Some x) × UnitsGrow n x y
      units_at s (Link j) y is = units_after n (λ (l : LinkEnds). port_in s l) f v.links i j (grow s) y is
      units_at s (Near j) y is = (y, is, stays n y)
      units_at s (Pair j) y is = (y, is, stays n y)

  pub near_grow : (f : LinkEnds → LinkEnds)
      → ((s : Side) (l : LinkEnds) → slice_get v.near i ≡ Some l → UnitsGrow n (port_in s l) (port_in s (f l)))
      → Grows n v (record v { near = changed_at v.near i f })
  near_grow f grow = record {
    many = refl;
    there = λ end is. there_at end.side (line_place end.line) is;
    units = λ end y is. units_at end.side (line_place end.line) y is;
  }
    where
      v' : EndsView
      v' = record v { near = changed_at v.near i f }

      there_at : (s : Side) (place : LinePlace) → IsSome (port_at_place v s place) → IsSome (port_at_place v' s place)
      there_at s (Link j) is = is
      there_at s (Near j) is = there_after n (λ (l : LinkEnds). port_in s l) f v.near i j is
      there_at s (Pair j) is = is

      units_at : (s : Side) (place : LinePlace) (y : PortEnd) → port_at_place v' s place ≡ Some y
          → (x : PortEnd) × (port_at_place v s place ≡ Some x) × UnitsGrow n x y
      units_at s (Link j) y is = (y, is, stays n y)
      units_at s (Near j) y is = units_after n (λ (l : LinkEnds). port_in s l) f v.near i j (grow s) y is
      units_at s (Pair j) y is = (y, is, stays n y)

  pub pairs_grow : (f : PairEnds → PairEnds) → ((s : Side) (l : PairEnds) → slice_get v.pairs i ≡ Some l
      → UnitsGrow n (pair_port s l) (pair_port s (f l)))
      → Grows n v (record v { pairs = changed_at v.pairs i f })
  pairs_grow f grow = record {
    many = refl;
    there = λ end is. there_at end.side (line_place end.line) is;
    units = λ end y is. units_at end.side (line_place end.line) y is;
  }
    where
      v' : EndsView
      v' = record v { pairs = changed_at v.pairs i f }

      there_at : (s : Side) (place : LinePlace) → IsSome (port_at_place v s place) → IsSome (port_at_place v' s place)
      there_at s (Link j) is = is
      there_at s (Near j) is = is
      there_at s (Pair j) is = there_after n (λ (l : PairEnds). pair_port s l) f v.pairs i j is

      units_at : (s : Side) (place : LinePlace) (y : PortEnd) → port_at_place v' s place ≡ Some y
          → (x : PortEnd) × (port_at_place v s place ≡ Some x) × UnitsGrow n x y
      units_at s (Link j) y is = (y, is, stays n y)
      units_at s (Near j) y is = (y, is, stays n y)
      units_at s (Pair j) y is = units_after n (λ (l : PairEnds). pair_port s l) f v.pairs i j (grow s) y is

put_units : (s t : Side) (l : LinkEnds) (e e' : PortEnd) → port_in s l ≡ e → UnitsGrow 1 e e'
    → UnitsGrow 1 (port_in t l) (port_in t (with_port s e' l))
put_units Host Host l e e' is more = subst (λ (p : PortEnd). UnitsGrow 1 p e') (sym is) more
put_units Host Device l e e' is more = stays 1 l.device.port
put_units Device Host l e e' is more = stays 1 l.host
put_units Device Device l e e' is more = subst (λ (p : PortEnd). UnitsGrow 1 p e') (sym is) more

pair_put_units : (s t : Side) (l : PairEnds) (e e' : PortEnd) → pair_port s l ≡ e → UnitsGrow 1 e e'
    → UnitsGrow 1 (pair_port t l) (pair_port t (with_pair_port s e' l))
pair_put_units Host Host l e e' is more = subst (λ (p : PortEnd). UnitsGrow 1 p e') (sym is) more
pair_put_units Host Device l e e' is more = stays 1 l.far.port
pair_put_units Device Host l e e' is more = stays 1 l.near.port
pair_put_units Device Device l e e' is more = subst (λ (p : PortEnd). UnitsGrow 1 p e') (sym is) more

end_grows_at : (v : EndsView) (s : Side) (place : LinePlace) (e e' : PortEnd) → port_at_place v s place ≡ Some e
    → UnitsGrow 1 e e' → Grows 1 v (with_port_at_place v s place e')
end_grows_at v s (Link i) e e' is more =
    let x = mapped (λ (l : LinkEnds). port_in s l) (slice_get v.links i) e is in
    links_grow 1 v i (with_port s e') (λ t l at. put_units s t l e e'
    (ap (λ (y : LinkEnds). port_in s y) (same_Some l x.0 (sym at ∙ x.1)) ∙ x.2) more)
end_grows_at v s (Near i) e e' is more =
    let x = mapped (λ (l : LinkEnds). port_in s l) (slice_get v.near i) e is in
    near_grow 1 v i (with_port s e') (λ t l at. put_units s t l e e'
    (ap (λ (y : LinkEnds). port_in s y) (same_Some l x.0 (sym at ∙ x.1)) ∙ x.2) more)
end_grows_at v s (Pair i) e e' is more =
    let x = mapped (λ (l : PairEnds). pair_port s l) (slice_get v.pairs i) e is in
    pairs_grow 1 v i (with_pair_port s e') (λ t l at. pair_put_units s t l e e'
    (ap (λ (y : PairEnds). pair_port s y) (same_Some l x.0 (sym at ∙ x.1)) ∙ x.2) more)

pub end_grows : (v : EndsView) (end : PortName) (e e' : PortEnd) → port_on v end ≡ Some e → UnitsGrow 1 e e'
    → Grows 1 v (with_port_on v end e')
end_grows v end e e' is more = end_grows_at v end.side (line_place end.line) e e' is more

settled_units : (live : ℕ → Option ℕ) (s : Side) (l : LinkEnds)
    → UnitsGrow 0 (port_in s l) (port_in s (settled_ends live l))
settled_units live Host l = stays 0 l.host
settled_units live Device l = stays 0 l.device.port

pub settled_grows : (v : EndsView) (i : ℕ) → Grows 0 v (settled_link v i)
settled_grows v i = links_grow 0 v i (settled_ends (peer_live v i)) (λ s l at. settled_units (peer_live v i) s l)

pub stays_all : (v : EndsView) → Grows 0 v v
stays_all v = record { many = refl; there = λ end is. is; units = λ end y is. (y, is, stays 0 y) }

pub below_grows : (n : ℕ) (v : EndsView) → Grows 0 v (settled_first_links n v)
below_grows zero v = stays_all v
below_grows (suc n) v = grows_then 0 0 v (settled_first_links n v) (settled_first_links (suc n) v) (below_grows n v)
    (settled_grows (settled_first_links n v) n)

pub place_grows : (i : ℕ) (v : EndsView) → Grows 0 v (settled_place (Pair i) v)
place_grows i v = by_test (nat_lt i 8)
  where
    of_peer : (o : Option PeerPlan) → Grows 0 v (settled_peer o v)
    of_peer None = stays_all v
    of_peer (Some p) = grows_then 0 0 v (settled_link v p.near) (settled_link (settled_link v p.near) p.far)
        (settled_grows v p.near) (settled_grows (settled_link v p.near) p.far)

    by_test : (b : Bool) → Grows 0 v (if b then v else settled_peer (slice_get v.peers (i - 8)) v)
    by_test true = stays_all v
    by_test false = of_peer (slice_get v.peers (i - 8))

-- one more event
pub bounded_then : (n : ℕ) (v v' : EndsView) (packets more : List LinkPacket) (steps : ℕ) → n ≤ 1
    → IsBounded v packets steps → Grows n v v'
    → ((i : ℕ) (p : LinkPacket) → slice_get more i ≡ Some p → IsSome (port_on v p.port)) → IsBounded v' more (steps + 1)
bounded_then n v v' packets more steps le bounded grows sealed = record {
  few = (let few = bounded.few in let many = grows.many in omega (arith, few, many));
  units = λ end y is. (let x = grows.units end y is in
      x.2.bounded steps (steps + 1) (omega (arith, le)) (bounded.units end x.0 x.1));
  sealed_here = λ i p at. grows.there p.port (sealed i p at);
}
