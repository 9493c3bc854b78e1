-- At which ends of a topology bytes arrive: each is at a host's or a device's port of one of its links, or at the
-- switch of one of its hops.
use Rattle.spec_links.proofs.Terms.{◌≡◌, ◌∙◌, ◌+◌, ◌-◌, ◌<◌, ◌≤◌, ◌&&◌, ℕ, List, [], ◌∷◌, Bool, true, false}
use Rattle.spec_links.proofs.Terms.{Option, Some, None, nat_lt, is_some, slice_get, length, map, arith, refl, sym}
use Rattle.spec_links.proofs.Terms.{ap, nat_tests, if◌then◌else◌, Plan, PortName}
use Rattle.spec_links.specs.Terms.{Tlp, TlpFault, read_of}
use Rattle.std.specs.Prelude.{nat_le, zero, suc, ◌==◌, Result}
use Rattle.std.specs.Option.{unwrap_or, option_map_or}
use Rattle.std.specs.List.{slice_index_or}
use Rattle.std.proofs.Common.{subst}
use Rattle.std.proofs.lemmas.Bool.{and_parts, ltb-true, lt-ltb}
use Rattle.std.proofs.lemmas.Option.{none-some, same_Some}
use Rattle.ide_types.specs.declared.direction.Direction.{Direction}
use Rattle.ide_types.specs.declared.direction.Direction.TheVariants.{Downstream, Upstream}
use Rattle.ide_types.specs.declared.port.Side.{Side}
use Rattle.ide_types.specs.declared.port.Side.TheVariants.{Host, Device}
use Rattle.ide_types.specs.Ports.{host_port, device_port}
use Rattle.ide_types.specs.Lines.{peer_line}
use Rattle.ide_types.specs.declared.plan.LinkPlan.{LinkPlan}
use Rattle.ide_types.specs.declared.plan.HopPlan.{HopPlan}
use Rattle.ide_types.specs.declared.plan.PeerPlan.{PeerPlan}
use Rattle.ide_types.specs.declared.stream.StreamPlan.{StreamPlan}
use Rattle.ide_types.specs.Plans.{hop_has_id}
use Rattle.ide_types.specs.Ends.{own_has_id, link_hop, port_beside_end, peer_link, hop_end, peer_end_at_port}
use Rattle.ide_types.specs.Ends.{end_at_port, end_at}
unfoldable use Rattle.ide_types.specs.Ends.{peer_end}
use Rattle.ide_types.specs.Fits.{FitsPlan, FitsPeer}
use Rattle.ide_types.proofs.EndsFound.{all_at}
use Rattle.spec_links.specs.Hops.{entering_end}
use Rattle.spec_links.specs.Plan.{has_link, has_line, has_port, hop_streams, lone_stream, aggregation_of, with_id}
unfoldable use Rattle.spec_links.specs.Plan.{stream_plan}
use Rattle.spec_links.specs.Ports.{at_switch, end_if, goes_to_hop, hop_lists, id_in, outgoing_at, takes_none}
unfoldable use Rattle.spec_links.specs.Ports.{port_of, end_reached, sealing_end}
use Rattle.line_routes.specs.Rows.{has_line_by}
use Rattle.line_routes.proofs.Rows.{line_is, row_near, row_far}
use Rattle.join_arrivals.specs.Ways.{way_of}

-- ---- which line of a topology

pub record IsPeerLine (plan : Plan) (line n : ℕ) : Type 0 where
  pub at : line ≡ 24 + n
  pub plan_of : PeerPlan
  pub there : slice_get plan.peers n ≡ Some plan_of

pub data LineIs (plan : Plan) (line : ℕ) : Type 0 where
  OfLink : line < length plan.links → line < 8 → LineIs plan line
  NearHop : (i : ℕ) → line ≡ 8 + i → i < 8 → i < length plan.links → LineIs plan line
  FarHop : (i : ℕ) → line ≡ 16 + i → i < 8 → i < length plan.links → LineIs plan line
  Between : (n : ℕ) → IsPeerLine plan line n → LineIs plan line

hop_within : (links : List LinkPlan) (i : ℕ) → is_some (link_hop (slice_get links i)) ≡ true → i < length links
hop_within [] i is = absurd cc
hop_within (l ∷ links) zero is = omega arith
hop_within (l ∷ links) (suc i) is = let less = hop_within links i is in omega (arith, less)

there : {A : Type 0} (xs : List A) (i : ℕ) → i < length xs → (x : A) × (slice_get xs i ≡ Some x)
there [] i lt = absurd (omega (arith, lt))
there (x ∷ xs) zero lt = (x, refl)
there (x ∷ xs) (suc i) lt = there xs i (omega (arith, lt))

module _ (plan : Plan) (fits : FitsPlan plan) where
  line_by : (line : ℕ) → has_line_by plan line ≡ true → LineIs plan line
  line_by line is = by (nat_lt line 8) (nat_lt line 16) (nat_lt line 24) refl refl refl is
    where
      by : (a b c : Bool) → nat_lt line 8 ≡ a → nat_lt line 16 ≡ b → nat_lt line 24 ≡ c → (if a then has_link plan line
          else if b then is_some (link_hop (slice_get plan.links (line - 8)))
          else if c then is_some (link_hop (slice_get plan.links (line - 16)))
          else nat_lt (line - 24) (length plan.peers)) ≡ true → LineIs plan line
      by true b c a_is b_is c_is is = OfLink (ltb-true line (length plan.links) is) (ltb-true line 8 a_is)
      by false true c a_is b_is c_is is =
          NearHop (line - 8) (grind (arith, nat_tests)) (grind (arith, nat_tests)) (hop_within plan.links (line - 8) is)
      by false false true a_is b_is c_is is = FarHop (line - 16) (grind (arith, nat_tests)) (grind (arith, nat_tests))
          (hop_within plan.links (line - 16) is)
      by false false false a_is b_is c_is is =
          let f = there plan.peers (line - 24) (ltb-true (line - 24) (length plan.peers) is) in
          Between (line - 24) (record { at = grind (arith, nat_tests); plan_of = f.0; there = f.1 })

  pub line_of : (end : PortName) → has_port plan end ≡ true → LineIs plan end.line
  line_of end is = line_by end.line (sym (line_is plan fits end.line) ∙ is)

  -- ---- and it has these lines

  link_there : (line : ℕ) → line < length plan.links → has_line plan line ≡ true
  link_there line less = rw (lt-ltb line (length plan.links) less) refl

  near_there : (i : ℕ) → i < 8 → is_some (link_hop (slice_get plan.links i)) ≡ true → has_line plan (8 + i) ≡ true
  near_there i less hop =
      let a : nat_lt (8 + i) 8 ≡ false = grind (arith, nat_tests) in
      let b : nat_lt (8 + i) 16 ≡ true = grind (arith, nat_tests) in
      let back : 8 + i - 8 ≡ i = omega arith in
      line_is plan fits (8 + i) ∙ rw (a, b, back) hop

  far_there : (i : ℕ) → i < 8 → is_some (link_hop (slice_get plan.links i)) ≡ true → has_line plan (16 + i) ≡ true
  far_there i less hop =
      let a : nat_lt (16 + i) 8 ≡ false = grind (arith, nat_tests) in
      let b : nat_lt (16 + i) 16 ≡ false = grind (arith, nat_tests) in
      let c : nat_lt (16 + i) 24 ≡ true = grind (arith, nat_tests) in
      let back : 16 + i - 16 ≡ i = omega arith in
      line_is plan fits (16 + i) ∙ rw (a, b, c, back) hop

  peer_there : (n : ℕ) → n < length plan.peers → has_line plan (24 + n) ≡ true
  peer_there n less =
      let a : nat_lt (24 + n) 8 ≡ false = grind (arith, nat_tests) in
      let b : nat_lt (24 + n) 16 ≡ false = grind (arith, nat_tests) in
      let c : nat_lt (24 + n) 24 ≡ false = grind (arith, nat_tests) in
      let back : 24 + n - 24 ≡ n = omega arith in
      line_is plan fits (24 + n) ∙ rw (a, b, c, back) (lt-ltb n (length plan.peers) less)

  -- ---- the port of an end that is there

  -- it is one of a host or a device
  pub record IsLinkPort (port : PortName) : Type 0 where
    pub less : port.line < length plan.links
    pub low : port.line < 8

  few : (i : ℕ) → i < length plan.links → i < 8
  few i less = let most = fits.links_most in omega (arith, less, most)

  link_port : (port : PortName) → port.line < length plan.links → IsLinkPort port
  link_port port less = record { less = less; low = few port.line less }

  peer_less : (side : Side) (n : ℕ) (p : PeerPlan) → slice_get plan.peers n ≡ Some p
      → peer_link side p < length plan.links
  peer_less Host n p is = (all_at (FitsPeer plan.links) plan.peers n p fits.each_peer is).near
  peer_less Device n p is = (all_at (FitsPeer plan.links) plan.peers n p fits.each_peer is).far

  -- it is at no switch, and so is its port
  pub record IsApart (end : PortName) : Type 0 where
    pub no_way : way_of end ≡ None
    pub port : IsLinkPort (port_of plan end)
    pub no_switch : at_switch plan (port_of plan end) ≡ false
    pub at_is : port_beside_end plan.peers end ≡ port_of plan end

  -- it is at the switch of this link's hop
  pub record IsOnWay (end : PortName) (link : ℕ) (d : Direction) : Type 0 where
    pub way : way_of end ≡ Some (link, d)
    pub less : link < length plan.links
    pub end_is : end ≡ entering_end link d
    pub port_is : port_of plan end ≡ end
    pub switch : at_switch plan end ≡ true
    pub line : (8 ≤ end.line) × (end.line < 24)
    pub at_is : port_beside_end plan.peers end ≡ port_of plan end

  no_switch_low : (port : PortName) → IsLinkPort port → at_switch plan port ≡ false
  no_switch_low port is = rw (lt-ltb port.line (length plan.links) is.less) refl

  pub data StandsAt (end : PortName) : Type 0 where
    Apart : IsApart end → StandsAt end
    OnWay : (link : ℕ) (d : Direction) → IsOnWay end link d → StandsAt end

  no_link : (line : ℕ) → 8 ≤ line → has_link plan line ≡ false
  no_link line least = let most = fits.links_most in grind (arith, nat_tests)

  pub port_own : (end : PortName) → has_link plan end.line ≡ true → port_of plan end ≡ end
  unfolding port_of
  port_own end is = rw is refl

  port_else : (end : PortName) → has_link plan end.line ≡ false → port_of plan end ≡ port_beside_end plan.peers end
  unfolding port_of
  port_else end is = rw is refl

  abbrev end_of : Side → ℕ → PortName
  end_of side line = record { side = side; line = line }

  no_way_low : (side : Side) (line : ℕ) → line < 8 → way_of (end_of side line) ≡ None
  no_way_low Device line low = let a : nat_le 8 line ≡ false = grind (arith, nat_tests) in rw a refl
  no_way_low Host line low = let a : nat_le 16 line ≡ false = grind (arith, nat_tests) in rw a refl

  -- at this port, by the place of the end on its line
  apart : (side : Side) (line : ℕ) (q : PortName) → way_of (end_of side line) ≡ None → q.line < length plan.links
      → port_of plan (end_of side line) ≡ q → port_beside_end plan.peers (end_of side line) ≡ q
      → StandsAt (end_of side line)
  apart side line q none less of at =
      let port : IsLinkPort (port_of plan (end_of side line)) = subst IsLinkPort (sym of) (link_port q less) in
      Apart (record {
        no_way = none;
        port = port;
        no_switch = no_switch_low (port_of plan (end_of side line)) port;
        at_is = at ∙ sym of;
      })

  low_at : (side : Side) (line : ℕ) → line < length plan.links → line < 8 → StandsAt (end_of side line)
  low_at side line less low =
      apart side line (end_of side line) (no_way_low side line low) less
      (port_own (end_of side line) (lt-ltb line (length plan.links) less))
      (let a = lt-ltb line 8 low in rw a refl)

  -- the port of an end on a hop's segment towards the host that is no switch's, as it is looked up and as it is
  abbrev IsPortOf : PortName → PortName → Type 0
  IsPortOf end q = (port_beside_end plan.peers end ≡ q) × (port_of plan end ≡ q)

  pub near_port : (i : ℕ) → i < 8 → IsPortOf (host_port (8 + i)) (host_port i)
  near_port i low =
      let a : nat_lt (8 + i) 8 ≡ false = grind (arith, nat_tests) in
      let b : nat_lt (8 + i) 16 ≡ true = grind (arith, nat_tests) in
      let back : 8 + i - 8 ≡ i = omega arith in
      let at : port_beside_end plan.peers (host_port (8 + i)) ≡ host_port i = rw (a, b, back) refl in
      (at, port_else (host_port (8 + i)) (no_link (8 + i) (omega arith)) ∙ at)

  pub far_port : (i : ℕ) → i < 8 → IsPortOf (device_port (16 + i)) (device_port i)
  far_port i low =
      let a : nat_lt (16 + i) 8 ≡ false = grind (arith, nat_tests) in
      let b : nat_lt (16 + i) 16 ≡ false = grind (arith, nat_tests) in
      let c : nat_lt (16 + i) 24 ≡ true = grind (arith, nat_tests) in
      let back : 16 + i - 16 ≡ i = omega arith in
      let at : port_beside_end plan.peers (device_port (16 + i)) ≡ device_port i = rw (a, b, c, back) refl in
      (at, port_else (device_port (16 + i)) (no_link (16 + i) (omega arith)) ∙ at)

  pub between_port : (side : Side) (n : ℕ) (p : PeerPlan) → slice_get plan.peers n ≡ Some p
      → IsPortOf (end_of side (24 + n)) (device_port (peer_link side p))
  between_port side n p is =
      let a : nat_lt (24 + n) 8 ≡ false = grind (arith, nat_tests) in
      let b : nat_lt (24 + n) 16 ≡ false = grind (arith, nat_tests) in
      let c : nat_lt (24 + n) 24 ≡ false = grind (arith, nat_tests) in
      let back : 24 + n - 24 ≡ n = omega arith in
      let at : port_beside_end plan.peers (end_of side (24 + n)) ≡ device_port (peer_link side p) =
      rw (a, b, c, back, is) refl
      in
      (at, port_else (end_of side (24 + n)) (no_link (24 + n) (omega arith)) ∙ at)

  near_at : (side : Side) (i : ℕ) → i < 8 → i < length plan.links → StandsAt (end_of side (8 + i))
  near_at Host i low less =
      let none : way_of (host_port (8 + i)) ≡ None =
      let a : nat_le 16 (8 + i) ≡ false = grind (arith, nat_tests) in rw a refl in
      let port = near_port i low in apart Host (8 + i) (host_port i) none less port.1 port.0
  near_at Device i low less =
      let a : nat_lt (8 + i) 8 ≡ false = grind (arith, nat_tests) in
      let b : nat_lt (8 + i) 16 ≡ true = grind (arith, nat_tests) in
      let c : nat_le 8 (8 + i) ≡ true = grind (arith, nat_tests) in
      let back : 8 + i - 8 ≡ i = omega arith in
      let at : port_beside_end plan.peers (device_port (8 + i)) ≡ device_port (8 + i) = rw (a, b, back) refl in
      let none = no_link (8 + i) (omega arith) in
      let of = port_else (device_port (8 + i)) none ∙ at in
      OnWay i Downstream (record {
        way = rw (c, b, back) refl;
        less = less;
        end_is = refl;
        port_is = of;
        switch = rw (none, c, b) refl;
        line = (omega arith, omega (arith, low));
        at_is = at ∙ sym of;
      })

  far_at : (side : Side) (i : ℕ) → i < 8 → i < length plan.links → StandsAt (end_of side (16 + i))
  far_at Device i low less =
      let none : way_of (device_port (16 + i)) ≡ None =
      let a : nat_lt (16 + i) 16 ≡ false = grind (arith, nat_tests) in
      let z : nat_le 8 (16 + i) ≡ true = grind (arith, nat_tests) in rw (a, z) refl in
      let port = far_port i low in apart Device (16 + i) (device_port i) none less port.1 port.0
  far_at Host i low less =
      let a : nat_lt (16 + i) 8 ≡ false = grind (arith, nat_tests) in
      let b : nat_lt (16 + i) 16 ≡ false = grind (arith, nat_tests) in
      let c : nat_lt (16 + i) 24 ≡ true = grind (arith, nat_tests) in
      let d : nat_le 16 (16 + i) ≡ true = grind (arith, nat_tests) in
      let back : 16 + i - 16 ≡ i = omega arith in
      let at : port_beside_end plan.peers (host_port (16 + i)) ≡ host_port (16 + i) = rw (a, b, c, back) refl in
      let none = no_link (16 + i) (omega arith) in
      let of = port_else (host_port (16 + i)) none ∙ at in
      OnWay i Upstream (record {
        way = rw (d, c, back) refl;
        less = less;
        end_is = refl;
        port_is = of;
        switch = rw (none, d, c) refl;
        line = (omega arith, omega (arith, low));
        at_is = at ∙ sym of;
      })

  between_at : (side : Side) (n : ℕ) (p : PeerPlan) → slice_get plan.peers n ≡ Some p → StandsAt (end_of side (24 + n))
  between_at side n p is =
      let port = between_port side n p is in
      apart side (24 + n) (device_port (peer_link side p)) (none side) (peer_less side n p is) port.1 port.0
    where
      none : (s : Side) → way_of (end_of s (24 + n)) ≡ None
      none Device =
          let a : nat_lt (24 + n) 16 ≡ false = grind (arith, nat_tests) in
          let z : nat_le 8 (24 + n) ≡ true = grind (arith, nat_tests) in rw (a, z) refl
      none Host =
          let a : nat_lt (24 + n) 24 ≡ false = grind (arith, nat_tests) in
          let z : nat_le 16 (24 + n) ≡ true = grind (arith, nat_tests) in rw (a, z) refl

  pub stands_at : (end : PortName) → has_port plan end ≡ true → StandsAt end
  stands_at end is = by (line_of end is)
    where
      by : LineIs plan end.line → StandsAt end
      by (OfLink less low) = low_at end.side end.line less low
      by (NearHop i at low less) =
          subst (λ (line : ℕ). StandsAt (end_of end.side line)) (sym at) (near_at end.side i low less)
      by (FarHop i at low less) =
          subst (λ (line : ℕ). StandsAt (end_of end.side line)) (sym at) (far_at end.side i low less)
      by (Between n at) = subst (λ (line : ℕ). StandsAt (end_of end.side line)) (sym at.at)
          (between_at end.side n at.plan_of at.there)

  -- ---- the end that bytes meet is there

  hop_there : (side : Side) (link id : ℕ) → link < 8 → hop_has_id (link_hop (slice_get plan.links link)) id ≡ true
      → has_port plan (hop_end side link) ≡ true
  hop_there side link id low has = by side (some (link_hop (slice_get plan.links link)) has)
    where
      some : (o : Option HopPlan) → hop_has_id o id ≡ true → is_some o ≡ true
      some None has = absurd cc
      some (Some o) has = refl

      by : (s : Side) → is_some (link_hop (slice_get plan.links link)) ≡ true → has_port plan (hop_end s link) ≡ true
      by Host there = near_there link low there
      by Device there = far_there link low there

  peer_met : (ps : List PeerPlan) (n link id : ℕ) (e : PortName) → peer_end ps n link id ≡ Some e
      → (k : ℕ) × (e.line ≡ 24 + (n + k)) × (k < length ps)
  unfolding peer_end
  peer_met [] n link id e is = absurd (none-some e is)
  peer_met (p ∷ ps) n link id e is =
      by ((p.id == id) && (p.near == link)) ((p.id == id) && (p.far == link))
      (λ later. peer_met ps (n + 1) link id e later) is
    where
      here : (x : PortName) → x.line ≡ 24 + n → Some x ≡ Some e
          → (k : ℕ) × (e.line ≡ 24 + (n + k)) × (k < length (p ∷ ps))
      here x line same =
          let one = ap (λ (q : PortName). q.line) (same_Some x e same) in
          (0, omega (arith, line, one), omega arith)

      by : (a b : Bool) → (peer_end ps (n + 1) link id ≡ Some e → (k : ℕ) × (e.line ≡ 24 + ((n + 1) + k))
          × (k < length ps)) → (if a then Some (host_port (peer_line n)) else if b then Some (device_port (peer_line n))
          else peer_end ps (n + 1) link id) ≡ Some e → (k : ℕ) × (e.line ≡ 24 + (n + k)) × (k < length (p ∷ ps))
      by true b later is = here (host_port (peer_line n)) refl is
      by false true later is = here (device_port (peer_line n)) refl is
      by false false later is = let f = later is in (suc f.0, omega (arith, f.1), omega (arith, f.2))

  found_there : (q : PortName) (id : ℕ) → has_port plan q ≡ true → (o : Option PortName)
      → peer_end plan.peers 0 q.line id ≡ o → has_port plan (unwrap_or o q) ≡ true
  found_there q id itself None is = itself
  found_there q id itself (Some e) is =
      let f = peer_met plan.peers 0 q.line id e is in
      let at : e.line ≡ 24 + f.0 = omega (arith, f.1) in
      subst (λ (line : ℕ). has_line plan line ≡ true) (sym at) (peer_there f.0 f.2)

  peers_there : (side : Side) (line id : ℕ) → has_port plan (end_of side line) ≡ true
      → has_port plan (peer_end_at_port plan.peers (end_of side line) id) ≡ true
  peers_there Host line id itself = itself
  peers_there Device line id itself = found_there (end_of Device line) id itself (peer_end plan.peers 0 line id) refl

  at_link_there : (q : PortName) (id : ℕ) → IsLinkPort q → has_port plan (end_at_port plan q id) ≡ true
  at_link_there q id at =
      rw (lt-ltb q.line 8 at.low)
      (by (own_has_id (slice_get plan.links q.line) id) (hop_has_id (link_hop (slice_get plan.links q.line)) id) refl)
    where
      itself : has_port plan q ≡ true
      itself = link_there q.line at.less

      by : (a b : Bool) → hop_has_id (link_hop (slice_get plan.links q.line)) id ≡ b
          → has_port plan (if a then q else if b then hop_end q.side q.line else peer_end_at_port plan.peers q id)
          ≡ true
      by true b is = itself
      by false true is = hop_there q.side q.line id at.low is
      by false false is = peers_there q.side q.line id itself

  on_way_there : (q : PortName) (id : ℕ) → 8 ≤ q.line → has_port plan q ≡ true → has_port plan (end_at_port plan q id)
      ≡ true
  on_way_there q id least itself = let high : nat_lt q.line 8 ≡ false = grind (arith, nat_tests) in rw high itself

  port_there : (end : PortName) → has_port plan end ≡ true → StandsAt end → has_port plan (port_of plan end) ≡ true
  port_there end is (Apart at) = link_there (port_of plan end).line at.port.less
  port_there end is (OnWay link d at) = subst (λ (q : PortName). has_port plan q ≡ true) (sym at.port_is) is

  met_there : (end : PortName) (id : ℕ) → has_port plan end ≡ true → StandsAt end → has_port plan (end_at plan end id)
      ≡ true
  met_there end id is (Apart at) = subst (λ (q : PortName). has_port plan (end_at_port plan q id) ≡ true) (sym at.at_is)
      (at_link_there (port_of plan end) id at.port)
  met_there end id is (OnWay link d at) = subst (λ (q : PortName). has_port plan (end_at_port plan q id) ≡ true)
      (sym (at.at_is ∙ at.port_is)) (on_way_there end id at.line.0 is)

  pub reached_there : (end : PortName) (bytes : List ℕ) → has_port plan end ≡ true
      → has_port plan (end_reached plan end bytes) ≡ true
  unfolding end_reached
  reached_there end bytes is = by (id_in bytes)
    where
      by : (o : Option ℕ) → has_port plan (end_if plan end o) ≡ true
      by None = port_there end is (stands_at end is)
      by (Some id) = met_there end id is (stands_at end is)

  -- ---- the end at which bytes are sealed

  lists_hop : (o : Option HopPlan) (r : Result Tlp TlpFault) → hop_lists o r ≡ true → is_some o ≡ true
  lists_hop None r is = absurd cc
  lists_hop (Some o) r is = refl

  at_hop : (side : Side) (line : ℕ) → line < 8 → is_some (link_hop (slice_get plan.links line)) ≡ true
      → has_port plan (hop_end side line) ≡ true
  at_hop Host line low hop = near_there line low hop
  at_hop Device line low hop = far_there line low hop

  pub sealing_there : (end : PortName) (bytes : List ℕ) → has_port plan end ≡ true
      → has_port plan (sealing_end plan end bytes) ≡ true
  unfolding sealing_end
  sealing_there end bytes is = by (goes_to_hop plan end bytes) refl
    where
      by : (b : Bool) → goes_to_hop plan end bytes ≡ b
          → has_port plan (if b then hop_end end.side end.line else end) ≡ true
      by true hop =
          let lists = and_parts (takes_none (outgoing_at plan end bytes))
          (hop_lists (link_hop (slice_get plan.links end.line)) (read_of bytes)) hop in
          let some = lists_hop (link_hop (slice_get plan.links end.line)) (read_of bytes) lists.1 in
          at_hop end.side end.line (few end.line (hop_within plan.links end.line some)) some
      by false own = is

  -- ---- units on the segments of hops have one packet

  aggregation_in : (links : List LinkPlan) (i id : ℕ) → option_map_or (λ (s : StreamPlan). s.aggregation)
      (with_id (slice_index_or (map (λ (l : LinkPlan). hop_streams l.hop) links) i []) id) 1 ≡ 1
  aggregation_in [] i id = refl
  aggregation_in (l ∷ links) zero id = of_hop l.hop
    where
      of_hop : (o : Option HopPlan)
          → option_map_or (λ (s : StreamPlan). s.aggregation) (with_id (hop_streams o) id) 1 ≡ 1
      of_hop None = refl
      of_hop (Some o) = by (o.id == id)
        where
          by : (b : Bool) → option_map_or (λ (s : StreamPlan). s.aggregation)
              (if b then Some (lone_stream o.id 1) else None) 1 ≡ 1
          by true = refl
          by false = refl
  aggregation_in (l ∷ links) (suc i) id = aggregation_in links i id

  pub hop_aggregation : (line id : ℕ) → 8 ≤ line → line < 24 → aggregation_of plan line id ≡ 1
  unfolding stream_plan
  hop_aggregation line id least most = by (nat_lt line 16) refl
    where
      high : nat_lt line 8 ≡ false
      high = grind (arith, nat_tests)

      low : nat_lt line 24 ≡ true
      low = grind (arith, nat_tests)

      by : (b : Bool) → nat_lt line 16 ≡ b → aggregation_of plan line id ≡ 1
      by true is = ap (λ (ss : List StreamPlan). option_map_or (λ (s : StreamPlan). s.aggregation) (with_id ss id) 1)
          (row_near plan line high is) ∙ aggregation_in plan.links (line - 8) id
      by false is = ap (λ (ss : List StreamPlan). option_map_or (λ (s : StreamPlan). s.aggregation) (with_id ss id) 1)
          (row_far plan line high is low) ∙ aggregation_in plan.links (line - 16) id
