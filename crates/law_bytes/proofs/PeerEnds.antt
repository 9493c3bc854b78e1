-- The end, at a device's port, of a stream between devices that an interface of it is bound to.
use Rattle.law_sealing.proofs.Terms.{◌≡◌, ℕ, ◌+◌, ◌≤◌, ◌==◌, ◌&&◌, suc, Bool, true, false, List, [], ◌∷◌}
use Rattle.law_sealing.proofs.Terms.{length, slice_get, Some, refl, ap, sym, subst, ◌∙◌, arith, nat_tests}
use Rattle.law_sealing.proofs.Terms.{if◌then◌else◌, eqb-true, Plan, PortName, has_stream}
use Rattle.std.specs.Prelude.{◌-◌, nat_le, nat_lt}
use Rattle.ide_types.specs.Lines.{peer_line}
use Rattle.ide_types.specs.Ports.{host_port, device_port}
use Rattle.ide_types.specs.declared.plan.PeerPlan.{PeerPlan}
use Rattle.ide_types.specs.Fits.{FitsPlan}
use Rattle.ide_types.specs.Ends.{line_has, peer_link, port_beside_end, end_at_port}
use Rattle.ide_types.proofs.EndsFound.{end_found}
use Rattle.spec_links.specs.Plan.{has_link}
unfoldable use Rattle.spec_links.specs.Ports.{port_of}
use Rattle.spec_links.proofs.Ends.{stream_is_there}
use Rattle.std.proofs.lemmas.Bool.{and_parts}
unfoldable use Rattle.spec_interfaces.specs.Peers.{peer_end}

-- ---- the end of the stream that has an ID

pub record IsPeerEnd (ps : List PeerPlan) (n link id : ℕ) (e : PortName) : Type 0 where
  pub place : ℕ
  pub peer : PeerPlan
  pub stands : slice_get ps place ≡ Some peer
  pub line : e.line ≡ peer_line (n + place)
  pub has : (peer.id == id) ≡ true
  pub meets : peer_link e.side peer ≡ link

later_end : (p : PeerPlan) (ps : List PeerPlan) (n link id : ℕ) (e : PortName) → IsPeerEnd ps (n + 1) link id e
    → IsPeerEnd (p ∷ ps) n link id e
later_end p ps n link id e at = record {
  place = suc at.place;
  peer = at.peer;
  stands = at.stands;
  line = at.line ∙ ap peer_line (omega arith);
  has = at.has;
  meets = at.meets;
}

pub found_there : (ps : List PeerPlan) (n link id : ℕ) (e : PortName) → peer_end ps n link id ≡ Some e
    → IsPeerEnd ps n link id e
unfolding peer_end
found_there [] n link id e is = absurd cc
found_there (p ∷ ps) n link id e is =
    by ((p.id == id) && (p.near == link)) ((p.id == id) && (p.far == link)) refl refl
    (found_there ps (n + 1) link id e) is
  where
    here : (port : PortName) → port.line ≡ peer_line n → (p.id == id) ≡ true → peer_link port.side p ≡ link
        → Some port ≡ Some e → IsPeerEnd (p ∷ ps) n link id e
    here port line has meets is =
        let same : port ≡ e = cc (is) in
        subst (IsPeerEnd (p ∷ ps) n link id) same (record {
          place = 0;
          peer = p;
          stands = refl;
          line = line ∙ ap peer_line (omega arith);
          has = has;
          meets = meets;
        })

    by : (a b : Bool) → ((p.id == id) && (p.near == link)) ≡ a → ((p.id == id) && (p.far == link)) ≡ b
        → (peer_end ps (n + 1) link id ≡ Some e → IsPeerEnd ps (n + 1) link id e)
        → (if a then Some (host_port (peer_line n)) else if b then Some (device_port (peer_line n))
        else peer_end ps (n + 1) link id) ≡ Some e → IsPeerEnd (p ∷ ps) n link id e
    by true b near far later is =
        let parts = and_parts (p.id == id) (p.near == link) near in
        here (host_port (peer_line n)) refl parts.0 (eqb-true p.near link parts.1) is
    by false true near far later is =
        let parts = and_parts (p.id == id) (p.far == link) far in
        here (device_port (peer_line n)) refl parts.0 (eqb-true p.far link parts.1) is
    by false false near far later is = later_end p ps n link id e (later is)

-- it is found at the device's port by the ID
record IsFound (plan : Plan) (link id : ℕ) (e : PortName) : Type 0 where
  between : nat_le 24 e.line ≡ true
  met : end_at_port plan (device_port link) id ≡ e

is_found : (plan : Plan) → FitsPlan plan → (link id : ℕ) (e : PortName) → peer_end plan.peers 0 link id ≡ Some e
    → IsFound plan link id e
is_found plan fits link id e is =
    let at = found_there plan.peers 0 link id e is in
    let line : e.line ≡ 24 + at.place = at.line ∙ ap peer_line (omega arith) in
    let a : nat_lt e.line 8 ≡ false = grind (arith, nat_tests, line) in
    let b : nat_lt e.line 16 ≡ false = grind (arith, nat_tests, line) in
    let c : nat_lt e.line 24 ≡ false = grind (arith, nat_tests, line) in
    let place : e.line - 24 ≡ at.place = omega (arith, line) in
    let has : line_has plan e.line id ≡ true = rw (a, b, c, place, at.stands) at.has in
    let port : port_beside_end plan.peers e ≡ device_port link =
    rw (a, b, c, place, at.stands) (ap device_port at.meets) in
    record {
      between = grind (arith, nat_tests, line);
      met = ap (λ (q : PortName). end_at_port plan q id) (sym port) ∙ end_found plan fits e id has;
    }

-- ---- an end there that has the stream

port_is : (plan : Plan) → FitsPlan plan → (e : PortName) → port_of plan e ≡ port_beside_end plan.peers e
unfolding port_of
port_is plan fits e = by (has_link plan e.line) refl
  where
    by : (b : Bool) → has_link plan e.line ≡ b → (if b then e else port_beside_end plan.peers e)
        ≡ port_beside_end plan.peers e
    by false known = refl
    by true known = let low : nat_lt e.line 8 ≡ true = few e.line (length plan.links) fits.links_most known in rw low
        refl
      where
        few : (m n : ℕ) → n ≤ 8 → nat_lt m n ≡ true → nat_lt m 8 ≡ true
        few m n most less = grind (arith, nat_tests, most, less)

-- is that one
pub is_between : (plan : Plan) → FitsPlan plan → (link id : ℕ) (e end : PortName) → peer_end plan.peers 0 link id
    ≡ Some e → port_of plan end ≡ device_port link → has_stream plan end id ≡ true → nat_le 24 end.line ≡ true
is_between plan fits link id e end peer at known =
    let found = is_found plan fits link id e peer in
    let has : line_has plan end.line id ≡ true = sym (stream_is_there plan end.line id) ∙ known in
    let same : end ≡ e =
    sym (ap (λ (q : PortName). end_at_port plan q id) (sym at ∙ port_is plan fits end) ∙ end_found plan fits end id has)
    ∙ found.met in
    ap (λ (q : PortName). nat_le 24 q.line) same ∙ found.between
