-- The end at a link's device of a stream between devices is of the line of a stream that has the ID, and ends there.
use Rattle.std.proofs.Common.{◌≡◌, ⊎_elim, ℕ, suc, ◌+◌, ◌<◌, ◌==◌, ◌&&◌, Bool, true, false, List, []}
use Rattle.std.proofs.Common.{◌∷◌, refl, ap, sym, ◌∙◌, subst, arith}
use Rattle.std.specs.Prelude.{if◌then◌else◌, Option, Some, None, slice_get}
use Rattle.std.specs.Option.{option_map_or}
use Rattle.std.proofs.lemmas.Bool.{true≢false, eqb-true, cases_Bool, and_parts}
use Rattle.std.proofs.lemmas.Option.{same_Some, slice_get_within, get_or_from_slice_get}
use Rattle.ide_types.specs.declared.port.PortName.{PortName}
use Rattle.ide_types.specs.Lines.{peer_line}
use Rattle.ide_types.specs.Ports.{host_port, device_port}
use Rattle.ide_types.specs.declared.plan.PeerPlan.{PeerPlan}
use Rattle.ide_types.specs.declared.plan.Plan.{Plan}
use Rattle.ide_types.specs.Ends.{peer_link}
use Rattle.ide_types.specs.Fits.{FitsPlan, FitsPeer}
use Rattle.spec_interfaces.specs.Views.{peer_of}
unfoldable use Rattle.spec_interfaces.specs.Peers.{peer_end}
use Rattle.spec_interfaces.specs.Peers.{has_peer}

-- of streams that are numbered from `n` on
pub record IsPeerEnd (ps : List PeerPlan) (n link id : ℕ) (e : PortName) : Type 0 where
  pub number : ℕ
  pub peer : PeerPlan
  pub peer_is : slice_get ps number ≡ Some peer
  pub line_is : e.line ≡ peer_line (n + number)
  pub id_is : peer.id ≡ id
  pub at_link : peer_link e.side peer ≡ link

end_near : (p : PeerPlan) (ps : List PeerPlan) (n link id : ℕ) (e : PortName)
    → ((p.id == id) && (p.near == link)) ≡ true → Some (host_port (peer_line n)) ≡ Some e
    → IsPeerEnd (p ∷ ps) n link id e
end_near p ps n link id e has is =
    let parts = and_parts (p.id == id) (p.near == link) has in
    let same = same_Some (host_port (peer_line n)) e is in
    record {
      number = 0;
      peer = p;
      peer_is = refl;
      line_is = ap (λ (q : PortName). q.line) (sym same) ∙ omega arith;
      id_is = eqb-true p.id id parts.0;
      at_link = ap (λ (q : PortName). peer_link q.side p) (sym same) ∙ eqb-true p.near link parts.1;
    }

end_far : (p : PeerPlan) (ps : List PeerPlan) (n link id : ℕ) (e : PortName) → ((p.id == id) && (p.far == link)) ≡ true
    → Some (device_port (peer_line n)) ≡ Some e → IsPeerEnd (p ∷ ps) n link id e
end_far p ps n link id e has is =
    let parts = and_parts (p.id == id) (p.far == link) has in
    let same = same_Some (device_port (peer_line n)) e is in
    record {
      number = 0;
      peer = p;
      peer_is = refl;
      line_is = ap (λ (q : PortName). q.line) (sym same) ∙ omega arith;
      id_is = eqb-true p.id id parts.0;
      at_link = ap (λ (q : PortName). peer_link q.side p) (sym same) ∙ eqb-true p.far link parts.1;
    }

end_later : (p : PeerPlan) (ps : List PeerPlan) (n link id : ℕ) (e : PortName) → IsPeerEnd ps (n + 1) link id e
    → IsPeerEnd (p ∷ ps) n link id e
end_later p ps n link id e r = record {
  number = suc r.number;
  peer = r.peer;
  peer_is = r.peer_is;
  line_is = r.line_is ∙ omega arith;
  id_is = r.id_is;
  at_link = r.at_link;
}

first_of : (a b : Bool) (x y o : Option PortName) → a ≡ true → (if a then x else if b then y else o) ≡ x
first_of a b x y o is = rw is refl

second_of : (a b : Bool) (x y o : Option PortName) → a ≡ false → b ≡ true → (if a then x else if b then y else o) ≡ y
second_of a b x y o none is = rw (none, is) refl

last_of : (a b : Bool) (x y o : Option PortName) → a ≡ false → b ≡ false → (if a then x else if b then y else o) ≡ o
last_of a b x y o none also = rw (none, also) refl

pub peer_end_is : (ps : List PeerPlan) (n link id : ℕ) (e : PortName) → peer_end ps n link id ≡ Some e
    → IsPeerEnd ps n link id e
unfolding peer_end
peer_end_is [] n link id e is = absurd cc
peer_end_is (p ∷ ps) n link id e is =
    let near = (p.id == id) && (p.near == link) in
    let far = (p.id == id) && (p.far == link) in
    let x = Some (host_port (peer_line n)) in
    let y = Some (device_port (peer_line n)) in
    let rest = peer_end ps (n + 1) link id in
    ⊎_elim (λ here. end_near p ps n link id e here (sym (first_of near far x y rest here) ∙ is))
    (λ not_near. ⊎_elim (λ here. end_far p ps n link id e here (sym (second_of near far x y rest not_near here) ∙ is))
    (λ not_far. end_later p ps n link id e
    (peer_end_is ps (n + 1) link id e (sym (last_of near far x y rest not_near not_far) ∙ is))) (cases_Bool far))
    (cases_Bool near)

-- ---- a stream between devices that a link's device has

pub record IsPeerLine (plan : Plan) (line stream : ℕ) : Type 0 where
  pub number : ℕ
  pub peer : PeerPlan
  pub peer_is : slice_get plan.peers number ≡ Some peer
  pub few : number < 8
  pub line_is : peer_line number ≡ line
  pub number_is : peer_of line ≡ number
  pub id_is : peer.id ≡ stream
  pub id_most : stream < 256

line_of : (plan : Plan) (link line stream : ℕ) → FitsPlan plan → (o : Option PortName)
    → peer_end plan.peers 0 link stream ≡ o → option_map_or (λ (e : PortName). e.line == line) o false ≡ true
    → IsPeerLine plan line stream
line_of plan link line stream fits None is has = absurd (true≢false (sym has))
line_of plan link line stream fits (Some e) is has =
    let r = peer_end_is plan.peers 0 link stream e is in
    let same : e.line ≡ line = eqb-true e.line line has in
    let within = slice_get_within plan.peers r.number r.peer r.peer_is in
    let there : peer_line r.number ≡ line = omega (arith, r.line_is, same) in
    let peer_fits = subst (FitsPeer plan.links) (get_or_from_slice_get plan.peers r.number r.peer r.peer r.peer_is)
    (fits.each_peer r.number r.peer within) in
    record {
      number = r.number;
      peer = r.peer;
      peer_is = r.peer_is;
      few = omega (arith, within, fits.peers_most);
      line_is = there;
      number_is = omega (arith, there);
      id_is = r.id_is;
      id_most = omega (arith, peer_fits.id, r.id_is);
    }

pub peer_line_is : (plan : Plan) (link line stream : ℕ) → FitsPlan plan → has_peer plan.peers link line stream ≡ true
    → IsPeerLine plan line stream
peer_line_is plan link line stream fits has = line_of plan link line stream fits (peer_end plan.peers 0 link stream)
    refl has
