-- No stream of a link has the ID of a stream between its device and another: so by the ports no stream of such an ID is
-- Secure there but the one between devices.
use Rattle.std.proofs.Common.{◌≡◌, ⊎_elim, ℕ, ◌<◌, ◌+◌, ◌==◌, ◌&&◌, Bool, true, false, List, [], ◌∷◌}
use Rattle.std.proofs.Common.{refl, ap, sym, ◌∙◌, arith, suc}
use Rattle.std.specs.Prelude.{if◌then◌else◌, is_some, Option, Some, None, All, slice_get}
use Rattle.std.proofs.lemmas.Bool.{true≢false, eqb-true, cases_Bool, lt-ltb, and_parts, or_parts}
use Rattle.ide_types.specs.declared.port.PortName.{PortName}
use Rattle.ide_types.specs.declared.port.Side.TheVariants.{Device}
use Rattle.ide_types.specs.declared.plan.LinkPlan.{LinkPlan}
use Rattle.ide_types.specs.declared.plan.PeerPlan.{PeerPlan}
use Rattle.ide_types.specs.declared.plan.Plan.{Plan}
use Rattle.ide_types.specs.declared.stream.StreamPlan.{StreamPlan}
use Rattle.ide_types.specs.Ends.{own_has_id, line_has}
use Rattle.ide_types.specs.Fits.{FitsPlan, FitsPeer}
use Rattle.ide_types.specs.Plans.{has_stream_id, hop_has_id, link_has_id, links_have_id}
use Rattle.spec_interfaces.specs.Devices.{is_secure}
unfoldable use Rattle.spec_interfaces.specs.Peers.{peer_end}
use Rattle.spec_links.specs.Plan.{streams_of, with_id}
unfoldable use Rattle.spec_links.specs.Plan.{stream_plan}
use Rattle.spec_links.proofs.Ends.{stream_is_there}
use Rattle.machine_ports.specs.Stream.{StreamState}
use Rattle.machine_ports.specs.Machine.{LinkState, found_by_id, port_at, status_if_planned}
unfoldable use Rattle.machine_ports.specs.Machine.{find}
use Rattle.machine_whole.specs.Machine.{live_draw_at_end}
use Rattle.std.specs.Option.{option_and_then}
use Rattle.join_interfaces.specs.Says.{AreApart, says_by_ports}

-- ---- the IDs of streams between devices

-- no stream of the link has it
none_own : (o : Option LinkPlan) (id : ℕ) → link_has_id o id ≡ false → own_has_id o id ≡ false
none_own None id is = refl
none_own (Some l) id is = (or_parts (has_stream_id l.streams id) (hop_has_id l.hop id) is).0

-- at one of its devices
new_at : (links : List LinkPlan) (p : PeerPlan) (near link id : ℕ) → links_have_id links near p.id ≡ false
    → ((p.id == id) && (near == link)) ≡ true → own_has_id (slice_get links link) id ≡ false
new_at links p near link id new is =
    let parts = and_parts (p.id == id) (near == link) is in
    none_own (slice_get links link) id
    ((λ j. link_has_id (slice_get links (sym (eqb-true near link parts.1) j)) (sym (eqb-true p.id id parts.0) j)) ∙ new)

rest_is : (a b : Bool) (x y : PortName) (o : Option PortName) → a ≡ false → b ≡ false
    → is_some (if a then Some x else if b then Some y else o) ≡ is_some o
rest_is a b x y o first second = rw (first, second) refl

found_new : (links : List LinkPlan) (ps : List PeerPlan) (n link id : ℕ) → All (FitsPeer links) ps
    → is_some (peer_end ps n link id) ≡ true → own_has_id (slice_get links link) id ≡ false
unfolding peer_end
found_new links [] n link id fits is = absurd (true≢false (sym is))
found_new links (p ∷ ps) n link id fits is =
    let p_fits = fits 0 p (omega arith) in
    ⊎_elim (new_at links p p.near link id p_fits.near_id_is_new)
    (λ not_near. ⊎_elim (new_at links p p.far link id p_fits.far_id_is_new)
    (λ not_far. found_new links ps (n + 1) link id (λ k d lt. fits (suc k) d (omega (arith, lt)))
    (sym (rest_is ((p.id == id) && (p.near == link)) ((p.id == id) && (p.far == link)) _ _
    (peer_end ps (n + 1) link id) not_near not_far) ∙ is)) (cases_Bool ((p.id == id) && (p.far == link))))
    (cases_Bool ((p.id == id) && (p.near == link)))

-- ---- streams of links

none_found : (ss : List StreamPlan) (xs : List StreamState) (id : ℕ) → is_some (with_id ss id) ≡ false
    → found_by_id ss xs id ≡ None
none_found [] xs id is = refl
none_found (s ∷ ss) [] id is = refl
none_found (s ∷ ss) (x ∷ xs) id is =
    ⊎_elim (λ here. absurd (true≢false (sym (ap (λ b. is_some (if b then Some s else with_id ss id)) here) ∙ is)))
    (λ other.
    ap (λ b. if b then Some x else found_by_id ss xs id) other
    ∙ none_found ss xs id (sym (ap (λ b. is_some (if b then Some s else with_id ss id)) other) ∙ is))
    (cases_Bool (s.id == id))

line_is : (plan : Plan) (link id : ℕ) → link < 8 → line_has plan link id ≡ own_has_id (slice_get plan.links link) id
line_is plan link id lt = rw (lt-ltb link 8 lt) refl

not_there : (plan : Plan) (st : LinkState) (link id : ℕ) → link < 8
    → own_has_id (slice_get plan.links link) id ≡ false → find plan st (port_at Device link) id ≡ None
unfolding find stream_plan
not_there plan st link id lt none =
    none_found (streams_of plan link) _ id (stream_is_there plan link id ∙ line_is plan link id lt ∙ none)

pub are_apart : (plan : Plan) (st : LinkState) (link : ℕ) → FitsPlan plan → link < 8
    → AreApart (λ id. is_some (peer_end plan.peers 0 link id)) (says_by_ports plan st link)
are_apart plan st link fits lt = record {
  live = λ id is. there (peer_end plan.peers 0 link id) id is;
  secure = λ id is.
      ap (λ o. is_secure (status_if_planned o))
      (not_there plan st link id lt (found_new plan.links plan.peers 0 link id fits.each_peer is));
}
  where
    there : (o : Option PortName) (id : ℕ)
        → is_some (option_and_then (λ e. live_draw_at_end plan st e id) o) ≡ true → is_some o ≡ true
    there None id is = is
    there (Some e) id is = refl
