-- Each accepted packet with T on a stream between devices was sealed while the owner of its TLP was in RUN and bound to
-- the stream. It is a packet that was got, so packet m of what was got is packet m of what was sealed, with its T.
use Rattle.law_sealing.proofs.Terms.{◌≡◌, ℕ, ◌+◌, ◌<◌, Bool, true, false, List, ◌∷◌, length, slice_get, Option}
use Rattle.law_sealing.proofs.Terms.{Some, None, refl, ap, sym, subst, ◌∙◌, arith, nat_tests, if◌then◌else◌, Plan}
use Rattle.law_sealing.proofs.Terms.{SubStream, History, Event, Send, Verdict, Sealed, Accepted, UnitName, Effect}
use Rattle.law_sealing.proofs.Terms.{SealedPacket, Packet, Prefix, PortName, received_in, sent_packets, CauseLaw}
use Rattle.law_sealing.proofs.Terms.{DrawFacts, StreamsFit, sent_bytes}
unfoldable use Rattle.law_sealing.proofs.Terms.{accepted_packets, sealed_packets}
use Rattle.std.specs.Prelude.{◌-◌, nat_le, nat_lt}
use Rattle.std.specs.Option.{unwrap_or}
use Rattle.std.proofs.lemmas.List.{length-take-le}
use Rattle.ide_types.specs.declared.port.Side.{Side}
use Rattle.ide_types.specs.declared.port.Side.TheVariants.{Host, Device}
use Rattle.ide_types.specs.Ports.{host_port, device_port}
use Rattle.ide_types.specs.declared.direction.Direction.{Direction}
use Rattle.ide_types.specs.declared.direction.Direction.TheVariants.{Downstream, Upstream}
use Rattle.ide_types.specs.declared.plan.PeerPlan.{PeerPlan}
use Rattle.ide_types.specs.Fits.{FitsPlan, FitsPeer}
use Rattle.ide_types.specs.Ends.{end_at_port, hop_end, line_has, link_hop, own_has_id, peer_link, port_beside_end}
use Rattle.ide_types.specs.Plans.{hop_has_id}
use Rattle.ide_types.proofs.EndsFound.{all_at, end_found}
use Rattle.spec_links.specs.Plan.{has_link}
use Rattle.spec_links.specs.Hops.{has_hop, leaving_end}
use Rattle.spec_links.proofs.Ends.{stream_is_there}
use Rattle.spec_interfaces.specs.Cause.{SealFits, is_peer, owners_link}
unfoldable use Rattle.spec_interfaces.specs.Peers.{peer_end}
use Rattle.spec_interfaces.specs.Laws.{OwnerIsBound, PeerSealFits}
use Rattle.spec_interfaces.proofs.Bound.{peer_seals_bound}
use Rattle.law_sealing.proofs.Bounds.{prefix_is}
use Rattle.law_sealing.proofs.Places.{place_among}
use Rattle.law_sealing.proofs.Sums.{in_parts}
use Rattle.law_delivery.specs.NoForgeryUnder.{UnitIsUnforged}
use Rattle.law_delivery.proofs.EachForgery.{of_pairs}
use Rattle.script_events.specs.declared.event.Event.TheVariants as event
use Rattle.script_events.specs.declared.event.AccessEvent.TheVariants as ae
unfoldable use Rattle.spec_links.proofs.Terms.{bytes_by}
use Rattle.law_memory.specs.Bindings.{AreBound, is_sent_by_device}
use Rattle.law_memory.specs.LocalLaws.{LocalBindOriginLaw}
use Rattle.law_memory.proofs.Causes.{interface_cause}
use Rattle.law_memory.proofs.Found.{all_get, cause_at, get_less, sealing_by}
use Rattle.law_memory.proofs.Packets.{IsOf}
use Rattle.law_memory.proofs.Responses.{responded, response_packets, response_sending}
use Rattle.law_memory.proofs.ResponseOwners.{owner_of_response}
use Rattle.law_memory.proofs.Origins.{accepted_known, sent_at}

-- ---- the end at a device

low_link : (a b : PortName) → a ≡ b → a.line < 24 → nat_le 24 b.line ≡ true → ⊥
low_link a b same low late = let links = ap (λ (q : PortName). q.line) same in grind (arith, nat_tests)

-- an ID that gives an end of a line from 24 on at a device's port gives it among the streams between devices
among_peers : (low own hop : Bool) (o : Option PortName) (link : ℕ) (e : PortName) → link < 8 → nat_le 24 e.line ≡ true
    → (if low then (if own then device_port link else if hop then hop_end Device link else unwrap_or o
    (device_port link)) else device_port link) ≡ e → o ≡ Some e
among_peers false own hop o link e few late is = absurd (low_link _ e is (omega (arith, few)) late)
among_peers true true hop o link e few late is = absurd (low_link _ e is (omega (arith, few)) late)
among_peers true false true o link e few late is = absurd (low_link _ e is (omega (arith, few)) late)
among_peers true false false None link e few late is = absurd (low_link _ e is (omega (arith, few)) late)
among_peers true false false (Some x) link e few late is = ap (λ (q : PortName). Some q) is

-- so the link's own streams have not that ID
not_own : (low own hop : Bool) (o : Option PortName) (link : ℕ) (e : PortName) → link < 8 → nat_le 24 e.line ≡ true
    → (if low then (if own then device_port link else if hop then hop_end Device link else unwrap_or o
    (device_port link)) else device_port link) ≡ e → own ≡ false
not_own low false hop o link e few late is = refl
not_own false true hop o link e few late is = absurd (low_link _ e is (omega (arith, few)) late)
not_own true true hop o link e few late is = absurd (low_link _ e is (omega (arith, few)) late)

-- an end of a stream between devices
pub record AtDevice (plan : Plan) (e : PortName) (id : ℕ) : Type 0 where
  pub is_peer : is_peer plan e ≡ true
  pub found : peer_end plan.peers 0 (owners_link plan e) id ≡ Some e
  pub not_own : own_has_id (slice_get plan.links (owners_link plan e)) id ≡ false

pub at_device : (plan : Plan) → FitsPlan plan → (e : PortName) (id : ℕ) → nat_le 24 e.line ≡ true
    → line_has plan e.line id ≡ true → AtDevice plan e id
at_device plan fits e id late has = by (slice_get plan.peers (e.line - 24)) refl
  where
    a : nat_lt e.line 8 ≡ false
    a = grind (arith, nat_tests)

    b : nat_lt e.line 16 ≡ false
    b = grind (arith, nat_tests)

    c : nat_lt e.line 24 ≡ false
    c = grind (arith, nat_tests)

    peer : is_peer plan e ≡ true
    peer = let most = fits.links_most in grind (arith, nat_tests)

    few : (side : Side) (p : PeerPlan) → FitsPeer plan.links p → peer_link side p < 8
    few Host p fit = omega (arith, fit.near, fits.links_most)
    few Device p fit = omega (arith, fit.far, fits.links_most)

    by : (x : Option PeerPlan) → slice_get plan.peers (e.line - 24) ≡ x → AtDevice plan e id
    by None is = absurd (let none = rw (a, b, c, is) at has in cc)
    by (Some p) is =
        let port : port_beside_end plan.peers e ≡ device_port (peer_link e.side p) = rw (a, b, c, is) refl in
        let fit = all_at (FitsPeer plan.links) plan.peers (e.line - 24) p fits.each_peer is in
        let met = ap (λ (q : PortName). end_at_port plan q id) (sym port) ∙ end_found plan fits e id has in
        let there = among_peers (nat_lt (peer_link e.side p) 8)
        (own_has_id (slice_get plan.links (peer_link e.side p)) id)
        (hop_has_id (link_hop (slice_get plan.links (peer_link e.side p))) id)
        (peer_end plan.peers 0 (peer_link e.side p) id) (peer_link e.side p) e (few e.side p fit) late met in
        let own = not_own (nat_lt (peer_link e.side p) 8)
        (own_has_id (slice_get plan.links (peer_link e.side p)) id)
        (hop_has_id (link_hop (slice_get plan.links (peer_link e.side p))) id)
        (peer_end plan.peers 0 (peer_link e.side p) id) (peer_link e.side p) e (few e.side p fit) late met in
        let link : owners_link plan e ≡ peer_link e.side p = rw peer (ap (λ (q : PortName). q.line) port) in
        record {
          is_peer = peer;
          found = ap (λ (l : ℕ). peer_end plan.peers 0 l id) link ∙ there;
          not_own = ap (λ (l : ℕ). own_has_id (slice_get plan.links l) id) link ∙ own;
        }

-- ---- neither an answer nor what a switch forwards is sealed there

no_answer : (plan : Plan) → FitsPlan plan → (e : PortName) → nat_le 24 e.line ≡ true → (link : ℕ)
    → has_link plan link ≡ true → e ≡ host_port link → ⊥
no_answer plan fits e late link known same =
    let most = fits.links_most in
    let links = ap (λ (q : PortName). q.line) same in
    grind (arith, nat_tests)

no_forward : (plan : Plan) → FitsPlan plan → (e : PortName) → nat_le 24 e.line ≡ true → (link : ℕ) (way : Direction)
    → has_hop plan link ≡ true → e ≡ leaving_end link way → ⊥
no_forward plan fits e late link Downstream known same =
    let links = ap (λ (q : PortName). q.line) same in
    let low : nat_lt link 8 ≡ true = grind arith in
    grind (arith, nat_tests)
no_forward plan fits e late link Upstream known same =
    let links = ap (λ (q : PortName). q.line) same in
    let low : nat_lt link 8 ≡ true = grind arith in
    grind (arith, nat_tests)

-- ---- one packet

peer_fit : (plan : Plan) (h : History) (bytes : List ℕ) (trusted : Bool) (d : SealedPacket) → is_peer plan d.port ≡ true
    → SealFits plan h bytes trusted d → PeerSealFits plan h (owners_link plan d.port) bytes d
peer_fit plan h bytes trusted d peer fit = fit.t_is ∙ ap (λ (t : Bool). if d.sync then false else t) (rw peer refl)

-- of a send
owner_of_send : (plan : Plan) (h : History) (port : PortName) (bytes : List ℕ) (more trusted : Bool)
    (ds : List SealedPacket) (i : ℕ) (d : SealedPacket)
    → CauseLaw plan ((Send port bytes more trusted, Sealed ds) ∷ h) → slice_get ds i ≡ Some d
    → is_peer plan d.port ≡ true → d.t ≡ true
    → OwnerIsBound plan h (owners_link plan d.port) d.stream bytes
owner_of_send plan h port bytes more trusted ds i d cause at peer has_t =
    let fit = all_get (SealFits plan h bytes trusted) ds i d
    (interface_cause plan ((Send port bytes more trusted, Sealed ds) ∷ h) cause).0 at in
    peer_seals_bound plan h (owners_link plan d.port) bytes d (peer_fit plan h bytes trusted d peer fit) has_t

-- of an event
pub owner_of : (plan : Plan) → FitsPlan plan → (h : History) (e : Event) (ds : List SealedPacket) (i : ℕ)
    (d : SealedPacket) → is_sent_by_device e ≡ true → CauseLaw plan ((e, Sealed ds) ∷ h) → slice_get ds i ≡ Some d
    → is_peer plan d.port ≡ true → own_has_id (slice_get plan.links (owners_link plan d.port)) d.stream ≡ false
    → d.t ≡ true → OwnerIsBound plan h (owners_link plan d.port) d.stream (sent_bytes plan h e)
unfolding bytes_by
owner_of plan fits h (Send port bytes more trusted) ds i d own cause at peer far has_t =
    owner_of_send plan h port bytes more trusted ds i d cause at peer has_t
owner_of plan fits h (event.Access (ae.Respond link)) ds i d own cause at peer far has_t =
    let is = responded plan h link ds cause.0 in
    owner_of_response plan fits h link ds is d cause.1
    (all_get (IsOf (response_sending is.read.came is.tlp)) ds i d (response_packets plan h link ds is) at) peer far
    has_t
owner_of plan fits h e ds i d own cause at peer far has_t = absurd cc

bound_at : (plan : Plan) → FitsPlan plan → StreamsFit plan → DrawFacts plan
    → (h : History) (e : Event) (port : PortName) (unit : UnitName) (effects : List Effect)
    → CauseLaw plan ((e, Accepted port unit effects) ∷ h) → UnitIsUnforged plan h e (Accepted port unit effects)
    → AreBound plan h e (Accepted port unit effects)
bound_at plan whole fits facts h e port unit effects cause forged late n p is has_t =
    let s = received_in port unit in
    let m = length (accepted_packets plan h s unit.draw) + n in
    let at = sent_at plan fits facts h e port unit effects cause forged n p is in
    let among = place_among (sealed_packets plan h) s unit.draw m p at in
    let names = in_parts s unit.draw among.sealed among.under in
    let d = among.sealed.0 in
    let line : d.port.line ≡ port.line = ap (λ (t : SubStream). t.line) names.2 in
    let stream : d.stream ≡ unit.stream = ap (λ (t : SubStream). t.stream) names.2 in
    let there : nat_le 24 d.port.line ≡ true = ap (λ (l : ℕ). nat_le 24 l) line ∙ late in
    let known : line_has plan d.port.line unit.stream ≡ true =
    ap (λ (l : ℕ). line_has plan l unit.stream) line
    ∙ (sym (stream_is_there plan port.line unit.stream)
    ∙ accepted_known plan h e port unit effects cause.0) in
    let device = at_device plan whole d.port unit.stream there known in
    let seal = sealing_by plan h cause.1 among.place d among.sealed.1 (no_answer plan whole d.port there)
    (no_forward plan whole d.port there) among.stands in
    let prefix = ap (λ (r : Packet). r.prefix) seal.new.packet
    ∙ prefix_is plan seal.new.ahead (sent_bytes plan seal.older seal.event) d seal.new.unfinished in
    let trusted : d.t ≡ true = sym (ap (λ (f : Prefix). f.t) prefix)
    ∙ (ap (λ (r : Packet). r.prefix.t) among.packet ∙ has_t) in
    let law = cause_at plan seal.came.since ((seal.event, Sealed seal.ds) ∷ seal.older) h seal.came.is cause.1 in
    let owner = owner_of plan whole seal.older seal.event seal.ds seal.new.index d seal.own law seal.new.listed
    device.is_peer (subst (λ (i : ℕ). own_has_id (slice_get plan.links (owners_link plan d.port)) i ≡ false)
    (sym stream) device.not_own) trusted in
    let less = get_less (sent_packets plan h s unit.draw) m p at in
    record {
      was = record {
        place = among.place;
        stands = record {
          sealed = among.sealed;
          stands = among.stands;
          under = among.under;
          number = sym (ap length among.before ∙ length-take-le m (sent_packets plan h s unit.draw)
              (omega (arith, less)));
        };
        event = seal.event;
        sent = seal.own;
        packets = seal.ds;
        older = seal.older;
        came = seal.came;
        from = seal.from;
        until = seal.until;
        link = owners_link plan d.port;
        at_device = device.found;
        owner = subst (λ (i : ℕ). OwnerIsBound plan seal.older (owners_link plan d.port) i
            (sent_bytes plan seal.older seal.event)) stream owner;
      };
      same = among.packet;
    }

-- ---- the law

are_bound : (plan : Plan) → FitsPlan plan → StreamsFit plan → DrawFacts plan → (h : History) (e : Event) (w : Verdict)
    → CauseLaw plan ((e, w) ∷ h) → UnitIsUnforged plan h e w → AreBound plan h e w
are_bound plan whole fits facts h e (Accepted port unit effects) cause forged =
    bound_at plan whole fits facts h e port unit effects cause forged
are_bound plan whole fits facts h e w cause forged = tt

pub bind_origin_law : (plan : Plan) → FitsPlan plan → StreamsFit plan → DrawFacts plan → (h : History)
    → CauseLaw plan h → LocalBindOriginLaw plan h
bind_origin_law plan whole fits facts h cause =
    of_pairs UnitIsUnforged AreBound plan (are_bound plan whole fits facts) h cause
