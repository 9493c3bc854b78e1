-- The owner of a response with T on a stream between devices is in RUN and bound to the stream: it is the interface
-- that
-- claims the read, whose requester ID the completion has as its completer.
use Rattle.law_sealing.proofs.Terms.{◌≡◌, ℕ, ◌<◌, inl, inr, Bool, true, false, List, slice_get}
use Rattle.law_sealing.proofs.Terms.{Option, Some, None, refl, ap, sym, subst, ◌∙◌, arith}
use Rattle.law_sealing.proofs.Terms.{
  if◌then◌else◌,
  Plan,
  History,
  SealedPacket,
  PortName,
  CauseLaw,
  sent_bytes,
  read_of,
}
use Rattle.law_sealing.proofs.Terms.{Tlp, header}
use Rattle.std.specs.Prelude.{◌^◌}
use Rattle.std.specs.Option.{option_and_then, option_map, option_map_or}
use Rattle.std.proofs.lemmas.Bool.{true≢false}
use Rattle.ide_types.specs.Fits.{FitsPlan}
use Rattle.ide_types.specs.Ends.{own_has_id}
use Rattle.ide_types.specs.Ports.{device_port}
use Rattle.tlp_layout.specs.declared.head.Fields.{Fields}
use Rattle.tlp_layout.specs.Choice.{id_of}
use Rattle.ide_types.specs.declared.port.Side.TheVariants.{Device}
use Rattle.guarded_memory.specs.declared.claims.Claim.{Claim}
use Rattle.interface_state.specs.Machine.{own_binding, bound_link_stream, lock_of}
use Rattle.interface_state.specs.declared.states.Lock.{Lock}
use Rattle.spec_links.proofs.Terms.{Access}
use Rattle.script_events.specs.declared.event.AccessEvent.TheVariants as ae
use Rattle.spec_links.specs.Plan.{has_link}
unfoldable use Rattle.spec_links.specs.Ports.{port_of}
use Rattle.spec_links.specs.Guarded.{link_happenings}
use Rattle.spec_links.specs.Sent.{claim_completion, completer_on, reads_taken}
use Rattle.spec_links.specs.Terms.{claimed_byte, completion_bytes}
use Rattle.spec_interfaces.specs.{byte_shown}
use Rattle.spec_interfaces.specs.Sites.{Site, site_of_requester}
use Rattle.spec_interfaces.specs.Cause.{is_peer, owner_read, owner_site, owners_link}
use Rattle.spec_interfaces.specs.Devices.{interface_at, is_bound_at}
use Rattle.spec_interfaces.specs.Floors.{device_floor, site_on}
use Rattle.spec_interfaces.specs.Laws.{OwnerIsBound}
use Rattle.spec_interfaces.proofs.Floors.{placed_on}
use Rattle.spec_interfaces.proofs.Locks.{lock_stands}
use Rattle.law_reads.proofs.Oldest.{response_bytes_are}
use Rattle.law_memory.proofs.Completions.{IsBy, completion_by}
use Rattle.law_memory.proofs.Floors.{both_floors, floor_some, own_floor}
use Rattle.law_memory.proofs.OwnStreams.{found_planned, own_stream, requested}
use Rattle.law_memory.proofs.Packets.{IsOf}
use Rattle.law_memory.proofs.Queued.{queued_by}
use Rattle.law_memory.proofs.Responses.{Responded, claim_place, response_sending, trusted_response}

-- ---- its end

-- the end on which a read came is at the port where it waits
pub end_of : (plan : Plan) (h : History) (link : ℕ) (ds : List SealedPacket) → CauseLaw plan h
    → (is : Responded plan h link ds) → port_of plan is.read.came.end ≡ device_port link
end_of plan h link ds cause is =
    let q = queued_by plan h cause (device_port link) (reads_taken h (device_port link)) is.read is.oldest in
    ap (λ (end : PortName). port_of plan end) (ap (λ (c : _). c.end) q.at.arrived) ∙ q.at_port

link_of : (plan : Plan) (e : PortName) (link : ℕ) → is_peer plan e ≡ true → port_of plan e ≡ device_port link
    → owners_link plan e ≡ link
unfolding port_of
link_of plan e link peer at =
    let far : has_link plan e.line ≡ false = grind arith in
    rw peer (ap (λ (p : PortName). p.line) (rw far at at))

-- ---- its completer

requester_small : (plan : Plan) → FitsPlan plan → (link place : ℕ) (x : Site) → site_on plan link place ≡ Some x
    → x.plan.requester < 2 ^ 16
requester_small plan fits link place x is =
    let own = found_planned plan fits _ x (requested plan fits link place x is) in
    let small = own.fits.requester in
    omega (arith, small)

completer_is : (plan : Plan) (h : History) (link : ℕ) (ds : List SealedPacket) → CauseLaw plan h
    → (is : Responded plan h link ds) → is.interface.plan.requester < 2 ^ 16
    → IsBy is.interface.plan.requester is.tlp
completer_is plan h link ds cause is small =
    let happened = link_happenings plan h link in
    let bytes = response_bytes_are plan h link is.read cause is.oldest
    ∙ ap (λ (o : Option Claim). claim_completion plan link happened is.read.read o) is.judged.claimed in
    let completer : completer_on plan link is.claim.interface ≡ is.interface.plan.requester =
    ap (λ (o : Option Site). option_map_or (λ (x : Site). x.plan.requester) o 0)
    (ap (site_on plan link) (claim_place is.claim is.target is.judged.same) ∙ is.placed) in
    let byte = claimed_byte (byte_shown happened) is.claim in
    completion_by is.interface.plan.requester byte is.read.read is.tlp small
    (ap (λ (n : ℕ). read_of (completion_bytes n byte is.read.read)) (sym completer)
    ∙ (ap read_of (sym bytes) ∙ is.reads))

owner_is : (plan : Plan) (link : ℕ) (x : Site) (t : Tlp) → site_of_requester plan link x.plan.requester ≡ Some x
    → IsBy x.plan.requester t → owner_site plan link (header t) ≡ Some x
owner_is plan link x t found by =
    ap (λ (f : Fields). option_and_then (site_of_requester plan link) (id_of Device f)) by.is
    ∙ (ap (site_of_requester plan link) by.completer_is ∙ found)

pub response_owner : (plan : Plan) → FitsPlan plan → (h : History) (link : ℕ) (ds : List SealedPacket)
    → CauseLaw plan h → (is : Responded plan h link ds)
    → owner_read plan link (read_of (sent_bytes plan h (Access (ae.Respond link)))) ≡ Some is.interface
response_owner plan fits h link ds cause is =
    let small = requester_small plan fits link is.target.interface is.interface is.placed in
    ap (owner_read plan link) is.reads
    ∙ owner_is plan link is.interface is.tlp (requested plan fits link is.target.interface is.interface is.placed)
    (completer_is plan h link ds cause is small)

-- ---- its binding

no_lock : (o : Option Lock) (stream : ℕ) → option_map (λ (l : Lock). l.stream) o ≡ Some stream
    → (l : Lock) × (o ≡ Some l) × (l.stream ≡ stream)
no_lock None stream is = absurd cc
no_lock (Some l) stream is = (l, refl, cc (is))

not_of_lock : (plan : Plan) (h : History) (x : Site) (stream : ℕ)
    → own_has_id (slice_get plan.links x.link) x.plan.stream ≡ true
    → own_has_id (slice_get plan.links x.link) stream ≡ false
    → bound_link_stream (interface_at plan h x).state ≡ Some stream → ⊥
not_of_lock plan h x stream own far is =
    let lock = no_lock (lock_of (interface_at plan h x).state) stream is in
    let same : x.plan.stream ≡ stream =
    sym (ap (λ (l : Lock). l.stream) (lock_stands plan h x lock.0 lock.1)) ∙ lock.2 in
    true≢false (sym own ∙ (ap (λ (n : ℕ). own_has_id (slice_get plan.links x.link) n) same ∙ far))

-- ---- all of it

unsynced : (sync t : Bool) → (if sync then false else t) ≡ true → t ≡ true
unsynced sync t e = grind arith

pub owner_of_response : (plan : Plan) → FitsPlan plan → (h : History) (link : ℕ) (ds : List SealedPacket)
    (is : Responded plan h link ds) (d : SealedPacket) → CauseLaw plan h
    → IsOf (response_sending is.read.came is.tlp) d → is_peer plan d.port ≡ true
    → own_has_id (slice_get plan.links (owners_link plan d.port)) d.stream ≡ false → d.t ≡ true
    → OwnerIsBound plan h (owners_link plan d.port) d.stream (sent_bytes plan h (Access (ae.Respond link)))
owner_of_response plan fits h link ds is d cause of peer far has_t =
    let x = is.interface in
    let for = trusted_response plan h link ds is (unsynced d.sync is.read.came.trusted (sym of.t_is ∙ has_t)) in
    let line : owners_link plan d.port ≡ link = link_of plan d.port link peer
    (ap (port_of plan) of.port_is ∙ end_of plan h link ds cause is) in
    let found = requested plan fits link is.target.interface x is.placed in
    let on = placed_on plan link is.target.interface x is.placed in
    let own = own_stream plan fits link x.plan.requester x found in
    let there : own_has_id (slice_get plan.links x.link) is.read.came.stream ≡ false =
    (λ i. own_has_id (slice_get plan.links ((on.link_is ∙ sym line) i)) (sym of.stream_is i)) ∙ far in
    record {
      interface = x;
      owns = ap (λ (l : ℕ). owner_read plan l (read_of (sent_bytes plan h (Access (ae.Respond link))))) line
          ∙ response_owner plan fits h link ds cause is;
      runs = for.runs;
      bound = elim (both_floors is.read.came.stream for.floor
          (own_binding (device_floor plan h x) (bound_link_stream (interface_at plan h x).state))
          (interface_at plan h x).bindings for.bound) [
            | inl lock ↦ absurd (not_of_lock plan h x is.read.came.stream own there
                (own_floor is.read.came.stream for.floor (device_floor plan h x)
                (bound_link_stream (interface_at plan h x).state) lock).0)
            | inr peer ↦ subst (λ (n : ℕ). is_bound_at plan h x n ≡ true) (sym of.stream_is)
                (floor_some is.read.came.stream for.floor (interface_at plan h x).bindings peer)
          ];
    }
