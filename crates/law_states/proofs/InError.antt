-- What an interface in ERROR does not do.
use Rattle.std.proofs.Common.{◌≡◌, ◌≢◌, ℕ, ◌-◌, ◌==◌, ◌&&◌, ◌||◌, ◌∷◌, Bool, true, false, not, List, [], Option, Some}
use Rattle.std.proofs.Common.{None, Result, Ok, Err, length, refl, sym, ap, ◌∙◌, arith, if◌then◌else◌, inl, inr}
use Rattle.std.proofs.lemmas.Bool.{cases_Bool, true≢false, and_parts, eqb-true}
use Rattle.std.proofs.lemmas.Bool.Decides.{nat_tests}
use Rattle.std.specs.Prelude.{nat_le, nat_lt, slice_get}
use Rattle.std.specs.Option.{option_and_then}
use Rattle.ide_types.specs.Ends.{port_beside_end, near_hop_port, far_hop_port, peer_port}
use Rattle.ide_types.specs.Ports.{device_port}
use Rattle.ide_types.specs.declared.plan.PeerPlan.{PeerPlan}
use Rattle.ide_types.specs.declared.port.PortName.{PortName}
use Rattle.tlp_layout.specs.declared.tlp.Tlp.{Tlp}
use Rattle.tlp_layout.specs.declared.fault.TlpFault.{TlpFault}
use Rattle.tlp_layout.specs.Tlp.{header}
unfoldable use Rattle.spec_links.specs.Ports.{port_of}
use Rattle.std.specs.List.{AllByRecursion}
use Rattle.ide_types.specs.declared.port.Side.{Side}
use Rattle.ide_types.specs.declared.port.Side.TheVariants.{Host, Device}
use Rattle.spec_links.specs.Cause.{CauseLaw}
use Rattle.spec_links.specs.Terms.{Accepted, ReadTarget, WaitingRead, site_on}
use Rattle.spec_links.specs.Memory.{queued_reads}
use Rattle.spec_links.specs.Sent.{reads_taken}
unfoldable use Rattle.spec_links.specs.Due.{due}
use Rattle.spec_interfaces.specs.Terms.{Plan, Event, Verdict, SealedPacket, History}
use Rattle.spec_interfaces.specs.Terms.{Error, binds}
use Rattle.spec_interfaces.specs.Sites.{Site, site_at, site_of_requester, sites}
use Rattle.spec_interfaces.specs.Devices.{interface_at, is_bound_at, is_run, runs_at, peer_t, sets_t, is_stream_left}
use Rattle.spec_interfaces.specs.Cause.{PairFits, SealFits, owner_id, owners_link, owner_read, t_due, t_at}
use Rattle.spec_interfaces.proofs.Floors.{found}
use Rattle.spec_interfaces.proofs.OnLinks.{owner_on_link}
use Rattle.spec_interfaces.proofs.Locks.{bound_at}
use Rattle.interface_state.specs.Machine.{is_locked, is_unlocked, bound_link_stream}
use Rattle.ide_types.specs.declared.binding.Binding.{Binding}
use Rattle.tlp_layout.specs.Reading.{read_of}
use Rattle.law_memory.proofs.Causes.{interface_cause}
use Rattle.law_memory.proofs.Packets.{IsOf, map_all}
use Rattle.law_memory.proofs.Responses.{Responded, responded, response_packets, response_sending, trusted_response}
use Rattle.law_states.specs.States.{state_at, is_lock_sent, is_start_sent, is_link_reset, is_forbidden}
use Rattle.law_states.specs.States.{is_config_locked, unlocks}
use Rattle.law_states.specs.Errors.{SealsNoT, StoresNoT, IsInError}
use Rattle.law_states.proofs.Held.{moves_state}
use Rattle.law_states.proofs.Shut.{none_stored, none_trusted}
use Rattle.script_events.specs.declared.event.Event.TheVariants as event
use Rattle.script_events.specs.declared.event.AccessEvent.TheVariants as ae
use Rattle.event_verdicts.specs.declared.verdict.Verdict.TheVariants as v

-- ---- T

runs_not : (plan : Plan) (h : History) (x : Site) → state_at plan h x ≡ Error → runs_at plan h x ≡ false
runs_not plan h x error = ap is_run error

own_not : (a b : Bool) → a ≡ false → (a && b) ≡ false
own_not a b none = rw none refl

-- ---- the owner of a TLP

owner_found : (plan : Plan) (link : ℕ) (o : Option ℕ) (y : Site)
    → option_and_then (site_of_requester plan link) o ≡ Some y → y.link ≡ link
owner_found plan link None y is = absurd cc
owner_found plan link (Some rid) y is =
    let at = found (λ (z : Site). (z.link == link) && (z.plan.requester == rid)) (sites plan) y is in
    eqb-true y.link link (and_parts (y.link == link) (y.plan.requester == rid) at.passes).0

-- it is on the link
owner_link : (plan : Plan) (link : ℕ) (r : Result Tlp TlpFault) (y : Site) → owner_read plan link r ≡ Some y
    → y.link ≡ link
owner_link plan link (Ok t) y is = owner_found plan link (owner_id (header t)) y is
owner_link plan link (Err f) y is = absurd cc

-- ---- at each end

port_line : (one two : PortName) → one ≡ two → one.line ≡ two.line
port_line one two is = ap (λ (p : PortName). p.line) is

port_side : (one two : PortName) → one ≡ two → one.side ≡ two.side
port_side one two is = ap (λ (p : PortName). p.side) is

host_not : (s : Side) → s ≡ Host → s ≡ Device → ⊥
host_not s one two = absurd cc

-- of an end of a link or of a hop the port is on the same side
beside_host : (peers : List PeerPlan) (line : ℕ) → (nat_lt line 8 || (nat_lt line 16 || nat_lt line 24)) ≡ true
    → (port_beside_end peers (record { side = Host; line = line })).side ≡ Host
beside_host peers line low = by (nat_lt line 8) (nat_lt line 16) (nat_lt line 24) low
  where
    e : PortName
    e = record { side = Host; line = line }

    by : (a b c : Bool) → (a || (b || c)) ≡ true
        → (if a then e else if b then near_hop_port Host (line - 8) else if c then far_hop_port Host (line - 16) else
        peer_port (slice_get peers (line - 24)) e).side ≡ Host
    by true b c low = refl
    by false true c low = refl
    by false false true low = refl
    by false false false low = absurd (true≢false (sym low))

below : (line : ℕ) → (nat_le 24 line && true) ≡ false → (nat_lt line 8 || (nat_lt line 16 || nat_lt line 24)) ≡ true
below line is = grind (arith, nat_tests, is)

-- there is no link of this number
no_owner : (plan : Plan) (h : History) (line stream : ℕ) (r : Result Tlp TlpFault) (o : Option Site)
    → owner_read plan line r ≡ o → nat_lt line (length plan.links) ≡ false → sets_t plan h line stream o ≡ false
no_owner plan h line stream r None is none = refl
no_owner plan h line stream r (Some y) is none =
    let on = owner_on_link plan line r y is in
    let same = owner_link plan line r y is in
    absurd (true≢false (sym on ∙ (ap (λ (n : ℕ). nat_lt n (length plan.links)) same ∙ none)))

-- T of a TLP of the interface at an end at its device
no_t : (plan : Plan) (h : History) (x : Site) (end : PortName) (stream : ℕ) (r : Result Tlp TlpFault) (trusted : Bool)
    → state_at plan h x ≡ Error → port_of plan end ≡ device_port x.link → owner_read plan x.link r ≡ Some x
    → t_at plan h end (owner_read plan (owners_link plan end) r) stream trusted ≡ false
unfolding port_of
no_t plan h x end stream r trusted error at owned =
    by (nat_lt end.line (length plan.links)) (nat_le 24 end.line) end.side refl refl refl at
  where
    rests : (c : Bool) → (runs_at plan h x && c) ≡ false
    rests c = own_not (runs_at plan h x) c (runs_not plan h x error)

    by : (linked late : Bool) (side : Side) → nat_lt end.line (length plan.links) ≡ linked → nat_le 24 end.line ≡ late
        → end.side ≡ side → (if linked then end else port_beside_end plan.peers end) ≡ device_port x.link
        → (if late && not linked then
        peer_t plan h (owner_read plan
        (if late && not linked then (port_beside_end plan.peers end).line else end.line) r)
        stream else
        t_due plan h end side
        (owner_read plan (if late && not linked then (port_beside_end plan.peers end).line else end.line) r) stream
        trusted) ≡ false
    by false true side is_linked is_late is_side at =
        rw (port_line (port_beside_end plan.peers end) (device_port x.link) at, owned) (rests _)
    by true late Host is_linked is_late is_side at =
        absurd (host_not end.side is_side (port_side end (device_port x.link) at))
    by true true Device is_linked is_late is_side at =
        rw (port_line end (device_port x.link) at, owned) (rests _)
    by true false Device is_linked is_late is_side at =
        rw (port_line end (device_port x.link) at, owned) (rests _)
    by false false Device is_linked is_late is_side at = no_owner plan h end.line stream r
        (owner_read plan end.line r) refl is_linked
    by false false Host is_linked is_late is_side at =
        let host : end ≡ record { side = Host; line = end.line } =
        ap (λ (s : Side). record { side = s; line = end.line })
        is_side in
        absurd (host_not (port_beside_end plan.peers end).side
        (ap (λ (p : PortName). (port_beside_end plan.peers p).side) host
        ∙ beside_host plan.peers end.line (below end.line (rw is_late refl)))
        (port_side (port_beside_end plan.peers end) (device_port x.link) at))

no_sync_t : (s t b : Bool) → t ≡ (if s then false else b) → b ≡ false → t ≡ false
no_sync_t true t b is none = is
no_sync_t false t b is none = is ∙ none

-- of a completion: that of a trusted read is sealed while its interface is in RUN
response_no_t : (plan : Plan) (h : History) (link : ℕ) (ds : List SealedPacket) (x : Site)
    → v.Sealed ds ≡ due plan h (event.Access (ae.Respond link)) → state_at plan h x ≡ Error
    → SealsNoT plan h (event.Access (ae.Respond link)) (v.Sealed ds) x
response_no_t plan h link ds x due_is error read target oldest aims placed =
    by is.read.came.trusted refl
  where
    is : Responded plan h link ds
    is = responded plan h link ds due_is

    one : {A : Type 0} (o : Option A) (a b : A) → o ≡ Some a → o ≡ Some b → a ≡ b
    one o a b first second = cc (first, second)

    reads : is.read ≡ read
    reads = one (slice_get (queued_reads plan h (device_port link)) (reads_taken h (device_port link))) is.read read
        is.oldest oldest

    aim : is.target ≡ target
    aim = one is.read.target is.target target is.target_is (ap (λ (r : WaitingRead). r.target) reads ∙ aims)

    same : is.interface ≡ x
    same = one (site_on plan link target.interface) is.interface x
        (ap (λ (t : ReadTarget). site_on plan link t.interface) (sym aim) ∙ is.placed) placed

    by : (t : Bool) → is.read.came.trusted ≡ t → AllByRecursion (λ (d : SealedPacket). d.t ≡ false) ds
    by true trusted =
        let runs = (trusted_response plan h link ds is trusted).runs in
        absurd (true≢false (sym runs
        ∙ (ap (λ (y : Site). runs_at plan h y) same ∙ runs_not plan h x error)))
    by false plain = map_all (λ (d : SealedPacket) (of : IsOf (response_sending is.read.came is.tlp) d).
        no_sync_t d.sync d.t is.read.came.trusted of.t_is plain) ds (response_packets plan h link ds is)

seals_no_t : (plan : Plan) (h : History) (e : Event) (w : Verdict) (x : Site) → PairFits plan h e w → w ≡ due plan h e
    → state_at plan h x ≡ Error → SealsNoT plan h e w x
seals_no_t plan h (event.Send port bytes more trusted) (v.Sealed ds) x fit is error =
    let lacks : (d : SealedPacket) → SealFits plan h bytes trusted d → port_of plan d.port ≡ device_port x.link
    → owner_read plan x.link (read_of bytes) ≡ Some x → d.t ≡ false =
    λ d of at owned. no_sync_t d.sync d.t _ of.t_is
    (no_t plan h x d.port d.stream (read_of bytes) trusted error at owned)
    in map_all lacks ds fit
seals_no_t plan h (event.Access (ae.Respond link)) (v.Sealed ds) x fit is error =
    response_no_t plan h link ds x is error
seals_no_t plan h e w x fit is error = tt

-- ---- bindings

none_bound : (bs : List Binding) (stream : ℕ) → bs ≡ [] → binds stream bs ≡ false
none_bound bs stream is = rw is refl

unbound : (plan : Plan) (h : History) (x : Site) (stream : ℕ) → state_at plan h x ≡ Error
    → is_bound_at plan h x stream ≡ false
unbound plan h x stream error = none_bound (interface_at plan h x).bindings stream
    ((bound_at plan h x).locked (ap is_locked error))

-- ---- how it leaves

no_lock_taken : (s : Bool) (a b c d : Bool) → a ≡ false → (s && (a && b && c && d)) ≡ false
no_lock_taken s a b c d none = grind (arith, none)

no_start : (s a : Bool) → a ≡ false → (s && a) ≡ false
no_start true a none = none
no_start false a none = refl

no_failure : (k r f l : Bool) → k ≡ false → (k && not r && (f || l)) ≡ false
no_failure k r f l none = grind (arith, none)

left_by : (plan : Plan) (h : History) (e : Event) (w : Verdict) (x : Site) → site_at plan x.number ≡ Some x
    → CauseLaw plan ((e, w) ∷ h) → state_at plan h x ≡ Error → state_at plan ((e, w) ∷ h) x ≢ Error
    → unlocks e w x ≡ true
left_by plan h e w x at cause error left = elim (cases_Bool (unlocks e w x)) [
  | inl is ↦ is
  | inr not_so ↦
      absurd (left ((moves_state plan h e w x at cause).stayed
      (no_lock_taken (is_lock_sent e w x) _ _ _ _ (ap is_unlocked error))
      (no_start (is_start_sent e w x) _ (ap is_config_locked error)) not_so
      (no_failure _ (is_link_reset e w x) (is_forbidden plan h e w x)
      (is_stream_left plan h e w x (interface_at plan h x))
      (ap is_locked error)) ∙ error))
]

stores_no_t : (plan : Plan) (h : History) (e : Event) (w : Verdict) (x : Site) → site_at plan x.number ≡ Some x
    → CauseLaw plan ((e, w) ∷ h) → state_at plan h x ≡ Error → StoresNoT plan h e w x
stores_no_t plan h e (Accepted port unit effects) x at cause error = λ bar number packet write there trusted.
    none_trusted plan h e port unit effects x bar number write packet cause.0 at error there trusted
stores_no_t plan h e w x at cause error = tt

pub in_error : (plan : Plan) (h : History) (e : Event) (w : Verdict) (x : Site) → site_at plan x.number ≡ Some x
    → CauseLaw plan ((e, w) ∷ h) → state_at plan h x ≡ Error → IsInError plan h e w x
in_error plan h e w x at cause error = record {
  seals_no_t = seals_no_t plan h e w x (interface_cause plan ((e, w) ∷ h) cause).0 cause.0 error;
  stores_none = λ bar number write shut. none_stored plan h e w x bar number write cause.0 at error shut;
  stores_no_t = stores_no_t plan h e w x at cause error;
  unbound = λ stream. unbound plan h x stream error;
  no_lock = ap bound_link_stream error;
  left = left_by plan h e w x at cause error;
}
