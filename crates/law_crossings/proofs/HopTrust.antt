-- Nothing is trusted on a hop. The ID of its stream is none of its link's, so no interface is bound to it.
use Rattle.law_sealing.proofs.Terms.{◌≡◌, ℕ, ◌+◌, ◌≤◌, ◌<◌, ◌==◌, ◌&&◌, Bool, true, false, List, [], ◌∷◌, length}
use Rattle.law_sealing.proofs.Terms.{slice_get, Option, Some, None, Result, Ok, Err, refl, ap, sym, subst, ◌∙◌, arith}
use Rattle.law_sealing.proofs.Terms.{nat_tests, if◌then◌else◌, not, nat_le, nat_lt, Plan, History, Event, PortName}
use Rattle.law_sealing.proofs.Terms.{Packet, has_stream, CauseLaw, is_sync_packet, AllByRecursion, SealedPacket}
use Rattle.law_sealing.proofs.Terms.{is_some}
use Rattle.law_sealing.proofs.Terms.{inl, inr, ◌⊎◌, ◌++◌}
use Rattle.std.specs.Prelude.{◌-◌, option_map, find}
use Rattle.std.specs.Option.{option_and_then}
use Rattle.std.proofs.lemmas.Bool.{true≢false, eqb-true}
use Rattle.ide_types.specs.declared.binding.Binding.{Binding}
use Rattle.ide_types.specs.declared.plan.Region.{Region}
use Rattle.ide_types.specs.declared.port.Side.{Side}
use Rattle.ide_types.specs.declared.port.Side.TheVariants.{Host, Device}
use Rattle.ide_types.specs.Fits.{FitsPlan}
use Rattle.ide_types.specs.Ports.{host_port, device_port}
use Rattle.ide_types.specs.Ends.{own_has_id, line_has, port_beside_end, far_hop_port, near_hop_port}
use Rattle.ide_types.specs.Sub.{sent_direction}
use Rattle.tlp_layout.specs.declared.head.HeadView.{HeadView}
use Rattle.tlp_layout.specs.declared.fault.TlpFault.{TlpFault}
use Rattle.tlp_layout.specs.Reading.{read_head_of}
use Rattle.trusted_memory.specs.declared.grant.Grant.{Grant}
use Rattle.trusted_memory.specs.declared.span.Span.{Span}
use Rattle.trusted_memory.specs.declared.read.MemReadView.{MemReadView}
use Rattle.trusted_memory.specs.Spans.{write_span, crosses}
use Rattle.trusted_memory.specs.Requests.{memory_read}
use Rattle.trusted_memory.specs.Causes.{grant_cause, write_effect}
use Rattle.trusted_memory.specs.Admitted.{is_on_bound}
use Rattle.trusted_memory.specs.Waiting.{effect_by_read, read_effect, request_effect}
use Rattle.guarded_memory.specs.declared.status.InterfaceStatus.{InterfaceStatus}
use Rattle.guarded_memory.specs.declared.claims.Claim.{Claim}
use Rattle.guarded_memory.specs.Claims.{claim_of}
use Rattle.guarded_memory.specs.Causes.{mmio_cause, cause_effect, claim_effect, mmio_effect, floor_cause}
use Rattle.guarded_memory.specs.DeviceReads.{claimed_read_effect, device_read_cause, device_request_effect}
use Rattle.guarded_memory.specs.DeviceReads.{effect_by_device_read}
use Rattle.guarded_memory.specs.Statuses.{is_in_run}
use Rattle.guarded_memory.proofs.Claimed.{claimed}
use Rattle.interface_state.specs.Bindings.{floor_on, is_binding_on}
use Rattle.event_verdicts.specs.declared.verdict.BlockCause.{BlockCause}
use Rattle.event_verdicts.specs.declared.verdict.BlockCause.TheVariants as cause
use Rattle.event_verdicts.specs.declared.verdict.Effect.{Effect}
use Rattle.event_verdicts.specs.declared.verdict.Effect.TheVariants as effect
use Rattle.event_verdicts.specs.declared.verdict.UnitName.{UnitName}
use Rattle.spec_keys.specs.History.{place_keys, has_key, has_all, keeps_live, failed_there}
use Rattle.spec_interfaces.specs.Sites.{Site}
use Rattle.spec_interfaces.specs.Floors.{posted_receiver}
use Rattle.spec_interfaces.specs.Laws.{IsLocked}
use Rattle.spec_links.specs.Plan.{stream_plan}
use Rattle.spec_links.specs.Ports.{at_switch}
unfoldable use Rattle.spec_links.specs.Ports.{port_of}
use Rattle.spec_links.proofs.Ends.{own_port, stream_is_there}
use Rattle.law_key_facts.proofs.Unplanned.{unplanned_keys}
use Rattle.law_mmio.proofs.Secure.{locked_secure, secure_parts}
use Rattle.interface_state.specs.declared.states.Lock.{Lock}
use Rattle.interface_state.specs.Machine.{lock_of, all_bindings, own_binding}
use Rattle.spec_interfaces.specs.Devices.{interface_at, is_bound_at}
use Rattle.interface_state.specs.declared.states.TdiState.{TdiState}
use Rattle.interface_state.specs.declared.states.TdiState.TheVariants as tdi
use Rattle.interface_state.specs.Machine.{state_code}
use Rattle.spec_interfaces.specs.Floors.{device_floor, device_status, history_statuses, link_sites}
use Rattle.spec_interfaces.specs.Views.{grant_at}
use Rattle.spec_interfaces.specs.Cause.{owner_id}
use Rattle.spec_interfaces.proofs.Locks.{lock_stands}
use Rattle.spec_interfaces.proofs.Floors.{placed_on}
use Rattle.spec_links.specs.Admission.{switch_effect}
use Rattle.spec_links.specs.Memory.{Policy, policy_at, unit_grant, host_effect, device_effect, effect_by}
use Rattle.spec_links.specs.Memory.{requester_bound}
use Rattle.law_verdicts.proofs.{accepted_known, bound_secure, effect_at, effects_there, owner_means}
use Rattle.law_bytes.proofs.PeerEnds.{is_between}
use Rattle.std.proofs.lemmas.Option.{slice_get-map}
use Rattle.tlp_layout.specs.declared.tlp.Tlp.{Tlp}
use Rattle.ide_types.specs.declared.direction.Direction.{Direction}
use Rattle.ide_types.specs.declared.direction.Direction.TheVariants.{Downstream, Upstream}
use Rattle.ide_types.specs.Lines.{is_far_hop_line}
use Rattle.spec_interfaces.specs.Cause.{SealFits, owner_read, owners_link, t_at}
use Rattle.spec_links.specs.Terms.{Verdict, Access, Send}
use Rattle.spec_links.specs.Hops.{has_hop, leaving_end}
use Rattle.spec_links.specs.Memory.{hop_waiting, unit_ended}
use Rattle.spec_links.specs.Sent.{reads_taken}
use Rattle.spec_links.specs.Terms.{ReadArrival, WaitingRead}
use Rattle.law_reads.proofs.Oldest.{first_means}
use Rattle.law_hops.proofs.Queued.{QueuedAt, queued_at, was_queued}
use Rattle.law_memory.proofs.Packets.{IsOf, map_all}
use Rattle.law_memory.proofs.Responses.{responded, response_packets, response_sending}
use Rattle.std.proofs.Common.{subst₂}
use Rattle.spec_links.specs.History.{sent_bytes, sending_port}
use Rattle.spec_links.specs.Due.{forward_first}
unfoldable use Rattle.spec_links.specs.Due.{due}
use Rattle.spec_links.proofs.Causes.{sealed_by_sealing}
use Rattle.spec_links.proofs.SealingIs.{sealing_is, AllLive, all_live}
use Rattle.law_verdicts.proofs.{interface_cause}
use Rattle.law_locks.proofs.Fronts.{pairs_due}
use Rattle.script_events.specs.declared.event.Event.TheVariants.{Forward}
use Rattle.script_events.specs.declared.event.AccessEvent.TheVariants as ae
use Rattle.event_verdicts.specs.declared.verdict.Verdict.TheVariants as v
use Rattle.tlp_layout.specs.Reading.{read_of}
use Rattle.tlp_layout.specs.Tlp.{header}
use Rattle.spec_keys.proofs.Tests.{both-true}
use Rattle.spec_interfaces.specs.Sites.{sites, site_of_requester}
use Rattle.spec_interfaces.proofs.Floors.{found}
use Rattle.spec_interfaces.proofs.OnLinks.{owner_on_link}
use Rattle.law_crossings.specs.HopTrust.{is_device_hop_end, is_trusted_effect, is_hop_line, TrustsNoHop}
use Rattle.law_crossings.specs.Statements.{HopTrustLawHolds}
use Rattle.law_bytes.proofs.MmioOrigins.{floor_some}

-- ---- effects at a host's port

-- what no grant admits
record IsBlocked (o : Option BlockCause) : Type 0 where
  cause : BlockCause
  is : o ≡ Some cause

off_grant : (o : Option Binding) (stream draw : ℕ) → is_on_bound stream draw o ≡ false
    → IsBlocked (grant_cause o stream draw)
off_grant None stream draw off = record { cause = cause.NotRunning; is = refl }
off_grant (Some b) stream draw off = by (b.stream == stream) (nat_lt draw b.floor) refl off
  where
    by : (e l : Bool) → nat_lt draw b.floor ≡ l → (e && nat_le b.floor draw) ≡ false
        → IsBlocked (if not e then Some cause.WrongStream else if l then Some cause.Stale else None)
    by false l less off = record { cause = cause.WrongStream; is = refl }
    by true true less off = record { cause = cause.Stale; is = refl }
    by true false less off = absurd (grind (arith, nat_tests, less, off))

off_write : (regions : List Region) (t : Bool) (g : Grant) (o : Option Span)
    → is_on_bound g.stream g.draw g.bound ≡ false → is_trusted_effect Host (write_effect regions t g o) t ≡ false
off_write regions t g None off = refl
off_write regions false g (Some s) off = refl
off_write regions true g (Some s) off = let b = off_grant g.bound g.stream g.draw off in rw b.is refl

off_read : (regions : List Region) (t : Bool) (g : Grant) (n : ℕ) (o : Option MemReadView) (other : Effect)
    → is_on_bound g.stream g.draw g.bound ≡ false → is_trusted_effect Host other t ≡ false
    → is_trusted_effect Host (effect_by_read regions t g n o other) t ≡ false
off_read regions t g n None other off is = is
off_read regions false g n (Some r) other off is = refl
off_read regions true g n (Some r) other off is = let b = off_grant g.bound g.stream g.draw off in rw b.is refl

off_request : (regions : List Region) (t : Bool) (g : Grant) (n : ℕ) (head : HeadView)
    → is_on_bound g.stream g.draw g.bound ≡ false → is_trusted_effect Host (request_effect regions t g n head) t ≡ false
off_request regions t g n head off =
    off_read regions t g n (memory_read head) (write_effect regions t g (write_span head)) off
    (off_write regions t g (write_span head) off)

-- ---- effects at a device's port

abbrev IsFree : Effect → Bool → Type 0
IsFree x t = is_trusted_effect Device x t ≡ false

caused_free : (o : Option BlockCause) → IsFree (cause_effect o) false
caused_free None = refl
caused_free (Some c) = refl

read_free : (o : Option BlockCause) → IsFree (read_effect o) false
read_free None = refl
read_free (Some c) = refl

-- an interface stands so that a trusted write on the stream is not stored, nor a trusted read queued
abbrev IsOff : InterfaceStatus → ℕ → ℕ → Type 0
IsOff x stream draw = (floor : ℕ) → is_in_run x.state ≡ true → floor_on stream x.bound ≡ Some floor → ⊥

off_claim : (c : Claim) (s : Span) (stream draw : ℕ) → IsOff c.status stream draw
    → IsBlocked (mmio_cause c.status c.range s true stream draw)
off_claim c s stream draw off = by (crosses s) (is_in_run c.status.state) refl (floor_on stream c.status.bound) refl
  where
    by : (a r : Bool) → is_in_run c.status.state ≡ r → (o : Option ℕ) → floor_on stream c.status.bound ≡ o
        → IsBlocked (if a then Some cause.Crosses else if r then floor_cause o draw else Some cause.NotRunning)
    by true r run o is = record { cause = cause.Crosses; is = refl }
    by false false run o is = record { cause = cause.NotRunning; is = refl }
    by false true run None is = record { cause = cause.WrongStream; is = refl }
    by false true run (Some floor) is = absurd (off floor run is)

off_span : (xs : List InterfaceStatus) (t : Bool) (stream draw : ℕ) (o : Option Span)
    → ((i : ℕ) (x : InterfaceStatus) → slice_get xs i ≡ Some x → IsOff x stream draw)
    → IsFree (mmio_effect xs t stream draw o) t
off_span xs t stream draw None off = refl
off_span xs t stream draw (Some s) off = by (claim_of xs s) refl t
  where
    by : (o : Option Claim) → claim_of xs s ≡ o → (t : Bool) → IsFree (claim_effect o s t stream draw) t
    by None is t = refl
    by (Some c) is false = caused_free (mmio_cause c.status c.range s false stream draw)
    by (Some c) is true =
        let b = off_claim c s stream draw (off c.interface c.status (claimed xs s c is).interface) in rw b.is refl

off_device_read : (xs : List InterfaceStatus) (t : Bool) (stream draw n : ℕ) (s : Span)
    → ((i : ℕ) (x : InterfaceStatus) → slice_get xs i ≡ Some x → IsOff x stream draw)
    → IsFree (claimed_read_effect (claim_of xs s) s t stream draw n) t
off_device_read xs t stream draw n s off = by (claim_of xs s) refl t
  where
    answers : (c : Claim) (reads t : Bool) → (t ≡ true → IsBlocked (mmio_cause c.status c.range s true stream draw))
        → IsFree (if reads then read_effect (device_read_cause c s t stream draw n) else effect.Delivered) t
    answers c false t blocked = refl
    answers c true false blocked = read_free (device_read_cause c s false stream draw n)
    answers c true true blocked = let b = blocked refl in rw b.is refl

    by : (o : Option Claim) → claim_of xs s ≡ o → (t : Bool) → IsFree (claimed_read_effect o s t stream draw n) t
    by None is t = refl
    by (Some c) is t = answers c c.status.reads t
        (λ trusted. off_claim c s stream draw (off c.interface c.status (claimed xs s c is).interface))

off_device_request : (xs : List InterfaceStatus) (t : Bool) (stream draw n : ℕ) (head : HeadView)
    → ((i : ℕ) (x : InterfaceStatus) → slice_get xs i ≡ Some x → IsOff x stream draw)
    → IsFree (device_request_effect xs t stream draw n head) t
off_device_request xs t stream draw n head off = by (memory_read head)
  where
    by : (o : Option MemReadView) → IsFree (effect_by_device_read xs t stream draw n o
        (mmio_effect xs t stream draw (write_span head))) t
    by None = off_span xs t stream draw (write_span head) off
    by (Some r) = off_device_read xs t stream draw n r.span off

-- ---- ends of hops

-- which of them are at a switch
at_near : (plan : Plan) (line : ℕ) → 8 ≤ line → line < 16 → nat_lt line (length plan.links) ≡ false
    → at_switch plan (device_port (8 + (line - 8))) ≡ true
at_near plan line least most has = let back : 8 + (line - 8) ≡ line = omega arith in grind (arith, nat_tests, back)

at_far : (plan : Plan) (line : ℕ) → 16 ≤ line → line < 24 → nat_lt line (length plan.links) ≡ false
    → at_switch plan (host_port (16 + (line - 16))) ≡ true
at_far plan line least most has = let back : 16 + (line - 16) ≡ line = omega arith in grind (arith, nat_tests, back)

beside_low : (plan : Plan) (side : Side) (line : ℕ) → 8 ≤ line → line < 24 → nat_lt line (length plan.links) ≡ false
    → at_switch plan (port_beside_end plan.peers (record { side = side; line = line })) ≡ false
    → (port_beside_end plan.peers (record { side = side; line = line })).line < 8
beside_low plan side line least most has off = by (nat_lt line 16) refl side off
  where
    first : nat_lt line 8 ≡ false
    first = grind (arith, nat_tests, least)

    last : nat_lt line 24 ≡ true
    last = grind (arith, nat_tests, most)

    by : (b : Bool) → nat_lt line 16 ≡ b → (side : Side)
        → at_switch plan (port_beside_end plan.peers (record { side = side; line = line })) ≡ false
        → (port_beside_end plan.peers (record { side = side; line = line })).line < 8
    by true near Host off = let less : line < 16 = grind (arith, nat_tests, near) in
        rw (first, near) (omega (arith, least, less))
    by true near Device off = let less : line < 16 = grind (arith, nat_tests, near) in
        absurd (true≢false (sym (at_near plan line least less has) ∙ (rw (first, near) at off)))
    by false near Host off = let more : 16 ≤ line = grind (arith, nat_tests, near) in
        absurd (true≢false (sym (at_far plan line more most has) ∙ (rw (first, near, last) at off)))
    by false near Device off = let more : 16 ≤ line = grind (arith, nat_tests, near) in
        rw (first, near, last) (omega (arith, most, more))

-- the port of an end of a hop that is not at its switch is on a link
low_port : (plan : Plan) → FitsPlan plan → (side : Side) (line : ℕ) → is_hop_line line ≡ true
    → at_switch plan (port_of plan (record { side = side; line = line })) ≡ false
    → (port_of plan (record { side = side; line = line })).line < 8
unfolding port_of
low_port plan fits side line hop off = by (nat_lt line (length plan.links)) refl side off
  where
    least : 8 ≤ line
    least = grind (arith, nat_tests, hop)

    most : line < 24
    most = grind (arith, nat_tests, hop)

    by : (b : Bool) → nat_lt line (length plan.links) ≡ b → (side : Side)
        → at_switch plan (if b then record { side = side; line = line }
        else port_beside_end plan.peers (record { side = side; line = line })) ≡ false
        → (if b then record { side = side; line = line }
        else port_beside_end plan.peers (record { side = side; line = line })).line < 8
    by true has side off = absurd (let few = fits.links_most in grind (arith, nat_tests, few, has, least))
    by false has side off = beside_low plan side line least most has off

-- the stream of a hop is none of its link's
not_own : (plan : Plan) → FitsPlan plan → (port : PortName) (stream : ℕ) → is_hop_line port.line ≡ true
    → at_switch plan (port_of plan port) ≡ false → has_stream plan port stream ≡ true
    → own_has_id (slice_get plan.links (port_of plan port).line) stream ≡ true → ⊥
not_own plan fits port stream hop off known own =
    let less = low_port plan fits port.side port.line hop off in
    let same = ap (λ (q : PortName). q.line) (own_port plan fits port stream known own) in
    let least : 8 ≤ port.line = grind (arith, nat_tests, hop) in
    omega (arith, less, same, least)

-- ---- what interfaces are bound to

lock_locked : (s : TdiState) (l : Lock) → lock_of s ≡ Some l → (state_code s ≡ 1) ⊎ (state_code s ≡ 2)
lock_locked tdi.ConfigUnlocked l is = absurd cc
lock_locked (tdi.ConfigLocked lock nonce) l is = inl refl
lock_locked (tdi.Run lock) l is = inr refl
lock_locked tdi.Error l is = absurd cc

-- a lock's stream is one of its link
lock_own : (plan : Plan) (h : History) → CauseLaw plan h → (x : Site) → x.link < 8 → IsLocked plan h x
    → own_has_id (slice_get plan.links x.link) x.plan.stream ≡ true
lock_own plan h cause x less locked =
    by (line_has plan x.link x.plan.stream) (stream_is_there plan x.link x.plan.stream) refl
  where
    low : nat_lt x.link 8 ≡ true
    low = grind (arith, nat_tests, less)

    full : has_all (place_keys h) Device x.link x.plan.stream ≡ true
    full = (secure_parts (failed_there h Device x.link x.plan.stream)
        (has_key (place_keys h) Device x.link x.plan.stream)
        (has_all (place_keys h) Device x.link x.plan.stream) (locked_secure plan h cause x locked)).1

    live : keeps_live (place_keys h (posted_receiver x)) ≡ true
    live = first_of (keeps_live (place_keys h (posted_receiver x))) _ full
      where
        first_of : (a b : Bool) → (a && b) ≡ true → a ≡ true
        first_of a b is = grind arith

    by : (b : Bool) → is_some (stream_plan plan x.link x.plan.stream) ≡ b → b ≡ line_has plan x.link x.plan.stream
        → own_has_id (slice_get plan.links x.link) x.plan.stream ≡ true
    by true is has = own_there (sym has)
      where
        own_there : line_has plan x.link x.plan.stream ≡ true
            → own_has_id (slice_get plan.links x.link) x.plan.stream ≡ true
        own_there has = rw low at has
    by false is has = absurd (true≢false (sym live
        ∙ ap keeps_live (unplanned_keys plan h cause (posted_receiver x) is)))

own_bound : (plan : Plan) (h : History) → CauseLaw plan h → (x : Site) → x.link < 8 → (stream floor device : ℕ)
    → floor_on stream (all_bindings device (interface_at plan h x)) ≡ Some floor
    → (own_has_id (slice_get plan.links x.link) stream ≡ true) ⊎ (is_bound_at plan h x stream ≡ true)
own_bound plan h cause x less stream floor device is = by (lock_of (interface_at plan h x).state) refl is
  where
    by : (o : Option Lock) → lock_of (interface_at plan h x).state ≡ o
        → floor_on stream
        (own_binding device (option_map (λ (l : Lock). l.stream) o) ++ (interface_at plan h x).bindings) ≡ Some floor
        → (own_has_id (slice_get plan.links x.link) stream ≡ true) ⊎ (is_bound_at plan h x stream ≡ true)
    by None none is = inr (floor_some stream floor (interface_at plan h x).bindings is)
    by (Some l) stands is = beside (l.stream == stream) refl is
      where
        own : l.stream ≡ x.plan.stream
        own = ap (λ (m : Lock). m.stream) (lock_stands plan h x l stands)

        beside : (b : Bool) → (l.stream == stream) ≡ b
            → option_map (λ (z : Binding). z.floor) (if b then Some (record { stream = l.stream; floor = device })
            else find (is_binding_on stream) (interface_at plan h x).bindings) ≡ Some floor
            → (own_has_id (slice_get plan.links x.link) stream ≡ true) ⊎ (is_bound_at plan h x stream ≡ true)
        beside true same is = inl (subst (λ (n : ℕ). own_has_id (slice_get plan.links x.link) n ≡ true)
            (sym own ∙ eqb-true l.stream stream same)
            (lock_own plan h cause x less (lock_locked (interface_at plan h x).state l stands)))
        beside false same is = inr (floor_some stream floor (interface_at plan h x).bindings is)

-- ---- one packet

-- an interface of the link that stands so
record StandsSo (plan : Plan) (h : History) (link : ℕ) (st : InterfaceStatus) : Type 0 where
  site : Site
  on : site.link ≡ link
  is : device_status plan h site ≡ st

stands_so : (plan : Plan) (h : History) (link i : ℕ) (st : InterfaceStatus)
    → slice_get (history_statuses plan h link) i ≡ Some st → StandsSo plan h link st
stands_so plan h link i st is = by (slice_get (link_sites plan link) i) refl
    (sym (slice_get-map (device_status plan h) (link_sites plan link) i) ∙ is)
  where
    by : (o : Option Site) → slice_get (link_sites plan link) i ≡ o
        → option_map (device_status plan h) o ≡ Some st → StandsSo plan h link st
    by None at same = absurd cc
    by (Some x) at same = record { site = x; on = (placed_on plan link i x at).link_is; is = cc (same) }

module _ (plan : Plan) (fits : FitsPlan plan) (h : History) (cause : CauseLaw plan h) (port : PortName)
    (unit : UnitName) (hop : is_hop_line port.line ≡ true) (known : has_stream plan port unit.stream ≡ true)
    (off : at_switch plan (port_of plan port) ≡ false) where
  none_granted : (head : HeadView) → is_on_bound unit.stream unit.draw
      (requester_bound (grant_at plan h) (port_of plan port) head) ≡ false
  none_granted head = by _ refl
    where
      by : (b : Bool)
          → is_on_bound unit.stream unit.draw (requester_bound (grant_at plan h) (port_of plan port) head) ≡ b
          → b ≡ false
      by false is = refl
      by true is =
          let for = owner_means plan h (port_of plan port).line unit.stream unit.draw head (owner_id head) refl is in
          absurd (not_own plan fits port unit.stream hop off known
          ((λ i. own_has_id (slice_get plan.links (sym for.link_is i)) (sym for.stream_is i)) ∙ for.own fits))

  none_bound : (port_of plan port).side ≡ Device → (i : ℕ) (st : InterfaceStatus)
      → slice_get (history_statuses plan h (port_of plan port).line) i ≡ Some st → IsOff st unit.stream unit.draw
  none_bound device i st at floor run is =
      let x = stands_so plan h (port_of plan port).line i st at in
      let low = low_port plan fits port.side port.line hop off in
      elim (own_bound plan h cause x.site (omega (arith, x.on, low)) unit.stream floor (device_floor plan h x.site)
      (ap (λ (s : InterfaceStatus). floor_on unit.stream s.bound) x.is ∙ is)) [
        | inl own ↦ not_own plan fits port unit.stream hop off known
            (ap (λ (l : ℕ). own_has_id (slice_get plan.links l) unit.stream) (sym x.on) ∙ own)
        | inr bound ↦
            let secure = bound_secure plan h cause x.site unit.stream bound in
            let at : port_of plan port ≡ device_port x.site.link =
            (λ i. record { side = device i; line = sym x.on i }) in
            let late = is_between plan fits x.site.link unit.stream secure.end port secure.at_device at known in
            absurd (grind (arith, nat_tests, hop, late))
      ]

packet_free : (plan : Plan) → FitsPlan plan → (h : History) → CauseLaw plan h → (port : PortName) (unit : UnitName)
    → is_hop_line port.line ≡ true → has_stream plan port unit.stream ≡ true → (k : ℕ) (p : Packet)
    → is_trusted_effect (port_of plan port).side
    (effect_by plan (policy_at plan h) k (port_of plan port) unit p) p.prefix.t ≡ false
packet_free plan fits h cause port unit hop known k p =
    by (is_sync_packet p) (at_switch plan (port_of plan port)) refl (port_of plan port).side refl
  where
    policy : Policy
    policy = policy_at plan h

    at_host : at_switch plan (port_of plan port) ≡ false → (r : Result HeadView TlpFault)
        → is_trusted_effect Host (host_effect plan policy.grants k (port_of plan port) unit p r) p.prefix.t ≡ false
    at_host off (Err f) = refl
    at_host off (Ok head) = off_request plan.memory p.prefix.t
        (unit_grant policy.grants (port_of plan port) unit head) k head
        (none_granted plan fits h cause port unit hop known off head)

    at_device : at_switch plan (port_of plan port) ≡ false → (port_of plan port).side ≡ Device
        → (r : Result HeadView TlpFault)
        → IsFree (device_effect (policy.statuses (port_of plan port).line) k unit p r) p.prefix.t
    at_device off side (Err f) = refl
    at_device off side (Ok head) = off_device_request (policy.statuses (port_of plan port).line) p.prefix.t unit.stream
        unit.draw k head (none_bound plan fits h cause port unit hop known off side)

    by : (s c : Bool) → at_switch plan (port_of plan port) ≡ c → (side : Side) → (port_of plan port).side ≡ side
        → is_trusted_effect side (if s then effect.Sync else if c then switch_effect
        else if sent_direction side == 0 then host_effect plan policy.grants k (port_of plan port) unit p
        (read_head_of p.head)
        else device_effect (policy.statuses (port_of plan port).line) k unit p (read_head_of p.head)) p.prefix.t
        ≡ false
    by true c off side is = refl
    by false true off side is = refl
    by false false off Host is = at_host off (read_head_of p.head)
    by false false off Device is = at_device off is (read_head_of p.head)

-- the port of an end of a hop is at its side
hop_side : (plan : Plan) → FitsPlan plan → (side : Side) (line : ℕ) → is_hop_line line ≡ true
    → (port_of plan (record { side = side; line = line })).side ≡ side
unfolding port_of
hop_side plan fits side line hop = by (nat_lt line (length plan.links)) side
  where
    low : nat_lt line 8 ≡ false
    low = grind (arith, nat_tests, hop)

    far : nat_lt line 24 ≡ true
    far = grind (arith, nat_tests, hop)

    beside : (near : Bool) (side : Side) → (if near then near_hop_port side (line - 8)
        else far_hop_port side (line - 16)).side ≡ side
    beside true Host = refl
    beside true Device = refl
    beside false Host = refl
    beside false Device = refl

    by : (b : Bool) (side : Side) → (if b then record { side = side; line = line }
        else port_beside_end plan.peers (record { side = side; line = line })).side ≡ side
    by true side = refl
    by false side = rw (low, far) (beside (nat_lt line 16) side)

-- ---- what is sealed

answers_low : (plan : Plan) (h : History) (link : ℕ) (ds : List SealedPacket) → FitsPlan plan
    → v.Sealed ds ≡ due plan h (Access (ae.Answer link)) → is_hop_line link ≡ false
unfolding due
answers_low plan h link ds fits is =
    let known = (first_means plan h (host_port link) _ (v.Sealed ds) refl is).known in
    let most = fits.links_most in
    grind (arith, nat_tests, most, known)

-- a read that came over a hop has no T, and so its response has none
came_untrusted : (plan : Plan) → FitsPlan plan → (h : History) (link : ℕ) (r : WaitingRead)
    → QueuedAt plan h (device_port link) r → is_device_hop_end r.came.end ≡ true → r.came.trusted ≡ false
came_untrusted plan fits h link r q there =
    let is = was_queued plan h (device_port link) r q in
    let end : q.end ≡ r.came.end = ap (λ (c : ReadArrival). c.end) q.at.came in
    let trusted : q.at.packet.prefix.t ≡ r.came.trusted = ap (λ (c : ReadArrival). c.trusted) q.at.came in
    let hop = hop_of_end q.end.side q.end.line (ap is_device_hop_end end ∙ there) in
    let known = accepted_known plan q.older q.event q.end q.unit q.effects q.cause.0 in
    let free = packet_free plan fits q.older q.cause.1 q.end q.unit hop known is.0 q.at.packet in
    let same : effect_by plan (policy_at plan q.older) is.0 (port_of plan q.end) q.unit q.at.packet ≡ effect.Queued =
    ap (λ (p : PortName). effect_by plan (policy_at plan q.older) is.0 p q.unit q.at.packet) q.at_port ∙ is.1 in
    sym trusted
    ∙ subst₂ (λ (p : PortName) (x : Effect). is_trusted_effect p.side x q.at.packet.prefix.t ≡ false) q.at_port same
    free
  where
    hop_of_end : (side : Side) (line : ℕ) → is_device_hop_end (record { side = side; line = line }) ≡ true
        → is_hop_line line ≡ true
    hop_of_end Host line there = absurd cc
    hop_of_end Device line there = grind (arith, nat_tests, there)

response_untrusted : (plan : Plan) → FitsPlan plan → (h : History) (link : ℕ) (ds : List SealedPacket)
    → CauseLaw plan ((Access (ae.Respond link), v.Sealed ds) ∷ h)
    → AllByRecursion (λ (d : SealedPacket). is_device_hop_end d.port ≡ true → d.t ≡ false) ds
response_untrusted plan fits h link ds cause =
    let is = responded plan h link ds cause.0 in
    let r = is.read in
    let q = queued_at plan h cause.1 (device_port link) (reads_taken h (device_port link)) r is.oldest in
    map_all {P = IsOf (response_sending r.came is.tlp)}
    {Q = λ (d : SealedPacket). is_device_hop_end d.port ≡ true → d.t ≡ false}
    (λ d of there. unless_sync d.sync d.t of.t_is
    (came_untrusted plan fits h link r q (ap is_device_hop_end (sym of.port_is) ∙ there))) ds
    (response_packets plan h link ds is)
  where
    unless_sync : (b t : Bool) {u : Bool} → t ≡ (if b then false else u) → u ≡ false → t ≡ false
    unless_sync true t is off = is
    unless_sync false t is off = is ∙ off

forwards_hop : (plan : Plan) (h : History) (link : ℕ) (d : Direction) (ds : List SealedPacket)
    → v.Sealed ds ≡ due plan h (Forward link d) → has_hop plan link ≡ true
unfolding due
forwards_hop plan h link d ds is = by (has_hop plan link) is
  where
    by : (b : Bool) → v.Sealed ds ≡ (if b then forward_first plan h link d (hop_waiting plan h link d) else v.Nothing)
        → b ≡ true
    by true is = refl
    by false is = absurd cc

all_at : (P : PortName → Type 0) (plan : Plan) (h : History) (port : PortName) (stream : ℕ) (ds : List SealedPacket)
    → P port → AllLive plan h port stream ds → AllByRecursion (λ (d : SealedPacket). P d.port) ds
all_at P plan h port stream [] p all = tt
all_at P plan h port stream (d ∷ ds) p all =
    (subst P (sym all.0.port_is) p, all_at P plan h port stream ds p all.1)

-- each packet is sealed at the end that the event names
sealed_at : (plan : Plan) (h : History) (e : Event) (ds : List SealedPacket) (P : PortName → Type 0)
    → v.Sealed ds ≡ due plan h e → P (sending_port plan h e) → AllByRecursion (λ (d : SealedPacket). P d.port) ds
sealed_at plan h e ds P is p =
    let s = sealing_is plan h e ds is in
    all_at P plan h s.sending.port s.sending.stream ds (subst P (sym s.at_port) p)
    (all_live plan h (sending_port plan h e) (sent_bytes plan h e) ds s)

unless_end : (P : SealedPacket → Type 0) (ds : List SealedPacket)
    → AllByRecursion (λ (d : SealedPacket). is_device_hop_end d.port ≡ false) ds
    → AllByRecursion (λ (d : SealedPacket). is_device_hop_end d.port ≡ true → P d) ds
unless_end P [] all = tt
unless_end P (d ∷ ds) all = (λ there. absurd (true≢false (sym there ∙ all.0)), unless_end P ds all.1)

-- an owner is an interface of the link
found_link : (plan : Plan) (line : ℕ) (o : Option ℕ) (x : Site)
    → option_and_then (site_of_requester plan line) o ≡ Some x → x.link ≡ line
found_link plan line None x is = absurd cc
found_link plan line (Some rid) x is =
    let test = λ (y : Site). (y.link == line) && (y.plan.requester == rid) in
    eqb-true x.link line (both-true (x.link == line) (x.plan.requester == rid) (found test (sites plan) x is).passes).0

owner_link : (plan : Plan) (line : ℕ) (r : Result Tlp TlpFault) (x : Site) → owner_read plan line r ≡ Some x
    → x.link ≡ line
owner_link plan line (Ok t) x is = found_link plan line (owner_id (header t)) x is
owner_link plan line (Err f) x is = absurd cc

-- an end of a hop owns no interface
no_owner : (plan : Plan) → FitsPlan plan → (line : ℕ) → is_far_hop_line line ≡ true → (r : Result Tlp TlpFault)
    → owner_read plan line r ≡ None
no_owner plan fits line far r = by (owner_read plan line r) refl
  where
    by : (o : Option Site) → owner_read plan line r ≡ o → o ≡ None
    by None is = refl
    by (Some x) is =
        let on = owner_on_link plan line r x is in
        let same = owner_link plan line r x is in
        let most = fits.links_most in
        absurd (grind (arith, nat_tests, on, same, most, far))

hop_end_t : (plan : Plan) → FitsPlan plan → (h : History) (side : Side) (line : ℕ) (r : Result Tlp TlpFault)
    (stream : ℕ) (trusted : Bool) → is_device_hop_end (record { side = side; line = line }) ≡ true
    → t_at plan h (record { side = side; line = line })
    (owner_read plan (owners_link plan (record { side = side; line = line })) r) stream trusted ≡ false
hop_end_t plan fits h Host line r stream trusted there = absurd cc
hop_end_t plan fits h Device line r stream trusted there =
    let none : nat_le 24 line ≡ false = grind (arith, nat_tests, there) in
    rw (none, no_owner plan fits line there r) refl

one_untrusted : (plan : Plan) → FitsPlan plan → (h : History) (bytes : List ℕ) (trusted : Bool) (d : SealedPacket)
    → SealFits plan h bytes trusted d → is_device_hop_end d.port ≡ true → d.t ≡ false
one_untrusted plan fits h bytes trusted d fit there =
    fit.t_is ∙ unless_sync d.sync (hop_end_t plan fits h d.port.side d.port.line (read_of bytes) d.stream trusted there)
  where
    unless_sync : (b : Bool) {t : Bool} → t ≡ false → (if b then false else t) ≡ false
    unless_sync true is = refl
    unless_sync false is = is

all_untrusted : (plan : Plan) → FitsPlan plan → (h : History) (bytes : List ℕ) (trusted : Bool)
    (ds : List SealedPacket) → AllByRecursion (SealFits plan h bytes trusted) ds
    → AllByRecursion (λ (d : SealedPacket). is_device_hop_end d.port ≡ true → d.t ≡ false) ds
all_untrusted plan fits h bytes trusted [] all = tt
all_untrusted plan fits h bytes trusted (d ∷ ds) all =
    (one_untrusted plan fits h bytes trusted d all.0, all_untrusted plan fits h bytes trusted ds all.1)

no_leaving : (plan : Plan) (link : ℕ) (d : Direction) → has_hop plan link ≡ true
    → is_device_hop_end (leaving_end link d) ≡ false
no_leaving plan link Downstream hop = refl
no_leaving plan link Upstream hop = let low : nat_lt link 8 ≡ true = grind (arith, hop) in grind (arith, nat_tests, low)

-- ---- the pair

trusts_no_hop : (plan : Plan) → FitsPlan plan → (h : History) (e : Event) (w : Verdict)
    → CauseLaw plan ((e, w) ∷ h) → TrustsNoHop plan h e w
trusts_no_hop plan fits h (Access (ae.Answer link)) (v.Sealed ds) cause =
    sealed_at plan h (Access (ae.Answer link)) ds (λ q. is_hop_line q.line ≡ false) cause.0
    (answers_low plan h link ds fits cause.0)
trusts_no_hop plan fits h (Access (ae.Respond link)) (v.Sealed ds) cause = response_untrusted plan fits h link ds cause
trusts_no_hop plan fits h (Send port bytes more trusted) (v.Sealed ds) cause =
    all_untrusted plan fits h bytes trusted ds
    (interface_cause plan ((Send port bytes more trusted, v.Sealed ds) ∷ h) cause).0
trusts_no_hop plan fits h (Forward link d) (v.Sealed ds) cause =
    unless_end (λ d. d.t ≡ false) ds (sealed_at plan h (Forward link d) ds (λ q. is_device_hop_end q ≡ false) cause.0
    (no_leaving plan link d (forwards_hop plan h link d ds cause.0)))
trusts_no_hop plan fits h e (v.Sealed ds) cause =
    absurd (true≢false (sym (sealed_by_sealing plan h e ds cause.0)))
trusts_no_hop plan fits h e (v.Accepted port unit effects) cause = λ hop n p x stands is.
    let policy = policy_at plan h in
    let are = effects_there plan h e port unit effects cause.0 in
    let one = effect_at plan policy (policy.waiting (port_of plan port)) (port_of plan port) unit
    (unit_ended plan h e port unit) n p x (ap (λ (xs : List Effect). slice_get xs n) (sym are) ∙ is) stands in
    subst₂ (λ (side : Side) (y : Effect). is_trusted_effect side y p.prefix.t ≡ false)
    (hop_side plan fits port.side port.line hop) one.1
    (packet_free plan fits h cause.1 port unit hop (accepted_known plan h e port unit effects cause.0) one.0 p)
trusts_no_hop plan fits h e w cause = tt

pub hop_trust_law : HopTrustLawHolds
hop_trust_law plan fits h cause = pairs_due plan (TrustsNoHop plan) (trusts_no_hop plan fits) h cause
