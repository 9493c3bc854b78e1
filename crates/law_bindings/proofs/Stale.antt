-- What comes through a stream between devices comes under the floor of each binding to it: both are the draw of the
-- stream, and the end at a device's port that has its ID is one.
use Rattle.law_sealing.proofs.Terms.{◌≡◌, inl, inr, ℕ, ◌<◌, ◌==◌, zero, suc, Bool, true, false}
use Rattle.law_sealing.proofs.Terms.{List, [], ◌∷◌, slice_get, nat_le, Option, Some, None, Result}
use Rattle.law_sealing.proofs.Terms.{Ok, Err, refl, ap, sym, subst, ◌∙◌, arith, nat_tests, if◌then◌else◌, eqb-true}
use Rattle.law_sealing.proofs.Terms.{is_some, Plan, PortName, History, Event, Verdict, Accepted, UnitName}
use Rattle.law_sealing.proofs.Terms.{Effect, Packet, CauseLaw, is_sync_packet, has_stream}
unfoldable use Rattle.law_sealing.proofs.Terms.{due}
use Rattle.std.specs.Prelude.{◌-◌, nat_lt, map}
use Rattle.std.specs.Option.{option_map, option_or}
use Rattle.std.proofs.lemmas.Bool.{true≢false}
use Rattle.ide_types.specs.Ports.{device_port}
use Rattle.ide_types.specs.Ends.{line_has, peer_link, port_beside_end, end_at_port}
use Rattle.ide_types.specs.Fits.{FitsPlan, FitsPeer}
use Rattle.ide_types.specs.declared.plan.PeerPlan.{PeerPlan}
use Rattle.ide_types.specs.declared.port.Side.{Side}
use Rattle.ide_types.specs.declared.port.Side.TheVariants.{Host, Device}
use Rattle.ide_types.proofs.EndsFound.{all_at, end_found}
use Rattle.tlp_layout.specs.declared.head.HeadView.{HeadView}
use Rattle.tlp_layout.specs.declared.fault.TlpFault.{TlpFault}
use Rattle.tlp_layout.specs.Reading.{read_head_of}
use Rattle.spec_keys.specs.Keys.{no_keys}
use Rattle.spec_keys.specs.History.{place_keys, keeps_live}
use Rattle.ide_types.specs.declared.binding.Binding.{Binding}
use Rattle.interface_state.specs.declared.states.Lock.{Lock}
use Rattle.interface_state.specs.declared.states.TdiState.{TdiState}
use Rattle.interface_state.specs.Machine.{lock_of, bound_link_stream, own_binding, state_code}
use Rattle.interface_state.specs.Bindings.{floor_on}
use Rattle.trusted_memory.specs.declared.span.Span.{Span}
use Rattle.trusted_memory.specs.Spans.{write_span, crosses}
use Rattle.trusted_memory.specs.declared.read.MemReadView.{MemReadView}
use Rattle.trusted_memory.specs.Requests.{memory_read}
use Rattle.trusted_memory.specs.Waiting.{full_cause, read_effect}
use Rattle.guarded_memory.specs.declared.status.InterfaceStatus.{InterfaceStatus}
use Rattle.guarded_memory.specs.declared.claims.Claim.{Claim}
use Rattle.guarded_memory.specs.Statuses.{is_in_run}
use Rattle.guarded_memory.specs.Claims.{claim_of}
use Rattle.guarded_memory.specs.Causes.{floor_cause, trusted_cause, access_cause, mmio_cause, cause_effect}
use Rattle.guarded_memory.specs.Causes.{claim_effect, mmio_effect}
use Rattle.guarded_memory.specs.DeviceReads.{device_read_cause, claimed_read_effect, effect_by_device_read}
use Rattle.guarded_memory.specs.DeviceReads.{device_request_effect}
use Rattle.ide_types.specs.declared.interface.BarPlan.{BarPlan}
use Rattle.guarded_memory.proofs.Claimed.{claimed}
use Rattle.spec_interfaces.specs.Peers.{receiver_at}
use Rattle.spec_interfaces.specs.Sites.{Site}
use Rattle.spec_interfaces.specs.Views.{stream_draw}
use Rattle.spec_interfaces.specs.Devices.{is_run, interface_at}
use Rattle.spec_interfaces.specs.Floors.{link_sites, device_status, device_floor, history_statuses}
use Rattle.spec_interfaces.proofs.Floors.{placed_on}
use Rattle.spec_interfaces.proofs.Locks.{lock_stands}
use Rattle.spec_links.specs.Plan.{has_link, stream_plan}
unfoldable use Rattle.spec_links.specs.Ports.{port_of}
use Rattle.spec_links.specs.Ports.{at_switch}
use Rattle.spec_links.specs.Admission.{switch_effect}
use Rattle.spec_links.specs.Memory.{Policy, policy_at, unit_ended, device_effect, effect_by, effects_each}
use Rattle.spec_links.specs.Memory.{waiting_then, effects_under_policy}
use Rattle.spec_links.proofs.Ends.{stream_is_there}
use Rattle.law_key_facts.proofs.Unplanned.{unplanned_keys}
use Rattle.law_memory.proofs.Origins.{accepted_known}
use Rattle.law_mmio.proofs.Guards.{run_state}
use Rattle.law_mmio.proofs.SameWrites.{effects_there}
use Rattle.law_mmio.proofs.Secure.{locked_secure}
use Rattle.law_bindings.specs.Keys.{NoneIsStale}
use Rattle.law_memory.proofs.Floors.{both_floors}
use Rattle.law_bindings.proofs.Floors.{bound_under, secure_live}
use Rattle.law_bindings.proofs.Sealed.{is_between}
use Rattle.law_bindings.proofs.OverPeers.{accepted_draw}
use Rattle.event_verdicts.specs.declared.verdict.BlockCause.{BlockCause}
use Rattle.event_verdicts.specs.declared.verdict.BlockCause.TheVariants as cause
use Rattle.event_verdicts.specs.declared.verdict.Effect.TheVariants as effect

-- ---- packet n of a unit

record IsEffect (plan : Plan) (policy : Policy) (port : PortName) (unit : UnitName) (e : Effect) : Type 0 where
  waiting : ℕ
  packet : Packet
  is : effect_by plan policy waiting port unit packet ≡ e

each_effect : (plan : Plan) (policy : Policy) (w : ℕ) (port : PortName) (unit : UnitName) (ps : List Packet) (n : ℕ)
    (e : Effect) → slice_get (effects_each plan policy w port unit ps) n ≡ Some e → IsEffect plan policy port unit e
each_effect plan policy w port unit [] n e is = absurd cc
each_effect plan policy w port unit (q ∷ ps) zero e is = record { waiting = w; packet = q; is = cc (is) }
each_effect plan policy w port unit (q ∷ ps) (suc n) e is =
    each_effect plan policy (waiting_then (effect_by plan policy w port unit q) w) port unit ps n e is

-- ---- what is stale

record IsStale (x : InterfaceStatus) (stream draw : ℕ) : Type 0 where
  runs : is_in_run x.state ≡ true
  floor : ℕ
  on : floor_on stream x.bound ≡ Some floor
  less : draw < floor

floor_stale : (o : Option ℕ) (draw : ℕ) → floor_cause o draw ≡ Some cause.Stale
    → (floor : ℕ) × (o ≡ Some floor) × (draw < floor)
floor_stale None draw is = absurd cc
floor_stale (Some floor) draw is = by (nat_lt draw floor) refl is
  where
    by : (b : Bool) → nat_lt draw floor ≡ b → (if b then Some cause.Stale else None) ≡ Some cause.Stale
        → (f : ℕ) × (Some floor ≡ Some f) × (draw < f)
    by true less is = (floor, refl, grind (arith, nat_tests, less))
    by false less is = absurd cc

run_stale : (x : InterfaceStatus) (stream draw : ℕ) → trusted_cause x stream draw ≡ Some cause.Stale
    → IsStale x stream draw
run_stale x stream draw is = by (is_in_run x.state) refl is
  where
    by : (b : Bool) → is_in_run x.state ≡ b
        → (if b then floor_cause (floor_on stream x.bound) draw else Some cause.NotRunning) ≡ Some cause.Stale
        → IsStale x stream draw
    by true runs is =
        let there = floor_stale (floor_on stream x.bound) draw is in
        record { runs = runs; floor = there.0; on = there.1; less = there.2 }
    by false runs is = absurd cc

plain_not : (b : Bool) → (if b then None else Some cause.NotTrusted) ≡ Some cause.Stale → ⊥
plain_not true is = absurd cc
plain_not false is = absurd cc

access_stale : (x : InterfaceStatus) (range : BarPlan) (t : Bool) (stream draw : ℕ)
    → access_cause x range t stream draw ≡ Some cause.Stale → IsStale x stream draw
access_stale x range true stream draw is = run_stale x stream draw is
access_stale x range false stream draw is = absurd (plain_not _ is)

mmio_stale : (x : InterfaceStatus) (range : BarPlan) (s : Span) (t : Bool) (stream draw : ℕ)
    → mmio_cause x range s t stream draw ≡ Some cause.Stale → IsStale x stream draw
mmio_stale x range s t stream draw is = by (crosses s) is
  where
    by : (b : Bool) → (if b then Some cause.Crosses else access_cause x range t stream draw) ≡ Some cause.Stale
        → IsStale x stream draw
    by true is = absurd cc
    by false is = access_stale x range t stream draw is

effect_stale : (o : Option BlockCause) → cause_effect o ≡ effect.Blocked cause.Stale → o ≡ Some cause.Stale
effect_stale None is = absurd cc
effect_stale (Some c) is = let same : c ≡ cause.Stale = cc (is) in ap (λ (z : BlockCause). Some z) same

-- the interface that claims it
record IsStaleFor (xs : List InterfaceStatus) (stream draw : ℕ) : Type 0 where
  place : ℕ
  status : InterfaceStatus
  stands : slice_get xs place ≡ Some status
  stale : IsStale status stream draw

claim_stale : (xs : List InterfaceStatus) (s : Span) (t : Bool) (stream draw : ℕ) (o : Option Claim) → claim_of xs s ≡ o
    → claim_effect o s t stream draw ≡ effect.Blocked cause.Stale → IsStaleFor xs stream draw
claim_stale xs s t stream draw None claim is = absurd cc
claim_stale xs s t stream draw (Some c) claim is = record {
  place = c.interface;
  status = c.status;
  stands = (claimed xs s c claim).interface;
  stale = mmio_stale c.status c.range s t stream draw
      (effect_stale (mmio_cause c.status c.range s t stream draw) is);
}

span_stale : (xs : List InterfaceStatus) (t : Bool) (stream draw : ℕ) (o : Option Span)
    → mmio_effect xs t stream draw o ≡ effect.Blocked cause.Stale → IsStaleFor xs stream draw
span_stale xs t stream draw None is = absurd cc
span_stale xs t stream draw (Some s) is = claim_stale xs s t stream draw (claim_of xs s) refl is

read_effect_stale : (o : Option BlockCause) → read_effect o ≡ effect.Blocked cause.Stale → o ≡ Some cause.Stale
read_effect_stale None is = absurd cc
read_effect_stale (Some c) is = let same : c ≡ cause.Stale = cc (is) in ap (λ (z : BlockCause). Some z) same

-- that too many wait is another cause
before_full : (o : Option BlockCause) (n : ℕ) → option_or o (full_cause n) ≡ Some cause.Stale → o ≡ Some cause.Stale
before_full (Some c) n is = is
before_full None n is = absurd (full (nat_le 64 n) is)
  where
    full : (b : Bool) → (if b then Some cause.Full else None) ≡ Some cause.Stale → ⊥
    full true is = absurd cc
    full false is = absurd cc

claimed_read_stale : (xs : List InterfaceStatus) (s : Span) (t : Bool) (stream draw n : ℕ) (o : Option Claim)
    → claim_of xs s ≡ o → claimed_read_effect o s t stream draw n ≡ effect.Blocked cause.Stale
    → IsStaleFor xs stream draw
claimed_read_stale xs s t stream draw n None claim is = absurd cc
claimed_read_stale xs s t stream draw n (Some c) claim is = by c.status.reads is
  where
    by : (b : Bool) → (if b then read_effect (device_read_cause c s t stream draw n) else effect.Delivered)
        ≡ effect.Blocked cause.Stale → IsStaleFor xs stream draw
    by false is = absurd cc
    by true is = record {
      place = c.interface;
      status = c.status;
      stands = (claimed xs s c claim).interface;
      stale = mmio_stale c.status c.range s t stream draw
          (before_full (mmio_cause c.status c.range s t stream draw) n (read_effect_stale _ is));
    }

request_stale : (xs : List InterfaceStatus) (t : Bool) (stream draw n : ℕ) (head : HeadView)
    → device_request_effect xs t stream draw n head ≡ effect.Blocked cause.Stale → IsStaleFor xs stream draw
request_stale xs t stream draw n head is = by (memory_read head) is
  where
    by : (o : Option MemReadView)
        → effect_by_device_read xs t stream draw n o (mmio_effect xs t stream draw (write_span head))
        ≡ effect.Blocked cause.Stale → IsStaleFor xs stream draw
    by None is = span_stale xs t stream draw (write_span head) is
    by (Some r) is = claimed_read_stale xs r.span t stream draw n (claim_of xs r.span) refl is

head_stale : (xs : List InterfaceStatus) (n : ℕ) (unit : UnitName) (p : Packet) (r : Result HeadView TlpFault)
    → device_effect xs n unit p r ≡ effect.Blocked cause.Stale → IsStaleFor xs unit.stream unit.draw
head_stale xs n unit p (Err f) is = absurd cc
head_stale xs n unit p (Ok head) is = request_stale xs p.prefix.t unit.stream unit.draw n head is

port_stale : (plan : Plan) (policy : Policy) (w link : ℕ) (unit : UnitName) (p : Packet)
    → effect_by plan policy w (device_port link) unit p ≡ effect.Blocked cause.Stale
    → IsStaleFor (policy.statuses link) unit.stream unit.draw
port_stale plan policy w link unit p is = by (is_sync_packet p) (at_switch plan (device_port link)) is
  where
    by : (a c : Bool) → (if a then effect.Sync else if c then switch_effect
        else device_effect (policy.statuses link) w unit p (read_head_of p.head)) ≡ effect.Blocked cause.Stale
        → IsStaleFor (policy.statuses link) unit.stream unit.draw
    by true c is = absurd cc
    by false true is = absurd cc
    by false false is = head_stale (policy.statuses link) w unit p (read_head_of p.head) is

-- ---- the end at the device's port

record IsEndAt (plan : Plan) (end : PortName) (id : ℕ) : Type 0 where
  link : ℕ
  few : link < 8
  port : port_of plan end ≡ device_port link
  beside : port_beside_end plan.peers end ≡ device_port link
  has : line_has plan end.line id ≡ true

end_there : (plan : Plan) → FitsPlan plan → (end : PortName) (id : ℕ) → nat_le 24 end.line ≡ true
    → has_stream plan end id ≡ true → IsEndAt plan end id
unfolding port_of
end_there plan fits end id late known = by (slice_get plan.peers (end.line - 24)) refl
  where
    a : nat_lt end.line 8 ≡ false
    a = grind (arith, nat_tests, late)

    b : nat_lt end.line 16 ≡ false
    b = grind (arith, nat_tests, late)

    c : nat_lt end.line 24 ≡ false
    c = grind (arith, nat_tests, late)

    off : has_link plan end.line ≡ false
    off = let most = fits.links_most in grind (arith, nat_tests, late, most)

    has : line_has plan end.line id ≡ true
    has = sym (stream_is_there plan end.line id) ∙ known

    few : (side : Side) (p : PeerPlan) → FitsPeer plan.links p → peer_link side p < 8
    few Host p fit = omega (arith, fit.near, fits.links_most)
    few Device p fit = omega (arith, fit.far, fits.links_most)

    by : (o : Option PeerPlan) → slice_get plan.peers (end.line - 24) ≡ o → IsEndAt plan end id
    by None is = absurd (let none = rw (a, b, c, is) at has in cc)
    by (Some p) is =
        let port : port_beside_end plan.peers end ≡ device_port (peer_link end.side p) = rw (a, b, c, is) refl in
        record {
          link = peer_link end.side p;
          few = few end.side p (all_at (FitsPeer plan.links) plan.peers (end.line - 24) p fits.each_peer is);
          port = rw off port;
          beside = port;
          has = has;
        }

-- two ends at one port that have one ID are one
one_end : (plan : Plan) → FitsPlan plan → (a b : PortName) (id link : ℕ)
    → port_beside_end plan.peers a ≡ device_port link → port_beside_end plan.peers b ≡ device_port link
    → line_has plan a.line id ≡ true → line_has plan b.line id ≡ true → a ≡ b
one_end plan fits a b id link at_a at_b has_a has_b =
    sym (end_found plan fits a id has_a) ∙ (ap (λ (q : PortName). end_at_port plan q id) (at_a ∙ sym at_b)
    ∙ end_found plan fits b id has_b)

-- ---- the stream of a lock is none between devices

record IsOwn (plan : Plan) (h : History) (x : Site) (stream : ℕ) : Type 0 where
  stream_is : x.plan.stream ≡ stream

own_stream : (plan : Plan) (h : History) (x : Site) (stream floor own : ℕ)
    → floor_on stream (own_binding own (bound_link_stream (interface_at plan h x).state)) ≡ Some floor
    → IsOwn plan h x stream
own_stream plan h x stream floor own has = by (lock_of (interface_at plan h x).state) refl has
  where
    by_same : (l : Lock) → l.stream ≡ x.plan.stream → (b : Bool) → (l.stream == stream) ≡ b
        → option_map (λ (z : Binding). z.floor) (if b then Some (record { stream = l.stream; floor = own }) else None)
        ≡ Some floor → IsOwn plan h x stream
    by_same l same true at has = record { stream_is = sym same ∙ eqb-true l.stream stream at }
    by_same l same false at has = absurd cc

    by : (o : Option Lock) → lock_of (interface_at plan h x).state ≡ o
        → floor_on stream (own_binding own (option_map (λ (l : Lock). l.stream) o)) ≡ Some floor
        → IsOwn plan h x stream
    by None at has = absurd cc
    by (Some l) at has =
        by_same l (ap (λ (k : Lock). k.stream) (lock_stands plan h x l at)) (l.stream == stream) refl has

run_code : (s : TdiState) → is_run s ≡ true → state_code s ≡ 2
run_code s is = grind (arith, is)

none_live : keeps_live no_keys ≡ false
none_live = refl

-- in RUN its line has it
own_line : (plan : Plan) (h : History) → CauseLaw plan h → (x : Site) → is_run (interface_at plan h x).state ≡ true
    → line_has plan x.link x.plan.stream ≡ true
own_line plan h cause x runs =
    let secure = locked_secure plan h cause x (inr (run_code (interface_at plan h x).state runs)) in
    let live = secure_live h (device_port x.link) x.plan.stream secure in
    by (is_some (stream_plan plan x.link x.plan.stream)) refl live
  where
    by : (b : Bool) → is_some (stream_plan plan x.link x.plan.stream) ≡ b
        → keeps_live (place_keys h (receiver_at (device_port x.link) x.plan.stream)) ≡ true
        → line_has plan x.link x.plan.stream ≡ true
    by true is live = sym (stream_is_there plan x.link x.plan.stream) ∙ is
    by false is live =
        absurd (true≢false (sym live ∙ ap keeps_live
        (unplanned_keys plan h cause (receiver_at (device_port x.link) x.plan.stream) is)))

-- ---- the law

stands_map : {A B : Type 0} (f : A → B) (xs : List A) (n : ℕ) (y : B) → slice_get (map f xs) n ≡ Some y
    → (x : A) × (slice_get xs n ≡ Some x) × (f x ≡ y)
stands_map f [] n y is = absurd cc
stands_map f (x ∷ xs) zero y is = (x, refl, cc (is))
stands_map f (x ∷ xs) (suc n) y is = stands_map f xs n y is

low_port : (link : ℕ) → link < 8 → nat_lt link 8 ≡ true
low_port link few = grind (arith, nat_tests, few)

late_not : (end : PortName) (link : ℕ) → end ≡ device_port link → link < 8 → nat_le 24 end.line ≡ true → ⊥
late_not end link same few late =
    let line = ap (λ (q : PortName). q.line) same in grind (arith, nat_tests, few, line, late)

-- a stale request would have come on the stream of the lock, or under a draw below that of the stream
stale_not : (plan : Plan) → FitsPlan plan → (h : History) (e : Event) (end : PortName) (unit : UnitName)
    (effects : List Effect) → CauseLaw plan ((e, Accepted end unit effects) ∷ h) → nat_le 24 end.line ≡ true
    → (at : IsEndAt plan end unit.stream) → (x : Site) → x.link ≡ at.link
    → IsStale (device_status plan h x) unit.stream unit.draw → ⊥
stale_not plan fits h e end unit effects cause late at x link stale =
    let t = interface_at plan h x in
    elim (both_floors unit.stream stale.floor (own_binding (device_floor plan h x) (bound_link_stream t.state))
    t.bindings stale.on) [
      | inl own ↦
          let same = (own_stream plan h x unit.stream stale.floor (device_floor plan h x) own).stream_is in
          let has : line_has plan x.link unit.stream ≡ true =
          ap (λ (s : ℕ). line_has plan x.link s) (sym same)
          ∙ own_line plan h cause.1 x (run_state t.state stale.runs) in
          let there : line_has plan at.link unit.stream ≡ true =
          ap (λ (l : ℕ). line_has plan l unit.stream) (sym link) ∙ has in
          let port : port_beside_end plan.peers (device_port at.link) ≡ device_port at.link =
          rw (low_port at.link at.few) refl in
          late_not end at.link
          (one_end plan fits end (device_port at.link) unit.stream at.link at.beside port at.has there) at.few late
      | inr bound ↦
          let under = bound_under plan h cause.1 x unit.stream stale.floor bound in
          let between = is_between plan fits x.link unit.stream under.end under.at_device in
          let one = one_end plan fits under.end end unit.stream at.link (between.port ∙ ap device_port link) at.beside
          between.has at.has in
          let draw = accepted_draw plan h e end unit effects cause late in
          let floor : stream_draw h end.line unit.stream ≡ stale.floor =
          ap (λ (q : PortName). stream_draw h q.line unit.stream) (sym one) ∙ under.draw_is in
          absurd (omega (arith, draw, floor, stale.less))
    ]

found_not : (plan : Plan) → FitsPlan plan → (h : History) (e : Event) (end : PortName) (unit : UnitName)
    (effects : List Effect) → CauseLaw plan ((e, Accepted end unit effects) ∷ h) → nat_le 24 end.line ≡ true
    → (at : IsEndAt plan end unit.stream)
    → IsStaleFor (history_statuses plan h at.link) unit.stream unit.draw → ⊥
found_not plan fits h e end unit effects cause late at found =
    let site = stands_map (device_status plan h) (link_sites plan at.link) found.place found.status found.stands in
    stale_not plan fits h e end unit effects cause late at site.0
    (placed_on plan at.link found.place site.0 site.1).link_is
    (subst (λ (s : InterfaceStatus). IsStale s unit.stream unit.draw) (sym site.2) found.stale)

shown_stale : (plan : Plan) (h : History) (e : Event) (end : PortName) (unit : UnitName) (effects : List Effect)
    (link n : ℕ) → Accepted end unit effects ≡ due plan h e → port_of plan end ≡ device_port link
    → slice_get effects n ≡ Some (effect.Blocked cause.Stale)
    → IsStaleFor (history_statuses plan h link) unit.stream unit.draw
shown_stale plan h e end unit effects link n is at shown =
    let policy = policy_at plan h in
    let ps = unit_ended plan h e end unit in
    let are : effects ≡ effects_under_policy plan policy (device_port link) unit ps =
    effects_there plan h e end unit effects is
    ∙ ap (λ (q : PortName). effects_under_policy plan policy q unit ps) at in
    let one = each_effect plan policy (policy.waiting (device_port link)) (device_port link) unit ps n
    (effect.Blocked cause.Stale)
    (ap (λ (es : List Effect). slice_get es n) (sym are) ∙ shown) in
    port_stale plan policy one.waiting link unit one.packet one.is

unit_not : (plan : Plan) → FitsPlan plan → (h : History) (e : Event) (end : PortName) (unit : UnitName)
    (effects : List Effect) → CauseLaw plan ((e, Accepted end unit effects) ∷ h)
    → NoneIsStale plan h e (Accepted end unit effects)
unit_not plan fits h e end unit effects cause late n shown is stale =
    let at = end_there plan fits end unit.stream late (accepted_known plan h e end unit effects cause.0) in
    found_not plan fits h e end unit effects cause late at
    (shown_stale plan h e end unit effects at.link n cause.0 at.port (is ∙ ap (λ (z : Effect). Some z) stale))

pub none_is_stale : (plan : Plan) → FitsPlan plan → (h : History) (e : Event) (w : Verdict)
    → CauseLaw plan ((e, w) ∷ h) → NoneIsStale plan h e w
none_is_stale plan fits h e (Accepted end unit effects) cause = unit_not plan fits h e end unit effects cause
none_is_stale plan fits h e w cause = tt
