-- Bytes that arrive at an end, as the machine has them. It goes as the bytes are cut: a fault, a plain TLP, or an IDE
-- packet, whose stream is found or not, and whose answer goes test by test. The hard case is an accepted unit: here its
-- effects are read of decrypted packets, by the machine of encrypted ones, and decryption changes only bodies and tags.
use Rattle.join_ends.specs.{InterfacesView, KeeperView, LinkEnds, EndsView, port_on, with_port_on, AreLinks}
use Rattle.join_ends.specs.{IsPort, state_of, link_statuses}
use Rattle.join_ends.proofs.{found_id, Keeps, IsWired, closed_at, find_at, aggregation_at, port_is, put_at, state_kept}
use Rattle.join_ends.proofs.{wired}
use Rattle.ide_types.specs.declared.plan.Region.{Region}
use Rattle.ide_types.specs.declared.plan.Plan.{Plan}
use Rattle.machine_ports.specs.Machine.{BesidePorts, LinkPacket, LinkState, Stepped, packet_numbered, packet_verdict}
use Rattle.machine_ports.specs.Machine.{stepped_cut, stepped_packet, verdict_of_taken}
unfoldable use Rattle.machine_ports.specs.Machine.{with_stream_state, step_of}
use Rattle.spec_stream.specs.Stream.{unit_name, Accepted, LiveKey, StreamState, PacketOutcome, state_after}
use Rattle.spec_stream.specs.Stream.{stream_outcome}
use Rattle.link_stores.specs.declared.link.LinkAccesses.{LinkAccesses}
use Rattle.link_stores.specs.{reads_on}
use Rattle.std.proofs.Common.{Bool, List, [], ap, arith, false, length, refl, sym, ℕ, ◌+◌, ◌==◌, ◌∙◌, ◌∷◌, ◌≡◌}
use Rattle.std.specs.Prelude.{Err, None, Ok, Option, Result, Some, if◌then◌else◌, option_map}
use Rattle.ide_types.specs.declared.port.PortName.{PortName}
use Rattle.ide_prefix.specs.Packet.{Packet}
use Rattle.ide_prefix.specs.{is_sync_packet}
use Rattle.ide_prefix.specs.declared.fault.PacketFault.{PacketFault}
use Rattle.ide_prefix.specs.Reading.{CutValue, IdePacket, PlainTlp}
use Rattle.event_verdicts.specs.declared.verdict.Verdict.{Verdict}
use Rattle.event_verdicts.specs.declared.verdict.Verdict.TheVariants as v
use Rattle.event_verdicts.specs.declared.verdict.Effect.{Effect}
use Rattle.event_verdicts.specs.declared.verdict.Effect.TheVariants as effect
use Rattle.event_verdicts.specs.declared.verdict.UnitName.{UnitName}
use Rattle.script_events.specs.declared.event.Event.TheVariants.{Dump}
use Rattle.spec_links.specs.Plan.{is_closed, aggregation_of}
use Rattle.spec_links.specs.Ports.{at_switch, port_of}
use Rattle.spec_links.specs.Memory.{Policy, device_effect, effect_by, effects_each, host_effect, waiting_then}
use Rattle.spec_links.specs.Admission.{switch_effect}
use Rattle.sub_stream.specs.{opened_from_byte, opened_unit}
use Rattle.ide_port.specs.{opened_if_accepted, Found, PortEnd, TakeStep, changed_states, found_stream, take_step}
use Rattle.ide_port.specs.Arrivals.{packet_step, port_arrival}
use Rattle.tlp_layout.specs.declared.head.HeadView.{HeadView}
use Rattle.tlp_layout.specs.declared.fault.TlpFault.{TlpFault}
use Rattle.tlp_layout.specs.Reading.{read_head_of}
use Rattle.spec_keys.specs.Places.{sent_direction}
use Rattle.arrival_verdicts.specs.Verdicts.{arrival_verdict, claimed_effect, effects_from, grants_in, head_effect}
use Rattle.arrival_verdicts.specs.Verdicts.{packet_effect}
use Rattle.arrival_verdicts.proofs.Writes.{IsEndOf, IsTaken, taken_is}

-- ---- what an arrival leaves of an end

pub take_keeps : (e : PortEnd) (r : Result CutValue PacketFault) → Keeps e (take_step e r).port
take_keeps e r = grind arith

-- an end of the plan, whose states are the machine's
pub end_of : (plan : Plan) (ends : EndsView) (k : KeeperView) (packets : List LinkPacket) (end : PortName) (e : PortEnd)
    → AreLinks plan ends k → port_on ends end ≡ Some e → IsEndOf plan (state_of plan ends k packets) end e
end_of plan ends k packets end e links is =
    let at_port = port_is plan ends k links end e is in
    record {
      finds = λ id. find_at plan ends k packets (wired plan ends k links) end e is id at_port;
      aggregations = λ id x at. aggregation_at plan end e id x at_port at;
      closes = λ id x at. closed_at plan end e id x at_port at;
    }

-- ---- the verdict

-- the effects of decrypted packets, by what is said of them as they came
abbrev pub Opens : BesidePorts → PortName → (UnitName → List Packet → List Effect) → Type 0
Opens b end effects = (unit : UnitName) (key iv : List ℕ) (n : ℕ) (ps : List Packet)
    → effects unit (opened_from_byte key iv n ps) ≡ b.effects end unit ps

module _ (plan : Plan) (policy : Policy) (port : PortName) (unit : UnitName) (apart : at_switch plan port ≡ false) where
  abbrev effect_at : ℕ → Packet → Effect
  effect_at waiting p = packet_effect plan.memory policy.grants (policy.statuses port.line) waiting port unit p

  same_host : (waiting : ℕ) (p : Packet) (r : Result HeadView TlpFault)
      → head_effect plan.memory policy.grants port.line waiting unit p.prefix.t r
      ≡ host_effect plan policy.grants waiting port unit p r
  same_host waiting p (Err f) = refl
  same_host waiting p (Ok head) = refl

  same_device : (waiting : ℕ) (p : Packet) (r : Result HeadView TlpFault)
      → claimed_effect (policy.statuses port.line) waiting unit p.prefix.t r
      ≡ device_effect (policy.statuses port.line) waiting unit p r
  same_device waiting p (Err f) = refl
  same_device waiting p (Ok head) = refl

  same_effect : (waiting : ℕ) (p : Packet) → effect_at waiting p ≡ effect_by plan policy waiting port unit p
  same_effect waiting p =
      (λ i. if is_sync_packet p then effect.Sync
      else if sent_direction port.side == 0 then same_host waiting p (read_head_of p.head) i
      else same_device waiting p (read_head_of p.head) i)
      ∙ sym (ap (λ (b : Bool). if is_sync_packet p then effect.Sync else if b then switch_effect
      else if sent_direction port.side == 0
      then host_effect plan policy.grants waiting port unit p (read_head_of p.head)
      else device_effect (policy.statuses port.line) waiting unit p (read_head_of p.head)) apart)

  -- decryption changes only bodies and tags
  pub opens_each : (waiting : ℕ) (key iv : List ℕ) (n : ℕ) (ps : List Packet)
      → effects_from plan.memory policy.grants (policy.statuses port.line) waiting port unit
      (opened_from_byte key iv n ps) ≡ effects_each plan policy waiting port unit ps
  opens_each waiting key iv n [] = refl
  opens_each waiting key iv n (p ∷ ps) =
      (λ i. same_effect waiting p i
      ∷ effects_from plan.memory policy.grants (policy.statuses port.line) (waiting_then (same_effect waiting p i)
      waiting) port unit (opened_from_byte key iv (n + length p.body) ps))
      ∙ ap (λ (es : List Effect). effect_by plan policy waiting port unit p ∷ es)
      (opens_each (waiting_then (effect_by plan policy waiting port unit p) waiting) key iv (n + length p.body) ps)

-- by what stands at the link
abbrev pub effects_at : List Region → InterfacesView → PortName → LinkEnds → LinkAccesses → UnitName → List Packet
    → List Effect
effects_at regions m port l a unit ps =
    effects_from regions (grants_in m) (link_statuses l a) (length (reads_on port.side a)) port unit ps

module _ (b : BesidePorts) (plan : Plan) (end port : PortName) (at : port_of plan end ≡ port)
    (effects : UnitName → List Packet → List Effect) (opens : Opens b end effects) where
  abbrev Says : Packet → StreamState → PacketOutcome → Type 0
  Says p x t = verdict_of_taken b end p t ≡ arrival_verdict end port (port_arrival p t)
      (λ unit. effects unit (opened_if_accepted x p t))

  taken_says : (p : Packet) (x : StreamState) (t : PacketOutcome) → IsTaken x p t → Says p x t
  taken_says p x (Accepted draw n ps) under =
      let unit : UnitName = unit_name p draw n in
      ap (λ (es : List Effect). v.Accepted end unit es)
      (sym (ap (λ (o : Option LiveKey). effects unit (opened_unit o p.prefix.sub ps)) under.live
      ∙ opens unit under.key.key _ 0 ps))
  taken_says p x t under = refl

  -- ---- one step

  -- what a step of the end makes of all lines
  abbrev stepped : EndsView → KeeperView → List LinkPacket → TakeStep → Stepped
  stepped ends k packets t = (
    arrival_verdict end port t.answer (λ unit. effects unit t.port.delivered),
    state_of plan (with_port_on ends end t.port) k packets,
  )

  module _ (ends : EndsView) (k : KeeperView) (packets : List LinkPacket) (w : IsWired ends) (e : PortEnd)
      (is : port_on ends end ≡ Some e) (at_port : IsPort plan end e) where
    abbrev st : LinkState
    st = state_of plan ends k packets

    by_found : (p : Packet) (o : Option Found) → found_stream e.plans e.states p.prefix.stream ≡ o
        → stepped_packet plan b st end p (option_map (λ (f : Found). f.state) o)
        ≡ stepped ends k packets (packet_step e p o)
    by_found p None here =
        (λ i. (
          v.Unknown (at i) p.prefix.stream,
          state_kept plan ends k packets w end e is (packet_step e p None).port refl i,
        ))
    by_found p (Some f) here =
        let aggregation : aggregation_of plan end.line p.prefix.stream
        ≡ f.plan.aggregation = aggregation_at plan end e p.prefix.stream f
        at_port here in
        let closed : is_closed plan end.line p.prefix.stream ≡ f.plan.closed = closed_at plan end e p.prefix.stream f
        at_port here in
        let id : f.plan.id ≡ p.prefix.stream = found_id e.plans e.states p.prefix.stream f here in
        let t : PacketOutcome = stream_outcome f.plan.aggregation f.plan.closed f.state p in
        let one : stepped_packet plan b st end p (Some f.state)
        ≡ (verdict_of_taken b end p t, with_stream_state plan st end p.prefix.stream (state_after f.state p t)) =
        (λ i. (
          verdict_of_taken b end p (stream_outcome (aggregation i) (closed i) f.state p),
          with_stream_state plan st end p.prefix.stream
              (state_after f.state p (stream_outcome (aggregation i) (closed i) f.state p)),
        )) in
        let after = put_at plan ends k packets w end e is p.prefix.stream (state_after f.state p t)
        (packet_step e p (Some f)).port at_port
        (ap (λ (n : ℕ). changed_states e.plans e.states n (state_after f.state p t)) id) in
        one ∙ ap (λ (y : Verdict). (y, with_stream_state plan st end p.prefix.stream (state_after f.state p t)))
        (taken_says p f.state t (taken_is f.state p f.plan.aggregation f.plan.closed))
        ∙ ap (λ (x : LinkState). (
          arrival_verdict end port (port_arrival p t) (λ unit. effects unit (opened_if_accepted f.state p t)),
          x,
        )) after

    pub arrives_as : (r : Result CutValue PacketFault)
        → stepped_cut plan b st end r ≡ stepped ends k packets (take_step e r)
    arrives_as (Err fault) =
        (λ i. (
          arrival_verdict end (at i) (take_step e (Err fault)).answer (λ unit. []),
          state_kept plan ends k packets w end e is (take_step e (Err fault)).port refl i,
        ))
    arrives_as (Ok PlainTlp) =
        (λ i. (v.Plain (at i), state_kept plan ends k packets w end e is (take_step e (Ok PlainTlp)).port refl i))
    arrives_as (Ok (IdePacket p)) =
        ap (λ (o : Option StreamState). stepped_packet plan b st end p o)
        (find_at plan ends k packets w end e is p.prefix.stream at_port)
        ∙ by_found p (found_stream e.plans e.states p.prefix.stream) refl

-- ---- a packet by its number

pub dumps : (b : BesidePorts) (plan : Plan) (st : LinkState) (n : ℕ) (o : Option LinkPacket)
    → o ≡ packet_numbered st.packets n → step_of plan b st (Dump n) ≡ (packet_verdict n o, st)
unfolding step_of
dumps b plan st n o is = ap (λ (p : Option LinkPacket). (packet_verdict n p, st)) (sym is)
