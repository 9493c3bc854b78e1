-- Bytes that events bring: what these make of the ends, of what stands beside them, and of the accesses of the links.
use Rattle.std.proofs.Common.{◌≡◌, ℕ, ◌+◌, Bool, true, false, List, refl, ap, sym, ◌∙◌, subst, arith}
use Rattle.std.specs.Prelude.{Option, Some, None, option_map, if◌then◌else◌}
use Rattle.std.specs.Option.{option_and_then}
use Rattle.std.proofs.lemmas.Option.{none-some, same_Some}
use Rattle.ide_types.specs.declared.port.PortName.{PortName}
use Rattle.ide_types.specs.declared.plan.Plan.{Plan}
use Rattle.script_events.specs.declared.event.Event.{Event}
use Rattle.script_events.specs.declared.event.Event.TheVariants.{Arrive}
use Rattle.event_verdicts.specs.declared.verdict.Verdict.{Verdict}
use Rattle.event_verdicts.specs.declared.verdict.Verdict.TheVariants as v
use Rattle.spec_keys.specs.History.{History}
use Rattle.spec_links.specs.History.{ArrivedBytes}
use Rattle.spec_links.specs.Packets.{arrival_at}
use Rattle.spec_links.specs.Plan.{has_port, partner}
use Rattle.spec_links.specs.Guarded.{happens_by_packets}
use Rattle.machine_ports.specs.Machine.{BesidePorts, LinkPacket, LinkState, Stepped, altered_to, brought_to, cut_short}
use Rattle.machine_ports.specs.Machine.{packet_numbered, stepped_arrival}
unfoldable use Rattle.machine_ports.specs.Machine.{step_of}
use Rattle.machine_ports.specs.Stands.{PortsStandFor}
use Rattle.trusted_memory.specs.{Leads, TrustedMemory}
use Rattle.link_stores.specs.declared.link.LinkAccesses.{LinkAccesses}
use Rattle.all_links.specs.{AreLinks, EndsView, IsQuiet, Lands, arrival_of, arrival_on, carried_next, grants_in}
use Rattle.all_links.specs.{state_of, unit_in, unit_tlps, waiting_reads_after, writes_by}
use Rattle.all_links.specs.Accesses.{AccessesTurn, policy_in, same_floors}
use Rattle.all_links.specs.BesideAfter.{BesideBytes}
use Rattle.all_links.specs.States.{links_state}
use Rattle.all_links.specs.declared.links.Links.{Links}
use Rattle.all_links.proofs.{sealed_there}
use Rattle.whole_links.specs.Accesses.{AccessesArriveInState}
use Rattle.whole_links.specs.Besides.{beside_whole}
use Rattle.whole_links.specs.Packets.{altered_bytes, bytes_left, packet_event, incoming_event, passed_on}
use Rattle.whole_links.specs.Packets.{incoming_bytes}
use Rattle.whole_links.specs.Whole.{IsBoundedWhole, WholeEnds}
use Rattle.whole_links.specs.declared.packets.Incoming.{Incoming}
use Rattle.whole_links.specs.declared.packets.Incoming.TheVariants.{Given, Sent}
use Rattle.whole_links.specs.declared.packets.Passage.{Passage}
use Rattle.whole_links.specs.declared.packets.Passage.TheVariants.{Whole, Altered, Cut}
use Rattle.whole_links.specs.declared.whole.WholeLinks.{WholeLinks}

-- ---- which bytes an event brings to the port of an end

pub record IsBrought (plan : Plan) (old : Links) (e : Event) (end : PortName) (bytes : List ℕ) : Type 0 where
  pub quiet : IsQuiet plan e
  pub has : (h : History) → AreLinks plan old.ends old.keeper.keys → PortsStandFor plan (links_state plan old) h
      → has_port plan end ≡ true
  pub arrival : arrival_of plan (links_state plan old) e ≡ arrival_on plan end bytes
  pub step : (b : BesidePorts) → step_of plan b (links_state plan old) e
      ≡ stepped_arrival plan b (links_state plan old) (arrival_on plan end bytes)

-- ---- what an event brings

-- it arrives
abbrev arrival_by : Plan → Option LinkPacket → Option ArrivedBytes
arrival_by plan o = option_and_then (λ (x : LinkPacket). arrival_on plan x.port x.bytes) o

module _ (plan : Plan) (st : LinkState) where
  -- a packet of a number
  packet_arrival : (n : ℕ) (p : Passage) → arrival_of plan st (packet_event n p)
      ≡ option_and_then (λ (x : LinkPacket). option_map (brought_to plan x) (bytes_left p x.bytes))
      (packet_numbered st.packets n)
  packet_arrival n Whole = refl
  packet_arrival n (Altered at mask) = by (packet_numbered st.packets n)
    where
      by : (o : Option LinkPacket) → option_and_then (altered_to plan at mask) o
          ≡ option_and_then (λ (x : LinkPacket). option_map (brought_to plan x) (altered_bytes at mask x.bytes)) o
      by None = refl
      by (Some x) = grind arith
  packet_arrival n (Cut len) = by (packet_numbered st.packets n)
    where
      by : (o : Option LinkPacket) → option_and_then (cut_short plan len) o
          ≡ option_and_then (λ (x : LinkPacket). option_map (brought_to plan x) (bytes_left (Cut len) x.bytes)) o
      by None = refl
      by (Some x) = grind arith

  left_by : (x : LinkPacket) (o : Option (List ℕ)) → option_map (brought_to plan x) o
      ≡ arrival_by plan (option_map (λ (bytes : List ℕ). record { port = partner x.port; bytes = bytes }) o)
  left_by x None = refl
  left_by x (Some bytes) = refl

  left_of : (p : Passage) (o : Option LinkPacket)
      → option_and_then (λ (x : LinkPacket). option_map (brought_to plan x) (bytes_left p x.bytes)) o
      ≡ arrival_by plan (option_and_then (passed_on p) o)
  left_of p None = refl
  left_of p (Some x) = left_by x (bytes_left p x.bytes)

  incoming_arrival : (i : Incoming) → arrival_of plan st (incoming_event i)
      ≡ arrival_by plan (incoming_bytes plan st.packets i)
  incoming_arrival (Given port bytes) = by (has_port plan port)
    where
      by : (b : Bool) → (if b then Some (arrival_at plan port bytes.now) else None)
          ≡ arrival_by plan (if b then Some (record { port = port; bytes = bytes.now }) else None)
      by true = refl
      by false = refl
  incoming_arrival (Sent n p) = packet_arrival n p ∙ left_of p (packet_numbered st.packets n)

  packet_step : (n : ℕ) (p : Passage) (b : BesidePorts) → step_of plan b st (packet_event n p)
      ≡ stepped_arrival plan b st (arrival_of plan st (packet_event n p))
  unfolding step_of
  packet_step n Whole b = refl
  packet_step n (Altered at mask) b = refl
  packet_step n (Cut len) b = refl

  given_step : (port : PortName) (bytes : List ℕ) (b : BesidePorts) → step_of plan b st (Arrive port bytes)
      ≡ stepped_arrival plan b st (arrival_of plan st (Arrive port bytes))
  unfolding step_of
  given_step port bytes b = either (has_port plan port)
    where
      either : (has : Bool)
          → (if has then stepped_arrival plan b st (Some (arrival_at plan port bytes)) else (v.Nothing, st))
          ≡ stepped_arrival plan b st (if has then Some (arrival_at plan port bytes) else None)
      either true = refl
      either false = refl

  incoming_step : (i : Incoming) (b : BesidePorts) → step_of plan b st (incoming_event i)
      ≡ stepped_arrival plan b st (arrival_by plan (incoming_bytes plan st.packets i))
  incoming_step (Given port bytes) b = given_step port bytes.now b
      ∙ ap (λ (a : Option ArrivedBytes). stepped_arrival plan b st a) (incoming_arrival (Given port bytes))
  incoming_step (Sent n p) b =
      packet_step n p b ∙ ap (λ (a : Option ArrivedBytes). stepped_arrival plan b st a) (incoming_arrival (Sent n p))

  pub nothing_brought : (i : Incoming) → None ≡ incoming_bytes plan st.packets i → (b : BesidePorts)
      → step_of plan b st (incoming_event i) ≡ (v.Nothing, st)
  nothing_brought i none b = incoming_step i b ∙ ap
      (λ (o : Option LinkPacket). stepped_arrival plan b st (arrival_by plan o)) (sym none)

incoming_quiet : (plan : Plan) (i : Incoming) → IsQuiet plan (incoming_event i)
incoming_quiet plan (Given port bytes) = λ w k. refl
incoming_quiet plan (Sent n Whole) = λ w k. refl
incoming_quiet plan (Sent n (Altered at mask)) = λ w k. refl
incoming_quiet plan (Sent n (Cut len)) = λ w k. refl

-- the port is one of the plan
port_given : (plan : Plan) (port : PortName) (bytes : List ℕ) (b : Bool) (x : LinkPacket) → has_port plan port ≡ b
    → Some x ≡ (if b then Some (record { port = port; bytes = bytes }) else None) → has_port plan x.port ≡ true
port_given plan port bytes true x has is = ap (λ (y : LinkPacket). has_port plan y.port) (same_Some x _ is) ∙ has
port_given plan port bytes false x has is = absurd (none-some x (sym is))

-- what is passed on comes from a packet
record IsPassed (p : Passage) (o : Option LinkPacket) (x : LinkPacket) : Type 0 where
  packet : LinkPacket
  packet_is : o ≡ Some packet
  port_is : x.port ≡ partner packet.port

left_is : (q x : LinkPacket) (o : Option (List ℕ))
    → Some x ≡ option_map (λ (bytes : List ℕ). record { port = partner q.port; bytes = bytes }) o
    → x.port ≡ partner q.port
left_is q x None is = absurd (none-some x (sym is))
left_is q x (Some bytes) is = ap (λ (y : LinkPacket). y.port) (same_Some x _ is)

is_passed : (p : Passage) (o : Option LinkPacket) (x : LinkPacket) → Some x ≡ option_and_then (passed_on p) o
    → IsPassed p o x
is_passed p None x is = absurd (none-some x (sym is))
is_passed p (Some q) x is = record { packet = q; packet_is = refl; port_is = left_is q x (bytes_left p q.bytes) is }

incoming_port : (plan : Plan) (old : Links) (i : Incoming) (x : LinkPacket)
    → Some x ≡ incoming_bytes plan old.packets.packets i → (h : History) → AreLinks plan old.ends old.keeper.keys
    → PortsStandFor plan (links_state plan old) h → has_port plan x.port ≡ true
incoming_port plan old (Given port bytes) x is h links stands =
    port_given plan port bytes.now (has_port plan port) x refl is
incoming_port plan old (Sent n p) x is h links stands =
    let q = is_passed p (packet_numbered old.packets.packets n) x is in
    ap (has_port plan) q.port_is ∙ sealed_there plan (links_state plan old) h n q.packet stands q.packet_is

pub is_brought : (plan : Plan) (old : Links) (i : Incoming) (x : LinkPacket)
    → Some x ≡ incoming_bytes plan old.packets.packets i → IsBrought plan old (incoming_event i) x.port x.bytes
is_brought plan old i x is = record {
  quiet = incoming_quiet plan i;
  has = incoming_port plan old i x is;
  arrival = incoming_arrival plan (links_state plan old) i ∙ ap (arrival_by plan) (sym is);
  step = λ b. incoming_step plan (links_state plan old) i b
      ∙ ap (λ (o : Option LinkPacket). stepped_arrival plan b (links_state plan old) (arrival_by plan o)) (sym is);
}

-- ---- what they come to

module _ (plan : Plan) (old : WholeLinks) (e : Event) (end : PortName) (bytes : List ℕ) (verdict : Verdict)
    (ends : EndsView) (m : TrustedMemory) (ys : List LinkAccesses) (brought : IsBrought plan old.links e end bytes)
    (lands : Lands plan old.links.keeper.interfaces end bytes verdict old.links.ends old.links.trusted.contents
    old.accesses ends m.contents ys)
  where
    abbrev after : WholeLinks
    after = record {
      links = record old.links { ends = ends; trusted = m; steps = old.links.steps + 1 };
      accesses = ys;
    }

    pub arrived : IsBoundedWhole old → WholeEnds plan verdict old after e
    arrived bounded = record {
      counted = refl;
      bounded = record {
        bounded = lands.bounded old.links.packets.packets old.links.steps bounded.bounded;
        whole = lands.accesses_many ∙ bounded.whole ∙ sym lands.many;
      };
      regions = lands.regions;
      ends = λ answer by regions h links stands.
          let on = lands.stands old.links.keeper.keys old.links.packets.packets h links stands
          (brought.has h links stands) in
          let b : BesidePorts = beside_whole plan old answer in
          let step : (verdict, state_of plan ends old.links.keeper.keys old.links.packets.packets)
          ≡ step_of plan b (links_state plan old.links) e =
          on.steps b regions refl ∙ sym (brought.step b) in
          record {
            verdict_is = ap (λ (x : Stepped). x.0) step;
            state_is = ap (λ (x : Stepped). x.1) step;
            links = on.links;
          };
    }

    pub arrived_beside : BesideBytes plan e verdict old.links after.links
    arrived_beside = record {
      keeper = refl;
      peer_draws = refl;
      devices = λ h links stands.
          (lands.stands old.links.keeper.keys old.links.packets.packets h links stands
          (brought.has h links stands)).follows;
      contents = λ h links stands regions.
          let on = lands.stands old.links.keeper.keys old.links.packets.packets h links stands
          (brought.has h links stands) in
          subst (λ (a : Option ArrivedBytes). Leads old.links.trusted.contents
          (writes_by plan (grants_in old.links.keeper.interfaces) (links_state plan old.links) a verdict) m.contents)
          (sym brought.arrival) (on.leads regions);
    }

    pub arrived_accesses : AccessesArriveInState plan e verdict old after
    arrived_accesses = record {
      many = lands.accesses_many;
      turn = λ h links stands.
          let on = lands.stands old.links.keeper.keys old.links.packets.packets h links stands
          (brought.has h links stands) in
          let statuses = (policy_in old.links.keeper.interfaces old.links.ends old.accesses).statuses in
          subst (λ (a : Option ArrivedBytes). let ps = unit_in plan (links_state plan old.links) a in
          AccessesTurn (waiting_reads_after plan statuses ps e verdict) same_floors
          (λ link. happens_by_packets plan statuses ps e verdict link)
          (carried_next (unit_tlps plan ps verdict) e verdict) old.accesses ys)
          (sym brought.arrival) (on.turn e brought.quiet);
    }
