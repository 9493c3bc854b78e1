-- What is kept of a stream at a port is what the history gives.
use Rattle.std.proofs.Common.{◌≡◌, ℕ, ◌∷◌, ◌++◌, Bool, true, false, List, [], length, Option, Some, None}
use Rattle.std.proofs.Common.{if◌then◌else◌, refl, sym, ap, ◌∙◌}
use Rattle.std.specs.Prelude.{sum_by}
use Rattle.ide_types.specs.declared.port.PortName.{PortName}
use Rattle.ide_types.specs.declared.sub.SubKind.{SubKind}
use Rattle.ide_types.specs.declared.sub.SubKind.TheVariants.{Pr, Npr, Cpl}
use Rattle.ide_types.specs.declared.plan.Plan.{Plan}
use Rattle.ide_prefix.specs.Packet.{Packet}
use Rattle.spec_keys.specs.Keys.{Keyed, Off, Loaded, On}
use Rattle.spec_keys.specs.History.{History, base, history_status}
use Rattle.spec_stream.specs.Stream.{Armed, Live, StreamState, posted_sum}
use Rattle.spec_stream.specs.Slots.{stream_status}
use Rattle.spec_links.specs.Plan.{SubStream, has_stream, is_closed, lane_in, lane_out, key_of}
use Rattle.spec_links.specs.History.{has_failed, got_since, has_live_in, port_keys, pending_packets}
use Rattle.spec_links.specs.History.{posted_lane, sealed_packets, sent_packets, units_got, waits}
use Rattle.spec_links.specs.Units.{open_unit, units}
use Rattle.machine_ports.specs.Stands.{rx_slot, tx_slot, sealing_key, rx_state_due}
use Rattle.machine_operations.specs.{LinkState, StreamsAndPacketsStand, find, stream_state_due, state_due_if_planned}
use Rattle.machine_operations.specs.{status_if_planned}
use Rattle.machine_whole.proofs.Streams.{status_all}
use Rattle.told_facts.specs.declared.fact.SetState.TheVariants as set
use Rattle.why_facts.specs.Forms.{counts_facts, posted_fact, facts_of_sets}
use Rattle.why_facts.specs.Due.{received_set, received_sets, receiver_due, counts_due, total_got}
use Rattle.why_facts.specs.Due.{sent_set, sent_sets, sender_due, total_sent, posted_now}
use Rattle.why_facts.specs.Kept.{set_state_of_slot, receiver_fact_list, sender_facts_of}

-- ---- slots

pub received_is : (plan : Plan) (h : History) (port : PortName) (s : SubStream) (a : Keyed)
    → set_state_of_slot (rx_slot plan h port s a) ≡ received_set plan h port s a
received_is plan h port s Off = refl
received_is plan h port s (Loaded j) = refl
received_is plan h port s (On j) = by (has_failed h port s.stream)
  where
    by : (b : Bool) → set.On j (units_got h s j) (length (if b then [] else pending_packets plan h s j))
        ≡ set.On j (units_got h s j) (if b then 0 else length (pending_packets plan h s j))
    by true = refl
    by false = refl

sent_is : (plan : Plan) (h : History) (s : SubStream) (k : Bool) (a other : Keyed)
    → set_state_of_slot (tx_slot plan (sealed_packets plan h) s k a other) ≡ sent_set plan h s k a other
sent_is plan h s k Off other = refl
sent_is plan h s k (Loaded j) other = refl
sent_is plan h s k (On j) other = by (waits k j other)
  where
    by : (b : Bool) → set_state_of_slot (if b then Armed j (key_of plan j s) else Live
        (sealing_key plan (sealed_packets plan h) s j))
        ≡ (if b then set.Waits j
        else set.On j (length (units (sent_packets plan h s j))) (length (open_unit (sent_packets plan h s j))))
    by true = refl
    by false = refl

-- ---- what a port receives in a sub-stream

sum_is : (b : Bool) (ps : List Packet) → (if b then posted_sum ps else 0)
    ≡ sum_by (λ (p : Packet). p.prefix.posted) (if b then ps else [])
sum_is true ps = refl
sum_is false ps = refl

count_is : (b : Bool) (ps : List Packet) → (if b then length ps else 0) ≡ length (if b then ps else [])
count_is true ps = refl
count_is false ps = refl

sets_in : (plan : Plan) (h : History) (port : PortName) (s : SubStream)
    → facts_of_sets (set_state_of_slot (rx_slot plan h port s (port_keys h port s).first))
    (set_state_of_slot (rx_slot plan h port s (port_keys h port s).second)) ≡ received_sets plan h port s
sets_in plan h port s = λ i. facts_of_sets (received_is plan h port s (port_keys h port s).first i)
    (received_is plan h port s (port_keys h port s).second i)

counts_in : (plan : Plan) (h : History) (port : PortName) (s : SubStream)
    → counts_facts s.sub (rx_state_due plan h port s).sum (rx_state_due plan h port (posted_lane s)).got
    ≡ counts_due plan h port s
counts_in plan h port s = λ i. counts_facts s.sub
    (sum_is (has_live_in h port s.stream) (got_since plan h s (base h s.line s.stream)) i)
    (count_is (has_live_in h port s.stream) (got_since plan h (posted_lane s) (base h s.line s.stream)) i)

pub receiver_is : (plan : Plan) (h : History) (port : PortName) (stream : ℕ) (u : SubKind)
    → receiver_fact_list (is_closed plan port.line stream) (stream_state_due plan h port stream) u
    ≡ receiver_due plan h port (lane_in port stream u)
unfolding stream_state_due
receiver_is plan h port stream Pr = λ i. sets_in plan h port (lane_in port stream Pr) i
    ++ counts_in plan h port (lane_in port stream Pr) i ++ total_got plan h port (lane_in port stream Pr)
receiver_is plan h port stream Npr = λ i. sets_in plan h port (lane_in port stream Npr) i
    ++ counts_in plan h port (lane_in port stream Npr) i ++ total_got plan h port (lane_in port stream Npr)
receiver_is plan h port stream Cpl = λ i. sets_in plan h port (lane_in port stream Cpl) i
    ++ counts_in plan h port (lane_in port stream Cpl) i ++ total_got plan h port (lane_in port stream Cpl)

-- ---- what it sends

sets_out : (plan : Plan) (h : History) (port : PortName) (s : SubStream)
    → facts_of_sets (set_state_of_slot
    (tx_slot plan (sealed_packets plan h) s false (port_keys h port s).first (port_keys h port s).second))
    (set_state_of_slot (tx_slot plan (sealed_packets plan h) s true (port_keys h port s).second
    (port_keys h port s).first)) ≡ sent_sets plan h port s
sets_out plan h port s = λ i. facts_of_sets
    (sent_is plan h s false (port_keys h port s).first (port_keys h port s).second i)
    (sent_is plan h s true (port_keys h port s).second (port_keys h port s).first i)

pub sender_is : (plan : Plan) (h : History) (port : PortName) (stream : ℕ) (u : SubKind)
    → sender_facts_of (is_closed plan port.line stream) (stream_state_due plan h port stream) u
    ≡ sender_due plan h port (lane_out port stream u)
unfolding stream_state_due
sender_is plan h port stream Pr = λ i. posted_fact Pr (posted_now plan h port (lane_out port stream Pr))
    ∷ (sets_out plan h port (lane_out port stream Pr) i ++ total_sent plan h port (lane_out port stream Pr))
sender_is plan h port stream Npr = λ i. posted_fact Npr (posted_now plan h port (lane_out port stream Npr))
    ∷ (sets_out plan h port (lane_out port stream Npr) i ++ total_sent plan h port (lane_out port stream Npr))
sender_is plan h port stream Cpl = λ i. posted_fact Cpl (posted_now plan h port (lane_out port stream Cpl))
    ∷ (sets_out plan h port (lane_out port stream Cpl) i ++ total_sent plan h port (lane_out port stream Cpl))

-- ---- its state

state_is : (plan : Plan) (st : LinkState) (h : History) → StreamsAndPacketsStand plan st h
    → (port : PortName) (stream : ℕ) → has_stream plan port stream ≡ true
    → stream_status (stream_state_due plan h port stream) ≡ history_status h port.side port.line stream
state_is plan st h stands port stream known =
    let here : state_due_if_planned plan h port stream ≡ Some (stream_state_due plan h port stream) = rw known refl in
    sym (ap status_if_planned (stands.streams port stream ∙ here))
    ∙ status_all plan st h stands port.side port.line stream

-- what is made of a stream at a port, if the port has it: its state aside, it is what the history gives
pub of_stream : {A : Type 0} (plan : Plan) (st : LinkState) (h : History) → StreamsAndPacketsStand plan st h
    → (port : PortName)
    (stream : ℕ) (f : Option StreamState → A) (none some : A) → f None ≡ none
    → (stream_status (stream_state_due plan h port stream) ≡ history_status h port.side port.line stream
    → f (Some (stream_state_due plan h port stream)) ≡ some)
    → f (find plan st port stream) ≡ (if has_stream plan port stream then some else none)
of_stream plan st h stands port stream f none some bare here =
    ap f (stands.streams port stream) ∙ by (has_stream plan port stream) refl
  where
    by : (b : Bool) → has_stream plan port stream ≡ b
        → f (if b then Some (stream_state_due plan h port stream) else None) ≡ (if b then some else none)
    by true known = here (state_is plan st h stands port stream known)
    by false known = bare
