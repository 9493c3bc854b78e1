-- What the rules of sealing see of the senders that stand for a history is what the history says.
use Rattle.machine_ports.proofs.Terms.{◌≡◌, ℕ, Bool, true, length, Option, Some, None, refl, ap, ◌∙◌, arith, is_none}
use Rattle.machine_ports.proofs.Terms.{if◌then◌else◌, at_sub, each_sub, has_failed, has_live_out, History, is_keyless}
use Rattle.machine_ports.proofs.Terms.{KeyName, Keys, port_keys, Lane, lane_contents, lane_of, lane_out, lanes_at}
use Rattle.machine_ports.proofs.Terms.{lanes_of, lesser, live_sender, LiveKey, aggregation_of, open_unit, Plan}
use Rattle.machine_ports.proofs.Terms.{PortName, posted_count, sealed_packets, SealedList, sealing_key}
use Rattle.machine_ports.proofs.Terms.{packets_under_key, stream_state_due, SubKind, SubStream, tx_slots, tx_state_due}
use Rattle.machine_ports.proofs.Terms.{TxSub, units}
use Rattle.machine_ports.proofs.Answers.{at_each}

-- the key of a sender that stands for a list of sealed packets
abbrev pub sealer : Plan → SealedList → SubStream → Option KeyName → Option (Bool × LiveKey)
sealer plan xs s None = None
sealer plan xs s (Some key) = Some (key.k, sealing_key plan xs s key.draw)

pub live_sender_is : (plan : Plan) (xs : SealedList) (s : SubStream) (keys : Keys)
    → live_sender (tx_slots plan xs s keys) ≡ sealer plan xs s (lesser keys.first keys.second)
live_sender_is plan xs s keys = grind arith

-- with any posted count
lane_is : (plan : Plan) (h : History) (port : PortName) (stream : ℕ) (u : SubKind) (n : ℕ)
    → lane_of n (live_sender (tx_state_due plan h port (lane_out port stream u)).slots)
    ≡ record (lane_contents plan h port (lane_out port stream u))
    { posted = n }
unfolding units open_unit
lane_is plan h port stream u n =
    ap (lane_of n) (live_sender_is plan (sealed_packets plan h) (lane_out port stream u)
    (port_keys h port (lane_out port stream u)))
    ∙ by_key (lesser (port_keys h port (lane_out port stream u)).first
    (port_keys h port (lane_out port stream u)).second)
  where
    by_key : (o : Option KeyName) → lane_of n (sealer plan (sealed_packets plan h) (lane_out port stream u) o)
        ≡ record {
          key = o;
          unfinished = open_unit (packets_under_key plan h (lane_out port stream u) o);
          units = length
              (units (packets_under_key plan h (lane_out port stream u) o));
          posted = n;
        }
    by_key None = refl
    by_key (Some key) = refl

-- while the port seals on the stream
pub lanes_is : (plan : Plan) (h : History) (port : PortName) (stream : ℕ) → has_live_out h port stream ≡ true
    → lanes_of (aggregation_of plan port.line stream) plan.units_per_key (stream_state_due plan h port stream)
    ≡ lanes_at plan h port stream
unfolding stream_state_due
lanes_is plan h port stream live =
    let tx : SubKind → TxSub = λ u. tx_state_due plan h port (lane_out port stream u) in
    let lane : (u : SubKind) → lane_of (at_sub (each_sub tx) u).posted (live_sender (at_sub (each_sub tx) u).slots)
    ≡ lane_contents plan h port (lane_out port stream u) =
    λ u. ap (λ (x : TxSub). lane_of x.posted (live_sender x.slots)) (at_each tx u)
    ∙ (lane_is plan h port stream u (tx u).posted
    ∙ ap (λ (b : Bool). record (lane_contents plan h port (lane_out port stream u))
    { posted = if b then posted_count plan h (lane_out port stream u) else 0 }) live) in
    λ i. record {
      aggregation = aggregation_of plan port.line stream;
      limit = plan.units_per_key;
      failed = (stream_state_due plan h port stream).failed;
      lane = λ u. lane u i;
    }

-- whether a sub-stream has no key
pub keyless_is : (plan : Plan) (h : History) (port : PortName) (stream : ℕ) (u : SubKind)
    → is_keyless (lanes_of (aggregation_of plan port.line stream) plan.units_per_key
    (stream_state_due plan h port stream)) u
    ≡ is_keyless (lanes_at plan h port stream) u
unfolding stream_state_due
keyless_is plan h port stream u =
    let tx : SubKind → TxSub = λ u. tx_state_due plan h port (lane_out port stream u) in
    ap (λ (x : TxSub). is_none (lane_of x.posted (live_sender x.slots)).key) (at_each tx u) ∙ ap
    (λ (x : Lane). is_none x.key) (lane_is plan h port stream u (tx u).posted)

pub failed_is : (plan : Plan) (h : History) (port : PortName) (stream : ℕ)
    → (stream_state_due plan h port stream).failed ≡ has_failed h port stream
unfolding stream_state_due
failed_is plan h port stream = refl
