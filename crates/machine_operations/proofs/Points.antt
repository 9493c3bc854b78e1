-- What the slots and the manager's state of a stream say of its keys.
use Rattle.machine_operations.proofs.Terms.{◌≡◌, ℕ, Bool, true, false, Some, List, option_map, ap, sym, ◌∙◌, arith}
use Rattle.machine_operations.proofs.Terms.{op_at, at_each, place_at_end, find, find_op, History, Idle, kept_draw}
use Rattle.machine_operations.proofs.Terms.{draw_of_keyed, kept_is, key_cause, key_in, key_of, key_plan, Keys}
use Rattle.machine_operations.proofs.Terms.{port_keys, keys_into, keys_out, lane_in, lane_out, LinkState, StreamStage}
use Rattle.machine_operations.proofs.Terms.{op_of, Plan, port_at, PortName, rx_slots, rx_state_due, RxSub}
use Rattle.machine_operations.proofs.Terms.{sealed_packets, SealedList, Side, slot_in_set, slots_at, stream_state_due}
use Rattle.machine_operations.proofs.Terms.{PortsStandFor, StreamState, SubKind, SubStream, tx_slots, tx_state_due}
use Rattle.machine_operations.proofs.Terms.{TxSub}
use Rattle.spec_keys.specs.Laws.{KeysFollowOperations}
use Rattle.law_keys.proofs.States.{keys_follow_operations}
use Rattle.machine_operations.specs.Points.{PointsStand, key_held, point_lane}

-- ---- one slot

abbrev named_key : Plan → SubStream → ℕ → ℕ × List ℕ
named_key plan s j = (j, key_of plan j s)

tx_set : (plan : Plan) (xs : SealedList) (s : SubStream) (keys : Keys) (k : Bool)
    → key_held (slot_in_set (tx_slots plan xs s keys) k) ≡ option_map (named_key plan s) (draw_of_keyed (key_in keys k))
tx_set plan xs s keys k = grind arith

rx_set : (plan : Plan) (h : History) (port : PortName) (s : SubStream) (keys : Keys) (k : Bool)
    → key_held (slot_in_set (rx_slots plan h port s keys) k)
    ≡ option_map (named_key plan s) (draw_of_keyed (key_in keys k))
rx_set plan h port s keys k = grind arith

-- ---- the slots of a stream that stands for the history

standing_kept : (plan : Plan) (h : History) (side : Side) (line stream : ℕ) (sends : Bool) (u : SubKind) (k : Bool)
    → key_held (slot_in_set (slots_at sends u (stream_state_due plan h (port_at side line) stream)) k)
    ≡ option_map (named_key plan (point_lane side line stream sends u))
    (kept_draw h (place_at_end line stream sends side u) k)
unfolding stream_state_due
standing_kept plan h side line stream true u k =
    let port = port_at side line in
    let s = lane_out port stream u in
    ap (λ (x : TxSub). key_held (slot_in_set x.slots k))
    (at_each (λ u. tx_state_due plan h port (lane_out port stream u)) u)
    ∙ (tx_set plan (sealed_packets plan h) s (port_keys h port s) k ∙ ap
    (λ (ks : Keys). option_map (named_key plan s) (draw_of_keyed (key_in ks k))) (keys_out h port stream u))
standing_kept plan h side line stream false u k =
    let port = port_at side line in
    let s = lane_in port stream u in
    ap (λ (x : RxSub). key_held (slot_in_set x.slots k))
    (at_each (λ u. rx_state_due plan h port (lane_in port stream u)) u)
    ∙ (rx_set plan h port s (port_keys h port s) k ∙ ap
    (λ (ks : Keys). option_map (named_key plan s) (draw_of_keyed (key_in ks k)))
    (keys_into h port stream u))

kept : (plan : Plan) (st : LinkState) (h : History) → PortsStandFor plan st h
    → (side : Side) (line stream : ℕ) (x : StreamState) → find plan st (port_at side line) stream ≡ Some x
    → (sends : Bool) (u : SubKind) (k : Bool)
    → key_held (slot_in_set (slots_at sends u x) k) ≡ option_map (named_key plan (point_lane side line stream sends u))
    (kept_draw h (place_at_end line stream sends side u) k)
kept plan st h stands side line stream x found sends u k =
    let is = kept_is plan st h (port_at side line) stream x stands.ports_stand found in
    ap (λ (y : StreamState). key_held (slot_in_set (slots_at sends u y) k)) is.same ∙ standing_kept plan h side line
    stream
    sends u k

-- the manager's state is that of the history
op_is : (plan : Plan) (st : LinkState) (h : History) → PortsStandFor plan st h → (line stream : ℕ) (o : StreamStage)
    → find_op plan st line stream ≡ Some o → op_of h line stream ≡ o
op_is plan st h stands line stream o found = let is : op_at plan h line stream
    ≡ Some o = sym (stands.ops_is line stream) ∙ found in grind arith

facts_of : (plan : Plan) (st : LinkState) (h : History) → PortsStandFor plan st h → KeysFollowOperations h
facts_of plan st h stands = keys_follow_operations (key_plan plan) h (key_cause plan h stands.ports_stand.cause)

pub points : PointsStand
points plan st h stands = record {
  kept = λ side line stream x found sends u k. kept plan st h stands side line stream x found sends u k;
  idle = λ line stream found side x at sends u k.
      kept plan st h stands side line stream x at sends u k
      ∙ ap (option_map (named_key plan (point_lane side line stream sends u)))
      ((facts_of plan st h stands).idle (place_at_end line stream sends side u)
      (op_is plan st h stands line stream Idle found) k);
  establishing = λ line stream j n found side sends u. (facts_of plan st h stands).establishing
      (place_at_end line stream sends side u) j n (op_is plan st h stands line stream _ found);
  refreshing = λ line stream k j n found side sends u. (facts_of plan st h stands).refreshing
      (place_at_end line stream sends side u) k j n (op_is plan st h stands line stream _ found);
}
