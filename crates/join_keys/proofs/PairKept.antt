-- What stands for a history as an event of an operation comes on a line that is keyed by messages at both ends.
use Rattle.ide_types.specs.Lines.{is_hosted}
use Rattle.spec_keys.specs.Places.{KeyPlace, is_host, lane as lane_number}
use Rattle.spec_keys.specs.History.{program_exchange, program_number}
use Rattle.spec_keys.specs.Operations.{Establishing, Refreshing}
use Rattle.join_keys.specs.Calls.{lane_sends, lane_key, key_number}
use Rattle.join_keys.specs.Paired.{HasPairKeys, PairKeysKeptIn}
use Rattle.join_keys.proofs.Terms.{◌≡◌, Bool, arith, true, false, ℕ, List, Plan, Operation, ◌≤◌, ◌∙◌, makes_draw, Side}
use Rattle.join_keys.proofs.Terms.{Host, Device, StreamState, ap, ◌<◌, Some, port_at, slots_at, key_of, ◌%◌, option_map}
use Rattle.join_keys.proofs.Terms.{work_of, StreamStage, sub_from, History, draws, moments, key_plan, slot_in_set}
use Rattle.join_keys.proofs.Terms.{LinkState, find, find_op, PortsStandFor, key_in, draw_of_keyed, Touch, keys}
use Rattle.join_keys.proofs.Terms.{key_cause, six_keys, StreamView, begun_stream, asked_of_unfinished}
use Rattle.join_keys.proofs.Terms.{kept_key, last_exchange_of, IsAsked, refl, WireKeys}
use Rattle.key_host.specs.Exchanges.{wire_keys, wire_number}
use Rattle.event_verdicts.specs.declared.verdict.Operation.TheVariants as op
use Rattle.spec_keys.proofs.Fits.{FitsAt}
use Rattle.law_keys.proofs.States.{in_state}
use Rattle.machine_operations.specs.Points.{point_lane}
use Rattle.machine_operations.proofs.Points.{points}
use Rattle.join_keys.proofs.Lanes.{by_lane, lane_slots, IsFull}
use Rattle.join_keys.proofs.Kept.{known_op, kept_rising, kept_is_full}
use Rattle.join_keys.proofs.PairTurns.{pair_place, put_at}

-- ---- the operation that is asked

pub first_within : (plan : Plan) (o : Operation) (q : StreamStage) (next : ℕ) (keys : WireKeys)
    → PairKeysKeptIn plan q keys
    → let w = work_of o q next in (1 ≤ w.first) × (w.first ≤ last_exchange_of false w.operation)
first_within plan o q next keys kept = grind arith

pub is_asked : (plan : Plan) (q : StreamStage) (keys : WireKeys) → PairKeysKeptIn plan q keys
    → IsAsked false (asked_of_unfinished q)
is_asked plan q keys kept = grind arith

-- the keys of a draw at both ends
drawn_keys : (plan : Plan) (draw next : ℕ) → HasPairKeys plan draw next (wire_keys false (six_keys plan.pool draw))
drawn_keys plan draw next Host lane lt le = by_lane
    (λ l. kept_key (wire_keys false (six_keys plan.pool draw)) (wire_number false Host l)
    ≡ Some (lane_key plan draw (key_number Host l))) refl refl refl refl refl refl lane lt
drawn_keys plan draw next Device lane lt le = by_lane
    (λ l. kept_key (wire_keys false (six_keys plan.pool draw)) (wire_number false Device l)
    ≡ Some (lane_key plan draw (key_number Device l))) refl refl refl refl refl refl lane lt

pub begun_keys : (plan : Plan) (o : Operation) (q : StreamStage) (next : ℕ) (s : StreamView)
    → PairKeysKeptIn plan q s.keys → let w = work_of o q next in
    makes_draw w.operation ≡ true → HasPairKeys plan w.draw w.first
    (begun_stream false w (record { keys = plan.pool; draws = next }) s).keys
begun_keys plan o q next s kept makes side lane lt le = grind (arith, drawn_keys plan next 1 side lane lt)

-- ---- a draw is kept after its KEY_PROG

number_least : (near : Bool) (o : Operation) (l : ℕ) → 1 ≤ program_number false near o l
number_least near o l = grind arith

program_least : (o : Operation) (p : KeyPlace) → is_hosted p.line ≡ false → 1 ≤ program_exchange o p
program_least o p line = rw line (number_least (is_host p.side) o _)

-- a place whose KEY_PROG was acknowledged before the event keeps the draw of the operation
kept_before : (q : StreamStage) (next top : ℕ) (p : KeyPlace) (ts : List Touch) (o : Operation) → is_hosted p.line
    ≡ false
    → FitsAt q top p ts
    → let w = work_of o q next in makes_draw w.operation ≡ true → program_exchange w.operation p < w.first
    → draw_of_keyed (key_in (keys p.sends ts) w.set) ≡ Some w.draw
kept_before (Establishing j n) next top p ts op.Establish line at makes lt =
    rw at.is.are (kept_rising _ _ _ _ _ _ _ at.shape at.fits.2 lt)
kept_before (Refreshing k j n) next top p ts op.Refresh line at makes lt =
    rw at.is.are (kept_rising _ _ _ _ _ _ _ at.shape at.fits.3 lt)
kept_before q next top p ts op.Stop line at makes lt = absurd (grind arith)
kept_before q next top p ts op.Establish line at makes lt =
    absurd (let least = program_least op.Establish p line in grind arith)
kept_before q next top p ts op.Refresh line at makes lt =
    absurd (let least = program_least op.Refresh p line in grind arith)

lane_is : (line stream : ℕ) (side : Side) (lane : ℕ) → lane < 6 → lane_number (pair_place line stream side lane) ≡ lane
lane_is line stream side lane lt = by_lane (λ l. lane_number (pair_place line stream side l) ≡ l) refl refl refl refl
    refl
    refl lane lt

number_is : (side : Side) (o : Operation) (l : ℕ) → program_number false (is_host side) o l ≡ put_at side l
number_is Host o l = refl
number_is Device o l = refl

put_is : (o : Operation) (line stream : ℕ) (side : Side) (lane : ℕ) → is_hosted line ≡ false → lane < 6
    → program_exchange o (pair_place line stream side lane) ≡ put_at side lane
put_is o line stream side lane kind lt =
    (λ i. program_number (kind i) (is_host side) o (lane_is line stream side lane lt i)) ∙ number_is side o lane

module _ (plan : Plan) (st : LinkState) (h : History) (stands : PortsStandFor plan st h) (line id : ℕ) (q : StreamStage)
    (found : find_op plan st line id ≡ Some q) where
  place_fits : (side : Side) (lane : ℕ) → FitsAt q (draws h) (pair_place line id side lane)
      (moments h (pair_place line id side lane))
  place_fits side lane = in_state (key_plan plan) h (key_cause plan h stands.ports_stand.cause)
      (pair_place line id side lane) q (known_op plan st h stands line id q found)

  -- its slot at the end has a key
  pub ready_before : is_hosted line ≡ false → (o : Operation) (side : Side) (x : StreamState)
      → find plan st (port_at side line) id ≡ Some x
      → let w = work_of o q st.draws in
      makes_draw w.operation ≡ true → (lane : ℕ) → lane < 6 → put_at side lane < w.first
      → IsFull (slot_in_set (lane_slots lane x) w.set)
  ready_before kind o side x at makes lane low lt =
      let w = work_of o q st.draws in
      let sends = lane_sends lane in
      let u = sub_from (lane % 3) in
      let there = point_lane side line id sends u in
      let kept = kept_before q st.draws (draws h) (pair_place line id side lane) _ o kind (place_fits side lane) makes
      (omega (arith, put_is w.operation line id side lane kind low, lt)) in
      kept_is_full (slot_in_set (slots_at sends u x) w.set) (w.draw, key_of plan w.draw there)
      ((points plan st h stands).kept side line id x at sends u w.set ∙ ap
      (option_map (λ (i : ℕ). (i, key_of plan i there))) kept)
