-- What stands for a history as an event of an operation comes: keys of acknowledged KEY_PROGs are kept, and the draw of
-- an unfinished operation was made.
use Rattle.join_keys.specs.Calls.{lane_sends}
use Rattle.join_keys.proofs.Terms.{◌≡◌, Bool, arith, true, SubKind, ℕ, List, Plan, nat_tests, Operation, place_at_end}
use Rattle.join_keys.proofs.Terms.{◌≤◌, ◌∙◌, makes_draw, Device, StreamState, ◌+◌, ap, KeyPlace, ◌<◌, Some, port_at}
use Rattle.join_keys.proofs.Terms.{slots_at, LaneSlot, key_of, ◌/◌, ◌%◌, length, option_map, work_of, StreamStage}
use Rattle.join_keys.proofs.Terms.{sub_from, lane_number, History, draws, moments, op_of, key_plan, slot_in_set}
use Rattle.join_keys.proofs.Terms.{LinkState, find, find_op, draws_now, PortsStandFor, key_in, draw_of_keyed, Touch}
use Rattle.join_keys.proofs.Terms.{keys, Shape, keys_of, Marks, key_cause}
use Rattle.spec_keys.proofs.Stages.{Rising}
use Rattle.spec_keys.proofs.Fits.{FitsAt}
use Rattle.law_keys.proofs.States.{in_state}
use Rattle.machine_operations.specs.Points.{key_held, point_lane}
use Rattle.machine_operations.proofs.Points.{points}
use Rattle.join_keys.proofs.Lanes.{lane_place, lane_slots, IsFull, first_program}
use Rattle.ide_types.specs.Lines.{is_hosted}
use Rattle.join_keys.proofs.Drawn.{draws_fit}

-- ---- the state of the operation

pub known_op : (plan : Plan) (st : LinkState) (h : History) → PortsStandFor plan st h
    → (line stream : ℕ) (q : StreamStage) → find_op plan st line stream ≡ Some q → op_of h line stream ≡ q
known_op plan st h stands line stream q found = let is = stands.ops_is line stream in grind arith

-- ---- a draw is kept after its KEY_PROG

pub kept_rising : (r k : Bool) (j a b n : ℕ) (u : Marks) (sh : Shape) → Rising r k j a b n u sh → a < n
    → draw_of_keyed (key_in (keys_of sh) k) ≡ Some j
kept_rising r k j a b n u sh rising lt = grind arith

lane_is : (line stream lane : ℕ) → lane < 6 → lane_number (lane_place line stream lane) ≡ lane
lane_is line stream lane lt = grind (arith, nat_tests)

-- a lane whose KEY_PROG was acknowledged before the event keeps the draw of the operation
kept_before : (q : StreamStage) (next top : ℕ) (line stream : ℕ) (sends : Bool) (u : SubKind) (ts : List Touch)
    (o : Operation)
    → is_hosted line ≡ true → FitsAt q top (place_at_end line stream sends Device u) ts
    → let w = work_of o q next in makes_draw w.operation ≡ true
    → first_program w.operation + lane_number (place_at_end line stream sends Device u) < w.first
    → draw_of_keyed (key_in (keys sends ts) w.set) ≡ Some w.draw
kept_before q next top line stream sends u ts o hosted at makes lt = grind (arith, kept_rising)

-- the draw of the operation is made as it begins, or was made before
drawn_before : (q : StreamStage) (next made top : ℕ) (p : KeyPlace) (ts : List Touch) (o : Operation)
    → FitsAt q made p ts → made ≤ top
    → let w = work_of o q next in (draws_now w ≡ true → next < top) → makes_draw w.operation ≡ true → w.draw < top
drawn_before q next made top p ts o at le now makes = grind arith

pub kept_is_full : (s : LaneSlot) (x : ℕ × List ℕ) → key_held s ≡ Some x → IsFull s
kept_is_full s x is = grind arith

module _ (plan : Plan) (st : LinkState) (h : History) (stands : PortsStandFor plan st h) (line id : ℕ) (q : StreamStage)
    (found : find_op plan st line id ≡ Some q) where
  place_fits : (lane : ℕ) → FitsAt q (draws h) (lane_place line id lane) (moments h (lane_place line id lane))
  place_fits lane = in_state (key_plan plan) h (key_cause plan h stands.ports_stand.cause) (lane_place line id lane) q
      (known_op plan st h stands line id q found)

  -- its slot at the device has a key
  pub ready_before : is_hosted line ≡ true → (o : Operation) (x : StreamState) → find plan st (port_at Device line) id
      ≡ Some x
      → let w = work_of o q st.draws in
      makes_draw w.operation ≡ true → (lane : ℕ) → lane < 6 → first_program w.operation + lane < w.first
      → IsFull (slot_in_set (lane_slots lane x) w.set)
  ready_before hosted o x at makes lane low lt =
      let w = work_of o q st.draws in
      let sends = lane_sends lane in
      let u = sub_from (lane % 3) in
      let there = point_lane Device line id sends u in
      let kept = kept_before q st.draws (draws h) line id sends u _ o hosted (place_fits lane) makes
      (omega (arith, lane_is line id lane low, lt)) in
      kept_is_full (slot_in_set (slots_at sends u x) w.set) (w.draw, key_of plan w.draw there)
      ((points plan st h stands).kept Device line id x at sends u w.set ∙ ap
      (option_map (λ (i : ℕ). (i, key_of plan i there))) kept)

  pub draw_below : (o : Operation) → let w = work_of o q st.draws in
      (draws_now w ≡ true → st.draws < length plan.pool / 6) → makes_draw w.operation ≡ true
      → w.draw < length plan.pool / 6
  draw_below o = drawn_before q st.draws (draws h) (length plan.pool / 6) _ _ o (place_fits 0)
      (draws_fit (key_plan plan) h (key_cause plan h stands.ports_stand.cause))
