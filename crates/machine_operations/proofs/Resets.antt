-- A reset leaves what stands for the history with it; the first state stands for the empty history. In both no place in
-- question has a key, and a stream without keys stands as the empty one: all its counts are 0, and it has not failed.
-- The rest is of lists: the rows of both ports and of the manager are filled anew, and those of other links stay; in
-- the first state all rows are such, by induction on the links.
use Rattle.machine_operations.proofs.Terms.{◌≡◌, ℕ, zero, suc, ◌+◌, ◌*◌, ◌==◌, Bool, true, false, Some, None, List}
use Rattle.machine_operations.proofs.Terms.{[], ◌∷◌, length, map, refl, ap, sym, ◌∙◌, subst, arith, if◌then◌else◌, ◌&&◌}
use Rattle.machine_operations.proofs.Terms.{◌||◌, is_some, slice_set, base, clears, Cpl, Device, draws_made, due}
use Rattle.machine_operations.proofs.Terms.{each_sub, no_stream, has_failed, failed_next, failed_there, fails_at, find}
use Rattle.machine_operations.proofs.Terms.{find_op, first_ports, FirstStands, found_by_id, get_or-set_other}
use Rattle.machine_operations.proofs.Terms.{get_or-set_same, got_in, has_live_in, has_live_out, History, Host, Idle}
use Rattle.machine_operations.proofs.Terms.{is_on, kept_all, Keys, keys, port_keys, keys_into, keys_out, lane_in}
use Rattle.machine_operations.proofs.Terms.{lane_out, LinkState, manager, moments, nat_tests, no_keys, Npr, StreamStage}
use Rattle.machine_operations.proofs.Terms.{op_at, op_of, Plan, port_at, port_place, PortName, StreamsAndPacketsStand}
use Rattle.machine_operations.proofs.Terms.{posted_count, posted_sum, Pr, Reset, reset_state, rx_slots, sealed_packets}
use Rattle.machine_operations.proofs.Terms.{sealed_same, sent_direction, Side, slice_index_or, stream_state_due}
use Rattle.machine_operations.proofs.Terms.{state_due_if_planned, PortsStandFor, stream_plan, streams_by_line}
use Rattle.machine_operations.proofs.Terms.{streams_of, StreamState, SubKind, total_in, tx_slots, units_since, with_id}
use Rattle.machine_operations.proofs.Terms.{within, place_in_sub_stream}
use Rattle.event_verdicts.specs.declared.verdict.Verdict.TheVariants as v
use Rattle.ide_types.specs.declared.stream.StreamPlan.{StreamPlan}
use Rattle.machine_operations.proofs.Worked.{Still, StillAt, untouched, still_stands, still_standing}
use Rattle.machine_ports.specs.Machine.{row_cleared, rows_cleared, all_rows_cleared, reset_op, all_ops_reset}
use Rattle.machine_ports.proofs.Puts.{place_is}
use Rattle.machine_ports.proofs.{same_port, seat_same}
use Rattle.machine_ports.specs.{is_same_port}
use Rattle.spec_keys.specs.Places.{is_cleared, is_line_reset, is_between_devices, is_same_side}
use Rattle.spec_keys.specs.Keys.{Clear}
use Rattle.spec_keys.specs.History.{touches_after, touches_if}
use Rattle.std.specs.List.{list_any}
use Rattle.std.specs.Prelude.{Option}

-- ---- a stream without keys

record NoKeys (plan : Plan) (h : History) (port : PortName) (stream : ℕ) : Type 0 where
  out : (u : SubKind) → port_keys h port (lane_out port stream u) ≡ no_keys
  into : (u : SubKind) → port_keys h port (lane_in port stream u) ≡ no_keys

abbrev any_on : Keys → Bool
any_on ks = is_on ks.first || is_on ks.second

and_none : (a : Bool) → (a && false) ≡ false
and_none a = grind arith

module _ (plan : Plan) (port : PortName) (stream : ℕ) where
  dead_out : (h : History) → NoKeys plan h port stream → has_live_out h port stream ≡ false
  unfolding has_live_out
  dead_out h none = λ i. any_on (none.out Pr i) || any_on (none.out Npr i) || any_on (none.out Cpl i)

  dead_in : (h : History) → NoKeys plan h port stream → has_live_in h port stream ≡ false
  unfolding has_live_in
  dead_in h none = λ i. any_on (none.into Pr i) || any_on (none.into Npr i) || any_on (none.into Cpl i)

  not_failed : (h : History) → NoKeys plan h port stream → has_failed h port stream ≡ false
  unfolding failed_there
  not_failed [] none = refl
  not_failed ((e, x) ∷ h) none =
      failed_next h e x port stream ∙
      (λ i. (fails_at port stream x || has_failed h port stream)
      && (dead_out ((e, x) ∷ h) none i || dead_in ((e, x) ∷ h) none i))
      ∙ and_none (fails_at port stream x || has_failed h port stream)

  empty_standing : (h : History) → NoKeys plan h port stream → stream_state_due plan h port stream ≡ no_stream
  unfolding stream_state_due
  empty_standing h none = λ i. record {
    tx = each_sub (λ u. let s = lane_out port stream u in
        record {
          slots = tx_slots plan (sealed_packets plan h) s (none.out u i);
          posted = if dead_out h none i then posted_count plan h s else 0;
          total = if dead_out h none i then total_in (sealed_packets plan h) s (base h port.line stream) else 0;
        });
    rx = each_sub (λ u. let s = lane_in port stream u in
        record {
          slots = rx_slots plan h port s (none.into u i);
          sum = if dead_in h none i then posted_sum (got_in plan h s) else 0;
          got = if dead_in h none i then length (got_in plan h s) else 0;
          total = if dead_in h none i then units_since h s (base h port.line stream) else 0;
        });
    failed = not_failed h none i;
  }

-- ---- after a reset

module _ (plan : Plan) (h : History) (l : ℕ) (ends : List PortName) (port : PortName)
    (here : is_cleared ends port.side port.line ≡ true)
    (stream : ℕ) where
  cleared_out : (u : SubKind) → port_keys ((Reset l ends, v.Reset l) ∷ h) port (lane_out port stream u) ≡ no_keys
  unfolding moments
  cleared_out u =
      keys_out ((Reset l ends, v.Reset l) ∷ h) port stream u
      ∙ rw here ((clears true
      (moments h (record { side = port.side; line = port.line; stream = stream; sends = true; sub = u }))).are)

  cleared_in : (u : SubKind) → port_keys ((Reset l ends, v.Reset l) ∷ h) port (lane_in port stream u) ≡ no_keys
  unfolding moments
  cleared_in u =
      keys_into ((Reset l ends, v.Reset l) ∷ h) port stream u
      ∙ rw here ((clears false
      (moments h (record { side = port.side; line = port.line; stream = stream; sends = false; sub = u }))).are)

  reset_standing : stream_state_due plan ((Reset l ends, v.Reset l) ∷ h) port stream ≡ no_stream
  reset_standing =
      empty_standing plan port stream ((Reset l ends, v.Reset l) ∷ h) (record { out = cleared_out; into = cleared_in })

-- ---- the lists

all_found : {A : Type 0} (ss : List StreamPlan) (id : ℕ) (x : A) → found_by_id ss (map (λ (s : StreamPlan). x) ss) id
    ≡ (if is_some (with_id ss id) then Some x else None)
all_found [] id x = refl
all_found (s ∷ ss) id x = let more = all_found ss id x in grind (arith, more)

not_found : {A : Type 0} (ss : List StreamPlan) (xs : List A) (id : ℕ) → is_some (with_id ss id) ≡ false
    → found_by_id ss xs id ≡ None
not_found [] xs id none = refl
not_found (s ∷ ss) [] id none = refl
not_found (s ∷ ss) (x ∷ xs) id none = let more = not_found ss xs id in grind (arith, more)

-- a row that is filled anew
filled : {A : Type 0} (ss : List StreamPlan) (rows : List (List A)) (i id : ℕ) (x : A)
    → (is_some (with_id ss id) ≡ true → is_some (found_by_id ss (slice_index_or rows i []) id) ≡ true)
    → found_by_id ss (slice_index_or (slice_set rows i (map (λ (s : StreamPlan). x) ss)) i []) id
    ≡ (if is_some (with_id ss id) then Some x else None)
filled {A} ss rows i id x there = by_known (is_some (with_id ss id)) refl
  where
    row : List A
    row = map (λ (s : StreamPlan). x) ss

    by_known : (b : Bool) → is_some (with_id ss id) ≡ b → found_by_id ss (slice_index_or (slice_set rows i row) i []) id
        ≡ (if b then Some x else None)
    by_known false none = not_found ss _ id none
    by_known true known = ap (λ (xs : List A). found_by_id ss xs id)
        (get_or-set_same rows i row [] (within ss rows i id (there known))) ∙ (all_found ss id x ∙ rw known refl)

-- ---- the ports after a reset

abbrev state_by_row : Plan → List (List StreamState) → PortName → ℕ → Option StreamState
state_by_row plan rows port t = found_by_id (streams_of plan port.line) (slice_index_or rows (port_place port) []) t

-- each planned stream has its state
abbrev Shaped : Plan → List (List StreamState) → Type 0
Shaped plan rows = (port : PortName) (t : ℕ) → is_some (with_id (streams_of plan port.line) t) ≡ true
    → is_some (state_by_row plan rows port t) ≡ true

abbrev blank : Plan → PortName → ℕ → Option StreamState
blank plan port t = if is_some (with_id (streams_of plan port.line) t) then Some no_stream else None

row_seen : (plan : Plan) (rows : List (List StreamState)) (e : PortName) → Shaped plan rows → (port : PortName) (t : ℕ)
    → state_by_row plan (row_cleared plan e rows) port t
    ≡ (if is_same_port e port then blank plan port t else state_by_row plan rows port t)
row_seen plan rows e shaped port t = by (is_same_port e port) refl
  where
    row : List StreamState
    row = map (λ (s : StreamPlan). no_stream) (streams_of plan e.line)

    by : (b : Bool) → is_same_port e port ≡ b → state_by_row plan (row_cleared plan e rows) port t
        ≡ (if b then blank plan port t else state_by_row plan rows port t)
    by true same = subst (λ (q : PortName). state_by_row plan (row_cleared plan e rows) q t ≡ blank plan q t)
        (same_port e port same) (filled (streams_of plan e.line) rows (port_place e) t no_stream (shaped e t))
    by false other = ap (λ (xs : List StreamState). found_by_id (streams_of plan port.line) xs t)
        (get_or-set_other rows (port_place e) (port_place port) row []
        (λ same. absurd (let is = place_is e port (sym same) in cc)))

if_shaped : (b : Bool) (known : Bool) (o : Option StreamState) → known ≡ true → is_some o ≡ true
    → is_some (if b then (if known then Some no_stream else None) else o) ≡ true
if_shaped b known o is there = grind arith

row_shaped : (plan : Plan) (rows : List (List StreamState)) (e : PortName) → Shaped plan rows
    → Shaped plan (row_cleared plan e rows)
row_shaped plan rows e shaped port t known = ap is_some (row_seen plan rows e shaped port t)
    ∙ if_shaped (is_same_port e port) _ (state_by_row plan rows port t) known (shaped port t known)

-- the end is cleared for this one's sake
abbrev hits : PortName → PortName → Bool
hits e port = if is_between_devices port.line then is_same_side e.side port.side && (e.line == port.line)
    else e.line == port.line

hits_end : (e port : PortName) → is_between_devices e.line ≡ true → is_same_port e port ≡ hits e port
hits_end e port peer = by (e.line == port.line) refl
  where
    by : (b : Bool) → (e.line == port.line) ≡ b → (is_same_side e.side port.side && b) ≡
        (if is_between_devices port.line then is_same_side e.side port.side && b else b)
    by true same =
        let line : e.line ≡ port.line = grind (arith, nat_tests) in
        let there : is_between_devices port.line ≡ true = subst (λ (n : ℕ). is_between_devices n ≡ true) line peer in
        rw there refl
    by false other = none (is_same_side e.side port.side) (is_between_devices port.line)
      where
        none : (a p : Bool) → (a && false) ≡ (if p then a && false else false)
        none a p = grind arith

hits_line : (e port : PortName) → is_between_devices e.line ≡ false → (e.line == port.line) ≡ hits e port
hits_line e port line = by (e.line == port.line) refl
  where
    by : (b : Bool) → (e.line == port.line) ≡ b
        → b ≡ (if is_between_devices port.line then is_same_side e.side port.side && b else b)
    by true same =
        let one : e.line ≡ port.line = grind (arith, nat_tests) in
        let there : is_between_devices port.line ≡ false = subst (λ (n : ℕ). is_between_devices n ≡ false) one line in
        rw there refl
    by false other = none (is_same_side e.side port.side) (is_between_devices port.line)
      where
        none : (a p : Bool) → false ≡ (if p then a && false else false)
        none a p = grind arith

rows_shaped : (plan : Plan) (rows : List (List StreamState)) (e : PortName) → Shaped plan rows
    → Shaped plan (rows_cleared plan e rows)
rows_shaped plan rows e shaped = by (is_between_devices e.line)
  where
    by : (peer : Bool) → Shaped plan (if peer then row_cleared plan e rows
        else row_cleared plan (port_at Device e.line) (row_cleared plan (port_at Host e.line) rows))
    by true port t known = row_shaped plan rows e shaped port t known
    by false port t known = row_shaped plan (row_cleared plan (port_at Host e.line) rows) (port_at Device e.line)
        (row_shaped plan rows (port_at Host e.line) shaped) port t known

one_of_two : (side : Side) (line : Bool) (x y : Option StreamState)
    → (if (sent_direction Device == sent_direction side) && line then x
    else if (sent_direction Host == sent_direction side) && line then x else y) ≡ (if line then x else y)
one_of_two side line x y = grind arith

rows_seen : (plan : Plan) (rows : List (List StreamState)) (e : PortName) → Shaped plan rows → (port : PortName) (t : ℕ)
    → state_by_row plan (rows_cleared plan e rows) port t
    ≡ (if hits e port then blank plan port t else state_by_row plan rows port t)
rows_seen plan rows e shaped port t = by (is_between_devices e.line) refl
  where
    by : (peer : Bool) → is_between_devices e.line ≡ peer → state_by_row plan (if peer then row_cleared plan e rows
        else row_cleared plan (port_at Device e.line) (row_cleared plan (port_at Host e.line) rows)) port t
        ≡ (if hits e port then blank plan port t else state_by_row plan rows port t)
    by true peer = row_seen plan rows e shaped port t
        ∙ ap (λ (b : Bool). if b then blank plan port t else state_by_row plan rows port t) (hits_end e port peer)
    by false line =
        row_seen plan (row_cleared plan (port_at Host e.line) rows) (port_at Device e.line)
        (row_shaped plan rows (port_at Host e.line) shaped) port t
        ∙ (ap (λ (o : Option StreamState). if is_same_port (port_at Device e.line) port then blank plan port t else o)
        (row_seen plan rows (port_at Host e.line) shaped port t)
        ∙ (one_of_two port.side (e.line == port.line) (blank plan port t) (state_by_row plan rows port t)
        ∙ ap (λ (b : Bool). if b then blank plan port t else state_by_row plan rows port t) (hits_line e port line)))

none_cleared : (side : Side) (line : ℕ) → is_cleared [] side line ≡ false
none_cleared side line = by (is_between_devices line)
  where
    by : (peer : Bool) → (if peer then false else false) ≡ false
    by true = refl
    by false = refl

more_cleared : (e : PortName) (es : List PortName) (port : PortName)
    → (hits e port || is_cleared es port.side port.line) ≡ is_cleared (e ∷ es) port.side port.line
more_cleared e es port = by (is_between_devices port.line)
  where
    by : (peer : Bool) → ((if peer then is_same_side e.side port.side && (e.line == port.line) else e.line == port.line)
        || (if peer then list_any (λ d. is_same_side d.side port.side && (d.line == port.line)) es
        else is_line_reset es port.line))
        ≡ (if peer then list_any (λ d. is_same_side d.side port.side && (d.line == port.line)) (e ∷ es)
        else is_line_reset (e ∷ es) port.line)
    by true = refl
    by false = refl

either : {A : Type 0} (a b : Bool) (x y : A) → (if b then x else if a then x else y) ≡ (if a || b then x else y)
either a b x y = grind arith

all_seen : (plan : Plan) (ends : List PortName) (rows : List (List StreamState)) → Shaped plan rows → (port : PortName)
    (t : ℕ) → state_by_row plan (all_rows_cleared plan ends rows) port t
    ≡ (if is_cleared ends port.side port.line then blank plan port t else state_by_row plan rows port t)
all_seen plan [] rows shaped port t = sym
    (ap (λ (b : Bool). if b then blank plan port t else state_by_row plan rows port t)
    (none_cleared port.side port.line))
all_seen plan (e ∷ es) rows shaped port t =
    all_seen plan es (rows_cleared plan e rows) (rows_shaped plan rows e shaped) port t
    ∙ (ap (λ (o : Option StreamState). if is_cleared es port.side port.line then blank plan port t else o)
    (rows_seen plan rows e shaped port t)
    ∙ (either (hits e port) (is_cleared es port.side port.line) (blank plan port t) (state_by_row plan rows port t)
    ∙ ap (λ (b : Bool). if b then blank plan port t else state_by_row plan rows port t) (more_cleared e es port)))

-- what a reset does not clear stays
not_reset : (plan : Plan) (h : History) (l : ℕ) (ends : List PortName) (port : PortName)
    → is_cleared ends port.side port.line ≡ false → StillAt plan h (Reset l ends) (v.Reset l) port
unfolding moments base
not_reset plan h l ends port none = record {
  quiet = refl;
  keys = λ s here. seat_same plan ((Reset l ends, v.Reset l) ∷ h) h port s
      (λ sends. ap (λ (b : Bool). touches_after (moments h (place_in_sub_stream port s sends)) (touches_if b Clear))
      (ap (is_cleared ends port.side) here ∙ none));
  based = λ stream. refl;
}

reset_streams : (plan : Plan) (st : LinkState) (h : History) (l : ℕ) (ends : List PortName)
    → StreamsAndPacketsStand plan st h → (port : PortName) (t : ℕ)
    → find plan (reset_state plan st ends) port t ≡ state_due_if_planned plan ((Reset l ends, v.Reset l) ∷ h) port t
unfolding find stream_plan
reset_streams plan st h l ends stands port t =
    all_seen plan ends st.ports shaped port t ∙ by (is_cleared ends port.side port.line) refl
  where
    shaped : Shaped plan st.ports
    shaped q n known = ap is_some (stands.streams q n) ∙ rw known refl

    by : (b : Bool) → is_cleared ends port.side port.line ≡ b
        → (if b then blank plan port t else state_by_row plan st.ports port t)
        ≡ (if is_some (with_id (streams_of plan port.line) t)
        then Some (stream_state_due plan ((Reset l ends, v.Reset l) ∷ h) port t) else None)
    by true here = ap
        (λ (x : StreamState). if is_some (with_id (streams_of plan port.line) t) then Some x else None)
        (sym (reset_standing plan h l ends port here t))
    by false none = stands.streams port t
        ∙ ap (λ (x : StreamState). if is_some (with_id (streams_of plan port.line) t) then Some x else None)
        (sym (still_standing plan h (Reset l ends) (v.Reset l) port (not_reset plan h l ends port none) t))

-- ---- the manager after a reset

abbrev seen_op : Plan → List (List StreamStage) → ℕ → ℕ → Option StreamStage
seen_op plan rows line s = found_by_id (streams_of plan line) (slice_index_or rows line []) s

abbrev ShapedOps : Plan → List (List StreamStage) → Type 0
ShapedOps plan rows = (line s : ℕ) → is_some (with_id (streams_of plan line) s) ≡ true
    → is_some (seen_op plan rows line s) ≡ true

abbrev cut_op : Plan → ℕ → ℕ → Option StreamStage
cut_op plan line s = if is_some (with_id (streams_of plan line) s) then Some (reset_op line) else None

abbrev row_cut : Plan → ℕ → List (List StreamStage) → List (List StreamStage)
row_cut plan line rows = slice_set rows line (map (λ (s : StreamPlan). reset_op line) (streams_of plan line))

op_seen : (plan : Plan) (rows : List (List StreamStage)) (l : ℕ) → ShapedOps plan rows → (line s : ℕ)
    → seen_op plan (row_cut plan l rows) line s ≡ (if l == line then cut_op plan line s else seen_op plan rows line s)
op_seen plan rows l shaped line s = by (l == line) refl
  where
    by : (b : Bool) → (l == line) ≡ b → seen_op plan (row_cut plan l rows) line s
        ≡ (if b then cut_op plan line s else seen_op plan rows line s)
    by true same =
        let one : l ≡ line = grind (arith, nat_tests) in
        subst (λ (n : ℕ). seen_op plan (row_cut plan l rows) n s ≡ cut_op plan n s) one
        (filled (streams_of plan l) rows l s (reset_op l) (shaped l s))
    by false other = ap (λ (xs : List StreamStage). found_by_id (streams_of plan line) xs s)
        (get_or-set_other rows l line (map (λ (x : StreamPlan). reset_op l) (streams_of plan l)) []
        (λ same. grind (arith, nat_tests)))

if_shaped_op : (b known : Bool) (q : StreamStage) (o : Option StreamStage) → known ≡ true → is_some o ≡ true
    → is_some (if b then (if known then Some q else None) else o) ≡ true
if_shaped_op b known q o is there = grind arith

ops_shaped : (plan : Plan) (rows : List (List StreamStage)) (l : ℕ) → ShapedOps plan rows
    → ShapedOps plan (row_cut plan l rows)
ops_shaped plan rows l shaped line s known = ap is_some (op_seen plan rows l shaped line s)
    ∙ if_shaped_op (l == line) _ (reset_op line) (seen_op plan rows line s) known (shaped line s known)

ops_seen : (plan : Plan) (ends : List PortName) (rows : List (List StreamStage)) → ShapedOps plan rows → (line s : ℕ)
    → seen_op plan (all_ops_reset plan ends rows) line s
    ≡ (if is_line_reset ends line then cut_op plan line s else seen_op plan rows line s)
ops_seen plan [] rows shaped line s = refl
ops_seen plan (e ∷ es) rows shaped line s =
    ops_seen plan es (row_cut plan e.line rows) (ops_shaped plan rows e.line shaped) line s
    ∙ (ap (λ (o : Option StreamStage). if is_line_reset es line then cut_op plan line s else o)
    (op_seen plan rows e.line shaped line s)
    ∙ either (e.line == line) (is_line_reset es line) (cut_op plan line s) (seen_op plan rows line s))

if_known : (cut known : Bool) (q o : StreamStage) → (if cut then (if known then Some q else None)
    else if known then Some o else None) ≡ (if known then Some (if cut then q else o) else None)
if_known cut known q o = grind arith

reset_ops : (plan : Plan) (st : LinkState) (h : History) (l : ℕ) (ends : List PortName) → PortsStandFor plan st h
    → (a s : ℕ) → find_op plan (reset_state plan st ends) a s ≡ op_at plan ((Reset l ends, v.Reset l) ∷ h) a s
unfolding find_op stream_plan manager
reset_ops plan st h l ends stands a s =
    ops_seen plan ends st.ops (λ line n known. ap is_some (stands.ops_is line n) ∙ rw known refl) a s
    ∙ (ap (λ (o : Option StreamStage). if is_line_reset ends a then cut_op plan a s else o) (stands.ops_is a s)
    ∙ if_known (is_line_reset ends a) (is_some (with_id (streams_of plan a) s)) (reset_op a) (op_of h a s))

reset_draws : (h : History) (l : ℕ) (ends : List PortName) → draws_made h ≡ draws_made ((Reset l ends, v.Reset l) ∷ h)
unfolding manager
reset_draws h l ends = refl

pub reset_stands : (plan : Plan) (st : LinkState) (h : History) (l : ℕ) (ends : List PortName)
    → PortsStandFor plan st h → v.Reset l
    ≡ due plan h (Reset l ends) → PortsStandFor plan (reset_state plan st ends) ((Reset l ends, v.Reset l) ∷ h)
reset_stands plan st h l ends stands is = record {
  ports_stand = record {
    cause = (is, stands.ports_stand.cause);
    streams = reset_streams plan st h l ends stands.ports_stand;
    packets = stands.ports_stand.packets ∙ ap kept_all (sym (sealed_same plan h (Reset l ends) (v.Reset l) refl));
  };
  ops_is = reset_ops plan st h l ends stands;
  draws_is = stands.draws_is ∙ reset_draws h l ends;
}

-- a link that the plan does not have
reset_still : (plan : Plan) (h : History) (l : ℕ) (ends : List PortName) → Still plan h (Reset l ends) v.Nothing
unfolding base
reset_still plan h l ends = record
    { quiet = refl; keys = untouched plan h (Reset l ends) v.Nothing (λ p. refl); based = λ a s. refl }

pub reset_nothing : (plan : Plan) (st : LinkState) (h : History) (l : ℕ) (ends : List PortName)
    → PortsStandFor plan st h → v.Nothing
    ≡ due plan h (Reset l ends) → PortsStandFor plan st ((Reset l ends, v.Nothing) ∷ h)
unfolding manager
reset_nothing plan st h l ends stands is = record {
  ports_stand = still_stands plan st h (Reset l ends) v.Nothing stands.ports_stand is (reset_still plan h l ends);
  ops_is = stands.ops_is;
  draws_is = stands.draws_is;
}

-- ---- the first state

no_keys_first : (plan : Plan) (port : PortName) (stream : ℕ) → NoKeys plan [] port stream
unfolding moments keys
no_keys_first plan port stream = record { out = λ u. keys_out [] port stream u; into = λ u. keys_into [] port stream u }

ports_first : (links : List (List StreamPlan)) (link : ℕ) (side : Side)
    → slice_index_or (first_ports links) (2 * link + sent_direction side) []
    ≡ map (λ (s : StreamPlan). no_stream) (slice_index_or links link [])
ports_first [] link side = refl
ports_first (ss ∷ links) zero Host = refl
ports_first (ss ∷ links) zero Device = refl
ports_first (ss ∷ links) (suc link) side =
    let place : 2 * suc link + sent_direction side ≡ suc (suc (2 * link + sent_direction side)) = omega arith in rw
    place (ports_first links link side)

ops_first : (links : List (List StreamPlan)) (link : ℕ) → slice_index_or (map (map (λ (s : StreamPlan). Idle)) links)
    link [] ≡ map (λ (s : StreamPlan). Idle) (slice_index_or links link [])
ops_first [] link = refl
ops_first (ss ∷ links) zero = refl
ops_first (ss ∷ links) (suc link) = ops_first links link

pub begins : FirstStands
unfolding find find_op stream_plan sealed_packets manager
begins plan = record {
  ports_stand = record {
    cause = tt;
    streams = λ port stream.
        ap (λ (xs : List StreamState). found_by_id (streams_of plan port.line) xs stream)
        (ports_first (streams_by_line plan) port.line port.side)
        ∙ (all_found (streams_of plan port.line) stream no_stream
        ∙ ap (λ (x : StreamState). if is_some (with_id (streams_of plan port.line) stream) then Some x else None)
        (sym (empty_standing plan port stream [] (no_keys_first plan port stream))));
    packets = refl;
  };
  ops_is = λ l s. ap (λ (xs : List StreamStage). found_by_id (streams_of plan l) xs s)
      (ops_first (streams_by_line plan) l) ∙
      all_found
      (streams_of plan l) s Idle;
  draws_is = refl;
}
