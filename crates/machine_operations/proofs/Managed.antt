-- The manager's operations and the number of draws stand for the history.
use Rattle.ide_types.specs.Lines.{is_hosted}
use Rattle.machine_operations.proofs.Terms.{◌≡◌, ℕ, ◌+◌, ◌==◌, Bool, true, false, Option, Some, None, List, [], ◌∷◌}
use Rattle.machine_operations.proofs.Terms.{length, refl, ap, sym, ◌∙◌, subst, arith, if◌then◌else◌, ◌&&◌, is_some}
use Rattle.machine_operations.proofs.Terms.{slice_set, Begun, changed_by_id, Device, draws_after, draws_made}
use Rattle.machine_operations.proofs.Terms.{place_at_end, find, touches_at, find_op, found_by_id, get_or-set_other}
use Rattle.machine_operations.proofs.Terms.{History, Host, LinkState, makes_draw, manager, nat_tests, StreamStage}
use Rattle.machine_operations.proofs.Terms.{Touch, touched_at, touched_found, touched_state, op_after_reach, op_at}
use Rattle.machine_operations.proofs.Terms.{op_of, Operation, Plan, port_at, PortName, ports_of, with_stream_state}
use Rattle.machine_operations.proofs.Terms.{put_beside, put_op, put_same, Reach, Side, slice_index_or, stream_plan}
use Rattle.machine_operations.proofs.Terms.{streams_of, StreamState, SubKind, Work, work_done, work_of}
use Rattle.spec_keys.specs.Operations.{manager_after_operation}

-- ---- one operation is put, and no other

find_op-put : (plan : Plan) (st : LinkState) (line stream : ℕ) (o : StreamStage)
    → is_some (find_op plan st line stream) ≡ true → find_op plan (put_op plan st line stream o) line stream ≡ Some o
unfolding find_op put_op
find_op-put plan st line stream o is = put_same (streams_of plan line) st.ops line stream o is

find_op-put_other : (plan : Plan) (st : LinkState) (line stream : ℕ) (o : StreamStage) (l s : ℕ)
    → ((l == line) && (s == stream)) ≡ false → find_op plan (put_op plan st line stream o) l s ≡ find_op plan st l s
unfolding find_op put_op
find_op-put_other plan st line stream o l s other = by_link (l == line) refl
  where
    new : List (List StreamStage)
    new = slice_set st.ops line (changed_by_id (streams_of plan line) (slice_index_or st.ops line []) stream o)

    by_link : (b : Bool) → (l == line) ≡ b → found_by_id (streams_of plan l) (slice_index_or new l []) s
        ≡ found_by_id (streams_of plan l) (slice_index_or st.ops l []) s
    by_link false e = ap (λ (zs : List StreamStage). found_by_id (streams_of plan l) zs s)
        (get_or-set_other st.ops line l _ [] (λ same. grind (arith, nat_tests)))
    by_link true e =
        let same : line ≡ l = grind (arith, nat_tests) in
        subst (λ (n : ℕ). found_by_id (streams_of plan n) (slice_index_or new n []) s
        ≡ found_by_id (streams_of plan n) (slice_index_or st.ops n []) s) same
        (put_beside (streams_of plan line) st.ops line stream s o (grind (arith, nat_tests)))

-- ---- the touches of slots leave them

found_ops : (plan : Plan) (st : LinkState) (port : PortName) (stream : ℕ) (out into : SubKind → List Touch)
    (x : Option StreamState) → (touched_found plan st port stream out into x).ops ≡ st.ops
unfolding with_stream_state
found_ops plan st port stream out into None = refl
found_ops plan st port stream out into (Some x) = refl

touched_ops : (plan : Plan) (st : LinkState) (line stream : ℕ) (out into : Side → SubKind → List Touch)
    → (touched_state plan st line stream out into).ops ≡ st.ops
touched_ops plan st line stream out into =
    let first = touched_at plan st line stream out into Host in
    found_ops plan first (port_at Device line) stream (out Device) (into Device)
    (find plan first (port_at Device line) stream)
    ∙ found_ops plan st (port_at Host line) stream (out Host) (into Host) (find plan st (port_at Host line) stream)

same_ops : (plan : Plan) (st new : LinkState) → new.ops ≡ st.ops → (l s : ℕ) → find_op plan new l s
    ≡ find_op plan st l s
unfolding find_op
same_ops plan st new is l s = ap
    (λ (zs : List (List StreamStage)). found_by_id (streams_of plan l) (slice_index_or zs l []) s)
    is

put_ops : (plan : Plan) (st : LinkState) (line stream n : ℕ) (o : StreamStage) (l s : ℕ)
    → find_op plan (record (put_op plan st line stream o) { draws = n }) l s
    ≡ find_op plan (put_op plan st line stream o) l s
unfolding find_op
put_ops plan st line stream n o l s = refl

-- ---- after an operation

abbrev OpsStand : Plan → LinkState → History → Type 0
OpsStand plan st h = (l s : ℕ) → find_op plan st l s ≡ op_at plan h l s

-- by what stood before, and what the stream has now
ops_after : (plan : Plan) (st after : LinkState) (h : History) (line stream n : ℕ) (o : StreamStage) → after.ops
    ≡ st.ops
    → OpsStand plan st h → is_some (find_op plan st line stream) ≡ true → (l s : ℕ)
    → find_op plan (record (put_op plan after line stream o) { draws = n }) l s
    ≡ (if is_some (stream_plan plan l s) then Some (if (l == line) && (s == stream) then o else op_of h l s) else
    None)
ops_after plan st after h line stream n o is stands known l s = put_ops plan after line stream n o l s ∙ by_test
    ((l == line) && (s == stream)) refl
  where
    there : is_some (find_op plan after line stream) ≡ true
    there = ap is_some (same_ops plan st after is line stream) ∙ known

    planned : is_some (stream_plan plan line stream) ≡ true
    planned = let is : is_some (op_at plan h line stream) ≡ true = ap is_some (sym (stands line stream)) ∙ known in
        grind arith

    by_test : (b : Bool) → ((l == line) && (s == stream)) ≡ b → find_op plan (put_op plan after line stream o) l s
        ≡ (if is_some (stream_plan plan l s) then Some (if b then o else op_of h l s) else None)
    by_test false other = find_op-put_other plan after line stream o l s other ∙
        (same_ops plan st after is l s ∙ stands l s)
    by_test true here =
        let one : line ≡ l = grind (arith, nat_tests) in
        let two : stream ≡ s = grind (arith, nat_tests) in
        subst (λ (a : ℕ). find_op plan (put_op plan after line stream o) a s
        ≡ (if is_some (stream_plan plan a s) then Some o else None)) one
        (subst (λ (b : ℕ). find_op plan (put_op plan after line stream o) line b
        ≡ (if is_some (stream_plan plan line b) then Some o else None)) two
        (find_op-put plan after line stream o there ∙ sym (rw planned refl)))

drawn_one : (bs : List Begun) (line stream : ℕ) (w : Work) (f : Bool) → (if f then length bs + 1 else length bs)
    ≡ length (if f then record { line = line; stream = stream; set = w.set } ∷ bs else bs)
drawn_one bs line stream w f = grind arith

-- the state after an operation, by how far it came
pub ops_worked : (plan : Plan) (st : LinkState) (h : History) (o : Operation) (line stream : ℕ) (r : Option Reach)
    → OpsStand plan st h → is_some (find_op plan st line stream) ≡ true → (l s : ℕ)
    → find_op plan (work_done plan st line stream (work_of o (op_of h line stream) (draws_made h)) r) l s
    ≡ (if is_some (stream_plan plan l s) then Some ((manager_after_operation (manager h) o line stream r).ops l s) else
    None)
ops_worked plan st h o line stream None stands known l s = stands l s
ops_worked plan st h o line stream (Some r) stands known l s =
    let w = work_of o (op_of h line stream) (draws_made h) in
    let out : Side → SubKind → List Touch = λ side u. touches_at (ports_of plan st) w r
    (place_at_end line stream true side u) in
    let into : Side → SubKind → List Touch = λ side u. touches_at (ports_of plan st) w r
    (place_at_end line stream false side u)
    in
    ops_after plan st (touched_state plan st line stream out into) h line stream (draws_after st.draws w)
    (op_after_reach (is_hosted line) w r)
    (touched_ops plan st line stream out into) stands known l s

pub draws_worked : (plan : Plan) (st : LinkState) (h : History) (o : Operation) (line stream : ℕ) (r : Option Reach)
    → st.draws ≡ draws_made h → (work_done plan st line stream (work_of o (op_of h line stream) (draws_made h)) r).draws
    ≡ length (manager_after_operation (manager h) o line stream r).begun
draws_worked plan st h o line stream None is = is
draws_worked plan st h o line stream (Some r) is =
    let w = work_of o (op_of h line stream) (draws_made h) in
    ap (λ (n : ℕ). draws_after n w) is ∙ drawn_one (manager h).begun line stream w (w.begins && makes_draw w.operation)
