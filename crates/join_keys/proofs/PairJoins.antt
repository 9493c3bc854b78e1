-- An event of an operation on a line that is keyed by messages at both ends gives what the machine of ports says.
use Rattle.ide_types.specs.Lines.{is_hosted}
use Rattle.join_keys.specs.Calls.{lane_sends, key_number}
use Rattle.join_keys.specs.Paired.{PairStreams, pair_walk, begun_pair, pair_walked_unless, pair_event, PairKeysKeptIn}
use Rattle.join_keys.specs.Paired.{IsPairJoined, PairOperationsJoin}
use Rattle.join_keys.proofs.Terms.{◌≡◌, ◌≢◌, Bool, arith, false, ℕ, Work, Plan, Operation, ◌≤◌, ◌<◌, ◌∙◌, sym, Device}
use Rattle.join_keys.proofs.Terms.{Host, ◌+◌, suc, refl, ◌-◌, ap, Some, subst, last_exchange_of, port_at, ◌/◌, Option}
use Rattle.join_keys.proofs.Terms.{◌%◌, None, length, reach_of, work_of, nat_tests, sub_from, FitsPlan, Loss, Verdict}
use Rattle.join_keys.proofs.Terms.{History, refusal_at, operation_verdict, stays, unwrap_or, key_plan, LinkState, find}
use Rattle.join_keys.proofs.Terms.{find_op, ports_of, machine_status, Side, Pool, true-lt, StreamRefusal, StreamView}
use Rattle.join_keys.proofs.Terms.{HostView, refusal_of, begun_stream, ManagerWalk, answers, walk, manager_walked}
use Rattle.join_keys.proofs.Terms.{verdict_of, op_if_reached, Comes, walk_comes, PortsStandFor, kept_is, verdict_due}
use Rattle.join_keys.proofs.Terms.{first_from, cut_at, lost_message}
use Rattle.event_verdicts.specs.declared.verdict.Operation.TheVariants as op
use Rattle.key_host.specs.declared.operation.StreamOutcome.TheVariants as outcome
use Rattle.key_host.specs.Walk.{WalkIsDue}
use Rattle.key_host.proofs.Dues.{establishes, stops}
use Rattle.key_host.proofs.Walks.{ends_as}
use Rattle.join_keys.proofs.Drawn.{lane_keys, id_fits}
use Rattle.join_keys.proofs.Standing.{is_sound, reads_stream}
use Rattle.join_keys.proofs.Kept.{draw_below}
use Rattle.join_keys.proofs.Works.{same_operation, work_fits, begins_first, begun_id, begun_line, begun_op}
use Rattle.join_keys.proofs.Works.{refused_reach, has_room}
use Rattle.join_keys.proofs.Walking.{denial}
use Rattle.join_keys.proofs.Joins.{draws_on}
use Rattle.join_keys.proofs.Touched.{are_told}
use Rattle.join_keys.specs.Touches.{AreEndsTold}
use Rattle.join_keys.proofs.PairKept.{first_within, is_asked, begun_keys, ready_before}
use Rattle.join_keys.proofs.PairWalking.{PairKnows, IsPairNext, state_at}
use Rattle.join_keys.proofs.PairResting.{PairRest, pair_rest_is}

abbrev pool_of : Plan → LinkState → Pool
pool_of plan st = record { keys = plan.pool; draws = st.draws }

abbrev begun_from : Plan → LinkState → Operation → PairStreams → PairStreams
begun_from plan st operation e = begun_pair (work_of operation e.keeper.op st.draws) (pool_of plan st) e

-- what is known when the event comes
record Found (plan : Plan) (st : LinkState) (h : History) (requester : ℕ) (e : PairStreams) : Type 0 where
  pub fits : FitsPlan plan
  pub stands : PortsStandFor plan st h
  pub requester_most : requester ≤ 65535
  pub line : is_hosted e.keeper.line ≡ false
  pub near : find plan st (port_at Host e.keeper.line) e.keeper.id ≡ Some e.near
  pub far : find plan st (port_at Device e.keeper.line) e.keeper.id ≡ Some e.far
  pub op_is : find_op plan st e.keeper.line e.keeper.id ≡ Some e.keeper.op
  pub kept : PairKeysKeptIn plan e.keeper.op e.keeper.keys

last_most : (o : Operation) → last_exchange_of false o ≤ 24
last_most o = grind arith

number_low : (side : Side) (lane : ℕ) → lane < 6 → key_number side lane < 6
number_low side lane lt = grind (arith, nat_tests)

module _ (plan : Plan) (st : LinkState) (h : History) (operation : Operation) (loss : Option Loss) (requester : ℕ)
    (host : HostView) (e : PairStreams) (other : operation ≢ op.Refresh) (found : Found plan st h requester e) where
  -- the operation at the event, the manager's walk, and the verdict that is due
  abbrev w : Work
  w = work_of operation e.keeper.op st.draws

  abbrev told : Operation → ManagerWalk
  told o =
      walk false (last_exchange_of false o + 1 - w.first)
      (answers loss (refusal_at (ports_of plan st) o w.set e.keeper.line e.keeper.id))
      (begun_stream false w (pool_of plan st) e.keeper)

  abbrev verdict : Verdict
  verdict = verdict_due plan st operation e.keeper.op e.keeper.line e.keeper.id loss

  -- an establish and a stop read nothing of a host's port
  due_of : (o : Operation) → o ≢ op.Refresh → WalkIsDue (is_hosted e.keeper.line) o (key_plan plan) (ports_of plan st)
      (machine_status plan st Host e.keeper.line e.keeper.id) host (pool_of plan st) loss e.keeper
  due_of op.Establish differs = establishes (key_plan plan) (ports_of plan st)
      (machine_status plan st Host e.keeper.line e.keeper.id) host (pool_of plan st) loss e.keeper.line e.keeper.id
      e.keeper.keys e.keeper.op (rw found.line (is_asked plan e.keeper.op e.keeper.keys found.kept)) refl
  due_of op.Stop differs = stops (key_plan plan) (ports_of plan st)
      (machine_status plan st Host e.keeper.line e.keeper.id) host (pool_of plan st) loss e.keeper.line e.keeper.id
      e.keeper.keys e.keeper.op (rw found.line (is_asked plan e.keeper.op e.keeper.keys found.kept))
  due_of op.Refresh differs = absurd (differs refl)

  is_due : (r : Option StreamRefusal) → refusal_of operation e.keeper.op host (pool_of plan st) ≡ r
      → verdict_of operation e.keeper.line e.keeper.id loss (manager_walked r e.keeper (told operation)).outcome
      ≡ Some verdict
  is_due r is =
      let due = subst (λ (b : Bool). WalkIsDue b operation (key_plan plan) (ports_of plan st)
      (machine_status plan st Host e.keeper.line e.keeper.id) host (pool_of plan st) loss e.keeper) found.line
      (due_of operation other) in
      sym (λ i. verdict_of operation e.keeper.line e.keeper.id loss
      (manager_walked (is i) e.keeper (told operation)).outcome) ∙ due.verdict_is

  -- ---- a refusal

  refused : (r : StreamRefusal) → refusal_of operation e.keeper.op host (pool_of plan st) ≡ Some r
      → IsPairJoined plan st operation loss (pool_of plan st) e (record { outcome = outcome.Refused r; ends = e })
  refused r is =
      let none : reach_of operation verdict ≡ None = refused_reach e.keeper.line operation e.keeper.op host
      (pool_of plan st) loss r verdict is (is_due (Some r) is) in
      record {
        verdict_is = is_due (Some r) is;
        op_is = rw none;
        near_is = rw none;
        far_is = rw none;
        draws_is = rw none;
        line_is = refl;
        id_is = refl;
        keys_are = found.kept;
      }

  -- ---- an event that begins or goes on

  at_end : (side : Side) → find plan st (port_at side e.keeper.line) e.keeper.id ≡ Some (state_at side e)
  at_end Host = found.near
  at_end Device = found.far

  same_end : (side : Side) → state_at side (begun_from plan st operation e) ≡ state_at side e
  same_end Host = refl
  same_end Device = refl

  first_next : IsPairNext plan w e.keeper.id e w.first (begun_from plan st operation e)
  first_next = record {
    op_is = begun_op false operation e.keeper.op st.draws (pool_of plan st) e.keeper refl;
    id_is = begun_id false w (pool_of plan st) e.keeper;
    keys = begun_keys plan operation e.keeper.op st.draws e.keeper found.kept;
    fresh = λ makes side lane lt le. rw (same_end side) refl;
    ready = λ makes side lane lt past le. rw (same_end side) (ready_before plan st h found.stands e.keeper.line
        e.keeper.id e.keeper.op found.op_is found.line operation side (state_at side e) (at_end side) makes lane lt
        past);
  }

  within : (1 ≤ w.first) × (w.first ≤ last_exchange_of false w.operation)
  within = first_within plan operation e.keeper.op st.draws e.keeper.keys found.kept

  -- what the walk gives
  comes_is : Comes w.operation w.set w.draw w.first w.begins e.keeper.line e.keeper.id loss e.keeper.op
      (stays (ports_of plan st) e.keeper.line e.keeper.id loss w) (told w.operation)
  comes_is =
      subst (λ (b : Bool). Comes w.operation w.set w.draw w.first w.begins e.keeper.line e.keeper.id loss e.keeper.op
      (stays (ports_of plan st) e.keeper.line e.keeper.id loss w)
      (walk b (last_exchange_of b w.operation + 1 - w.first)
      (answers loss (refusal_at (ports_of plan st) w.operation w.set e.keeper.line e.keeper.id))
      (begun_stream false w (pool_of plan st) e.keeper))) found.line
      (walk_comes w.operation w.set w.draw w.first w.begins (work_fits operation e.keeper.op st.draws)
      (ports_of plan st) e.keeper.line e.keeper.id loss e.keeper.op (begun_stream false w (pool_of plan st) e.keeper)
      (rw found.line within.1) (begun_op false operation e.keeper.op st.draws (pool_of plan st) e.keeper refl))

  module _ (free : refusal_of operation e.keeper.op host (pool_of plan st) ≡ None) where
    knows : PairKnows plan (ports_of plan st) w e.keeper.line e.keeper.id requester e
    knows =
        let line = e.keeper.line in
        let id = e.keeper.id in
        record {
          line = found.line;
          fits = work_fits operation e.keeper.op st.draws;
          small = id_fits plan found.fits line id
              (kept_is plan st h (port_at Device line) id e.far found.stands.ports_stand found.far).known;
          requester_most = found.requester_most;
          keys = λ makes side lane lt. lane_keys plan found.fits w.draw
              (draw_below plan st h found.stands line id e.keeper.op found.op_is operation
              (λ now. true-lt st.draws (length plan.pool / 6)
              (has_room operation e.keeper.op host (pool_of plan st) free now)) makes)
              (key_number side lane) (number_low side lane lt);
          reads = λ side lane lt. reads_stream plan st side line id (state_at side e) (at_end side)
              (lane_sends lane) (sub_from (lane % 3)) w.set;
          apart = λ side lane lt. (is_sound plan st h found.stands.ports_stand side line id (state_at side e)
              (at_end side)).apart (lane_sends lane) (sub_from (lane % 3));
        }

    verdict_comes : operation_verdict (ports_of plan st) e.keeper.line e.keeper.id loss w ≡ verdict
    verdict_comes =
        let same = same_operation operation e.keeper.op st.draws in
        ap (λ (o : Option Verdict). unwrap_or o verdict) (sym comes_is.verdict_is ∙
        ((λ i. verdict_of (same i) e.keeper.line e.keeper.id loss (told (same i)).outcome) ∙ is_due None free))

    rest_comes : (more : ℕ) → 23 ≤ more → PairRest plan w w.first (begun_from plan st operation e)
        (operation_verdict (ports_of plan st) e.keeper.line e.keeper.id loss w)
        (told w.operation)
        (pair_walk (suc more) loss requester (begun_from plan st operation e))
    rest_comes more enough =
        let range = within in
        let top = last_most w.operation in
        let long : suc (last_exchange_of false w.operation - w.first)
        ≡ last_exchange_of false w.operation + 1 - w.first = omega (arith, range) in
        subst (λ (b : Bool). PairRest plan w w.first (begun_from plan st operation e)
        (ends_as e.keeper.line e.keeper.id w (first_from
        (λ x. cut_at (lost_message loss x) (denial (ports_of plan st) w e.keeper.line e.keeper.id x) x) w.first
        (last_exchange_of b w.operation + 1 - w.first)))
        (told w.operation) (pair_walk (suc more) loss requester (begun_from plan st operation e))) (sym found.line)
        (rw (← long) (pair_rest_is plan (ports_of plan st) w e.keeper.line e.keeper.id requester e knows loss
        (last_exchange_of false w.operation - w.first) more w.first
        (begun_from plan st operation e) (omega (arith, range)) range.0 (omega (arith, range, top, enough)) first_next))

    joins : (more : ℕ) → 23 ≤ more → IsPairJoined plan st operation loss (pool_of plan st) e
        (pair_walk (suc more) loss requester (begun_from plan st operation e))
    joins more enough =
        let line = e.keeper.line in
        let id = e.keeper.id in
        let same = same_operation operation e.keeper.op st.draws in
        let rest = rest_comes more enough in
        let r = rest.comes in
        let reached : reach_of operation verdict ≡ Some r = sym (λ i. reach_of (same i) (verdict_comes i)) ∙ rest.says
        in
        let stands = found.stands.ports_stand in
        let same_touches : AreEndsTold plan (ports_of plan st) line id w r e.near e.far = are_told plan
        (ports_of plan st) line id w r e.near e.far found.line
        (operation, e.keeper.op, st.draws, refl)
        (assumption (within, rest.within, begins_first operation e.keeper.op st.draws))
        (is_sound plan st h stands Host line id e.near found.near)
        (is_sound plan st h stands Device line id e.far found.far)
        (reads_stream plan st Host line id e.near found.near)
        (reads_stream plan st Device line id e.far found.far) in
        record {
          verdict_is = ap (verdict_of operation line id loss) rest.outcome_is ∙
              (sym (λ i. verdict_of (same i) line id loss (told w.operation).outcome)
              ∙ (comes_is.verdict_is ∙ ap Some verdict_comes));
          op_is = ap (λ (s : StreamView). s.op) rest.keeper_is ∙
              (comes_is.op_is ∙ (λ i. op_if_reached (is_hosted e.keeper.line) e.keeper.op w
              (reach_of (same i) (verdict_comes i))));
          near_is = rw reached (rest.near_is ∙ same_touches.near_touched);
          far_is = rw reached (rest.far_is ∙ same_touches.far_touched);
          draws_is = rw reached
              (draws_on w (pool_of plan st) (has_room operation e.keeper.op host (pool_of plan st) free));
          line_is = rest.names_are.0 ∙ begun_line false w (pool_of plan st) e.keeper;
          id_is = rest.names_are.1 ∙ begun_id false w (pool_of plan st) e.keeper;
          keys_are = rest.keys_are;
        }

  by_refusal : (more : ℕ) → 23 ≤ more → (r : Option StreamRefusal)
      → refusal_of operation e.keeper.op host (pool_of plan st) ≡ r
      → IsPairJoined plan st operation loss (pool_of plan st) e
      (pair_walked_unless r e (pair_walk (suc more) loss requester (begun_from plan st operation e)))
  by_refusal more enough (Some r) is = refused r is
  by_refusal more enough None is = joins is more enough

pub pair_joined : PairOperationsJoin
pair_joined plan st h operation loss requester host pool e other fits stands most line near far op_is is kept =
    let found : Found plan st h requester e = assumption in
    subst (λ (p : Pool). IsPairJoined plan st operation loss p e (pair_event operation host p loss requester e))
    (sym is)
    (by_refusal plan st h operation loss requester host e other found 23 (omega arith)
    (refusal_of operation e.keeper.op host (pool_of plan st)) refl)
