-- An event of an operation, walked at both ends, gives what the machine of ports says.
use Rattle.join_keys.specs.Calls.{lane_sends}
use Rattle.join_keys.proofs.Terms.{◌≡◌, arith, true, ℕ, List, ◌++◌, Work, Plan, if◌then◌else◌, Operation, ◌≤◌, ◌∙◌, sym}
use Rattle.join_keys.proofs.Terms.{Device, Host, StreamState, ◌+◌, [], suc, refl, ◌-◌, ap, Some, subst, ◌∷◌}
use Rattle.join_keys.proofs.Terms.{last_exchange_of, port_at, CallsAreTouches, ◌/◌, Option, ◌%◌, None, length, nat_lt}
use Rattle.join_keys.proofs.Terms.{reach_of, work_of, sub_from, all_called_at_side, FitsPlan, Loss, Verdict, History}
use Rattle.join_keys.proofs.Terms.{refusal_at, operation_verdict, stays, unwrap_or, key_plan, LinkState, find, find_op}
use Rattle.join_keys.proofs.Terms.{ports_of, machine_status, AreTouches, Side, Pool, draws_in, true-lt, StreamRefusal}
use Rattle.join_keys.proofs.Terms.{PlaceCall, StreamView, draws_now, refusal_of, begun_stream, begun_pool, begun_calls}
use Rattle.join_keys.proofs.Terms.{ManagerWalk, answers, walk, manager_walked, verdict_of, op_if_reached, Comes}
use Rattle.join_keys.proofs.Terms.{walk_comes, PortsStandFor, kept_is, StreamEnds, walk_on, begun_ends}
use Rattle.join_keys.proofs.Terms.{walked_ends_unless, event_walk, host_of, KeysKept, verdict_due, IsJoined}
use Rattle.join_keys.proofs.Terms.{OperationsJoin, first_from, cut_at, lost_message}
use Rattle.key_host.proofs.Dues.{all_due}
use Rattle.key_host.specs.Walk.{WalkIsDue}
use Rattle.ide_types.specs.Lines.{is_hosted}
use Rattle.std.specs.Prelude.{Bool}
use Rattle.key_host.specs.declared.operation.StreamOutcome.TheVariants as outcome
use Rattle.join_keys.proofs.Drawn.{lane_keys, id_fits}
use Rattle.join_keys.proofs.Standing.{is_sound, reads_stream, host_read}
use Rattle.join_keys.proofs.Kept.{ready_before, draw_below}
use Rattle.join_keys.proofs.Works.{same_operation, work_fits, begins_first, first_within, is_asked, begun_op}
use Rattle.join_keys.proofs.Works.{begun_line, begun_id, begun_keys, refused_reach, has_room}
use Rattle.join_keys.proofs.Walking.{Knows, IsNext, denial}
use Rattle.key_host.proofs.Walks.{ends_as}
use Rattle.join_keys.proofs.Resting.{goes_from, Rest, rest_is}

calls_append : (side : Side) (cs more : List PlaceCall) (x : StreamState) → all_called_at_side side (cs ++ more) x
    ≡ all_called_at_side side more (all_called_at_side side cs x)
calls_append side [] more x = refl
calls_append side (c ∷ cs) more x = calls_append side cs more _

abbrev pool_of : Plan → LinkState → Pool
pool_of plan st = record { keys = plan.pool; draws = st.draws }

abbrev begun_from : Plan → LinkState → Operation → StreamEnds → StreamEnds
begun_from plan st operation e = begun_ends (work_of operation e.keeper.op st.draws) (pool_of plan st) e

-- what is known when the event comes
record Found (plan : Plan) (st : LinkState) (h : History) (requester : ℕ) (e : StreamEnds) : Type 0 where
  pub fits : FitsPlan plan
  pub stands : PortsStandFor plan st h
  pub requester_most : requester ≤ 65535
  pub hosted : is_hosted e.keeper.line ≡ true
  pub host : find plan st (port_at Host e.keeper.line) e.keeper.id ≡ Some e.host
  pub device : find plan st (port_at Device e.keeper.line) e.keeper.id ≡ Some e.device
  pub op_is : find_op plan st e.keeper.line e.keeper.id ≡ Some e.keeper.op
  pub kept : KeysKept plan e.keeper

last_most : (o : Operation) → last_exchange_of true o ≤ 13
last_most o = grind arith

pub draws_on : (w : Work) (pool : Pool) → (draws_now w ≡ true → nat_lt pool.draws (draws_in pool.keys) ≡ true)
    → (begun_pool w pool).draws ≡ (if draws_now w then pool.draws + 1 else pool.draws)
draws_on w pool room = grind arith

module _ (plan : Plan) (st : LinkState) (h : History) (operation : Operation) (loss : Option Loss) (requester : ℕ)
    (e : StreamEnds) (found : Found plan st h requester e) where
  -- the operation at the event, the manager's walk, and the verdict that is due
  abbrev w : Work
  w = work_of operation e.keeper.op st.draws

  abbrev told : Operation → ManagerWalk
  told o =
      walk true (last_exchange_of true o + 1 - w.first)
      (answers loss (refusal_at (ports_of plan st) o w.set e.keeper.line e.keeper.id))
      (begun_stream true w (pool_of plan st) e.keeper)

  abbrev verdict : Verdict
  verdict = verdict_due plan st operation e.keeper.op e.keeper.line e.keeper.id loss

  is_due : (r : Option StreamRefusal) → refusal_of operation e.keeper.op (host_of e.host) (pool_of plan st) ≡ r
      → verdict_of operation e.keeper.line e.keeper.id loss (manager_walked r e.keeper (told operation)).outcome
      ≡ Some verdict
  is_due r is =
      let due = subst (λ (b : Bool). WalkIsDue b operation (key_plan plan) (ports_of plan st)
      (machine_status plan st Host e.keeper.line e.keeper.id) (host_of e.host) (pool_of plan st) loss e.keeper)
      found.hosted
      (all_due operation (key_plan plan) (ports_of plan st) (machine_status plan st Host e.keeper.line e.keeper.id)
      (host_of e.host)
      (pool_of plan st) loss e.keeper (rw found.hosted (is_asked plan e.keeper.op e.keeper.keys found.kept))
      (host_read plan st h found.stands.ports_stand e.keeper.line e.keeper.id e.host found.host st.draws)) in
      sym (λ i. verdict_of operation e.keeper.line e.keeper.id loss
      (manager_walked (is i) e.keeper (told operation)).outcome) ∙ due.verdict_is

  -- ---- a refusal

  refused : (r : StreamRefusal) → refusal_of operation e.keeper.op (host_of e.host) (pool_of plan st) ≡ Some r
      → IsJoined plan st operation loss (pool_of plan st) e (record { outcome = outcome.Refused r; ends = e })
  refused r is =
      let none : reach_of operation verdict ≡ None = refused_reach e.keeper.line operation e.keeper.op (host_of e.host)
      (pool_of plan st) loss r verdict is (is_due (Some r) is) in
      record {
        verdict_is = is_due (Some r) is;
        op_is = rw none;
        host_is = rw none;
        device_is = rw none;
        draws_is = rw none;
        line_is = refl;
        id_is = refl;
        keys_are = found.kept;
      }

  -- ---- an event that begins or goes on

  first_next : IsNext plan w e.keeper.id e.device w.first (begun_from plan st operation e)
  first_next = record {
    op_is = begun_op true operation e.keeper.op st.draws (pool_of plan st) e.keeper refl;
    id_is = begun_id true w (pool_of plan st) e.keeper;
    keys = begun_keys plan operation e.keeper.op st.draws e.keeper found.kept;
    fresh = λ makes lane lt le. refl;
    ready = λ makes lane lt past le. ready_before plan st h found.stands e.keeper.line e.keeper.id e.keeper.op
        found.op_is found.hosted operation e.device found.device
        makes lane lt past;
  }

  within : (1 ≤ w.first) × (w.first ≤ last_exchange_of true w.operation)
  within = first_within plan operation e.keeper.op st.draws e.keeper.keys found.kept

  -- what the walk gives
  comes_is : Comes w.operation w.set w.draw w.first w.begins e.keeper.line e.keeper.id loss e.keeper.op
      (stays (ports_of plan st) e.keeper.line e.keeper.id loss w) (told w.operation)
  comes_is =
      subst (λ (b : Bool). Comes w.operation w.set w.draw w.first w.begins e.keeper.line e.keeper.id loss e.keeper.op
      (stays (ports_of plan st) e.keeper.line e.keeper.id loss w)
      (walk b (last_exchange_of b w.operation + 1 - w.first)
      (answers loss (refusal_at (ports_of plan st) w.operation w.set e.keeper.line e.keeper.id))
      (begun_stream true w (pool_of plan st) e.keeper))) found.hosted
      (walk_comes w.operation w.set w.draw w.first w.begins (work_fits operation e.keeper.op st.draws)
      (ports_of plan st) e.keeper.line e.keeper.id loss e.keeper.op (begun_stream true w (pool_of plan st) e.keeper)
      (rw found.hosted within.1) (begun_op true operation e.keeper.op st.draws (pool_of plan st) e.keeper refl))

  module _ (free : refusal_of operation e.keeper.op (host_of e.host) (pool_of plan st) ≡ None) where
    knows : Knows plan (ports_of plan st) w e.keeper.line e.keeper.id requester e.device
    knows =
        let line = e.keeper.line in
        let id = e.keeper.id in
        record {
          hosted = found.hosted;
          fits = work_fits operation e.keeper.op st.draws;
          small = id_fits plan found.fits line id
              (kept_is plan st h (port_at Device line) id e.device found.stands.ports_stand found.device).known;
          requester_most = found.requester_most;
          keys = λ makes. lane_keys plan found.fits w.draw
              (draw_below plan st h found.stands line id e.keeper.op found.op_is operation
              (λ now. true-lt st.draws (length plan.pool / 6)
              (has_room operation e.keeper.op (host_of e.host) (pool_of plan st) free now)) makes);
          reads = λ lane lt. reads_stream plan st Device line id e.device found.device
              (lane_sends lane)
              (sub_from (lane % 3)) w.set;
          apart = λ lane lt. (is_sound plan st h found.stands.ports_stand Device line id e.device found.device).apart
              (lane_sends lane) (sub_from (lane % 3));
        }

    verdict_comes : operation_verdict (ports_of plan st) e.keeper.line e.keeper.id loss w ≡ verdict
    verdict_comes =
        let same = same_operation operation e.keeper.op st.draws in
        ap (λ (o : Option Verdict). unwrap_or o verdict) (sym comes_is.verdict_is ∙
        ((λ i. verdict_of (same i) e.keeper.line e.keeper.id loss (told (same i)).outcome) ∙ is_due None free))

    rest_comes : (more : ℕ) → 12 ≤ more → Rest plan w e.keeper.id w.first (begun_from plan st operation e)
        (operation_verdict (ports_of plan st) e.keeper.line e.keeper.id loss w)
        (told w.operation)
        (walk_on (suc more) loss requester (begun_from plan st operation e))
    rest_comes more enough =
        let range = within in
        let top = last_most w.operation in
        let long : suc (last_exchange_of true w.operation - w.first)
        ≡ last_exchange_of true w.operation + 1 - w.first = omega (arith, range) in
        subst (λ (b : Bool). Rest plan w e.keeper.id w.first (begun_from plan st operation e)
        (ends_as e.keeper.line e.keeper.id w (first_from
        (λ x. cut_at (lost_message loss x) (denial (ports_of plan st) w e.keeper.line e.keeper.id x) x) w.first
        (last_exchange_of b w.operation + 1 - w.first)))
        (told w.operation) (walk_on (suc more) loss requester (begun_from plan st operation e))) (sym found.hosted)
        (rw (← long) (rest_is plan (ports_of plan st) w e.keeper.line e.keeper.id requester e.device knows loss
        (last_exchange_of true w.operation - w.first) more w.first
        (begun_from plan st operation e) (omega (arith, range)) range.0 (omega (arith, range, top, enough)) first_next))

    joins : CallsAreTouches → (more : ℕ) → 12 ≤ more → IsJoined plan st operation loss (pool_of plan st) e
        (walk_on (suc more) loss requester (begun_from plan st operation e))
    joins calls more enough =
        let line = e.keeper.line in
        let id = e.keeper.id in
        let same = same_operation operation e.keeper.op st.draws in
        let rest = rest_comes more enough in
        let r = rest.comes in
        let reached : reach_of operation verdict ≡ Some r = sym (λ i. reach_of (same i) (verdict_comes i)) ∙ rest.says
        in
        let stands = found.stands.ports_stand in
        let same_touches : AreTouches plan (ports_of plan st) line id w r e.host e.device = calls plan
        (ports_of plan st) line id
        w r e.host e.device found.hosted
        (operation, e.keeper.op, st.draws, refl)
        (assumption (within, rest.within, begins_first operation e.keeper.op st.draws))
        (is_sound plan st h stands Host line id e.host found.host)
        (is_sound plan st h stands Device line id e.device found.device)
        (reads_stream plan st Host line id e.host found.host)
        (reads_stream plan st Device line id e.device found.device) in
        record {
          verdict_is = ap (verdict_of operation line id loss) rest.outcome_is ∙
              (sym (λ i. verdict_of (same i) line id loss (told w.operation).outcome)
              ∙ (comes_is.verdict_is ∙ ap Some verdict_comes));
          op_is = ap (λ (s : StreamView). s.op) rest.keeper_is ∙
              (comes_is.op_is ∙ (λ i. op_if_reached (is_hosted e.keeper.line) e.keeper.op w
              (reach_of (same i) (verdict_comes i))));
          host_is = rw reached (rest.host_is ∙
              (sym (calls_append Host (begun_calls true w (pool_of plan st) id) (goes_from w id w.first r.acknowledged)
              e.host) ∙ same_touches.host_touched));
          device_is = rw reached (rest.device_is ∙ same_touches.device_touched);
          draws_is = rw reached
              (draws_on w (pool_of plan st) (has_room operation e.keeper.op (host_of e.host) (pool_of plan st) free));
          line_is = rest.names_are.0 ∙ begun_line true w (pool_of plan st) e.keeper;
          id_is = rest.names_are.1 ∙ begun_id true w (pool_of plan st) e.keeper;
          keys_are = rest.keys_are;
        }

  by_refusal : CallsAreTouches → (more : ℕ) → 12 ≤ more → (r : Option StreamRefusal)
      → refusal_of operation e.keeper.op (host_of e.host) (pool_of plan st) ≡ r
      → IsJoined plan st operation loss (pool_of plan st) e
      (walked_ends_unless r e (walk_on (suc more) loss requester (begun_from plan st operation e)))
  by_refusal calls more enough (Some r) is = refused r is
  by_refusal calls more enough None is = joins is calls more enough

pub joined : CallsAreTouches → OperationsJoin
joined calls plan st h operation loss requester pool e fits stands most hosted host device op_is is kept =
    let found : Found plan st h requester e = assumption in
    subst (λ (p : Pool). IsJoined plan st operation loss p e (event_walk operation (host_of e.host) p loss requester e))
    (sym is)
    (by_refusal plan st h operation loss requester e found calls 12 (omega arith)
    (refusal_of operation e.keeper.op (host_of e.host) (pool_of plan st)) refl)
