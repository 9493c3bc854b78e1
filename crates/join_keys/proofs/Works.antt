-- An event of an operation as it begins, or goes on.
use Rattle.join_keys.proofs.Terms.{◌≡◌, Bool, arith, true, ℕ, Work, Plan, Operation, ◌≤◌, makes_draw, lane_key, refl}
use Rattle.join_keys.proofs.Terms.{Some, last_exchange_of, Option, None, nat_lt, reach_of, work_of, StreamStage}
use Rattle.join_keys.proofs.Terms.{op_at_exchange, Loss, Pool, draws_in, six_keys, unspent_keys, StreamRefusal, Verdict}
use Rattle.join_keys.proofs.Terms.{StreamView, draws_now, refusal_of, begun_stream, asked_of_unfinished, HostView}
use Rattle.join_keys.proofs.Terms.{key_refusal_verdict, IsAsked, HasKeys, KeysKeptInStage, WireKeys, kept_key}
use Rattle.key_host.proofs.Walks.{WorkFits}
use Rattle.join_keys.proofs.Lanes.{by_lane, first_program}

-- ---- the operation that is asked

pub same_operation : (o : Operation) (q : StreamStage) (next : ℕ) → (work_of o q next).operation ≡ o
same_operation o q next = grind arith

pub work_fits : (o : Operation) (q : StreamStage) (next : ℕ) → let w = work_of o q next in WorkFits w.operation w.set
    w.draw
unfolding WorkFits
work_fits o q next = grind arith

pub begins_first : (o : Operation) (q : StreamStage) (next : ℕ) → (work_of o q next).begins ≡ true
    → (work_of o q next).first ≡ 1
begins_first o q next begins = grind arith

-- its first exchange is one of the operation's
pub first_within : (plan : Plan) (o : Operation) (q : StreamStage) (next : ℕ) (keys : WireKeys)
    → KeysKeptInStage plan q keys
    → let w = work_of o q next in (1 ≤ w.first) × (w.first ≤ last_exchange_of true w.operation)
first_within plan o q next keys kept = grind arith

pub is_asked : (plan : Plan) (q : StreamStage) (keys : WireKeys) → KeysKeptInStage plan q keys
    → IsAsked true (asked_of_unfinished q)
is_asked plan q keys kept = grind arith

-- ---- the stream as it begins, or goes on

pub begun_op : (hosted : Bool) (o : Operation) (q : StreamStage) (next : ℕ) (pool : Pool) (s : StreamView) → s.op ≡ q
    → let w = work_of o q next in (begun_stream hosted w pool s).op ≡ op_at_exchange w w.first
begun_op hosted o q next pool s is = grind arith

pub begun_line : (hosted : Bool) (w : Work) (pool : Pool) (s : StreamView) → (begun_stream hosted w pool s).line
    ≡ s.line
begun_line hosted w pool s = grind arith

pub begun_id : (hosted : Bool) (w : Work) (pool : Pool) (s : StreamView) → (begun_stream hosted w pool s).id ≡ s.id
begun_id hosted w pool s = grind arith

-- the six keys of a draw
six_kept : (plan : Plan) (draw first next : ℕ) → HasKeys plan draw first next (unspent_keys (six_keys plan.pool draw))
six_kept plan draw first next lane lt le = by_lane
    (λ lane. kept_key (unspent_keys (six_keys plan.pool draw)) lane ≡ Some (lane_key plan draw lane)) refl refl refl
    refl
    refl refl lane lt

pub begun_keys : (plan : Plan) (o : Operation) (q : StreamStage) (next : ℕ) (s : StreamView)
    → KeysKeptInStage plan q s.keys
    → let w = work_of o q next in
    makes_draw w.operation ≡ true → HasKeys plan w.draw (first_program w.operation) w.first
    (begun_stream true w (record { keys = plan.pool; draws = next }) s).keys
begun_keys plan o q next s kept makes lane lt le = grind
    (arith, six_kept plan next 2 1 lane lt, six_kept plan next 1 1 lane lt)

-- ---- refusals

-- at the beginning no exchange was asked, so its verdict says that nothing was reached
pub refused_reach : (line : ℕ) (o : Operation) (q : StreamStage) (host : HostView) (pool : Pool) (loss : Option Loss)
    (r : StreamRefusal)
    (verdict : Verdict) → refusal_of o q host pool ≡ Some r → key_refusal_verdict line loss r ≡ Some verdict
    → reach_of o verdict ≡ None
refused_reach line o q host pool loss r verdict is due = grind arith

-- if it is not refused, the pool has keys for its draw
pub has_room : (o : Operation) (q : StreamStage) (host : HostView) (pool : Pool) → refusal_of o q host pool ≡ None
    → draws_now (work_of o q pool.draws) ≡ true → nat_lt pool.draws (draws_in pool.keys) ≡ true
has_room o q host pool none draws = grind arith
