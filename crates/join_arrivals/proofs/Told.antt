-- What an event of an operation draws of the pool: it draws as the machine says, since an operation that is not refused
-- reached one of its exchanges, on a line with a host's port at its near end, and on one that is keyed by messages at
-- both.
use Rattle.std.proofs.Common.{◌≡◌, ◌∙◌, ℕ, zero, suc, Bool, true, false, ap, sym, refl, arith}
use Rattle.std.specs.Prelude.{Option, Some, None, is_some}
use Rattle.key_slots.specs.{Pool}
use Rattle.spec_keys.specs.Operations.{StreamStage, Work, Reach, reach_of}
use Rattle.script_events.specs.declared.event.Loss.{Loss}
use Rattle.event_verdicts.specs.declared.verdict.Operation.{Operation}
use Rattle.event_verdicts.specs.declared.verdict.Verdict.{Verdict}
use Rattle.key_host.specs.declared.judge.Judged.{Judged}
use Rattle.key_host.specs.declared.operation.StreamOutcome.{StreamOutcome}
use Rattle.key_host.specs.declared.operation.StreamOutcome.TheVariants as outcome
use Rattle.key_host.specs.declared.operation.StreamRefusal.{StreamRefusal}
use Rattle.key_host.specs.declared.stage.NextExchange.{NextExchange}
use Rattle.key_host.specs.Streams.{HostView, asked_of_unfinished, begun_pool, outcome_of, refusal_of, unless}
use Rattle.key_host.specs.Walk.{verdict_of}
use Rattle.join_keys.specs.Joined.{pool_by}
use Rattle.join_keys.specs.Walks.{StreamEnds, WalkedEnds, exchange_outcome, goes_on, outcome_next, walk_on}
use Rattle.join_keys.specs.Walks.{walked_ends_unless}
use Rattle.join_keys.specs.Paired.{PairStreams, PairWalked, pair_exchanged, pair_goes_on, pair_outcome}
use Rattle.join_keys.specs.Paired.{pair_walk, pair_walked_unless}
use Rattle.join_keys.proofs.Works.{refused_reach}

-- if there is a verdict, the operation reached one of its exchanges
abbrev pub is_told : Operation → Option Verdict → Bool
is_told o None = true
is_told o (Some x) = is_some (reach_of o x)

module _ (o : Operation) (line id : ℕ) (loss : Option Loss) where
  outcome_told : (hosted : Bool) (a : NextExchange) (j : Judged)
      → is_told o (verdict_of o line id loss (outcome_of hosted a j)) ≡ true
  outcome_told hosted a j = grind arith

  next_told : (requester : ℕ) (e : StreamEnds) (next : Option NextExchange)
      → is_told o (verdict_of o line id loss (outcome_next loss requester e next)) ≡ true
  next_told requester e None = refl
  next_told requester e (Some a) = outcome_told true a (exchange_outcome loss requester a e).judged

  goes_told : (q : StreamOutcome) (e : StreamEnds) (rest : WalkedEnds) → is_told o (verdict_of o line id loss q) ≡ true
      → is_told o (verdict_of o line id loss rest.outcome) ≡ true
      → is_told o (verdict_of o line id loss (goes_on q e rest).outcome) ≡ true
  goes_told outcome.Next e rest told more = more
  goes_told q e rest told more = told

  pub walk_told : (more requester : ℕ) (e : StreamEnds) → is_told o
      (verdict_of o line id loss (walk_on more loss requester e).outcome) ≡ true
  walk_told zero requester e = refl
  walk_told (suc more) requester e = goes_told _ _ _ (next_told requester e (asked_of_unfinished e.keeper.op))
      (walk_told more requester _)

  pair_next_told : (requester : ℕ) (e : PairStreams) (next : Option NextExchange)
      → is_told o (verdict_of o line id loss (pair_outcome loss requester e next)) ≡ true
  pair_next_told requester e None = refl
  pair_next_told requester e (Some a) = outcome_told false a (pair_exchanged loss requester a e).judged

  pair_goes_told : (q : StreamOutcome) (e : PairStreams) (rest : PairWalked) → is_told o (verdict_of o line id loss q)
      ≡ true → is_told o (verdict_of o line id loss rest.outcome) ≡ true
      → is_told o (verdict_of o line id loss (pair_goes_on q e rest).outcome) ≡ true
  pair_goes_told outcome.Next e rest told more = more
  pair_goes_told q e rest told more = told

  pub pair_told : (more requester : ℕ) (e : PairStreams) → is_told o
      (verdict_of o line id loss (pair_walk more loss requester e).outcome) ≡ true
  pair_told zero requester e = refl
  pair_told (suc more) requester e = pair_goes_told _ _ _ (pair_next_told requester e (asked_of_unfinished e.keeper.op))
      (pair_told more requester _)

-- ---- the pool

-- an operation that began draws from the pool as the machine says, since its verdict tells that an exchange was reached
pool_told : (w : Work) (r : Option Reach) (pool : Pool) → is_some r ≡ true → begun_pool w pool ≡ pool_by w r pool
pool_told w r pool told = grind arith

-- what an event gives: a refusal, or what the walk does
abbrev pub outcome_unless : Option StreamRefusal → StreamOutcome → StreamOutcome
outcome_unless (Some refusal) walked = outcome.Refused refusal
outcome_unless None walked = walked

pub pool_same : (o : Operation) (line id : ℕ) (q : StreamStage) (host : HostView) (pool : Pool) (loss : Option Loss)
    (walked : StreamOutcome) (verdict : Verdict) (w : Work) (r : Option StreamRefusal) → refusal_of o q host pool ≡ r
    → is_told o (verdict_of o line id loss walked) ≡ true → verdict_of o line id loss (outcome_unless r walked)
    ≡ Some verdict → unless r pool (begun_pool w pool) ≡ pool_by w (reach_of o verdict) pool
pool_same o line id q host pool loss walked verdict w (Some r) refused told is =
    let none : reach_of o verdict ≡ None = refused_reach line o q host pool loss r verdict refused is in
    sym (ap (λ (p : Option Reach). pool_by w p pool) none)
pool_same o line id q host pool loss walked verdict w None refused told is = pool_told w (reach_of o verdict) pool
    (sym (ap (λ (y : Option Verdict). is_told o y) is) ∙ told)

-- the outcomes of both kinds of events
pub walk_unless : (r : Option StreamRefusal) (e : StreamEnds) (walked : WalkedEnds)
    → (walked_ends_unless r e walked).outcome ≡ outcome_unless r walked.outcome
walk_unless (Some r) e walked = refl
walk_unless None e walked = refl

pub pair_unless : (r : Option StreamRefusal) (e : PairStreams) (walked : PairWalked)
    → (pair_walked_unless r e walked).outcome ≡ outcome_unless r walked.outcome
pair_unless (Some r) e walked = refl
pair_unless None e walked = refl
