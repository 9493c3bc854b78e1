-- An event of the manager gives the verdict that is due.
use Rattle.std.proofs.Common.{◌≡◌, ℕ, ◌+◌, ◌-◌, ◌≤◌, Bool, true, false, Option, Some, None, refl, arith}
use Rattle.std.specs.Prelude.{nat_lt, not, if◌then◌else◌}
use Rattle.ide_types.specs.declared.sub.SubKind.TheVariants.{Pr, Npr, Cpl}
use Rattle.ide_types.specs.declared.status.StreamStatus.{StreamStatus}
use Rattle.ide_types.specs.declared.status.StreamStatus.TheVariants as status
use Rattle.script_events.specs.declared.event.Loss.{Loss}
use Rattle.event_verdicts.specs.declared.verdict.Operation.{Operation}
use Rattle.event_verdicts.specs.declared.verdict.Operation.TheVariants as op
use Rattle.event_verdicts.specs.declared.verdict.Verdict.{Verdict}
use Rattle.event_verdicts.specs.declared.verdict.Verdict.TheVariants as v
use Rattle.key_slots.specs.{Pool, draws_in}
use Rattle.spec_keys.specs.Places.{KeyPlan}
use Rattle.spec_keys.specs.Operations.{StreamStage, Idle, Establishing, Up, Refreshing, Stopping, Work, new_work}
use Rattle.spec_keys.specs.Operations.{last_exchange_of, reach_of, op_at_exchange}
use Rattle.ide_types.specs.Lines.{is_hosted}
use Rattle.spec_keys.specs.Due.{PortView, refusal_at, operation_verdict, is_live_sender}
use Rattle.key_host.specs.declared.operation.StreamRefusal.{StreamRefusal}
use Rattle.key_host.specs.declared.operation.StreamRefusal.TheVariants.{PoolEmpty, UnitOpen}
use Rattle.key_slots.specs.Wires.{WireKeys}
use Rattle.key_host.specs.Streams.{StreamView, HostView, asked_of_unfinished, first_of, begun_stream}
use Rattle.key_host.specs.Walk.{answers, Walked, walk, walked_unless, verdict_of, op_if_reached, IsAsked}
use Rattle.key_host.specs.Walk.{HostSeesPorts, WalkIsDue, WalksAreDue}
use Rattle.key_host.proofs.Walks.{WorkFits, walk_comes}

-- what an event gives, with the verdict that is due
record Both (o : Operation) (w : Work) (line id : ℕ) (loss : Option Loss) (before : StreamStage) (x : Walked)
    (due : Verdict) :
    Type 0 where
  verdict_is : verdict_of o line id loss x.outcome ≡ Some due
  op_is : x.stream.op ≡ op_if_reached (is_hosted line) before w (reach_of o due)

-- an empty pool
pooled : (o : Operation) (w : Work) (line id : ℕ) (loss : Option Loss) (s : StreamView) (x : Walked) (due : Verdict)
    (draws : ℕ) → Both o w line id loss s.op x due
    → (t : Bool) → Both o w line id loss s.op (walked_unless (if not t then Some (PoolEmpty draws) else None) s x)
    (if t then due else v.RefusedPoolEmpty draws)
pooled o w line id loss s x due draws both true = both
pooled o w line id loss s x due draws both false = record { verdict_is = refl; op_is = refl }

-- a unit that is unfinished
opened : (o : Operation) (w : Work) (line id : ℕ) (loss : Option Loss) (s : StreamView) (x : Walked) (due : Verdict)
    (rest : Option StreamRefusal) → Both o w line id loss s.op (walked_unless rest s x) due
    → (a b c : Bool) → Both o w line id loss s.op
    (walked_unless (first_of
    (if a then Some (UnitOpen Pr) else if b then Some (UnitOpen Npr) else if c then Some (UnitOpen Cpl) else None)
    rest) s x)
    (if a then v.RefusedUnitOpen Pr else if b then v.RefusedUnitOpen Npr else if c then v.RefusedUnitOpen Cpl else due)
opened o w line id loss s x due rest both true b c = record { verdict_is = refl; op_is = refl }
opened o w line id loss s x due rest both false true c = record { verdict_is = refl; op_is = refl }
opened o w line id loss s x due rest both false false true = record { verdict_is = refl; op_is = refl }
opened o w line id loss s x due rest both false false false = both

abbrev at_op : ℕ → ℕ → StreamStage → WireKeys → StreamView
at_op line id o keys = record { line = line; id = id; op = o; keys = keys }

-- the walk of an operation that begins or goes on
performs : (o : Operation) (set : Bool) (draw f : ℕ) (b : Bool) → WorkFits o set draw
    → (ports : PortView) (line id : ℕ) (loss : Option Loss) (before : StreamStage) (s : StreamView)
    → f ≤ last_exchange_of (is_hosted line) o → s.op ≡ op_at_exchange (new_work o set draw f b) f
    → Both o (new_work o set draw f b) line id loss before
    (walk (is_hosted line) (last_exchange_of (is_hosted line) o + 1 - f) (answers loss (refusal_at ports o set line id))
    s)
    (operation_verdict ports line id loss (new_work o set draw f b))
performs o set draw f b fits ports line id loss before s le at =
    let comes = walk_comes o set draw f b fits ports line id loss before s le at in
    record { verdict_is = comes.verdict_is; op_is = comes.op_is }

one_least : (hosted : Bool) (o : Operation) → 1 ≤ last_exchange_of hosted o
one_least hosted o = grind arith

-- by the state of the stream: if the operation is refused the cause is the one that is due, and else its walk is
pub establishes : (plan : KeyPlan) (ports : PortView) (st : StreamStatus) (host : HostView) (pool : Pool)
    (loss : Option Loss) (line id : ℕ) (keys : WireKeys) (o : StreamStage)
    → IsAsked (is_hosted line) (asked_of_unfinished o)
    → plan.pool ≡ draws_in pool.keys → WalkIsDue (is_hosted line) op.Establish plan ports st host pool loss
    (at_op line id o keys)
unfolding WorkFits
establishes plan ports st host pool loss line id keys Idle asked pool_is =
    let w = new_work op.Establish false pool.draws 1 true in
    let s = at_op line id Idle keys in
    let both = performs op.Establish false pool.draws 1 true refl ports line id loss Idle
    (begun_stream (is_hosted line) w pool s)
    (one_least (is_hosted line) op.Establish) refl in
    let all = pooled op.Establish w line id loss s
    (walk (is_hosted line) (last_exchange_of (is_hosted line) op.Establish + 1 - 1)
    (answers loss (refusal_at ports op.Establish false line id)) (begun_stream (is_hosted line) w pool s))
    (operation_verdict ports line id loss w) pool.draws both (nat_lt pool.draws (draws_in pool.keys)) in
    rw pool_is (record { verdict_is = all.verdict_is; op_is = all.op_is })
establishes plan ports st host pool loss line id keys (Establishing j n) asked pool_is =
    let both = performs op.Establish false j n false refl ports line id loss (Establishing j n)
    (at_op line id (Establishing j n) keys) asked.1 refl in
    record { verdict_is = both.verdict_is; op_is = both.op_is }
establishes plan ports st host pool loss line id keys (Up k j) asked pool_is = record
    { verdict_is = refl; op_is = refl }
establishes plan ports st host pool loss line id keys (Refreshing k j n) asked pool_is = record
    { verdict_is = refl; op_is = refl }
establishes plan ports st host pool loss line id keys (Stopping n) asked pool_is = record
    { verdict_is = refl; op_is = refl }

-- by the state of the stream: a stop begins in each but its own, in which it goes on, and its walk gives what is due
pub stops : (plan : KeyPlan) (ports : PortView) (st : StreamStatus) (host : HostView) (pool : Pool) (loss : Option Loss)
    (line id : ℕ) (keys : WireKeys) (o : StreamStage) → IsAsked (is_hosted line) (asked_of_unfinished o)
    → WalkIsDue (is_hosted line) op.Stop plan ports st host pool loss (at_op line id o keys)
unfolding WorkFits
stops plan ports st host pool loss line id keys (Stopping n) asked =
    let both = performs op.Stop false 0 n false (refl, refl) ports line id loss (Stopping n)
    (at_op line id (Stopping n) keys) asked.1 refl in
    record { verdict_is = both.verdict_is; op_is = both.op_is }
stops plan ports st host pool loss line id keys Idle asked =
    let both = performs op.Stop false 0 1 true (refl, refl) ports line id loss Idle
    (begun_stream (is_hosted line) (new_work op.Stop false 0 1 true) pool (at_op line id Idle keys))
    (one_least (is_hosted line) op.Stop) refl in
    record { verdict_is = both.verdict_is; op_is = both.op_is }
stops plan ports st host pool loss line id keys (Establishing j n) asked =
    let both = performs op.Stop false 0 1 true (refl, refl) ports line id loss (Establishing j n)
    (begun_stream (is_hosted line) (new_work op.Stop false 0 1 true) pool (at_op line id (Establishing j n) keys))
    (one_least (is_hosted line) op.Stop) refl in
    record { verdict_is = both.verdict_is; op_is = both.op_is }
stops plan ports st host pool loss line id keys (Up k j) asked =
    let both = performs op.Stop false 0 1 true (refl, refl) ports line id loss (Up k j)
    (begun_stream (is_hosted line) (new_work op.Stop false 0 1 true) pool (at_op line id (Up k j) keys))
    (one_least (is_hosted line) op.Stop) refl in
    record { verdict_is = both.verdict_is; op_is = both.op_is }
stops plan ports st host pool loss line id keys (Refreshing k j n) asked =
    let both = performs op.Stop false 0 1 true (refl, refl) ports line id loss (Refreshing k j n)
    (begun_stream (is_hosted line) (new_work op.Stop false 0 1 true) pool (at_op line id (Refreshing k j n) keys))
    (one_least (is_hosted line) op.Stop) refl in
    record { verdict_is = both.verdict_is; op_is = both.op_is }

-- by the state of the stream: if the operation is refused the cause is the one that is due, and else its walk is
refreshes : (plan : KeyPlan) (ports : PortView) (st : StreamStatus) (host : HostView) (pool : Pool) (loss : Option Loss)
    (line id : ℕ) (keys : WireKeys) (o : StreamStage) → IsAsked (is_hosted line) (asked_of_unfinished o)
    → HostSeesPorts plan ports line id st host pool → WalkIsDue (is_hosted line) op.Refresh plan ports st host pool
    loss
    (at_op line id o keys)
unfolding WorkFits
refreshes plan ports st host pool loss line id keys Idle asked reads = rw reads.status_is
    (record { verdict_is = refl; op_is = refl })
refreshes plan ports st host pool loss line id keys (Establishing j n) asked reads = record
    { verdict_is = refl; op_is = refl }
refreshes plan ports status.Idle host pool loss line id keys (Up k j) asked reads = rw reads.status_is
    (record { verdict_is = refl; op_is = refl })
refreshes plan ports status.Partial host pool loss line id keys (Up k j) asked reads = rw reads.status_is
    (record { verdict_is = refl; op_is = refl })
refreshes plan ports status.Insecure host pool loss line id keys (Up k j) asked reads = rw reads.status_is
    (record { verdict_is = refl; op_is = refl })
refreshes plan ports status.Secure host pool loss line id keys (Up k j) asked reads =
    let w = new_work op.Refresh (not k) pool.draws 1 true in
    let s = at_op line id (Up k j) keys in
    let x = walk (is_hosted line) (last_exchange_of (is_hosted line) op.Refresh + 1 - 1)
    (answers loss (refusal_at ports op.Refresh (not k) line id)) (begun_stream (is_hosted line) w pool s) in
    let t = nat_lt pool.draws (draws_in pool.keys) in
    let both = performs op.Refresh (not k) pool.draws 1 true tt ports line id loss (Up k j)
    (begun_stream (is_hosted line) w pool s)
    (one_least (is_hosted line) op.Refresh) refl in
    let empty = pooled op.Refresh w line id loss s x (operation_verdict ports line id loss w) pool.draws both t in
    let all = opened op.Refresh w line id loss s x
    (if t then operation_verdict ports line id loss w else v.RefusedPoolEmpty pool.draws)
    (if not t then Some (PoolEmpty pool.draws) else None) empty
    (is_live_sender ports line id (not k) Pr) (is_live_sender ports line id (not k) Npr)
    (is_live_sender ports line id (not k) Cpl) in
    let pr = reads.live_is (not k) Pr in
    let npr = reads.live_is (not k) Npr in
    let cpl = reads.live_is (not k) Cpl in
    rw (reads.status_is, reads.pool_is)
    (record { verdict_is = rw (pr, npr, cpl) all.verdict_is; op_is = rw (pr, npr, cpl) all.op_is })
refreshes plan ports st host pool loss line id keys (Refreshing k j n) asked reads =
    let both = performs op.Refresh k j n false tt ports line id loss (Refreshing k j n)
    (at_op line id (Refreshing k j n) keys) asked.1 refl in
    record { verdict_is = both.verdict_is; op_is = both.op_is }
refreshes plan ports st host pool loss line id keys (Stopping n) asked reads = record
    { verdict_is = refl; op_is = refl }

pub all_due : WalksAreDue
all_due op.Establish plan ports st host pool loss s asked reads = establishes plan ports st host pool loss s.line s.id
    s.keys s.op asked reads.pool_is
all_due op.Refresh plan ports st host pool loss s asked reads = refreshes plan ports st host pool loss s.line s.id
    s.keys s.op asked reads
all_due op.Stop plan ports st host pool loss s asked reads = stops plan ports st host pool loss s.line s.id s.keys s.op
    asked
