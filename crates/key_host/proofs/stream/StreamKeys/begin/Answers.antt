use Rattle.std.proofs.Common.{◌≡◌, ℕ, Bool, true, false, [], refl}
use Rattle.std.specs.Prelude.{if◌then◌else◌}
use Rattle.event_verdicts.specs.declared.verdict.Operation.TheVariants as op
use Rattle.key_slots.specs.{Pool}
use Rattle.spec_keys.specs.Operations.{StreamStage, Idle, Establishing, Up, Refreshing, Stopping, work_of}
use Rattle.key_host.specs.Local.{stream_stop_calls}
use Rattle.key_host.specs.Streams.{HostView, refusal_of, unless, begun_calls, has_host}
use Rattle.key_host.proofs.stream.StreamKeys.begin.Goals as goal

-- a stop that begins empties all slots of a host's port
stop_calls : (hosted : Bool) (o : StreamStage) (host : HostView) (pool : Pool) (id : ℕ) → (work_of op.Stop o 0).begins
    ≡ true
    → unless (refusal_of op.Stop o host pool) [] (begun_calls hosted (work_of op.Stop o pool.draws) pool id)
    ≡ (if hosted then stream_stop_calls id else [])
stop_calls true Idle host pool id begins = refl
stop_calls true (Establishing draw next) host pool id begins = refl
stop_calls true (Up set draw) host pool id begins = refl
stop_calls true (Refreshing set draw next) host pool id begins = refl
stop_calls false Idle host pool id begins = refl
stop_calls false (Establishing draw next) host pool id begins = refl
stop_calls false (Up set draw) host pool id begins = refl
stop_calls false (Refreshing set draw next) host pool id begins = refl
stop_calls hosted (Stopping next) host pool id begins = absurd cc

pub returns-in-Stop-clause-calls : goal.returns-in-Stop-clause-calls
returns-in-Stop-clause-calls g c =
    let begins : (work_of op.Stop c.args.self.now.op 0).begins
    ≡ true = rw (← c.self.view_is, ← c.in-Stop.is, ← c.begins.ensures) c.if-not-begins.false in
    rw (
      c.in-Stop.is,
      stop_calls (has_host c.args.self.now) c.args.self.now.op _ _ _ begins,
      ← c.self.view_is,
      ← c.is_hosted.ensures,
    ) c.empty_host.ensures
