-- What the machine makes of an interface by an operation: it is the step of this interface alone, its layout stays, and
-- a lock binds it to the topology's stream.
use Rattle.std.proofs.Common.{◌≡◌, ℕ, Bool, true, false, List, Option, Result, Ok, Err, refl, ap, sym}
use Rattle.std.specs.Prelude.{IfSome, if◌then◌else◌}
use Rattle.std.specs.Str.{bytes_eq}
use Rattle.spec_keys.proofs.Tests.{same-true}
use Rattle.ide_types.specs.declared.plan.Plan.{Plan}
use Rattle.ide_types.specs.declared.interface.InterfacePlan.{InterfacePlan}
use Rattle.script_events.specs.declared.event.Loss.{Loss}
use Rattle.script_events.specs.declared.event.Event.TheVariants as event
use Rattle.event_verdicts.specs.declared.verdict.Verdict.{Verdict}
use Rattle.interface_state.specs.declared.states.Lock.{Lock}
use Rattle.interface_state.specs.declared.states.TdiState.{TdiState}
use Rattle.interface_state.specs.declared.states.TdiState.TheVariants.{ConfigUnlocked, ConfigLocked, Run, Error}
use Rattle.interface_state.specs.Machine.{DeviceTdi, Call, StartInterface, StopInterface, bound_link_stream}
use Rattle.interface_state.specs.Machine.{after_start, interface_after_call, interface_after_lock, new_lock, BindStream}
use Rattle.interface_state.specs.Machine.{UnbindStream, bind_answer, interface_after_bind, unbind_answer, unbound_with}
use Rattle.spec_interfaces.specs.Sites.{Site}
use Rattle.spec_interfaces.specs.Views.{is_number, number_in, on_operation}
use Rattle.spec_interfaces.specs.Devices.{Around, interface_asked, interface_if_called, lock_call}
use Rattle.spec_interfaces.specs.Exchanges.{carries}
use Rattle.spec_interfaces.specs.Due.{lock_answer_at}
use Rattle.machine_whole.specs.Interfaces.{Face, Streams, ends_of_streams, around_of, next_face}
use Rattle.interface_host.specs.declared.operation.InterfaceOperation.{InterfaceOperation}
use Rattle.interface_host.specs.declared.operation.InterfaceOperation.TheVariants as op
use Rattle.join_interfaces.specs.Verdicts.{op_event}

-- ---- the step

number_is : (o : InterfaceOperation) (loss : Option Loss) (n : ℕ) → is_number (number_in (op_event o n loss)) n ≡ true
number_is op.Lock loss n = same-true n
number_is op.Report loss n = same-true n
number_is op.Start loss n = same-true n
number_is op.Halt loss n = same-true n
number_is op.State loss n = same-true n
number_is (op.Bind peer) loss n = same-true n
number_is (op.Unbind peer) loss n = same-true n

pub face_behind : (plan : Plan) (s : Streams) (used : ℕ → ℕ) (x : Site) (f : Face) (o : InterfaceOperation)
    (loss : Option Loss) (due : Verdict)
    → (let k : Face = record {
      tdi = interface_asked (around_of plan s used x f) x (op_event o x.number loss) due f.tdi;
      managed = on_operation s.drawn (op_event o x.number loss) due f.managed;
    } in k) ≡ next_face plan s (ends_of_streams s) used (event.Interface (op_event o x.number loss)) due x f
face_behind plan s used x f o loss due = ap
    (λ (b : Bool). let k : Face = record {
      tdi = if b then interface_asked (around_of plan s used x f) x (op_event o x.number loss) due f.tdi else f.tdi;
      managed = if b then on_operation s.drawn (op_event o x.number loss) due f.managed else f.managed;
    } in k)
    (sym (number_is o loss x.number))

-- ---- layout and bound stream

pub record IsBound (p : InterfacePlan) (tdi : DeviceTdi) : Type 0 where
  pub layout : tdi.plan ≡ p
  pub bound : IfSome (bound_link_stream tdi.state) (λ stream. stream ≡ p.stream)

called_bound : (p : InterfacePlan) (b : Bool) (call : Call) (tdi : DeviceTdi) → IsBound p tdi
    → IsBound p (interface_after_call tdi call) → IsBound p (interface_if_called b call tdi)
called_bound p true call tdi before behind = behind
called_bound p false call tdi before behind = before

lock_bound : (p : InterfacePlan) (flags offset : ℕ) (tdi : DeviceTdi) (r : Result (List ℕ) ℕ) → IsBound p tdi
    → IsBound p (interface_after_lock tdi (new_lock tdi flags p.stream offset) r)
lock_bound p flags offset tdi (Ok nonce) before = record { layout = before.layout; bound = refl }
lock_bound p flags offset tdi (Err code) before = before

bind_bound : (p : InterfacePlan) (tdi : DeviceTdi) (stream : ℕ) (r : Result ℕ ℕ) → IsBound p tdi
    → IsBound p (interface_after_bind tdi stream r)
bind_bound p tdi stream (Ok draw) before = record { layout = before.layout; bound = before.bound }
bind_bound p tdi stream (Err code) before = before

unbind_bound : (p : InterfacePlan) (tdi : DeviceTdi) (stream : ℕ) (r : Result (Unit {0}) ℕ) → IsBound p tdi
    → IsBound p (unbound_with tdi stream r)
unbind_bound p tdi stream (Ok done) before = record { layout = before.layout; bound = before.bound }
unbind_bound p tdi stream (Err code) before = before

held_bound : (p : InterfacePlan) (b : Bool) (lock : Lock) (held : List ℕ) → lock.stream ≡ p.stream
    → IfSome (bound_link_stream (if b then Run lock else ConfigLocked lock held)) (λ stream. stream ≡ p.stream)
held_bound p true lock held is = is
held_bound p false lock held is = is

start_bound : (p : InterfacePlan) (state : TdiState) (nonce : List ℕ)
    → IfSome (bound_link_stream state) (λ stream. stream ≡ p.stream)
    → IfSome (bound_link_stream (after_start state nonce)) (λ stream. stream ≡ p.stream)
start_bound p ConfigUnlocked nonce is = is
start_bound p (ConfigLocked lock held) nonce is = held_bound p (bytes_eq nonce held) lock held is
start_bound p (Run lock) nonce is = is
start_bound p Error nonce is = is

pub asked_bound : (a : Around) (x : Site) (o : InterfaceOperation) (loss : Option Loss) (w : Verdict) (tdi : DeviceTdi)
    → IsBound x.plan tdi → IsBound x.plan (interface_asked a x (op_event o x.number loss) w tdi)
asked_bound a x op.Lock loss w tdi is = called_bound x.plan (carries w 3) (lock_call a x) tdi is
    (lock_bound x.plan x.plan.flags x.plan.offset tdi (lock_answer_at a x tdi) is)
asked_bound a x op.Report loss w tdi is = is
asked_bound a x op.Start loss w tdi is =
    called_bound x.plan (carries w 1) (StartInterface a.nonce) tdi is
    (record { layout = is.layout; bound = start_bound x.plan tdi.state a.nonce is.bound })
asked_bound a x op.Halt loss w tdi is =
    called_bound x.plan (carries w 1) StopInterface tdi is (record { layout = is.layout; bound = tt })
asked_bound a x op.State loss w tdi is = is
asked_bound a x (op.Bind peer) loss w tdi is = called_bound x.plan (carries w 1) (BindStream peer.id (a.live peer.id))
    tdi is (bind_bound x.plan tdi peer.id (bind_answer tdi peer.id (a.live peer.id)) is)
asked_bound a x (op.Unbind peer) loss w tdi is = called_bound x.plan (carries w 1) (UnbindStream peer.id) tdi is
    (unbind_bound x.plan tdi peer.id (unbind_answer tdi peer.id) is)
