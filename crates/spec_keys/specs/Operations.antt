-- The manager's operations on streams, said by their verdicts.
use Rattle.std.specs.Prelude.{◌+◌, ◌==◌, ◌&&◌, if◌then◌else◌, ◌∷◌, ℕ, nat_lt, Bool, true, false, not, Option, Some}
use Rattle.std.specs.Prelude.{None, List, length}
use Rattle.spec_keys.specs.Terms.{Event, Operation, Verdict, PortName}
use Rattle.ide_types.specs.Lines.{is_hosted}
use Rattle.spec_keys.specs.Places.{is_line_reset, is_between_devices}
use Rattle.script_events.specs.declared.event.Event.TheVariants as event
use Rattle.event_verdicts.specs.declared.verdict.Operation.TheVariants as op
use Rattle.event_verdicts.specs.declared.verdict.Verdict.TheVariants as v

-- What the manager knows of a stream: it has no keys; it is being keyed with a draw in set 0, and which exchange
-- is next; it is keyed; it is being given the key of a draw in the other set; its keys are being taken away.
pub data StreamStage : Type 0 where
  Idle : StreamStage
  Establishing : (draw next : ℕ) → StreamStage
  Up : (set : Bool) (draw : ℕ) → StreamStage
  Refreshing : (set : Bool) (draw next : ℕ) → StreamStage
  Stopping : (next : ℕ) → StreamStage

-- an operation at an event: its key set, its draw, the first exchange that the event reaches, and whether it begins
pub record Work : Type 0 where
  pub operation : Operation
  pub set : Bool
  pub draw : ℕ
  pub first : ℕ
  pub begins : Bool

abbrev pub new_work : Operation → Bool → ℕ → ℕ → Bool → Work
new_work o set draw first begins = record { operation = o; set = set; draw = draw; first = first; begins = begins }

-- the operation goes on where it stands, else it begins with the next draw; a refresh takes the set that is not current
abbrev pub work_of : Operation → StreamStage → ℕ → Work
work_of op.Establish (Establishing j n) next = new_work op.Establish false j n false
work_of op.Establish _ next = new_work op.Establish false next 1 true
work_of op.Refresh (Refreshing set j n) next = new_work op.Refresh set j n false
work_of op.Refresh (Up set j) next = new_work op.Refresh (not set) next 1 true
work_of op.Refresh _ next = new_work op.Refresh true next 1 true
work_of op.Stop (Stopping n) next = new_work op.Stop false 0 n false
work_of op.Stop _ next = new_work op.Stop false 0 1 true

-- the number of its last exchange: with a host's port at the near end, and if both ends are keyed by messages
abbrev pub last_exchange_of : (hosted : Bool) → Operation → ℕ
last_exchange_of true op.Establish = 13
last_exchange_of true _ = 12
last_exchange_of false _ = 24

-- how far an event came: each exchange below the one was carried to its end, each below the other acknowledged
pub record Reach : Type 0 where
  pub carried : ℕ
  pub acknowledged : ℕ

abbrev pub new_reach : ℕ → ℕ → Reach
new_reach carried acknowledged = record { carried = carried; acknowledged = acknowledged }

-- to the end of an operation on a line
abbrev pub whole : ℕ → Operation → Reach
whole line o = new_reach (last_exchange_of (is_hosted line) o + 1) (last_exchange_of (is_hosted line) o + 1)

-- by the verdict; nothing if the operation was refused
abbrev pub reach_of : Operation → Verdict → Option Reach
reach_of o (v.Established l s j) = Some (whole l o)
reach_of o (v.Refreshed l s j) = Some (whole l o)
reach_of o (v.Stopped l s) = Some (whole l o)
reach_of o (v.LostRequest n) = Some (new_reach n n)
reach_of o (v.LostReply n) = Some (new_reach (n + 1) n)
reach_of o (v.RefusedDevice n code) = Some (new_reach (n + 1) n)
reach_of o _ = None

abbrev pub op_ended : Work → StreamStage
op_ended w = ended w.operation
  where
    ended : Operation → StreamStage
    ended op.Establish = Up w.set w.draw
    ended op.Refresh = Up w.set w.draw
    ended op.Stop = Idle

abbrev pub op_at_exchange : Work → ℕ → StreamStage
op_at_exchange w n = stage w.operation
  where
    stage : Operation → StreamStage
    stage op.Establish = Establishing w.draw n
    stage op.Refresh = Refreshing w.set w.draw n
    stage op.Stop = Stopping n

abbrev pub op_after_reach : (hosted : Bool) → Work → Reach → StreamStage
op_after_reach hosted w r =
    if nat_lt (last_exchange_of hosted w.operation) r.acknowledged then op_ended w else op_at_exchange w r.acknowledged

-- an operation that began with a draw
pub record Begun : Type 0 where
  pub line : ℕ
  pub stream : ℕ
  pub set : Bool

-- the state of each stream by its line and id, and the operations that began with a draw, the newest first
pub record StreamOperations : Type 0 where
  pub ops : ℕ → ℕ → StreamStage
  pub begun : List Begun

abbrev pub makes_draw : Operation → Bool
makes_draw op.Stop = false
makes_draw _ = true

abbrev pub begun_after_work : List Begun → ℕ → ℕ → Work → List Begun
begun_after_work bs line stream w = if w.begins && makes_draw w.operation then record {
  line = line;
  stream = stream;
  set = w.set;
} ∷ bs else bs

abbrev pub manager_after_operation : StreamOperations → Operation → ℕ → ℕ → Option Reach → StreamOperations
manager_after_operation m o line stream None = m
manager_after_operation m o line stream (Some r) =
    let w = work_of o (m.ops line stream) (length m.begun) in
    record {
      ops = λ a b. if (a == line) && (b == stream) then op_after_reach (is_hosted line) w r else m.ops a b;
      begun = begun_after_work m.begun line stream w;
    }

-- after a reset that clears these ends: the two ends of a stream between devices are to be stopped, any other has no
-- keys
abbrev pub op_after_reset : List PortName → ℕ → StreamStage → StreamStage
op_after_reset ends line o = if is_line_reset ends line then (if is_between_devices line then Stopping 1 else Idle) else
    o

abbrev pub manager_after : StreamOperations → Event → Verdict → StreamOperations
manager_after m (event.Establish line stream loss) verdict = manager_after_operation m op.Establish line stream
    (reach_of op.Establish verdict)
manager_after m (event.Refresh line stream loss) verdict = manager_after_operation m op.Refresh line stream
    (reach_of op.Refresh verdict)
manager_after m (event.Stop line stream loss) verdict = manager_after_operation m op.Stop line stream
    (reach_of op.Stop verdict)
manager_after m (event.Reset link ends) (v.Reset l) = record {
  ops = λ a b. op_after_reset ends a (m.ops a b);
  begun = m.begun;
}
manager_after m _ _ = m
