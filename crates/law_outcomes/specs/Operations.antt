-- Which operations succeed if none of their messages is lost.
use Rattle.std.specs.Prelude.{not, ◌≡◌, ◌≢◌, ◌≤◌, ◌<◌, ◌/◌, ◌∷◌, ℕ, Bool, true, false, List, length, Some, None}
use Rattle.std.specs.Prelude.{is_some}
use Rattle.ide_types.specs.declared.plan.Plan.{Plan}
use Rattle.spec_keys.specs.History.{History, draws, op_of, history_status, history_slot, program_exchange}
use Rattle.spec_keys.specs.Operations.{StreamStage, Idle, Establishing, Up, Refreshing}
use Rattle.spec_keys.specs.Places.{KeyPlace}
use Rattle.spec_keys.specs.Keys.{is_live_draw}
use Rattle.ide_types.specs.Lines.{is_link_line}
use Rattle.ide_types.specs.declared.port.Side.{Side}
use Rattle.ide_types.specs.declared.sub.SubKind.{SubKind}
use Rattle.event_verdicts.specs.declared.verdict.Operation.TheVariants as op
use Rattle.spec_links.specs.Plan.{stream_plan}
use Rattle.spec_interfaces.specs.Terms.{View, Running, Lock, lock_of, kept_report, Event, Verdict, Host, Device}
use Rattle.spec_interfaces.specs.Terms.{Unlocked, Locked, state_code}
use Rattle.spec_interfaces.specs.Sites.{Site, site_at, nonce_behind}
use Rattle.spec_interfaces.specs.Views.{managed_view, view_at, needs_at, stream_draw}
use Rattle.spec_interfaces.specs.Devices.{interface_at, used_at}
use Rattle.interface_state.specs.Bars.{bars_of, any_overlap}
use Rattle.law_locks.specs.Fronts.{AtPairs}
use Rattle.ide_types.specs.declared.status.StreamStatus.TheVariants as status
use Rattle.script_events.specs.declared.event.Event.TheVariants as event
use Rattle.script_events.specs.declared.event.InterfaceEvent.TheVariants as ie
use Rattle.event_verdicts.specs.declared.verdict.Verdict.TheVariants as v
use Rattle.ide_types.specs.declared.verdict.InterfaceVerdict.TheVariants as iv

-- its stream is Secure at both ends, the BARs do not overlap by its registers, and this nonce is left
pub record MayLock (plan : Plan) (h : History) (x : Site) (nonce : List ℕ) : Type 0 where
  pub view : view_at h x ≡ Unlocked
  pub at_host : history_status h Host x.link x.plan.stream ≡ status.Secure
  pub at_device : history_status h Device x.link x.plan.stream ≡ status.Secure
  pub apart : any_overlap (bars_of x.plan (interface_at plan h x).registers) ≡ false
  pub next : nonce_behind plan x.link (used_at plan h x.link) ≡ Some nonce

-- the manager asks the device to start it
pub record MayStart (h : History) (x : Site) : Type 0 where
  pub view : view_at h x ≡ Locked
  pub reported : (managed_view h x).reported ≡ true
  pub at_host : history_status h Host x.link x.plan.stream ≡ status.Secure
  pub fresh : needs_at h x ≤ stream_draw h x.link x.plan.stream

-- the view lets its report be read
abbrev pub is_locked_or_running : View → Bool
is_locked_or_running Locked = true
is_locked_or_running Running = true
is_locked_or_running view = false

-- the device starts it exactly in CONFIG_LOCKED, and else answers with error code 0004h
pub record StartsLocked (plan : Plan) (h : History) (x : Site) (w : Verdict) : Type 0 where
  pub locked : state_code (interface_at plan h x).state ≡ 1
      → w ≡ v.Interface (iv.Started x.number (stream_draw h x.link x.plan.stream))
  pub not_locked : state_code (interface_at plan h x).state ≢ 1 → w ≡ v.RefusedDevice 1 4

-- the manager establishes the stream under this draw: it begins to, and the draw is the next one that is left; or it
-- goes on
abbrev pub Establishes : Plan → History → StreamStage → ℕ → Type 0
Establishes plan h Idle draw = (draws h < length plan.pool / 6) × (draw ≡ draws h)
Establishes plan h (Establishing j next) draw = draw ≡ j
Establishes plan h q draw = ⊥

-- where an end seals a sub-stream
abbrev pub sender_at : Side → (line stream : ℕ) → SubKind → KeyPlace
sender_at side line stream u = record { side = side; line = line; stream = stream; sends = true; sub = u }

-- the set has no Live key there: that of a set that is not current is Live while a unit under it is unfinished
abbrev pub IsClosed : History → KeyPlace → Bool → Type 0
IsClosed h p set = is_live_draw (history_slot h p set) ≡ false

-- The manager refreshes the stream under this draw: it begins to, the stream is Secure at the host's port, the draw is
-- the next one that is left, and no sender of either end has a Live key in the set that is to be given; or it goes on,
-- and none has one there whose KEY_PROG was not acknowledged.
abbrev pub Refreshes : Plan → History → (line stream : ℕ) → StreamStage → ℕ → Type 0
Refreshes plan h line stream (Up set j) draw =
    (draws h < length plan.pool / 6) × (draw ≡ draws h)
    × (history_status h Host line stream ≡ status.Secure)
    × ((side : Side) (u : SubKind) → IsClosed h (sender_at side line stream u) (not set))
Refreshes plan h line stream (Refreshing set j next) draw =
    (draw ≡ j)
    × ((side : Side) (u : SubKind) → next ≤ program_exchange op.Refresh (sender_at side line stream u)
    → IsClosed h (sender_at side line stream u) set)
Refreshes plan h line stream q draw = ⊥

-- An establish that the manager does not refuse: no device refuses it. A refresh, if no unit that is open is in its
-- way. A stop and a halt, whatever stands. A lock, a
-- report and a start, if their premises hold.
abbrev pub Succeeds : Plan → History → Event → Verdict → Type 0
Succeeds plan h (event.Establish line stream None) w =
    (draw : ℕ) → is_some (stream_plan plan line stream) ≡ true → Establishes plan h (op_of h line stream) draw
    → w ≡ v.Established line stream draw
Succeeds plan h (event.Refresh line stream None) w =
    (draw : ℕ) → is_link_line line ≡ true → is_some (stream_plan plan line stream) ≡ true
    → Refreshes plan h line stream (op_of h line stream) draw → w ≡ v.Refreshed line stream draw
Succeeds plan h (event.Stop line stream None) w =
    is_some (stream_plan plan line stream) ≡ true → w ≡ v.Stopped line stream
Succeeds plan h (event.Interface (ie.Halt i None)) w =
    (x : Site) → site_at plan i ≡ Some x
    → w ≡ v.Interface (iv.Halted i (needs_at ((event.Interface (ie.Halt i None), w) ∷ h) x))
Succeeds plan h (event.Interface (ie.Lock i None)) w =
    (x : Site) (nonce : List ℕ) → site_at plan i ≡ Some x → MayLock plan h x nonce
    → w ≡ v.Interface (iv.Locked i nonce)
Succeeds plan h (event.Interface (ie.Report i None)) w =
    (x : Site) (lock : Lock) → site_at plan i ≡ Some x → is_locked_or_running (view_at h x) ≡ true
    → lock_of (interface_at plan h x).state ≡ Some lock → w ≡ v.Interface (iv.Reported i (kept_report x.plan lock))
Succeeds plan h (event.Interface (ie.Start i None)) w =
    (x : Site) → site_at plan i ≡ Some x → MayStart h x → StartsLocked plan h x w
Succeeds plan h e w = Unit {0}

abbrev pub OperationLaw : Plan → History → Type 0
OperationLaw plan h = AtPairs (Succeeds plan) h
