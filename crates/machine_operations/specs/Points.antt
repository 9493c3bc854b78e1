-- What the slots and the manager's state of a stream say of its keys.
use Rattle.std.specs.Prelude.{◌≡◌, ◌<◌, ℕ, Bool, false, Option, Some, None, List, option_map, if◌then◌else◌}
use Rattle.ide_types.specs.declared.sub.SubKind.{SubKind}
use Rattle.ide_types.specs.declared.port.Side.{Side}
use Rattle.event_verdicts.specs.declared.verdict.Operation.TheVariants as op
use Rattle.ide_types.specs.declared.plan.Plan.{Plan}
use Rattle.spec_keys.specs.Operations.{Idle, Establishing, Refreshing}
use Rattle.spec_keys.specs.History.{History, kept_draw, draw_on_at, go_exchange}
use Rattle.machine_ports.specs.{SubStream, lane_out, lane_in, key_of}
use Rattle.machine_ports.specs.Stream.{LaneSlot, Empty, Programmed, Armed, Live, StreamState, slot_in_set, slots_at}
use Rattle.machine_ports.specs.Machine.{LinkState, find, find_op, port_at, place_at_end}
use Rattle.machine_ports.specs.Stands.{PortsStandFor}

-- the draw in a slot, and its key
abbrev pub key_held : LaneSlot → Option (ℕ × List ℕ)
key_held Empty = None
key_held (Programmed j key) = Some (j, key)
key_held (Armed j key) = Some (j, key)
key_held (Live x) = Some (x.draw, x.key)

-- what a port seals, or receives
abbrev pub point_lane : Side → ℕ → ℕ → Bool → SubKind → SubStream
point_lane side line stream sends u =
    if sends then lane_out (port_at side line) stream u else lane_in (port_at side line) stream u

pub record StreamPoints (plan : Plan) (st : LinkState) (h : History) : Type 0 where
  -- a slot holds the key of a draw exactly if the draw is kept there
  pub kept : (side : Side) (line stream : ℕ) (x : StreamState) → find plan st (port_at side line) stream ≡ Some x
      → (sends : Bool) (u : SubKind) (k : Bool)
      → key_held (slot_in_set (slots_at sends u x) k)
      ≡ option_map (λ j. (j, key_of plan j (point_lane side line stream sends u)))
      (kept_draw h (place_at_end line stream sends side u) k)
  -- while no operation was asked of a stream no slot holds a key
  pub idle : (line stream : ℕ) → find_op plan st line stream ≡ Some Idle → (side : Side) (x : StreamState)
      → find plan st (port_at side line) stream ≡ Some x → (sends : Bool) (u : SubKind) (k : Bool)
      → key_held (slot_in_set (slots_at sends u x) k) ≡ None
  -- while an establish is unfinished its draw is On at the places that its GO reached, and no other is kept
  pub establishing : (line stream j n : ℕ) → find_op plan st line stream ≡ Some (Establishing j n)
      → (side : Side) (sends : Bool) (u : SubKind) → let p = place_at_end line stream sends side u in
      (go_exchange op.Establish p < n → draw_on_at h p false ≡ Some j)
      × ((k : Bool) (i : ℕ) → kept_draw h p k ≡ Some i → i ≡ j)
  -- while a refresh is unfinished its draw is On at the places that its GO reached
  pub refreshing : (line stream : ℕ) (k : Bool) (j n : ℕ) → find_op plan st line stream ≡ Some (Refreshing k j n)
      → (side : Side) (sends : Bool) (u : SubKind) → let p = place_at_end line stream sends side u in
      go_exchange op.Refresh p < n → draw_on_at h p k ≡ Some j

-- It follows if the state stands for the history.
abbrev pub PointsStand : Type 0
PointsStand = (plan : Plan) (st : LinkState) (h : History) → PortsStandFor plan st h → StreamPoints plan st h
