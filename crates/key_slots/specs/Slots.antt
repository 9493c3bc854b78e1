-- The two key slots of one sub-stream in one direction at a port, and what each call makes of them (PCI Express Base
-- 6.0 section 6.33, in this profile). A key set is said by whether it is set 1.
use Rattle.std.specs.Prelude.{ℕ, ◌==◌, nat_lt, Bool, true, false, not, ◌&&◌, ◌||◌, if◌then◌else◌, List, Option, Some}
use Rattle.std.specs.Prelude.{None, Result, Ok, Err}
use Rattle.std.specs.Option.{option_map}
use Rattle.std.specs.Borrow.{Bor}
use Rattle.ide_types.specs.declared.key_set.KeySet.{KeySet}
use Rattle.ide_types.specs.{key_set}
use Rattle.key_slots.specs.Drawn.{DrawnKey}
use Rattle.key_slots.specs.declared.slot.Slot.{Slot}
use Rattle.key_slots.specs.declared.slot.Slot.TheVariants.{Empty, Programmed, Armed, Live}
use Rattle.key_slots.specs.declared.slot.SlotState.{SlotState}
use Rattle.key_slots.specs.declared.slot.SlotState.TheVariants as state
use Rattle.key_slots.specs.declared.slots.OnlyLive.{OnlyLive}

-- the slots of key set 0 and of key set 1, of a sender or of a receiver
pub record SlotPair : Type 0 where
  pub sender : Bool
  pub zero : Slot
  pub one : Slot

abbrev pub slot_in : SlotPair → Bool → Slot
slot_in pair false = pair.zero
slot_in pair true = pair.one

-- the first slot in a set, and the second in the other set
abbrev pub with_both : Bool → Bool → Slot × Slot → SlotPair
with_both sender false slots = record { sender = sender; zero = slots.0; one = slots.1 }
with_both sender true slots = record { sender = sender; zero = slots.1; one = slots.0 }

abbrev pub empty_pair : Bool → SlotPair
empty_pair sender = record { sender = sender; zero = Empty; one = Empty }

-- ---- one slot

abbrev pub slot_state : Slot → SlotState
slot_state Empty = state.Empty
slot_state (Programmed held) = state.Programmed
slot_state (Armed held) = state.Armed
slot_state (Live held) = state.Live

-- its key, with the draw
abbrev pub held_key : Slot → Option DrawnKey
held_key Empty = None
held_key (Programmed held) = Some held
held_key (Armed held) = Some held
held_key (Live held) = Some held

-- the key of a Live slot, with the draw
abbrev pub live_held : Slot → Option DrawnKey
live_held (Live held) = Some held
live_held slot = None

abbrev pub is_empty : Slot → Bool
is_empty Empty = true
is_empty slot = false

-- the draw of a Live key
abbrev pub live_draw : Slot → Option ℕ
live_draw (Live held) = Some held.draw
live_draw slot = None

-- a lent key and its draw, as values
abbrev pub shown_key : Option (Bor (List ℕ) × ℕ) → Option DrawnKey
shown_key shown = option_map (λ p. record { key = p.0.now; draw = p.1 }) shown

-- ---- the newer of two Live slots

-- whether the other slot, Live under `other`, is newer than a draw in this set: of a greater draw, and between equal
-- draws set 1
abbrev pub is_newer_than : Bool → ℕ → Option ℕ → Bool
is_newer_than set draw None = false
is_newer_than set draw (Some other) = nat_lt draw other || ((draw == other) && not set)

-- the Live set, of two the newer
abbrev pub newer_live_set : Option ℕ → Option ℕ → Option KeySet
newer_live_set None None = None
newer_live_set None (Some b) = Some (key_set true)
newer_live_set (Some a) other = Some (key_set (is_newer_than false a other))

abbrev pub live_set : SlotPair → Option KeySet
live_set pair = newer_live_set (live_draw pair.zero) (live_draw pair.one)

-- ---- KEY_PROG

-- the slot is Live, and the other is not a newer Live one
abbrev pub is_last_live : Bool → Option ℕ → Option ℕ → Bool
is_last_live set None other = false
is_last_live set (Some draw) other = not (is_newer_than set draw other)

-- a key may not be programmed into the slot
abbrev pub is_only_live : SlotPair → Bool → Bool
is_only_live pair set = is_last_live set (live_draw (slot_in pair set)) (live_draw (slot_in pair (not set)))

abbrev pub program_answer : SlotPair → Bool → List ℕ → Result (Unit {0}) OnlyLive
program_answer pair set key = if is_only_live pair set then Err (record { key = key }) else Ok tt

-- the slot is Programmed, unless that is refused
abbrev pub programmed_pair : SlotPair → Bool → DrawnKey → SlotPair
programmed_pair pair set held =
    if is_only_live pair set then pair
    else with_both pair.sender set (Programmed held, slot_in pair (not set))

-- ---- K_SET_GO

-- the slot and the other after its GO; `unfinished` says whether the sender has an unfinished unit
abbrev pub after_go : Bool → Bool → Slot → Slot → Slot × Slot
after_go false unfinished (Programmed held) other = (Live held, other)
after_go true false (Programmed held) other = (Live held, Empty)
after_go true true (Programmed held) other = (Armed held, other)
after_go sender unfinished mine other = (mine, other)

-- a receiver's Programmed slot is Live; a sender's is Live, and the other emptied, if no unit is unfinished, else Armed
abbrev pub armed_pair : SlotPair → Bool → Bool → SlotPair
armed_pair pair set unfinished =
    with_both pair.sender set (after_go pair.sender unfinished (slot_in pair set) (slot_in pair (not set)))

-- ---- K_SET_STOP

-- an Armed slot becomes Live
abbrev pub live_if_armed : Slot → Slot
live_if_armed (Armed held) = Live held
live_if_armed slot = slot

-- the slot is emptied, and an Armed other one is Live
abbrev pub stopped_pair : SlotPair → Bool → SlotPair
stopped_pair pair set = with_both pair.sender set (Empty, live_if_armed (slot_in pair (not set)))

-- ---- the end of a sender's unit

-- an Armed slot is Live, and the other is emptied
abbrev pub after_end : Slot → Slot → Slot × Slot
after_end zero (Armed held) = (Empty, Live held)
after_end (Armed held) one = (Live held, Empty)
after_end zero one = (zero, one)

abbrev pub ended_pair : SlotPair → SlotPair
ended_pair pair = with_both pair.sender false (after_end pair.zero pair.one)

-- ---- what always holds

abbrev pub is_live : Slot → Bool
is_live (Live held) = true
is_live slot = false

abbrev pub is_armed : Slot → Bool
is_armed (Armed held) = true
is_armed slot = false

-- a sender has at most one Live slot, and a receiver no Armed one
abbrev pub may_stand : Bool → Slot → Slot → Bool
may_stand true zero one = not (is_live zero && is_live one)
may_stand false zero one = not (is_armed zero) && not (is_armed one)

abbrev pub is_sound : SlotPair → Bool
is_sound pair = may_stand pair.sender pair.zero pair.one
