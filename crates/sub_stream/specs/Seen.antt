-- The two key slots with what is kept beside them.
use Rattle.std.specs.Prelude.{ℕ, Bool, true, false, ◌&&◌, ◌||◌, List, Option, Some, None}
use Rattle.ide_prefix.specs.Packet.{Packet}
use Rattle.spec_stream.specs.Stream.{LaneSlot, Empty, Programmed, Armed, Live, LiveKey, LaneSlots}
use Rattle.key_slots.specs.declared.slot.Slot.{Slot as KeySlot}
use Rattle.key_slots.specs.{SlotPair, DrawnKey, live_held, is_live, is_armed}
use Rattle.key_slots.specs.declared.slot.Slot.TheVariants as key

-- a slot, with the units and the open unit's packets of its key if that is Live
abbrev pub slot_as_seen : ℕ → List Packet → KeySlot → LaneSlot
slot_as_seen units packets key.Empty = Empty
slot_as_seen units packets (key.Programmed held) = Programmed held.draw held.key
slot_as_seen units packets (key.Armed held) = Armed held.draw held.key
slot_as_seen units packets (key.Live held) = Live (record {
  draw = held.draw;
  key = held.key;
  units = units;
  packets = packets;
})

-- the keys of a slot alone
abbrev pub key_slot : LaneSlot → KeySlot
key_slot Empty = key.Empty
key_slot (Programmed draw bytes) = key.Programmed (record { key = bytes; draw = draw })
key_slot (Armed draw bytes) = key.Armed (record { key = bytes; draw = draw })
key_slot (Live x) = key.Live (record { key = x.key; draw = x.draw })

-- the keys of both slots, of a sender or of a receiver
abbrev pub slot_pair : Bool → LaneSlots → SlotPair
slot_pair sender slots = record { sender = sender; zero = key_slot slots.first; one = key_slot slots.second }

abbrev pub is_programmed : KeySlot → Bool
is_programmed (key.Programmed held) = true
is_programmed slot = false

-- ---- a sender's slots, at most one of which is Live

abbrev pub sender_slots_seen : SlotPair → ℕ → List Packet → LaneSlots
sender_slots_seen pair units packets
    = record { first = slot_as_seen units packets pair.zero; second = slot_as_seen units packets pair.one }

abbrev pub has_live : SlotPair → Bool
has_live pair = is_live pair.zero || is_live pair.one

abbrev pub has_armed : SlotPair → Bool
has_armed pair = is_armed pair.zero || is_armed pair.one

abbrev pub both_live : SlotPair → Bool
both_live pair = is_live pair.zero && is_live pair.one

-- the Live key with its set
abbrev pub in_use : SlotPair → Option (Bool × DrawnKey)
in_use pair = first_of (live_held pair.zero) (live_held pair.one)
  where
    first_of : Option DrawnKey → Option DrawnKey → Option (Bool × DrawnKey)
    first_of (Some x) other = Some (false, x)
    first_of None (Some y) = Some (true, y)
    first_of None None = None

-- a Live key with the units and the packets that are kept beside it
abbrev pub live_key_seen : ℕ → List Packet → DrawnKey → LiveKey
live_key_seen units packets held = record { draw = held.draw; key = held.key; units = units; packets = packets }
