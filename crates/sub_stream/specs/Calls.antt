-- What a call of key management makes of a stream at a port.
use Rattle.std.specs.Prelude.{◌==◌, Bool, true, false, not, if◌then◌else◌}
use Rattle.ide_types.specs.Sub.{direction_number, sent_direction}
use Rattle.ide_types.specs.declared.direction.Direction.{Direction}
use Rattle.ide_types.specs.declared.sub.SubKind.{SubKind}
use Rattle.ide_types.specs.declared.port.Side.{Side}
use Rattle.key_slots.specs.{SlotPair, is_only_live, KeyCall, Program, Go, Stop}
use Rattle.sub_stream.specs.Seen.{slot_pair}
use Rattle.spec_stream.specs.Stream.{Programmed, Empty, LaneSlots, slot_in_set, with_slot, at_sub, set_sub, StreamState}
use Rattle.spec_stream.specs.Slots.{both_slots, begun_slot, slot_gone, woken_slot, rested_stream}
pub use Rattle.spec_stream.specs.Slots.{slots_at, no_stream, has_all_live, has_some_live, stream_status}
pub use Rattle.ide_types.specs.Ports.{keyed_status}

-- whether a port of this side sends in the direction
abbrev pub sends_in : Side → Direction → Bool
sends_in side direction = sent_direction side == direction_number direction

-- ---- slots

-- the slots of a sender, or of a receiver, as key management sees them
abbrev pub pair_at : Bool → SubKind → StreamState → SlotPair
pair_at sends u st = slot_pair sends (slots_at sends u st)

-- a KEY_PROG of a Live slot is refused if the other slot holds no newer Live key
abbrev pub slots_called_out : KeyCall → LaneSlots → LaneSlots
slots_called_out (Program k key draw) s =
    if is_only_live (slot_pair true s) k then s else with_slot s k (Programmed draw key)
slots_called_out (Go k) s = slot_gone k (slot_in_set s k) (slot_in_set s (not k))
slots_called_out (Stop k) s = both_slots k Empty (woken_slot (slot_in_set s (not k)))

abbrev pub slots_called_into : KeyCall → LaneSlots → LaneSlots
slots_called_into (Program k key draw) s =
    if is_only_live (slot_pair false s) k then s else with_slot s k (Programmed draw key)
slots_called_into (Go k) s = with_slot s k (begun_slot (slot_in_set s k))
slots_called_into (Stop k) s = with_slot s k Empty

-- ---- a stream

-- a call at a sender, or at a receiver, of a sub-stream; then a direction without a Live slot counts from 0
abbrev pub stream_after_call : Bool → SubKind → KeyCall → StreamState → StreamState
stream_after_call true u call st =
    let x = at_sub st.tx u in
    rested_stream (set_sub st.tx u (record x { slots = slots_called_out call x.slots })) st.rx st.failed
stream_after_call false u call st =
    let x = at_sub st.rx u in
    rested_stream st.tx (set_sub st.rx u (record x { slots = slots_called_into call x.slots })) st.failed
