-- What the touches of an operation do to a stream at a port. In a key set a key is put in, gets GO, or is taken out, or
-- both sets are emptied; nothing is sealed or accepted.
use Rattle.std.specs.Prelude.{ℕ, Bool, true, false, not, List, [], ◌∷◌, if◌then◌else◌}
use Rattle.ide_types.specs.declared.sub.SubKind.{SubKind}
use Rattle.ide_types.specs.declared.port.PortName.{PortName}
use Rattle.ide_types.specs.declared.plan.Plan.{Plan}
use Rattle.spec_links.specs.Plan.{SubStream, key_of, lane_out, lane_in}
use Rattle.spec_keys.specs.Keys.{Touch, Program, Go, Stop, Clear}
use Rattle.machine_ports.specs.Stream.{Empty, Programmed, LaneSlots, slot_in_set, with_slot, StreamState, at_sub}
use Rattle.machine_ports.specs.Stream.{each_sub, both_slots, begun_slot, slot_gone, woken_slot, no_slots, rested_stream}

-- those that are taken, if a KEY_PROG of these sets is refused; only the first may be one
abbrev pub taken_touches : (Bool → Bool) → List Touch → List Touch
taken_touches refuses [] = []
taken_touches refuses (Program k j ∷ ts) =
    if refuses k then taken_touches refuses ts else Program k j ∷ taken_touches refuses ts
taken_touches refuses (t ∷ ts) = t ∷ taken_touches refuses ts

-- ---- slots of a sender, or of a receiver

abbrev pub slot_touched : Bool → Plan → SubStream → Touch → LaneSlots → LaneSlots
slot_touched sends plan s (Program k j) slots = with_slot slots k (Programmed j (key_of plan j s))
slot_touched true plan s (Go k j) slots = slot_gone k (slot_in_set slots k) (slot_in_set slots (not k))
slot_touched false plan s (Go k j) slots = with_slot slots k (begun_slot (slot_in_set slots k))
slot_touched true plan s (Stop k) slots = both_slots k Empty (woken_slot (slot_in_set slots (not k)))
slot_touched false plan s (Stop k) slots = with_slot slots k Empty
slot_touched sends plan s Clear slots = no_slots
slot_touched sends plan s _ slots = slots

abbrev pub slots_touched : Bool → Plan → SubStream → List Touch → LaneSlots → LaneSlots
slots_touched sends plan s [] slots = slots
slots_touched sends plan s (t ∷ ts) slots = slots_touched sends plan s ts (slot_touched sends plan s t slots)

-- ---- a stream at a port

-- after the touches of each sub-stream
abbrev pub touched_stream : Plan → PortName → ℕ → (SubKind → List Touch) → (SubKind → List Touch) → StreamState
    → StreamState
touched_stream plan port stream out into st =
    rested_stream
    (each_sub (λ u. record (at_sub st.tx u)
    { slots = slots_touched true plan (lane_out port stream u) (out u) (at_sub st.tx u).slots }))
    (each_sub (λ u. record (at_sub st.rx u)
    { slots = slots_touched false plan (lane_in port stream u) (into u) (at_sub st.rx u).slots }))
    st.failed
