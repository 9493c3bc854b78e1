-- The calls of key management at a port, and what they read of it.
use Rattle.std.specs.Prelude.{ℕ, nat_lt, Bool, true, false, ◌&&◌, ◌||◌, List, [], Option, Some, None, if◌then◌else◌}
use Rattle.std.specs.Option.{option_map, option_and_then}
use Rattle.ide_types.specs.declared.sub.SubKind.{SubKind}
use Rattle.ide_types.specs.declared.status.StreamStatus.{StreamStatus}
use Rattle.key_slots.specs.{KeySet, SlotPair, live_set}
use Rattle.key_messages.specs.declared.place.Place.{Place}
use Rattle.key_messages.specs.{PlaceCall}
use Rattle.ide_prefix.specs.{sub_from}
use Rattle.spec_stream.specs.Stream.{LaneSlots, StreamState, at_sub}
use Rattle.spec_stream.specs.Slots.{is_busy, sealing_draw, receiving_draw}
use Rattle.sub_stream.specs.Calls.{sends_in, pair_at, stream_after_call, stream_status}
use Rattle.ide_port.specs.Ends.{PortEnd, Found, found_stream, changed_states}

-- ---- what is read of the port

-- there are three sub-streams
abbrev pub is_place : Place → Bool
is_place place = nat_lt place.sub 3

-- the stream of a place
abbrev pub stream_at_place : PortEnd → Place → Option Found
stream_at_place e place = if is_place place then found_stream e.plans e.states place.stream else None

abbrev pub slot_pair_at : PortEnd → Place → Option SlotPair
slot_pair_at e place = option_map
    (λ (f : Found). pair_at (sends_in e.name.side place.direction) (sub_from place.sub) f.state)
    (stream_at_place e place)

-- a sender has begun a unit and not ended it
abbrev pub has_open_unit : LaneSlots → Bool
has_open_unit s = is_busy s.first || is_busy s.second

abbrev pub is_open_at : PortEnd → Place → Option Found → Bool
is_open_at e place None = false
is_open_at e place (Some f) =
    sends_in e.name.side place.direction && has_open_unit (at_sub f.state.tx (sub_from place.sub)).slots

abbrev pub unfinished_at : PortEnd → Place → Bool
unfinished_at e place = is_open_at e place (stream_at_place e place)

-- the status of a stream that the port has
abbrev pub port_stream_status : PortEnd → ℕ → Option StreamStatus
port_stream_status e id = option_map (λ (f : Found). stream_status f.state) (found_stream e.plans e.states id)

-- the key set of the Live slot of a stream's sender
abbrev pub live_in_port : PortEnd → ℕ → SubKind → Option KeySet
live_in_port e id u = option_and_then (λ (f : Found). live_set (pair_at true u f.state))
    (found_stream e.plans e.states id)

-- the draw that its sender seals under
abbrev pub sealing_draw_in : PortEnd → ℕ → SubKind → Option ℕ
sealing_draw_in e id u =
    option_and_then (λ (f : Found). sealing_draw (at_sub f.state.tx u).slots) (found_stream e.plans e.states id)

-- the greatest draw that is Live at its receiver
abbrev pub receiving_draw_in : PortEnd → ℕ → SubKind → Option ℕ
receiving_draw_in e id u =
    option_and_then (λ (f : Found). receiving_draw (at_sub f.state.rx u).slots) (found_stream e.plans e.states id)

-- ---- what a call makes of it

abbrev pub called_states : PortEnd → PlaceCall → Option Found → List StreamState
called_states e c None = e.states
called_states e c (Some f) =
    changed_states e.plans e.states f.plan.id
    (stream_after_call (sends_in e.name.side c.place.direction) (sub_from c.place.sub) c.call f.state)

-- the stream of the place is called, and no other changes; nothing is lent any more
abbrev pub called_port : PlaceCall → PortEnd → PortEnd
called_port c e = record e { states = called_states e c (stream_at_place e c.place); delivered = [] }
