-- The two ends of a line that is keyed by messages at both (this profile).
use Rattle.std.specs.Prelude.{ℕ, Bool, List, Option, Some, None}
use Rattle.ide_types.specs.declared.direction.Direction.{Direction}
use Rattle.ide_types.specs.declared.direction.Direction.TheVariants.{Downstream, Upstream}
use Rattle.ide_types.specs.declared.port.Side.{Side}
use Rattle.ide_types.specs.declared.port.Side.TheVariants.{Host, Device}
use Rattle.ide_types.specs.Ports.{host_port, device_port}
use Rattle.ide_types.specs.declared.stream.StreamPlan.{StreamPlan}
use Rattle.key_slots.specs.{SlotPair}
use Rattle.key_messages.specs.declared.place.Place.{Place}
use Rattle.key_messages.specs.{PlaceCall, call_of, is_done, reply_bytes}
use Rattle.ide_port.specs.{new_port, reset_port, slot_pair_at, unfinished_at, called_port}
use Rattle.link_ends.specs.declared.end.LineEnd.{LineEnd}
use Rattle.link_ends.specs.declared.pair.PairEnds.{PairEnds}

-- ---- places, as messages name them

-- 0 is what the end receives, 1 what it sends; a port has the directions of its line
abbrev pub own_direction : Side → Direction → Direction
own_direction Device d = d
own_direction Host Downstream = Upstream
own_direction Host Upstream = Downstream

abbrev pub at_end : Side → Place → Place
at_end side place = record place { direction = own_direction side place.direction }

abbrev pub call_at_end : Side → PlaceCall → PlaceCall
call_at_end side c = record c { place = at_end side c.place }

abbrev pub shown_end : LineEnd → Place → Option SlotPair
shown_end e place = slot_pair_at e.port (at_end e.side place)

abbrev pub unfinished_end : LineEnd → Place → Bool
unfinished_end e place = unfinished_at e.port (at_end e.side place)

abbrev pub called_line_end : PlaceCall → LineEnd → LineEnd
called_line_end c e = record e { port = called_port (call_at_end e.side c) e.port }

-- ---- messages

abbrev pub line_end_after : LineEnd → Option PlaceCall → LineEnd
line_end_after e None = e
line_end_after e (Some call) = called_line_end call e

abbrev pub answered_end : LineEnd → List ℕ → ℕ → LineEnd
answered_end e request draw = line_end_after e (call_of request draw)

abbrev pub end_reply : LineEnd → List ℕ → ℕ → List ℕ
end_reply e request draw = reply_bytes 0 request (is_done (λ place. shown_end e place) (call_of request draw))

-- ---- both ends

abbrev pub new_pair : ℕ → List StreamPlan → ℕ → PairEnds
new_pair line plans limit = record {
  near = record { side = Host; port = new_port (host_port line) plans limit };
  far = record { side = Device; port = new_port (device_port line) plans limit };
}

abbrev pub line_end_in : Side → PairEnds → LineEnd
line_end_in Host l = l.near
line_end_in Device l = l.far

abbrev pub with_end : Side → LineEnd → PairEnds → PairEnds
with_end Host e l = record l { near = e }
with_end Device e l = record l { far = e }

abbrev pub reset_line_end : LineEnd → LineEnd
reset_line_end e = record e { port = reset_port e.port }

abbrev pub reset_pair : Side → PairEnds → PairEnds
reset_pair side l = with_end side (reset_line_end (line_end_in side l)) l
