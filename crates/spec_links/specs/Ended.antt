-- Units that were accepted. What an event brought is said by the list of the packets that were sealed, since it names a
-- packet by its number there.
use Rattle.std.specs.Prelude.{if◌then◌else◌, ◌&&◌, ◌++◌, ◌==◌, ◌∷◌, List, [], ℕ}
use Rattle.spec_links.specs.Terms.{PortName, Plan, Event, UnitName, Held, Packet, History}
use Rattle.spec_links.specs.Packets.{SealedList, arrived_in, arrival_packet, received_in, is_received_under}
use Rattle.spec_links.specs.Plan.{SubStream}

-- the packets that were held for unit n, in order
unfoldable pub packets_held : Plan → SealedList → History → SubStream → ℕ → ℕ → List Packet
packets_held plan xs [] s j n = []
packets_held plan xs ((e, Held port unit) ∷ h) s j n =
    if is_received_under s j port unit && (unit.unit == n) then packets_held plan xs h s j n
    ++ arrival_packet (arrived_in plan xs e)
    ∷ []
    else packets_held plan xs h s j n
packets_held plan xs (_ ∷ h) s j n = packets_held plan xs h s j n

-- the unit that an accepted verdict ends
abbrev pub unit_accepted : Plan → SealedList → History → Event → PortName → UnitName → List Packet
unit_accepted plan xs h e port unit =
    packets_held plan xs h (received_in port unit) unit.draw unit.unit ++ arrival_packet (arrived_in plan xs e) ∷ []
