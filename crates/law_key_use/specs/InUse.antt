-- Keys in use: which draw each packet is sealed under, and each unit held or accepted under.
use Rattle.std.specs.Prelude.{◌≡◌, ◌≤◌, ◌∷◌, ◌++◌, ℕ, Bool, true, false, Some, List, []}
use Rattle.spec_keys.specs.Places.{KeyPlace}
use Rattle.spec_keys.specs.History.{draw_on_at}
use Rattle.spec_links.specs.Terms.{Plan, PortName, Event, SealedPacket, UnitName, Verdict, Accepted, Held, Sealed}
use Rattle.spec_links.specs.Terms.{History}
use Rattle.spec_links.specs.History.{arrived_packet, place_in_sub_stream, received_in, sub_stream_of}

-- where a packet was sealed, and where a unit is received
abbrev pub sender_of : SealedPacket → KeyPlace
sender_of d = place_in_sub_stream d.port (sub_stream_of d) true

abbrev pub receiver_of : PortName → UnitName → KeyPlace
receiver_of port unit = place_in_sub_stream port (received_in port unit) false

-- the draw is On in the set, and no lesser one is On at the place
abbrev pub IsLeastOn : History → KeyPlace → Bool → ℕ → Type 0
IsLeastOn h p set j = (draw_on_at h p set ≡ Some j)
    × ((other : Bool) (i : ℕ) → draw_on_at h p other ≡ Some i → j ≤ i)

-- each packet's draw is so at its sender, in the set that K names, once the packets before it in its verdict are sealed
abbrev pub SealsUnderLeast : History → Event → List SealedPacket → Type 0
SealsUnderLeast h e ds = (ahead more : List SealedPacket) (d : SealedPacket) → ds ≡ ahead ++ d ∷ more
    → IsLeastOn ((e, Sealed ahead) ∷ h) (sender_of d) d.k d.draw

-- a unit's draw is On where it is received, in the set that K of the packet names
abbrev pub IsOnAtReceiver : Plan → History → Event → PortName → UnitName → Type 0
IsOnAtReceiver plan h e port unit =
    draw_on_at h (receiver_of port unit) (arrived_packet plan h e).prefix.k ≡ Some unit.draw

abbrev pub UsesKeysOn : Plan → History → Event → Verdict → Type 0
UsesKeysOn plan h e (Sealed ds) = SealsUnderLeast h e ds
UsesKeysOn plan h e (Held port unit) = IsOnAtReceiver plan h e port unit
UsesKeysOn plan h e (Accepted port unit effects) = IsOnAtReceiver plan h e port unit
UsesKeysOn plan h e w = Unit {0}

abbrev pub KeysInUse : Plan → History → Type 0
KeysInUse plan [] = Unit {0}
KeysInUse plan ((e, w) ∷ h) = UsesKeysOn plan h e w × KeysInUse plan h
