-- What is seen of the streams of a port.
use Rattle.std.specs.Prelude.{ℕ, Bool, List, [], Option}
use Rattle.std.specs.Option.{option_map, option_map_or}
use Rattle.ide_types.specs.declared.sub.SubKind.{SubKind}
use Rattle.ide_prefix.specs.Packet.{Packet}
use Rattle.spec_stream.specs.Stream.{StreamState, at_sub, slot_in_set}
use Rattle.sub_stream.specs.declared.facts.StreamFacts.{StreamFacts}
use Rattle.sub_stream.specs.Facts.{held_packets, stream_facts}
use Rattle.ide_port.specs.Ends.{PortEnd, Found, found_stream}

abbrev pub found_facts : Found → StreamFacts
found_facts f = stream_facts f.plan.closed f.state

abbrev pub stream_facts_in : PortEnd → ℕ → Option StreamFacts
stream_facts_in e id = option_map found_facts (found_stream e.plans e.states id)

-- the packets of a sub-stream's next unit that its receiver holds in a key set
abbrev pub held_by : SubKind → Bool → StreamState → List Packet
held_by u k x = held_packets (slot_in_set (at_sub x.rx u).slots k)

abbrev pub held_of_found : SubKind → Bool → Found → List Packet
held_of_found u k f = held_by u k f.state

-- none if the port has no such stream
abbrev pub held_in_port : PortEnd → ℕ → SubKind → Bool → List Packet
held_in_port e id u k = option_map_or (held_of_found u k) (found_stream e.plans e.states id) []
