-- What the tag of a unit covers. A unit is a run of packets, and the last of them has M.
use Rattle.std.specs.List.{flat_map}
use Rattle.std.specs.Prelude.{ℕ, List, [], ◌++◌}
use Rattle.ide_prefix.specs.Packet.{Packet, prefix_bytes}

-- of one packet in clear: its prefix and its header
abbrev pub clear_bytes : Packet → List ℕ
clear_bytes p = prefix_bytes p.prefix ++ p.head

-- what it covers in clear
abbrev pub authenticated_bytes : List Packet → List ℕ
authenticated_bytes ps = flat_map clear_bytes ps

-- what it covers encrypted
abbrev pub encrypted_bytes : List Packet → List ℕ
encrypted_bytes ps = flat_map (λ p. p.body) ps

-- a packet without its tag
abbrev pub packet_without_tag : Packet → Packet
packet_without_tag p = record { prefix = p.prefix; head = p.head; body = p.body; tag = [] }
