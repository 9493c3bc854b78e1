-- The packets that were sealed, as they are kept.
use Rattle.std.specs.Prelude.{◌≡◌, ℕ, ◌+◌, ◌≤◌, List, [], ◌∷◌, slice_range}
use Rattle.ide_types.specs.declared.port.PortName.{PortName}
use Rattle.machine_ports.specs.Machine.{LinkPacket}

-- The packets in order; beside them there is room for so many more bytes and packets, which is not part of what stays.
pub record KeptPackets : Type 0 where
  pub packets : List LinkPacket
  pub byte_room : ℕ
  pub mark_room : ℕ

-- the packets that these ports sealed and that end there, the first of which begins at this byte
abbrev pub packets_ending : ℕ → List PortName → List ℕ → List ℕ → List LinkPacket
packets_ending start [] es bytes = []
packets_ending start (p ∷ ps) [] bytes = []
packets_ending start (p ∷ ps) (e ∷ es) bytes =
    record { port = p; bytes = slice_range bytes start e } ∷ packets_ending e ps es bytes

-- each port's packet ends where the next one begins, and the last one at byte n
abbrev pub EndThere : ℕ → List PortName → List ℕ → ℕ → Type 0
EndThere start [] [] n = start ≡ n
EndThere start (p ∷ ps) (e ∷ es) n = (start ≤ e) × EndThere e ps es n
EndThere start ps es n = ⊥

-- where packets of these lengths end, the first of which begins at this byte
abbrev pub packet_ends_from : ℕ → List ℕ → List ℕ
packet_ends_from start [] = []
packet_ends_from start (n ∷ ns) = (start + n) ∷ packet_ends_from (start + n) ns

-- the port that sealed packets of these lengths, once for each
abbrev pub port_for_each : PortName → List ℕ → List PortName
port_for_each port [] = []
port_for_each port (n ∷ ns) = port ∷ port_for_each port ns
