-- Packets that stand joined, cut by their lengths.
use Rattle.std.specs.Prelude.{ℕ, List, [], ◌∷◌, take, drop}
use Rattle.ide_types.specs.declared.port.PortName.{PortName}
use Rattle.machine_ports.specs.Machine.{LinkPacket}

-- the packets that a port sealed, of these lengths, whose bytes are joined
abbrev pub cut_packets : PortName → List ℕ → List ℕ → List LinkPacket
cut_packets port [] bytes = []
cut_packets port (n ∷ ns) bytes = record { port = port; bytes = take n bytes } ∷ cut_packets port ns (drop n bytes)
