use Rattle.std.proofs.Common.{◌≡◌, ◌++◌, drop}
use Rattle.spec_keys.specs.History.{History}
use Rattle.world.specs.{WorldStandsFor}
use Rattle.script_runs.specs.Packets.{packet_lines}
use Rattle.script_runs.proofs.packets.push_packets.Given as goal

-- the text so far and the packets that are left
abbrev pub invariant-loop-packet : goal.invariant-loop-packet
invariant-loop-packet l = (h : History) → WorldStandsFor l.world h
    → l.text.items ++ packet_lines l.world.plan h (drop l.packet-index l.packets)
    ≡ l.fn.text.items ++ packet_lines l.world.plan h l.packets
