use Rattle.std.proofs.Common.{◌≡◌, ◌+◌, ◌≤◌, length, drop, ◌++◌}
use Rattle.std.specs.Prelude.{map, sum_by, vec_len, vec_capacity}
use Rattle.sub_stream.specs.declared.answer.MeasuredPacket.{MeasuredPacket}
use Rattle.all_ends.specs.Packets.{packet_ends_from, port_for_each}
use Rattle.all_ends.proofs.packets.add_ends.Given as goal

abbrev pub invariant-loop-packet : goal.invariant-loop-packet
invariant-loop-packet l = record {
  ports : l.initial.ports.items ++ port_for_each l.port (map (λ (p : MeasuredPacket). p.length) l.packets)
      ≡ l.ports.items ++ port_for_each l.port (map (λ (p : MeasuredPacket). p.length) (drop l.packet-index l.packets));
  ends : l.initial.ends.items ++ packet_ends_from l.initial.end (map (λ (p : MeasuredPacket). p.length) l.packets)
      ≡ l.ends.items ++ packet_ends_from l.end (map (λ (p : MeasuredPacket). p.length) (drop l.packet-index l.packets));
  sum : l.end + sum_by (λ (p : MeasuredPacket). p.length) (drop l.packet-index l.packets)
      ≡ l.initial.end + sum_by (λ (p : MeasuredPacket). p.length) l.packets;
  ports_room : vec_len l.ports + length (drop l.packet-index l.packets) ≤ vec_capacity l.ports;
  ends_room : vec_len l.ends + length (drop l.packet-index l.packets) ≤ vec_capacity l.ends;
}
