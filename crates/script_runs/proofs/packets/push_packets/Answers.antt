use Rattle.script_runs.proofs.PacketBytes.{packet_pushed}
use Rattle.script_runs.proofs.packets.push_packets.Goals as goal

pub loop-packet-preserved : goal.loop-packet-preserved
loop-packet-preserved c = λ h stood.
    packet_pushed c.args.world.now.plan h c.args.packets.now c.loop-packet.packet-index _ c.loop-packet.text.items
    c.push_packet.new.text.items _ c.loop-packet-test.true (c.loop-packet.invariant h stood)
    (c.in_ok-push_packet.ensures h stood)
