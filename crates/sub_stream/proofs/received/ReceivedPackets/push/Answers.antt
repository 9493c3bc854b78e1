use Rattle.ide_prefix.specs.Cut.{packet_of_view}
use Rattle.sub_stream.proofs.Tlps.{have_added}
use Rattle.sub_stream.proofs.received.ReceivedPackets.push.Goals as goal

pub invariant_of-self : goal.invariant_of-self
invariant_of-self c = have_added _ _ _ _ _ (packet_of_view c.args.packet.now) _ c.self.invariant c.self.view_is
    c.requires.room c.count.ensures.count c.requires.tlp c.push.ensures
