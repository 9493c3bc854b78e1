use Rattle.sub_stream.proofs.Tlps.{have_opened}
use Rattle.sub_stream.proofs.received.ReceivedPackets.open.Goals as goal

pub invariant_of-self : goal.invariant_of-self
invariant_of-self c = have_opened _ _ _ _ _ c.self.invariant c.open.ensures
