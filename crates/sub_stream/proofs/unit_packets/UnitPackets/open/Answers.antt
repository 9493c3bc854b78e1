use Rattle.sub_stream.proofs.Views.{gathered-masked_bytes, view-masked_bytes}
use Rattle.sub_stream.proofs.unit_packets.UnitPackets.open.Goals as goal

pub invariant_of-self : goal.invariant_of-self
invariant_of-self c = gathered-masked_bytes _ _ _ _ _ _ c.self.invariant c.mask_bodies.ensures

pub returns : goal.returns
returns c = view-masked_bytes _ _ _ _ _ _ c.self.view_is c.mask_bodies.ensures
