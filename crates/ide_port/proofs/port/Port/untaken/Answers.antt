use Rattle.ide_port.proofs.Keeping.{lends-none}
use Rattle.ide_port.proofs.port.Port.untaken.Goals as goal

pub invariant_of-self : goal.invariant_of-self
invariant_of-self c = record { each = c.self.invariant.each; lends = lends-none _ }
