use Rattle.std.proofs.Common.{ap, ◌∙◌}
use Rattle.ide_prefix.specs.Units.{encrypted_bytes}
use Rattle.sub_stream.specs.Gathered.{Gathered}
use Rattle.sub_stream.proofs.Packets.{bodies_in}
use Rattle.sub_stream.proofs.unit_packets.UnitPackets.body.Goals as goal

pub returns-clause-value : goal.returns-clause-value
returns-clause-value c = c.body.ensures.value ∙ bodies_in _ _ c.self.invariant.parts
    ∙ ap (λ (u : Gathered). encrypted_bytes u.packets) c.self.view_is
