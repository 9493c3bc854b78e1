use Rattle.std.proofs.Common.{◌++◌, ap, ◌∙◌}
use Rattle.sub_stream.specs.Gathered.{clear_of}
use Rattle.sub_stream.proofs.Packets.{heads_in}
use Rattle.sub_stream.proofs.unit_packets.UnitPackets.clear_bytes.Goals as goal

pub returns-clause-value : goal.returns-clause-value
returns-clause-value c =
    c.aad.ensures.value
    ∙ ap (λ x. c.self.inside.buf.ahead ++ x) (heads_in _ _ c.self.invariant.parts)
    ∙ ap clear_of c.self.view_is
