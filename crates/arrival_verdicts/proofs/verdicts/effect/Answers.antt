use Rattle.ide_prefix.specs.Cut.{packet_of_view}
use Rattle.arrival_verdicts.proofs.Effects.{carried_fits}
use Rattle.arrival_verdicts.proofs.verdicts.effect.Goals as goal

pub requested-requires-clause-fits : goal.requested-requires-clause-fits
requested-requires-clause-fits c = carried_fits (packet_of_view c.args.packet.now) _ _ c.requires.tlp c.in-Some.is

pub deliver-requires-clause-fits : goal.deliver-requires-clause-fits
deliver-requires-clause-fits c = carried_fits (packet_of_view c.args.packet.now) _ _ c.requires.tlp c.in-Some.is
