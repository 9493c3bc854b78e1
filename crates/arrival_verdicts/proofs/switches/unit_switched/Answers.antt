use Rattle.std.proofs.Common.{◌∙◌, sym, ap, List}
use Rattle.hop_queues.specs.declared.queue.HopTlp.{HopTlp}
use Rattle.arrival_verdicts.specs.Switches.{all_offered, unit_waits}
use Rattle.arrival_verdicts.proofs.Units.{no_unit}
use Rattle.arrival_verdicts.proofs.switches.unit_switched.Goals as goal

pub returns-in_default-clause-effects : goal.returns-in_default-clause-effects
returns-in_default-clause-effects c = c.new.ensures ∙ sym (no_unit c.args.arrival _ c.in_default.not-Accepted)

pub returns-in_default-clause-queues : goal.returns-in_default-clause-queues
returns-in_default-clause-queues c = ap (λ (xs : List HopTlp). all_offered c.args.direction xs c.args.queues.now)
    (sym (no_unit c.args.arrival (unit_waits c.args.packets.now) c.in_default.not-Accepted))
