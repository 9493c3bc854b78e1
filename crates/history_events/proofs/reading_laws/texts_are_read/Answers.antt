use Rattle.history_events.proofs.TextEvents.{script_short, script_spells}
use Rattle.history_events.proofs.Whole.{topology_read, topology_short}
use Rattle.history_events.proofs.reading_laws.texts_are_read.Goals as goal

pub returns : goal.returns
returns c = record {
  script = script_spells;
  script_is_short = script_short;
  topology = topology_read;
  topology_is_short = topology_short;
}
