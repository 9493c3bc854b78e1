use Rattle.cli_words.proofs.Rounds.{few_rounds, few_script_rounds, few_topology_rounds}
use Rattle.cli_words.proofs.few_rounds.Goals as goal

pub returns : goal.returns
returns c = record {
  totals = few_rounds;
  script = few_script_rounds;
  topology = few_topology_rounds;
}
