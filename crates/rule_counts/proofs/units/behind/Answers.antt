use Rattle.std.proofs.lemmas.Bool.Decides.{Decides-eqb}
use Rattle.std.proofs.lemmas.Slice.Eq.{strip_prefix_is}
use Rattle.rule_counts.proofs.Steps.{turned}
use Rattle.rule_counts.proofs.units.behind.Goals as goal

pub returns : goal.returns
returns c =
    turned c.args.bytes.now c.args.first.now c.strip_prefix.result
    (strip_prefix_is Decides-eqb c.args.bytes.now c.args.first.now c.strip_prefix.result c.strip_prefix.ensures.cases)
