use Rattle.std.proofs.Common.{ap}
use Rattle.why_facts.specs.{rule_of}
use Rattle.rule_counts.proofs.Steps.{if_ok}
use Rattle.rule_counts.proofs.coverage.rule_facts.Goals as goal

pub returns-in-Send : goal.returns-in-Send
returns-in-Send c h stood =
    if_ok c.facts.result (λ xs is w. ap (rule_of c.args.event.now w) is) (c.facts.ensures h stood)
