use Rattle.std.proofs.Common.{◌≡◌, ◌++◌, ℕ, IfOk, codes, length, subst}
use Rattle.std.specs.Fmt.{decimal}
use Rattle.event_verdicts.specs.declared.verdict.Totals.{Totals}
use Rattle.event_verdicts.specs.Lines.{totals_line_of}
use Rattle.script_runs.specs.Generated.{generated_history}
use Rattle.script_runs.proofs.generated.generated_text.Goals as goal

pub returns : goal.returns
returns c =
    let history = generated_history c.args.seed c.args.count in
    let follows = c.in_ok-running.ensures in
    subst (λ (t : Totals). IfOk c.line_of.result
    (λ text. text.items ≡ codes "generated " ++ decimal (length history) ++ codes " " ++ totals_line_of t))
    follows.totals_are
    (subst (λ (n : ℕ). IfOk c.line_of.result (λ text. text.items
    ≡ codes "generated " ++ decimal n ++ codes " " ++ totals_line_of c.in_ok-running.running.totals))
    follows.steps_are c.line_of.ensures)
