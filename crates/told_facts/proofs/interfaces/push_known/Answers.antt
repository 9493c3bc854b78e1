use Rattle.std.proofs.Common.{◌≡◌, ◌++◌, ◌∷◌, [], subst, ◌∙◌}
use Rattle.std.specs.Prelude.{IfOk}
use Rattle.told_facts.specs.declared.fact.Fact.{Fact}
use Rattle.told_facts.specs.declared.fact.Fact.TheVariants as fact
use Rattle.told_facts.specs.declared.fact.Answer.TheVariants as answer
use Rattle.told_facts.proofs.interfaces.push_known.Goals as goal

pub returns : goal.returns
returns c =
    let none : c.new-refused.result ≡ [] = c.new-refused.ensures ∙ c.new.ensures.items in
    subst (λ (x : Fact). IfOk c.push.result (λ _. c.push.new.facts.items ≡ c.args.facts.now.items ++ x ∷ []))
    (λ i. fact.Exchange c.args.exchange (c.in_ok-request.ensures i) (answer.Known (c.in_ok-done.ensures i) (none i)))
    c.push.ensures
