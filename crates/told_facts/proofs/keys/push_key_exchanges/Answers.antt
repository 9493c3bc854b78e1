use Rattle.std.proofs.Common.{◌≡◌, ℕ, List, [], ◌∷◌, ◌++◌, ◌+◌, ◌-◌, ◌<◌, arith, ap, sym, ◌∙◌}
use Rattle.std.proofs.lemmas.List.{append_assoc, append-nil}
use Rattle.ide_types.specs.{is_hosted}
use Rattle.spec_keys.specs.Operations.{last_exchange_of}
use Rattle.told_facts.specs.declared.fact.Fact.{Fact}
use Rattle.told_facts.specs.Exchanges.{exchanges_from, key_exchange}
use Rattle.told_facts.proofs.Exchanges.{next_exchange, no_exchange}
use Rattle.told_facts.proofs.keys.push_key_exchanges.Goals as goal

pub loop-past-preserved : goal.loop-past-preserved
loop-past-preserved c =
    let left = c.args.left in
    let told : ℕ → Fact = key_exchange c.args.plan.now left.line left.stream left.operation left.set left.draw in
    let last : ℕ = last_exchange_of (is_hosted left.line) left.operation in
    let past = c.loop-past.past in
    let items : List Fact = c.loop-past.facts.items in
    let lt : past < last_exchange_of (is_hosted left.line) left.operation =
    omega (arith, c.loop-past-test.true, c.last_number-past-end.ensures.number) in
    let rest : List Fact = exchanges_from told (past + 1 + 1) (last - (past + 1)) in
    ap (λ (fs : List Fact). fs ++ rest)
    (c.in_ok-push.ensures ∙ ap (λ (x : Fact). items ++ x ∷ []) c.in_ok-key_exchange.ensures)
    ∙ append_assoc items (told (past + 1) ∷ []) rest
    ∙ ap (λ (fs : List Fact). items ++ fs) (sym (next_exchange told past last lt))
    ∙ c.loop-past.invariant

pub returns : goal.returns
returns c =
    let left = c.args.left in
    let told : ℕ → Fact = key_exchange c.args.plan.now left.line left.stream left.operation left.set left.draw in
    let last : ℕ = last_exchange_of (is_hosted left.line) left.operation in
    let past = c.loop-past.past in
    let items : List Fact = c.loop-past.facts.items in
    let none : last_exchange_of (is_hosted left.line) left.operation - past ≡ 0 =
    omega (arith, c.loop-past-test.false, c.last_number-past-end.ensures.number) in
    sym (append-nil items) ∙ ap (λ (fs : List Fact). items ++ fs) (sym (no_exchange told (past + 1) (last - past) none))
    ∙ c.loop-past.invariant
