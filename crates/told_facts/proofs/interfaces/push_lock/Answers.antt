use Rattle.std.proofs.Common.{◌≡◌, ℕ, ◌++◌, ◌∷◌, [], List, subst, ap, ◌∙◌}
use Rattle.std.proofs.lemmas.List.{append_assoc}
use Rattle.std.specs.Prelude.{IfOk}
use Rattle.ide_types.specs.declared.interface.InterfacePlan.{InterfacePlan}
use Rattle.tdisp_codec.specs.declared.request.RequestView.TheVariants as request
use Rattle.interface_ends.specs.Replies.{capabilities_reply, version_reply}
use Rattle.told_facts.specs.declared.fact.Fact.{Fact}
use Rattle.told_facts.specs.Exchanges.{known_exchange, shown_exchange}
use Rattle.told_facts.proofs.interfaces.push_lock.Goals as goal

-- by the function ID
abbrev first : ℕ → Fact
first f = known_exchange 1 (request.GetVersion f) (version_reply f)

abbrev second : ℕ → Fact
second f = known_exchange 2 (request.GetCapabilities f) (capabilities_reply f)

abbrev third : InterfacePlan → ℕ → List Fact
third p f = shown_exchange 3 (request.LockInterface f p.flags p.stream p.offset 0) f

pub returns : goal.returns
returns c =
    let p : InterfacePlan = c.args.plan.now in
    let f : ℕ = c.from-function.result in
    let old : List Fact = c.args.facts.now.items in
    let one : List Fact = c.push_version.new.facts.items in
    let two : List Fact = c.push_capabilities.new.facts.items in
    let all : two ++ third p f ≡ old ++ first p.requester ∷ (second p.requester ∷ third p p.requester) =
    ap (λ (fs : List Fact). fs ++ third p f) c.in_ok-push_capabilities.ensures
    ∙ append_assoc one (second f ∷ []) (third p f)
    ∙ ap (λ (fs : List Fact). fs ++ second f ∷ third p f) c.in_ok-push_version.ensures
    ∙ append_assoc old (first f ∷ []) (second f ∷ third p f)
    ∙ ap (λ (n : ℕ). old ++ first n ∷ (second n ∷ third p n)) c.from-function.ensures in
    subst (λ (fs : List Fact). IfOk c.push_shown.result (λ _. c.push_shown.new.facts.items ≡ fs)) all
    c.push_shown.ensures
