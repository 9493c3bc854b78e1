use Rattle.all_links.proofs.Terms.{ℕ, ◌+◌, ap, sym, ◌∙◌, subst, true, IfSome, IsSome, Verdict, EndsOrHasNone}
use Rattle.all_links.proofs.Terms.{EndsIfAnswered, named_stream, ◌≡◌, Links, OperatesAt, operation_event, links_state}
use Rattle.all_links.proofs.Terms.{beside_in, port_on}
use Rattle.ide_types.specs.Ports.{host_port}
use Rattle.key_host.specs.Operations.{OpName}
use Rattle.key_host.specs.Walk.{verdict_of}
use Rattle.all_links.proofs.Finds.{ends_as, if_some, nothing_changes, some_none}
use Rattle.line_arrivals.proofs.{unnamed, step_none}
use Rattle.all_links.specs.BesideAfter.{BesideOperation, works_on}
use Rattle.all_links.proofs.Operations.{found_is, not_stepped, operates_on}
use Rattle.all_links.proofs.BesideAfter.{nothing_operates, not_operated, operated_beside}
use Rattle.all_links.proofs.links.Links.operate.Goals as goal

pub carry_stream-outcome-requires-clause-here : goal.carry_stream-outcome-requires-clause-here
carry_stream-outcome-requires-clause-here c =
    let n = found_is c.args.self.now.keeper.keys.manager c.args.self.now.ends c.args.line c.args.stream
    c.in-Some.line c.in-Some.stream c.in-Some.ensures in
    subst (λ (a : OpName). IsSome (port_on c.args.self.now.ends (host_port a.line))) (sym c.named_op-op.ensures) n.here

pub carry_stream-outcome-requires-clause-stream : goal.carry_stream-outcome-requires-clause-stream
carry_stream-outcome-requires-clause-stream c =
    let n = found_is c.args.self.now.keeper.keys.manager c.args.self.now.ends c.args.line c.args.stream
    c.in-Some.line c.in-Some.stream c.in-Some.ensures in
    subst (λ (a : OpName). IsSome (named_stream c.args.self.now.keeper.keys.manager a.line a.stream))
    (sym c.named_op-op.ensures) n.there

pub returns-in-None-clause-ends : goal.returns-in-None-clause-ends
returns-in-None-clause-ends c plan =
    nothing_changes plan (operation_event c.args.operation c.args.line c.args.stream c.args.loss)
    c.only.ensures.value c.only.ensures.links c.requires.bounded
    (λ b by h links stands. step_none plan (beside_in c.args.self.now b) (links_state plan c.args.self.now)
    c.args.operation c.args.line c.args.stream c.args.loss
    (unnamed plan c.args.self.now.ends c.args.self.now.keeper.keys c.args.self.now.packets.packets c.args.line
    c.args.stream links c.in-None.ensures))

pub returns-then-not-works_on-clause-ends : goal.returns-then-not-works_on-clause-ends
returns-then-not-works_on-clause-ends c plan =
    let n = found_is c.args.self.now.keeper.keys.manager c.args.self.now.ends c.args.line c.args.stream
    c.in-Some.line c.in-Some.stream c.in-Some.ensures in
    let not_here = ap (λ (p : ℕ × ℕ). works_on c.args.operation p.0) (sym n.same) ∙ sym c.if-not-works_on.ensures in
    nothing_changes plan (operation_event c.args.operation c.args.line c.args.stream c.args.loss)
    c.only-then-not-works_on.ensures.value c.only-then-not-works_on.ensures.links c.requires.bounded
    (λ b by h links stands. not_stepped plan (beside_in c.args.self.now b) (links_state plan c.args.self.now)
    c.args.operation c.args.line c.args.stream c.args.loss not_here)

pub returns-else-not-works_on-clause-ends : goal.returns-else-not-works_on-clause-ends
returns-else-not-works_on-clause-ends c plan =
    let n = found_is c.args.self.now.keeper.keys.manager c.args.self.now.ends c.args.line c.args.stream
    c.in-Some.line c.in-Some.stream c.in-Some.ensures in
    let after : Links = c.carry_stream-outcome.new.self in
    let works : works_on c.args.operation c.in-Some.line ≡ true = sym c.if-not-works_on.ensures in
    let event = operation_event c.args.operation c.in-Some.line c.in-Some.stream c.args.loss in
    subst (λ (p : ℕ × ℕ). EndsOrHasNone plan c.operated_verdict.result c.args.self.now
    (record after { steps = after.steps + 1 })
    (operation_event c.args.operation p.0 p.1 c.args.loss)) n.same
    (ends_as plan c.operated_verdict.result c.args.self.now (record after { steps = after.steps + 1 }) event
    (λ verdict is. subst (λ (s : Links). EndsIfAnswered plan verdict c.args.self.now (record s { steps = s.steps + 1 })
    event)
    (sym c.carry_stream-outcome.ensures.links)
    (operates_on c.operations_join.ensures c.pair_operations_join.ensures plan c.args.self.now after.ends
    after.keeper c.named_op-op.result c.args.operation c.in-Some.line c.in-Some.stream c.args.loss
    c.carry_stream-outcome.result verdict c.requires.bounded works n.here n.there
    c.named_op-op.ensures
    (subst (λ (a : OpName). OperatesAt c.args.self.now.ends a.line c.args.self.now.keeper.keys c.named_op-op.result
    c.args.loss c.carry_stream-outcome.result after.ends after.keeper.keys) c.named_op-op.ensures
    c.carry_stream-outcome.ensures.operates)
    (sym c.operated_verdict.ensures ∙ is)))
    (λ none stands answered. some_none (subst
    (λ (a : OpName). IsSome (verdict_of a.operation a.line a.stream c.args.loss c.carry_stream-outcome.result))
    c.named_op-op.ensures (c.carry_stream-outcome.ensures.answered
    (subst (λ (a : OpName). works_on a.operation a.line ≡ true) (sym c.named_op-op.ensures) works) plan stands))
    (sym c.operated_verdict.ensures ∙ none)))

pub returns-in-None-clause-sides : goal.returns-in-None-clause-sides
returns-in-None-clause-sides c =
    nothing_operates c.args.operation c.args.line c.args.stream _ c.in-None.ensures c.only.ensures.links

pub returns-then-not-works_on-clause-sides : goal.returns-then-not-works_on-clause-sides
returns-then-not-works_on-clause-sides c =
    let n = found_is c.args.self.now.keeper.keys.manager c.args.self.now.ends c.args.line c.args.stream
    c.in-Some.line c.in-Some.stream c.in-Some.ensures in
    not_operated c.args.operation c.args.line c.args.stream _
    (ap (λ (p : ℕ × ℕ). works_on c.args.operation p.0) (sym n.same) ∙ sym c.if-not-works_on.ensures)
    c.only-then-not-works_on.ensures.links

pub returns-else-not-works_on-clause-sides : goal.returns-else-not-works_on-clause-sides
returns-else-not-works_on-clause-sides c =
    let n = found_is c.args.self.now.keeper.keys.manager c.args.self.now.ends c.args.line c.args.stream
    c.in-Some.line c.in-Some.stream c.in-Some.ensures in
    let after : Links = c.carry_stream-outcome.new.self in
    subst (λ (p : ℕ × ℕ). IfSome c.operated_verdict.result (λ (w : Verdict). BesideOperation c.args.operation p.0 p.1 w
    c.args.self.now (record after { steps = after.steps + 1 }))) n.same
    (if_some c.operated_verdict.result _
    (λ verdict is. subst (λ (s : Links). BesideOperation c.args.operation c.in-Some.line c.in-Some.stream verdict
    c.args.self.now (record s { steps = s.steps + 1 })) (sym c.carry_stream-outcome.ensures.links)
    (operated_beside c.args.self.now after.ends after.keeper c.named_op-op.result
    c.args.operation c.in-Some.line c.in-Some.stream c.args.loss c.carry_stream-outcome.result verdict
    n.named_is n.here c.named_op-op.ensures
    (subst (λ (a : OpName). OperatesAt c.args.self.now.ends a.line c.args.self.now.keeper.keys c.named_op-op.result
    c.args.loss c.carry_stream-outcome.result after.ends after.keeper.keys) c.named_op-op.ensures
    c.carry_stream-outcome.ensures.operates)
    c.carry_stream-outcome.ensures.interfaces c.carry_stream-outcome.ensures.peer_draws
    (sym c.operated_verdict.ensures ∙ is))))
