-- An operation at both ends of a line, among all lines.
use Rattle.line_arrivals.proofs.{WorksOn, Operated, operated, operates_grow, name_is, some_named, step_not}
use Rattle.line_arrivals.proofs.{bounded_then}
use Rattle.all_links.proofs.Terms.{◌≡◌, ◌∙◌, ℕ, ◌+◌, true, refl, sym, subst, arith, IsSome, Option, Some, Plan}
use Rattle.all_links.proofs.Terms.{EndsView, port_on, Links, links_state, EndsIfAnswered, StandsForSome, beside_in}
use Rattle.all_links.proofs.Terms.{OperatesAt, stream_named, IsBounded, KeeperView, ManagerView, Verdict}
use Rattle.all_links.proofs.Terms.{OperationsJoin, named_stream, Named, operation_event, PortsStandFor, AreLinks}
use Rattle.all_links.proofs.Terms.{History, BesidePorts, LinkState, step_of, false}
use Rattle.ide_types.specs.Ports.{host_port}
use Rattle.join_keys.specs.Paired.{PairOperationsJoin}
use Rattle.line_arrivals.specs.{HostKeeper}
use Rattle.script_events.specs.declared.event.Loss.{Loss}
use Rattle.event_verdicts.specs.declared.verdict.Operation.{Operation}
use Rattle.event_verdicts.specs.declared.verdict.Operation.TheVariants as op
use Rattle.key_host.specs.declared.operation.NamedOperation.{NamedOperation as OpCall}
use Rattle.key_host.specs.declared.operation.StreamOutcome.{StreamOutcome}
use Rattle.key_host.specs.Operations.{OpName, op_name}
use Rattle.key_host.specs.Walk.{verdict_of}
use Rattle.all_links.specs.BesideAfter.{works_on}
use Rattle.event_verdicts.specs.declared.verdict.Verdict.TheVariants as v

works : (operation : Operation) (line : ℕ) → works_on operation line ≡ true → WorksOn operation line
works op.Establish line is same = absurd cc
works op.Refresh line is same = is
works op.Stop line is same = absurd cc

-- the stream of a line by these numbers, as it was found
pub record IsFound (m : ManagerView) (v : EndsView) (line stream a b : ℕ) : Type 0 where
  pub same : ◌≡◌ {A = ℕ × ℕ} (a, b) (line, stream)
  pub here : IsSome (port_on v (host_port a))
  pub there : IsSome (named_stream m a b)
  pub named_is : Some (a, b) ≡ stream_named m v a b

pub found_is : (m : ManagerView) (v : EndsView) (line stream a b : ℕ) → Some (a, b) ≡ stream_named m v line stream
    → IsFound m v line stream a b
found_is m v line stream a b is =
    let n = name_is m v line stream a b is in
    record {
      same = λ i. (n.line_is i, n.stream_is i);
      here = subst (λ (l : ℕ). IsSome (port_on v (host_port l))) (sym n.line_is) n.end_there;
      there = subst (λ (p : ℕ × ℕ). IsSome (named_stream m p.0 p.1)) (λ i. (sym n.line_is i, sym n.stream_is i))
          n.there;
      named_is = is ∙ (λ i. stream_named m v (sym n.line_is i) (sym n.stream_is i));
    }

-- what such a call comes to
module _ (plan : Plan) (old : Links) (h : History) (ends : EndsView) (k' : KeeperView) (call : OpCall)
    (operation : Operation) (line id : ℕ) (loss : Option Loss) (result : StreamOutcome)
    (links : AreLinks plan old.ends old.keeper.keys) (stands : PortsStandFor plan (links_state plan old) h)
    (n : Named) (named_is : named_stream old.keeper.keys.manager line id ≡ Some n)
    (name : op_name call ≡ record { operation = operation; line = line; stream = id })
    (works_is : works_on operation line ≡ true) (here : IsSome (port_on old.ends (host_port line)))
    (operates : OperatesAt old.ends line old.keeper.keys call loss result ends k') where
  pub comes_to : OperationsJoin → PairOperationsJoin → Operated plan old.ends old.keeper.keys old.packets.packets h k'
      call operation line id loss result n links stands named_is name ends
  comes_to joins pairs = operated plan old.ends old.keeper.keys old.packets.packets h k' call operation line id loss
      result n links stands named_is name (works operation line works_is) ends joins pairs here operates

-- if the links stand for a history, the outcome has a verdict
pub operates_due : OperationsJoin → PairOperationsJoin → (plan : Plan) (old : Links) (ends : EndsView)
    (k' : KeeperView) (call : OpCall) (loss : Option Loss) (result : StreamOutcome) → StandsForSome plan old
    → works_on (op_name call).operation (op_name call).line ≡ true
    → IsSome (port_on old.ends (host_port (op_name call).line))
    → IsSome (named_stream old.keeper.keys.manager (op_name call).line (op_name call).stream)
    → OperatesAt old.ends (op_name call).line old.keeper.keys call loss result ends k' → (verdict : Verdict)
    × (verdict_of (op_name call).operation (op_name call).line (op_name call).stream loss result ≡ Some verdict)
operates_due joins pairs plan old ends k' call loss result for_some works_is here there_is operates =
    let a : OpName = op_name call in
    let n = some_named (named_stream old.keeper.keys.manager a.line a.stream) there_is in
    let c = comes_to plan old for_some.history ends k' call a.operation a.line a.stream loss result for_some.links
    for_some.stands n.0 n.1 refl works_is here operates joins pairs in
    (_, c.verdict_is)

pub operates_on : OperationsJoin → PairOperationsJoin → (plan : Plan) (old : Links) (ends : EndsView) (k : HostKeeper)
    (call : OpCall) (operation : Operation) (line id : ℕ) (loss : Option Loss) (result : StreamOutcome)
    (verdict : Verdict)
    → IsBounded old.ends old.packets.packets old.steps → works_on operation line ≡ true
    → IsSome (port_on old.ends (host_port line)) → IsSome (named_stream old.keeper.keys.manager line id)
    → op_name call ≡ record { operation = operation; line = line; stream = id }
    → OperatesAt old.ends line old.keeper.keys call loss result ends k.keys
    → verdict_of operation line id loss result ≡ Some verdict
    → EndsIfAnswered plan verdict old (record old { ends = ends; keeper = k; steps = old.steps + 1 })
    (operation_event operation line id loss)
operates_on joins pairs plan old ends k call operation line id loss result verdict bounded works_is here there_is name
    operates says =
    let grows = operates_grow old.ends ends line old.keeper.keys k.keys call loss result here operates in
    let n = some_named (named_stream old.keeper.keys.manager line id) there_is in
    record {
      counted = refl;
      many = grows.many;
      regions = refl;
      bounded = bounded_then 0 old.ends ends old.packets.packets old.packets.packets old.steps (omega arith) bounded
          grows
          bounded.sealed_here;
      ends = λ b by h links stands.
          let c = comes_to plan old h ends k.keys call operation line id loss result links stands n.0 n.1 name works_is
          here operates joins pairs in
          let x = c.steps (beside_in old b) verdict says in
          record { verdict_is = x.verdict_is; state_is = x.state_is; links = x.links };
    }

-- an operation that there is not on the line
pub not_stepped : (plan : Plan) (b : BesidePorts) (st : LinkState) (operation : Operation) (line id : ℕ)
    (loss : Option Loss)
    → works_on operation line ≡ false → step_of plan b st (operation_event operation line id loss) ≡ (v.Nothing, st)
not_stepped plan b st op.Establish line id loss not = absurd cc
not_stepped plan b st op.Refresh line id loss not = step_not plan b st line id loss not
not_stepped plan b st op.Stop line id loss not = absurd cc
