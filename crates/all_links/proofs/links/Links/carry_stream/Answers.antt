use Rattle.all_links.proofs.Terms.{ℕ, refl, subst, sym, IsSome, Option, Verdict, OperatesAt, named_stream, Named}
use Rattle.all_links.proofs.Terms.{told_by_line, drawn_on_line, ◌≡◌, ◌==◌, not, work_of, ◌∙◌, ap}
use Rattle.std.specs.Prelude.{IfSome}
use Rattle.key_host.specs.Operations.{op_name}
use Rattle.key_host.proofs.Walks.{no_bad_reply}
use Rattle.all_links.proofs.Operations.{operates_due}
use Rattle.all_links.proofs.links.Links.carry_stream.Goals as goal

pub operate-requires-clause-here : goal.operate-requires-clause-here
operate-requires-clause-here c = rw c.line.ensures c.requires.here

pub returns-clause-operates : goal.returns-clause-operates
returns-clause-operates c =
    subst (λ (line : ℕ). OperatesAt c.args.self.now.ends line c.args.self.now.keeper.keys c.args.op c.args.loss
    c.operate.result c.operate.new.self c.operate.new.keeper.keys) c.line.ensures c.operate.ensures.operates

pub returns-clause-interfaces : goal.returns-clause-interfaces
returns-clause-interfaces c =
    let draw : ℕ = c.args.self.now.keeper.keys.pool.draws in
    subst (λ (line : ℕ). IfSome (named_stream c.args.self.now.keeper.keys.manager (op_name c.args.op).line
    (op_name c.args.op).stream) (λ (n : Named). c.operate.new.keeper.interfaces
    ≡ told_by_line line c.args.op (work_of (op_name c.args.op).operation n.stream.op 0).begins
    (not (c.operate.new.keeper.keys.pool.draws == draw)) draw c.operate.result c.args.self.now.keeper.interfaces))
    c.line.ensures c.operate.ensures.interfaces

pub returns-clause-peer_draws : goal.returns-clause-peer_draws
returns-clause-peer_draws c =
    let draw : ℕ = c.args.self.now.keeper.keys.pool.draws in
    c.operate.ensures.peer_draws
    ∙ ap (λ (line : ℕ). drawn_on_line line c.args.op (not (c.operate.new.keeper.keys.pool.draws == draw)) draw
    c.args.self.now.keeper.peer_draws) c.line.ensures

pub returns-clause-answered : goal.returns-clause-answered
returns-clause-answered c works plan stands =
    let due = operates_due c.operations_join.ensures c.pair_operations_join.ensures plan c.args.self.now
    c.operate.new.self c.operate.new.keeper.keys c.args.op c.args.loss c.operate.result stands works
    c.requires.here c.requires.stream
    (subst (λ (line : ℕ). OperatesAt c.args.self.now.ends line c.args.self.now.keeper.keys c.args.op c.args.loss
    c.operate.result c.operate.new.self c.operate.new.keeper.keys) c.line.ensures c.operate.ensures.operates) in
    subst (λ (o : Option Verdict). IsSome o) (sym due.1) refl

pub returns-clause-no_bad_reply : goal.returns-clause-no_bad_reply
returns-clause-no_bad_reply c works plan stands =
    let due = operates_due c.operations_join.ensures c.pair_operations_join.ensures plan c.args.self.now
    c.operate.new.self c.operate.new.keeper.keys c.args.op c.args.loss c.operate.result stands works
    c.requires.here c.requires.stream
    (subst (λ (line : ℕ). OperatesAt c.args.self.now.ends line c.args.self.now.keeper.keys c.args.op c.args.loss
    c.operate.result c.operate.new.self c.operate.new.keeper.keys) c.line.ensures c.operate.ensures.operates) in
    let a = op_name c.args.op in
    no_bad_reply a.operation a.line a.stream c.args.loss c.operate.result due.0 due.1
