use Rattle.link_ends.proofs.Terms.{◌∙◌, sym, IsSome, op_name, Named, named_stream, calls_begun}
use Rattle.link_ends.proofs.Calls.{host_units}
use Rattle.ide_port.specs.{UnitsGrow}
use Rattle.ide_port.proofs.Units.{stays, grow-on}
use Rattle.link_ends.proofs.Operates.{host_port_view}
use Rattle.link_ends.proofs.PairOperates.{pair_refused, pair_goes_on_with}
use Rattle.link_ends.proofs.keeper.KeyKeeper.operate_pair.Goals as goal

pub returns-in-Err-clause-operates : goal.returns-in-Err-clause-operates
returns-in-Err-clause-operates c = rw (← c.self.view_is)
    (λ n near far is paired on asked.
    pair_refused (record { manager = c.self.inside.manager; pool = c.self.inside.pool }) c.begin.new.self
    c.begin.new.pool c.args.ends.now c.begin.new.port c.args.op c.args.loss n near far is paired on
    (rw is at c.begin.ensures.manager) (rw is at c.begin.ensures.pool) (rw is at c.begin.ensures.calls) c.in-Err.refusal
    (sym c.in-Err.is ∙ (rw is at c.begin.ensures.answer)))

pub returns-in-Ok-clause-operates : goal.returns-in-Ok-clause-operates
returns-in-Ok-clause-operates c = rw (← c.self.view_is)
    (λ n near far is paired on asked.
    pair_goes_on_with (record { manager = c.self.inside.manager; pool = c.self.inside.pool }) c.begin.new.self
    c.begin.new.pool c.args.ends.now c.begin.new.port c.args.op c.args.loss n near far is paired on
    (rw is at c.begin.ensures.manager) (rw is at c.begin.ensures.pool) (rw is at c.begin.ensures.calls)
    c.pair_walk.new.self.manager c.pair_walk.new.self.pool c.pair_walk.new.ends c.pair_walk.result asked
    (sym c.in-Ok.is ∙ (rw is at c.begin.ensures.answer))
    c.pair_walk.ensures.walk c.pair_walk.ensures.pool)

pub returns-in-Err-clause-units : goal.returns-in-Err-clause-units
returns-in-Err-clause-units c =
    let there : IsSome (named_stream c.self.inside.manager (op_name c.args.op).line (op_name c.args.op).stream) =
    rw (← c.self.view_is) at c.requires in
    let begins : UnitsGrow 0 c.args.ends.now.near.port c.begin.new.port = host_units _
    (λ (n : Named). calls_begun (op_name c.args.op).operation (host_port_view c.args.ends.now.near.port n.stream.id)
    c.self.inside.pool n)
    c.args.ends.now.near.port c.begin.new.port there c.begin.ensures.calls in
    record { near = begins; far = stays 0 c.args.ends.now.far.port }

pub returns-in-Ok-clause-units : goal.returns-in-Ok-clause-units
returns-in-Ok-clause-units c =
    let there : IsSome (named_stream c.self.inside.manager (op_name c.args.op).line (op_name c.args.op).stream) =
    rw (← c.self.view_is) at c.requires in
    let begins : UnitsGrow 0 c.args.ends.now.near.port c.begin.new.port = host_units _
    (λ (n : Named). calls_begun (op_name c.args.op).operation (host_port_view c.args.ends.now.near.port n.stream.id)
    c.self.inside.pool n)
    c.args.ends.now.near.port c.begin.new.port there c.begin.ensures.calls in
    record {
      near = grow-on 0 0 c.args.ends.now.near.port c.begin.new.port c.pair_walk.new.ends.near.port begins
          c.pair_walk.ensures.units.near;
      far = c.pair_walk.ensures.units.far;
    }
