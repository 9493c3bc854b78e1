use Rattle.link_ends.proofs.Terms.{◌∙◌, sym, refl, IsSome, op_name, Named, named_stream, calls_begun}
use Rattle.link_ends.proofs.Calls.{host_units}
use Rattle.ide_port.proofs.Units.{stays, grow-on}
use Rattle.link_ends.proofs.Operates.{host_port_view, operate_refused, operate_goes}
use Rattle.link_ends.proofs.keeper.KeyKeeper.operate.Goals as goal

pub returns-in-Err-clause-operates : goal.returns-in-Err-clause-operates
returns-in-Err-clause-operates g c = rw (← c.self.view_is)
    (λ n host device is hosted on asked.
    operate_refused (record { manager = c.self.inside.manager; pool = c.self.inside.pool }) c.begin.new.self
    c.begin.new.pool c.args.ends.now
    c.begin.new.port c.args.op c.args.loss n host device is hosted on
    (rw is at c.begin.ensures.manager) (rw is at c.begin.ensures.pool) (rw is at c.begin.ensures.calls) c.in-Err.refusal
    (sym c.in-Err.is ∙ (rw is at c.begin.ensures.answer)))

pub returns-in-Ok-clause-operates : goal.returns-in-Ok-clause-operates
returns-in-Ok-clause-operates g c = rw (← c.self.view_is)
    (λ n host device is hosted on asked.
    operate_goes (record { manager = c.self.inside.manager; pool = c.self.inside.pool }) c.begin.new.self
    c.begin.new.pool c.args.ends.now c.begin.new.port
    c.args.op c.args.loss n host device is hosted on
    (rw is at c.begin.ensures.manager) (rw is at c.begin.ensures.pool) (rw is at c.begin.ensures.calls)
    c.walk.new.self.manager c.walk.new.self.pool c.walk.new.ends c.walk.result asked
    (sym c.in-Ok.is ∙ (rw is at c.begin.ensures.answer))
    c.walk.ensures.walk c.walk.ensures.pool)

pub returns-in-Err-clause-units : goal.returns-in-Err-clause-units
returns-in-Err-clause-units g c =
    let there : IsSome (named_stream c.self.inside.manager (op_name c.args.op).line (op_name c.args.op).stream) = rw
    (← c.self.view_is) at c.requires in
    let begins = host_units _
    (λ (n : Named). calls_begun (op_name c.args.op).operation (host_port_view c.args.ends.now.host n.stream.id)
    c.self.inside.pool n)
    c.args.ends.now.host c.begin.new.port there c.begin.ensures.calls in
    record { host = begins; device = stays 0 c.args.ends.now.device.port; interfaces = refl }

pub returns-in-Ok-clause-units : goal.returns-in-Ok-clause-units
returns-in-Ok-clause-units g c =
    let there : IsSome (named_stream c.self.inside.manager (op_name c.args.op).line (op_name c.args.op).stream) = rw
    (← c.self.view_is) at c.requires in
    let begins = host_units _
    (λ (n : Named). calls_begun (op_name c.args.op).operation (host_port_view c.args.ends.now.host n.stream.id)
    c.self.inside.pool n)
    c.args.ends.now.host c.begin.new.port there c.begin.ensures.calls in
    record {
      host = grow-on 0 0 c.args.ends.now.host c.begin.new.port c.walk.new.ends.host begins c.walk.ensures.units.host;
      device = c.walk.ensures.units.device;
      interfaces = c.walk.ensures.units.interfaces;
    }
