use Rattle.world.proofs.Worlds.{as_before, both_sides, has_verdict, invariant_stays, step_after, world_after}
use Rattle.world.proofs.world.World.step.Goals as goal

pub unwrap-requires : goal.unwrap-requires
unwrap-requires c =
    has_verdict c.self.inside.plan c.self.inside.links c.answer.new.self c.args.event.now
    (record {
      steps = c.whole_steps.ensures;
      points = c.points_stand.ensures;
      join = c.interface_operations_join.ensures;
    }) c.self.invariant c.in_ok-verdict.verdict c.in_ok-verdict.ensures.ends

pub invariant_of-self-2 : goal.invariant_of-self-2
invariant_of-self-2 c =
    world_after c.self.inside.plan c.self.inside.links c.answer.new.self c.args.event.now
    (record {
      steps = c.whole_steps.ensures;
      points = c.points_stand.ensures;
      join = c.interface_operations_join.ensures;
    }) c.self.invariant c.in_ok-verdict.verdict c.in_ok-verdict.ensures.ends
    (both_sides c.self.inside.plan c.self.inside.links c.answer.new.self c.args.event.now c.in_ok-verdict.verdict
    c.in_ok-verdict.ensures.sides c.in_ok-verdict.ensures.accesses)

pub returns-clause-step : goal.returns-clause-step
returns-clause-step c =
    step_after c.self.inside.plan c.self.inside.links c.answer.new.self c.args.event.now
    (record {
      steps = c.whole_steps.ensures;
      points = c.points_stand.ensures;
      join = c.interface_operations_join.ensures;
    }) c.self.invariant c.args.self.now c.self.view_is c.in_ok-verdict.verdict c.unwrap.result c.unwrap.ensures
    c.in_ok-verdict.ensures.ends
    (both_sides c.self.inside.plan c.self.inside.links c.answer.new.self c.args.event.now c.in_ok-verdict.verdict
    c.in_ok-verdict.ensures.sides c.in_ok-verdict.ensures.accesses)

pub invariant_of-self : goal.invariant_of-self
invariant_of-self c = invariant_stays c.self.inside.plan c.self.inside.links c.answer.new.self c.self.invariant
    c.in_err-verdict.ensures.ends

pub returns-in_err-verdict-clause-memory : goal.returns-in_err-verdict-clause-memory
returns-in_err-verdict-clause-memory c = as_before c.self.inside.plan c.self.inside.links c.answer.new.self
    c.self.invariant c.in_err-verdict.ensures.ends c.args.self.now c.self.view_is c.from_residual.result
