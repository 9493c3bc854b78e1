use Rattle.std.proofs.Common.{◌≡◌, ◌+◌, sym, subst, arith}
use Rattle.script_runs.specs.Works.{Follows, IsEarly, RunningView}
use Rattle.script_runs.proofs.Scripts.{verdict_comes}
use Rattle.script_runs.proofs.script.Running.step.Goals as goal

pub returns-clause-came : goal.returns-clause-came
returns-clause-came c = λ past was.
    let follows : Follows (record { world = c.self.inside.world; totals = c.self.inside.totals }) past = subst
    (λ (r : RunningView). Follows r past) (sym c.self.view_is) was in
    verdict_comes past c.self.inside.totals _ c.args.event.now c.self.inside.world c.step.new.self
    c.in_ok-verdict.verdict
    follows c.in_ok-verdict.ensures.step c.with_verdict-self-inside.ensures.totals

pub returns-clause-early : goal.returns-clause-early
returns-clause-early c =
    let steps : c.step.new.self.steps ≡ c.self.inside.world.steps + 1 = c.in_ok-verdict.ensures.step.steps_are in
    let early : IsEarly (record { world = c.self.inside.world; totals = c.self.inside.totals }) c.args.number = subst
    (λ (r : RunningView). IsEarly r c.args.number) (sym c.self.view_is) c.requires.early in
    let totals = c.with_verdict-self-inside.ensures in
    record {
      steps = omega (arith, steps, early.steps);
      sealed = rw (totals.totals, steps) (omega (arith, early.sealed, totals.sealed));
      accepted = rw (totals.totals, steps) (omega (arith, early.accepted, totals.accepted));
      failed = rw (totals.totals, steps) (omega (arith, early.failed, totals.failed));
      blocked = rw (totals.totals, steps) (omega (arith, early.blocked, totals.blocked));
    }
