use Rattle.script_runs.proofs.Generating.{next_allowed, next_few, next_taken, runs_next}
use Rattle.script_runs.proofs.generated.run_left.Goals as goal

pub events-preserved-in_ok-step : goal.events-preserved-in_ok-step
events-preserved-in_ok-step c =
    let taken = next_taken c.events.left c.in_ok-event.field-0 c.in-Some.event c.next.new.self c.in_ok-event.ensures
    c.in-Some.is in
    record {
      runs = runs_next c.args.left c.events.running c.step.new.self c.events.left c.next.new.self c.in-Some.event
          c.events.invariant.runs taken (λ past follows. (c.in_ok-step.ensures.came past follows).follows);
      early = c.in_ok-step.ensures.early;
      few = next_few c.events.number c.events.left c.next.new.self c.in-Some.event taken c.events.invariant.few;
      allowed = next_allowed c.events.left c.next.new.self c.in-Some.event taken c.events.invariant.allowed;
    }

pub events-preserved-in_ok-step-2 : goal.events-preserved-in_ok-step-2
events-preserved-in_ok-step-2 c =
    let taken = next_taken c.events.left c.in_ok-event.field-0 c.in-Some.event c.next.new.self c.in_ok-event.ensures
    c.in-Some.is in
    record {
      runs = runs_next c.args.left c.events.running c.step.new.self c.events.left c.next.new.self c.in-Some.event
          c.events.invariant.runs taken (λ past follows. (c.in_ok-step.ensures.came past follows).follows);
      early = c.in_ok-step.ensures.early;
      few = next_few c.events.number c.events.left c.next.new.self c.in-Some.event taken c.events.invariant.few;
      allowed = next_allowed c.events.left c.next.new.self c.in-Some.event taken c.events.invariant.allowed;
    }

pub events-preserved : goal.events-preserved
events-preserved c =
    let taken = next_taken c.events.left c.in_ok-event.field-0 c.in-Some.event c.next.new.self c.in_ok-event.ensures
    c.in-Some.is in
    record {
      runs = runs_next c.args.left c.events.running c.step.new.self c.events.left c.next.new.self c.in-Some.event
          c.events.invariant.runs taken (λ past follows. (c.in_ok-step.ensures.came past follows).follows);
      early = c.in_ok-step.ensures.early;
      few = next_few c.events.number c.events.left c.next.new.self c.in-Some.event taken c.events.invariant.few;
      allowed = next_allowed c.events.left c.next.new.self c.in-Some.event taken c.events.invariant.allowed;
    }
