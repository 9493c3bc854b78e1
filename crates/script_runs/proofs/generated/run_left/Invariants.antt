use Rattle.std.proofs.Common.{◌≤◌, ◌+◌, length}
use Rattle.std.specs.List.{AllByRecursion}
use Rattle.script_events.specs.Spells.{IsAllowed}
use Rattle.script_runs.specs.Works.{IsEarly}
use Rattle.script_runs.proofs.Generating.{RunsOn}
use Rattle.script_runs.proofs.generated.run_left.Given as goal

abbrev pub invariant-events : goal.invariant-events
invariant-events l = record {
  runs : RunsOn l.initial.left l.running l.left;
  early : IsEarly l.running l.number;
  few : l.number + length l.left ≤ 1000001;
  allowed : AllByRecursion IsAllowed l.left;
}

abbrev pub decreases-events : goal.decreases-events
decreases-events l = length l.left
