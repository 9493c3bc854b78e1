use Rattle.std.proofs.Common.{◌≡◌, ◌++◌, length}
use Rattle.file_runs.specs.Gain.{Text, HasGained}
use Rattle.file_runs.proofs.writing.write_all.Given as goal

abbrev pub invariant-loop-rest : goal.invariant-loop-rest
invariant-loop-rest g l = record {
  bytes : (front : Text) × (front ++ l.rest ≡ l.text) × HasGained (g.O.Sink.seen l.initial.out).held
      (g.O.Sink.seen l.out).held front;
  faults : (g.O.Sink.seen l.out).faults ≡ (g.O.Sink.seen l.initial.out).faults;
}

abbrev pub decreases-loop-rest : goal.decreases-loop-rest
decreases-loop-rest g l = length l.rest
