use Rattle.std.proofs.Common.{◌≡◌, length}
use Rattle.file_runs.specs.Judging.{last_line_of}
use Rattle.file_runs.proofs.last.last_line.Given as goal

abbrev pub invariant-lines : goal.invariant-lines
invariant-lines l = record {
  same : last_line_of l.rest ≡ last_line_of l.text;
}

abbrev pub decreases-lines : goal.decreases-lines
decreases-lines l = length l.rest
