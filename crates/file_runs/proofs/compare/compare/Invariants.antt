use Rattle.std.proofs.Common.{◌≡◌, ◌+◌, ◌≤◌, length}
use Rattle.file_runs.specs.Pieces.{pieces}
use Rattle.file_runs.specs.Judging.{first_finding, found_after}
use Rattle.file_runs.proofs.compare.compare.Given as goal

abbrev pub invariant-lines : goal.invariant-lines
invariant-lines l = record {
  found : found_after l.lines (pieces l.due) (pieces l.claimed) ≡ first_finding l.fn.due l.fn.claimed;
  few : l.lines + length l.due ≤ length l.fn.due;
}

abbrev pub decreases-lines : goal.decreases-lines
decreases-lines l = length l.due
