use Rattle.std.proofs.Common.{◌≡◌, ◌++◌, ◌+◌, ◌≤◌, length}
use Rattle.file_runs.specs.Differing.{differing, lines_of, places_apart, places_text}
use Rattle.file_runs.proofs.differing.all_text.Given as goal

-- what was told and what is left to tell, the lines that were counted and those that are left, and no number is past
-- the lines that there may be
abbrev pub invariant-lines : goal.invariant-lines
invariant-lines l = record {
  told : l.text.items ++ places_text (places_apart l.number (lines_of l.due) (lines_of l.claimed))
      ≡ places_text (differing l.fn.due l.fn.claimed);
  counted : l.count + length (places_apart l.number (lines_of l.due) (lines_of l.claimed))
      ≡ length (differing l.fn.due l.fn.claimed);
  few : l.number + (length l.due + length l.claimed) ≤ 1 + (length l.fn.due + length l.fn.claimed);
  less : l.count + 1 ≤ l.number;
}

abbrev pub decreases-lines : goal.decreases-lines
decreases-lines l = length l.due + length l.claimed
