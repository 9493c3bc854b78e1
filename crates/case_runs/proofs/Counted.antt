-- Sync packets before a write that the posted counts could not hold.
use Rattle.std.proofs.Common.{◌≡◌, false, refl}
use Rattle.spec_links.specs.Due.{due}
use Rattle.case_runs.specs.Due.{AreDue}
use Rattle.case_runs.specs.ScriptCases.{plan, history_of_writes, count_reached, count_full}
use Rattle.case_runs.proofs.Literals.{due_on_literals}

count_full_1 : due (plan 1 false) (history_of_writes 255) count_reached.0 ≡ count_reached.1
unfolding due_on_literals
count_full_1 = refl

pub count_full_due : AreDue (plan 1 false) (history_of_writes 255) count_full
unfolding due_on_literals
count_full_due = (count_full_1, (refl, tt))
