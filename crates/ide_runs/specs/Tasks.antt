-- What the commands `why` and `cover` do with their files.
use Rattle.std.specs.Prelude.{ℕ, Bool}
use Rattle.file_runs.specs.FileRuns.{FileTask}
use Rattle.file_runs.specs.Gain.{Text}
use Rattle.ide_runs.specs.Cover.{cover_due, covered_so_far}
use Rattle.ide_runs.specs.Why.{told_due, told_so_far}
use Rattle.script_runs.specs.Tasks.{script_task}

-- the event of this number is told
abbrev pub why_task : (n : ℕ) → (topology script : Text) → FileTask
why_task n topology script = script_task (told_due n) (told_so_far n) (Unit {0}) topology script

-- the rules that answered are counted, and, if asked for, told of each event
abbrev pub cover_task : (events : Bool) → (topology script : Text) → FileTask
cover_task events topology script = script_task (cover_due events) (covered_so_far events) ⊥ topology script
