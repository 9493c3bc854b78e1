-- The exit code of each end and each fault.
use Rattle.std.specs.Prelude.{ℕ, Result, Ok, Err}
use Rattle.file_runs.specs.declared.ends.End.{End}
use Rattle.file_runs.specs.declared.ends.End.TheVariants as end
use Rattle.file_runs.specs.declared.ends.Fault.{Fault}
use Rattle.file_runs.specs.declared.ends.Fault.TheVariants as fault

abbrev pub code_of : Result End Fault → ℕ
code_of (Ok end.Done) = 0
code_of (Ok end.Differs) = 1
code_of (Ok end.Usage) = 2
code_of (Ok end.Topology) = 3
code_of (Ok end.Script) = 4
code_of (Err fault.Read) = 5
code_of (Err fault.Write) = 6
code_of (Err fault.Memory) = 7
code_of (Ok end.TooLong) = 8
code_of (Ok end.NoEvent) = 9
