-- A text that is judged by what a run writes: what is due, and how much is read.
use Rattle.std.specs.Prelude.{ℕ, ◌≡◌, ◌≢◌, ◌⊎◌, ◌+◌, ◌≤◌, Bool, [], length, Option, Some, None, option_map}
use Rattle.file_runs.specs.declared.ends.End.{End}
use Rattle.file_runs.specs.declared.ends.End.TheVariants as end
use Rattle.file_runs.specs.Front.{Gave, bytes_of}
use Rattle.file_runs.specs.Gain.{Text}
use Rattle.file_runs.specs.Lines.{file_limit}
use Rattle.file_runs.specs.Outcome.{Due}
use Rattle.file_runs.specs.Judging.{judgement_due, last_line_of, verdicts_limit}
use Rattle.script_runs.specs.Loading.{topology_limit}
use Rattle.script_runs.specs.Reads.{RanPast, RunNoFurther}
use Rattle.script_runs.specs.Script.{run_due}

-- Of a run that did not come to the end of its script: the last line of its text, or the line of a faulty topology.
abbrev pub text_left : End → Text → Text
text_left end.Topology text = text
text_left end.Script text = last_line_of text
text_left e text = []

-- it did not, and this is left to write
abbrev pub IsLeft : End → (text left : Text) → Type 0
IsLeft e text left = (e ≢ end.Done) × (left ≡ text_left e text)

-- by the end and the text of the run
abbrev pub judged_script_run : (all : Bool) → Option Text → End → Text → Option Due
judged_script_run all verdicts end.Done text = option_map (judgement_due all text) verdicts
judged_script_run all verdicts e text = Some (e, text_left e text)

abbrev pub judged_run : (all : Bool) → Option Text → Option Due → Option Due
judged_run all verdicts None = None
judged_run all verdicts (Some due) = judged_script_run all verdicts due.0 due.1

-- the end and the text that are due, or nothing if a file is not there
abbrev pub judge_due : (all : Bool) → (topology script verdicts : Option Text) → Option Due
judge_due all topology script verdicts = judged_run all verdicts (run_due topology script)

-- ---- how much is read

abbrev pub IsOneOf : (topology script verdicts : Text) → Text → Type 0
IsOneOf topology script verdicts name = (name ≡ topology) ⊎ ((name ≡ script) ⊎ (name ≡ verdicts))

-- one byte more was given of the topology or the script than count, or of the text that is judged, after the two
abbrev pub JudgedPast : ℕ → ℕ → Type 0
JudgedPast before now = RanPast before now
    ⊎ ((n : ℕ) × (n ≤ topology_limit + file_limit) × Gave before (n + (verdicts_limit + 1)) now)

-- A run that comes to the end of its script reads all of it, and then no more than the text that is judged; of any
-- other the text that is judged is not read.
abbrev pub EndNoFurther : End → (topology script verdicts : Option Text) → (given ahead : ℕ) → Type 0
EndNoFurther end.Done topology script verdicts given ahead =
    given ≤ length (bytes_of topology) + length (bytes_of script) + length (bytes_of verdicts)
EndNoFurther e topology script verdicts given ahead = RunNoFurther topology script given ahead

abbrev pub DueNoFurther : Option Due → (topology script verdicts : Option Text) → (given ahead : ℕ) → Type 0
DueNoFurther None topology script verdicts given ahead = RunNoFurther topology script given ahead
DueNoFurther (Some due) topology script verdicts given ahead = EndNoFurther due.0 topology script verdicts given ahead

abbrev pub JudgeNoFurther : (topology script verdicts : Option Text) → (given ahead : ℕ) → Type 0
JudgeNoFurther topology script verdicts given ahead =
    DueNoFurther (run_due topology script) topology script verdicts given ahead
