-- What a run of a script has written if a fault ends it.
use Rattle.std.specs.Prelude.{ℕ, ◌-◌, true, [], length, take, Option, Some, None}
use Rattle.ide_types.specs.declared.plan.Plan.{Plan}
use Rattle.file_runs.specs.Pieces.{pieces}
use Rattle.file_runs.specs.Front.{bytes_of}
use Rattle.file_runs.specs.Gain.{Text}
use Rattle.script_runs.specs.declared.topologies.Loaded.{Loaded}
use Rattle.script_runs.specs.declared.topologies.Loaded.TheVariants.{Sound, Faulty, Long}
use Rattle.script_runs.specs.Script.{due_after, script_of_pieces}
use Rattle.script_runs.specs.Topologies.{loaded_topology}

-- The text that is due of some bytes of a script that goes on after them: the verdict lines of the lines that ended in
-- them.
abbrev pub script_so_far : Plan → Text → Text
script_so_far plan bytes = (due_after plan [] (script_of_pieces true 1 (pieces bytes))).1

-- by what is due of them on a plan
abbrev pub loaded_so_far : (Plan → Text → Text) → Loaded → Text → Text
loaded_so_far text (Sound plan) bytes = text plan bytes
loaded_so_far text (Faulty fault) bytes = []
loaded_so_far text Long bytes = []

-- of n bytes that were given, those after the topology are the script's
abbrev pub script_given : Option Text → Option Text → ℕ → Text
script_given None script n = []
script_given (Some topology) script n = take (n - length topology) (bytes_of script)

-- the text that is due of n bytes of two files, by what is due of a script's on a plan
abbrev pub files_so_far : (Plan → Text → Text) → (topology script : Option Text) → ℕ → Text
files_so_far text None script n = []
files_so_far text (Some topology) script n =
    loaded_so_far text (loaded_topology topology) (script_given (Some topology) script n)
