-- How much of a topology and a script is read.
use Rattle.std.specs.Prelude.{ℕ, ◌+◌, ◌-◌, ◌≤◌, ◌≡◌, ◌⊎◌, true, [], length, Option, Some, None}
use Rattle.ide_types.specs.declared.plan.Plan.{Plan}
use Rattle.file_runs.specs.Pieces.{pieces}
use Rattle.file_runs.specs.declared.ends.End.TheVariants as end
use Rattle.file_runs.specs.Front.{Gave, bytes_of}
use Rattle.file_runs.specs.Gain.{Text}
use Rattle.file_runs.specs.Gathering.{NoFurther}
use Rattle.file_runs.specs.Lines.{file_limit}
use Rattle.script_runs.specs.declared.topologies.Loaded.{Loaded}
use Rattle.script_runs.specs.declared.topologies.Loaded.TheVariants.{Sound, Faulty, Long}
use Rattle.script_runs.specs.Loading.{topology_limit}
use Rattle.script_runs.specs.Script.{due_after, script_of_pieces}
use Rattle.script_runs.specs.Topologies.{loaded_topology}

-- a run was given one byte more of the topology than count, or all of it and one byte more of the script than count
abbrev pub RanPast : ℕ → ℕ → Type 0
RanPast before now = Gave before (topology_limit + 1) now
    ⊎ ((n : ℕ) × (n ≤ topology_limit) × Gave before (n + (file_limit + 1)) now)

-- ---- how far is read if the run ends by itself: of the bytes that were given, and those before the last read

-- no line ends the run in these bytes of a script that goes on after them
abbrev pub ScriptGoesOn : Plan → Text → Type 0
ScriptGoesOn plan bytes = (due_after plan [] (script_of_pieces true 1 (pieces bytes))).0 ≡ end.TooLong

-- bytes after a sound topology are those of the script; of any other topology no more bytes are given than it has
abbrev pub LoadedNoFurther : Loaded → (topology script : Text) → (given ahead : ℕ) → Type 0
LoadedNoFurther (Sound plan) topology script given ahead =
    NoFurther (ScriptGoesOn plan) script (given - length topology) (ahead - length topology)
LoadedNoFurther (Faulty fault) topology script given ahead = given ≤ length topology
LoadedNoFurther Long topology script given ahead = given ≤ length topology

abbrev pub RunNoFurther : (topology script : Option Text) → (given ahead : ℕ) → Type 0
RunNoFurther None script given ahead = given ≡ 0
RunNoFurther (Some topology) script given ahead =
    LoadedNoFurther (loaded_topology topology) topology (bytes_of script) given ahead
