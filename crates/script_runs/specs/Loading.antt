-- A topology's file that is read, of which so many bytes count.
use Rattle.std.specs.Prelude.{ℕ, ◌≡◌, nat_lt, if◌then◌else◌, Result, Ok, Err, length, Option, Some, None}
use Rattle.cli_files.specs.Outside.{Contents}
use Rattle.file_runs.specs.declared.ends.Fault.{Fault}
use Rattle.file_runs.specs.Front.{Gave, bytes_of}
use Rattle.file_runs.specs.Gain.{Text}

-- how many bytes of a topology count
abbrev pub topology_limit : ℕ
topology_limit = 1048576

-- what the bytes give, if they are no more than count
abbrev pub loaded_within_limit : {L : Type 0} → L → (Text → L) → Text → L
loaded_within_limit long by bytes = if nat_lt topology_limit (length bytes) then long else by bytes

-- if the contents are told, what was loaded is what the file gives
abbrev pub IsLoadedInFile : {L : Type 0} → (Text → L) → Option Text → L → Type 0
IsLoadedInFile by None l = ⊥
IsLoadedInFile by (Some bytes) l = l ≡ by bytes

abbrev pub IsLoadedIfTold : {L : Type 0} → (Text → L) → Option Contents → Text → L → Type 0
IsLoadedIfTold by None name l = Unit {0}
IsLoadedIfTold by (Some contents) name l = IsLoadedInFile by (contents name) l

abbrev pub Loads : {L : Type 0} → (Text → L) → Option Contents → Text → Result L Fault → Type 0
Loads by told name (Ok l) = IsLoadedIfTold by told name l
Loads by told name (Err e) = Unit {0}

-- if the contents are told, as many bytes were given as the file has
abbrev pub GaveAllOf : Option Contents → Text → ℕ → ℕ → Type 0
GaveAllOf None name before now = Unit {0}
GaveAllOf (Some contents) name before now = Gave before (length (bytes_of (contents name))) now
