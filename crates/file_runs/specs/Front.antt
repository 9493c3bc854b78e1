-- The first bytes of a file.
use Rattle.std.specs.Prelude.{ℕ, ◌+◌, ◌≤◌, ◌≡◌, ◌⊎◌, [], length, max, take, unwrap_or, Option, Some, None, Result, Ok}
use Rattle.std.specs.Prelude.{Err}
use Rattle.cli_files.specs.Outside.{Contents, Rose, Lacks, capped_count}
use Rattle.file_runs.specs.declared.ends.Fault.{Fault}
use Rattle.file_runs.specs.declared.ends.Fault.TheVariants as fault
use Rattle.file_runs.specs.Gain.{Text, IsFront}

-- so many bytes of the file, or all if it has no more
abbrev pub FrontIn : ℕ → Option Text → Text → Type 0
FrontIn most None read = ⊥
FrontIn most (Some file) read = read ≡ take most file

-- if the contents are told, it is so of the file of this name
abbrev pub FrontIfTold : Option Contents → Text → ℕ → Text → Type 0
FrontIfTold None name most read = Unit {0}
FrontIfTold (Some contents) name most read = FrontIn most (contents name) read

-- a fault was counted, or the told contents lack the name; nothing is written, and want of memory counts nothing
abbrev pub UnreadCause : ℕ → ℕ → Option Contents → Text → Fault → Type 0
UnreadCause before now told name fault.Read = (before ≤ now) × (Rose before now ⊎ Lacks told name)
UnreadCause before now told name fault.Write = ⊥
UnreadCause before now told name fault.Memory = now ≡ before

abbrev pub ReadCause : {A : Type 0} → ℕ → ℕ → Option Contents → Text → Result A Fault → Type 0
ReadCause before now told name (Ok x) = now ≡ before
ReadCause before now told name (Err e) = UnreadCause before now told name e

-- n bytes were given: the count rose by n, or up to its last value
abbrev pub Gave : ℕ → ℕ → ℕ → Type 0
Gave before n now = (capped_count before n ≤ now) × (now ≤ before + n)

-- no more than so many bytes were given
abbrev pub GaveAtMost : ℕ → ℕ → ℕ → Type 0
GaveAtMost before most now = (n : ℕ) × (n ≤ most) × Gave before n now

-- no read asked for more than 4,096 bytes
abbrev pub AskedPieces : ℕ → ℕ → Type 0
AskedPieces before now = now ≤ max before 4096

-- a file that is not there has no bytes
abbrev pub bytes_of : Option Text → Text
bytes_of file = unwrap_or file []

-- if the contents are told, no more bytes were given than the file has
abbrev pub GaveIfTold : Option Contents → Text → ℕ → ℕ → Type 0
GaveIfTold None name before now = Unit {0}
GaveIfTold (Some contents) name before now = (n : ℕ) × (n ≤ length (bytes_of (contents name))) × Gave before n now

-- and no more than it has after a place
abbrev pub GaveRestIfTold : Option Contents → Text → ℕ → ℕ → ℕ → Type 0
GaveRestIfTold None name at before now = Unit {0}
GaveRestIfTold (Some contents) name at before now = (n : ℕ) × (at + n ≤ length (bytes_of (contents name)))
    × Gave before n now

-- ---- piece by piece

-- what was read is a prefix of the file
abbrev pub IsReadIn : Option Text → Text → Type 0
IsReadIn None read = read ≡ []
IsReadIn (Some file) read = IsFront read file

abbrev pub IsReadIfTold : Option Contents → Text → Text → Type 0
IsReadIfTold None name read = Unit {0}
IsReadIfTold (Some contents) name read = IsReadIn (contents name) read

-- it is the whole file
abbrev pub IsWholeIn : Option Text → Text → Type 0
IsWholeIn None read = ⊥
IsWholeIn (Some file) read = read ≡ file

abbrev pub IsWholeIfTold : Option Contents → Text → Text → Type 0
IsWholeIfTold None name read = Unit {0}
IsWholeIfTold (Some contents) name read = IsWholeIn (contents name) read

-- after one more piece it still is a prefix, and the whole file if the piece was empty
abbrev pub ReadsOn : {E : Type 0} → Option Contents → Text → Text → Result ℕ E → Type 0
ReadsOn told name read (Ok n) = IsReadIfTold told name read × (n ≡ 0 → IsWholeIfTold told name read)
ReadsOn told name read (Err e) = Unit {0}
