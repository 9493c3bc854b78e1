-- What a shelf gives and a sink takes.
use Rattle.std.specs.Prelude.{ℕ, ◌+◌, ◌-◌, ◌^◌, ◌<◌, ◌≤◌, ◌≡◌, ◌⊎◌, min, List, ◌++◌, length, take, drop, Option, Some}
use Rattle.std.specs.Prelude.{None, Result, Ok, Err, IfOk, option_map, slice_get}
use Rattle.std.specs.List.{AllByRecursion}
use Rattle.cli_files.specs.declared.shelf.ShelfFault.{ShelfFault}
use Rattle.cli_files.specs.declared.sink.SinkFault.{SinkFault}
use Rattle.cli_files.specs.declared.sink.SinkFault.TheVariants.{Failed, Memory}

-- the bytes of each name, if there is a file of that name
abbrev pub Contents : Type 0
Contents = List ℕ → Option (List ℕ)

-- ---- what can be seen from outside

-- of a shelf: its contents and the names that it was asked for, neither of which it need tell, how many bytes it gave,
-- how many of them at its last read, how many one read asked for at most, and how many reads failed
pub record ShelfSeen : Type 0 where
  pub contents : Option Contents
  pub asked : Option (List (List ℕ))
  pub given : ℕ
  pub latest : ℕ
  pub longest : ℕ
  pub faults : ℕ

-- of a sink: what it holds, which it need not tell, and how many calls failed
pub record SinkSeen : Type 0 where
  pub held : Option (List ℕ)
  pub faults : ℕ

-- ---- counts of 64 bits

-- the count after n more, which stands still at its last value
abbrev pub capped_count : ℕ → ℕ → ℕ
capped_count before n = min (before + n) (2 ^ 64 - 1)

-- the count rose, or stands at its last value
abbrev pub Rose : ℕ → ℕ → Type 0
Rose before now = capped_count before 1 ≤ now

-- ---- what a read gives

-- n bytes of the file from place at on are the first of the buffer; none only at the end
pub record ReadAt (file : List ℕ) (at n : ℕ) (buf : List ℕ) : Type 0 where
  pub front : take n buf ≡ take n (drop at file)
  pub within : n ≤ length (drop at file)
  pub end : n ≡ 0 → 0 < length buf → length file ≤ at

-- a name that has no file is refused
abbrev pub ReadOrRefused : Option (List ℕ) → ℕ → Result ℕ ShelfFault → List ℕ → Type 0
ReadOrRefused None at (Ok n) buf = ⊥
ReadOrRefused (Some file) at (Ok n) buf = ReadAt file at n buf
ReadOrRefused file at (Err e) buf = Unit {0}

-- if the contents are told, what is read is what they have there
abbrev pub ReadIfTold : Option Contents → List ℕ → ℕ → Result ℕ ShelfFault → List ℕ → Type 0
ReadIfTold None name at result buf = Unit {0}
ReadIfTold (Some contents) name at result buf = ReadOrRefused (contents name) at result buf

-- what is given is counted, and a fault gives nothing
abbrev pub IsGiven : ℕ → ℕ → Result ℕ ShelfFault → Type 0
IsGiven before now (Ok n) = now ≡ capped_count before n
IsGiven before now (Err e) = now ≡ before

-- how many bytes a read gave
abbrev pub given_by : Result ℕ ShelfFault → ℕ
given_by (Ok n) = n
given_by (Err e) = 0

-- the contents are told, and have no such name
abbrev pub Lacks : Option Contents → List ℕ → Type 0
Lacks None name = ⊥
Lacks (Some contents) name = contents name ≡ None

-- a fault has a cause: it was counted, or the told contents lack the name
abbrev pub ShelfCause : ℕ → ℕ → Option Contents → List ℕ → Result ℕ ShelfFault → Type 0
ShelfCause before now told name (Ok n) = now ≡ before
ShelfCause before now told name (Err e) = (before ≤ now) × (Rose before now ⊎ Lacks told name)

-- ---- which names are asked for

-- if they are told, no name came to them but such ones
abbrev pub AsksOnly : (List ℕ → Type 0) → Option (List (List ℕ)) → Option (List (List ℕ)) → Type 0
AsksOnly may None now = Unit {0}
AsksOnly may (Some names) now = (more : List (List ℕ)) × (now ≡ Some (names ++ more)) × AllByRecursion may more

-- if they are told, this one came last
abbrev pub IsLastName : List ℕ → Option (List (List ℕ)) → Type 0
IsLastName name None = Unit {0}
IsLastName name (Some names) = slice_get names (length names - 1) ≡ Some name

-- no name but this one
abbrev pub AsksFor : List ℕ → Option (List (List ℕ)) → Option (List (List ℕ)) → Type 0
AsksFor name before now = AsksOnly (λ other. other ≡ name) before now

-- ---- what a sink takes

-- some of the piece is taken, if it has any
abbrev pub TakesSome : List ℕ → Result ℕ SinkFault → Type 0
TakesSome piece result = IfOk result (λ n. (n ≤ length piece) × (0 < length piece → 0 < n))

-- the first bytes of the piece are held after the others, and after an error the same as before
abbrev pub PutInto : Option (List ℕ) → Option (List ℕ) → List ℕ → Result ℕ SinkFault → Type 0
PutInto before now piece (Ok n) = now ≡ option_map (λ held. held ++ take n piece) before
PutInto before now piece (Err e) = now ≡ before

abbrev pub SinkErrCause : ℕ → ℕ → SinkFault → Type 0
SinkErrCause before now Failed = (before ≤ now) × Rose before now
SinkErrCause before now Memory = now ≡ before

-- only a failed call is counted
abbrev pub SinkCause : ℕ → ℕ → Result ℕ SinkFault → Type 0
SinkCause before now (Ok n) = now ≡ before
SinkCause before now (Err e) = SinkErrCause before now e
