-- What the end of a part promises, beside what the part should write.
use Rattle.std.specs.Prelude.{ℕ, ◌≡◌, ◌⊎◌, Result, Ok, Err, [], ◌∷◌, ◌++◌, Option, Some, None}
use Rattle.cli_files.specs.Outside.{Contents, Rose, ShelfSeen, SinkSeen}
use Rattle.file_runs.specs.declared.ends.End.{End}
use Rattle.file_runs.specs.declared.ends.Fault.{Fault}
use Rattle.file_runs.specs.declared.ends.Fault.TheVariants as fault
use Rattle.file_runs.specs.Gain.{Text, IsFront, HasGained}

-- the end and the text that are due
abbrev pub Due : Type 0
Due = End × Text

-- In what follows `read`, `write` and `quiet` say that a count of read faults rose, that one of write faults did,
-- and that none did; `gained` says of a text that the sink has gained it.

-- some prefix of the text was gained
abbrev pub SomeFront : (Text → Type 0) → Text → Type 0
SomeFront gained text = (front : Text) × IsFront front text × gained front

-- nothing, or text whose last byte is a line feed
abbrev pub IsWholeLines : Text → Type 0
IsWholeLines text = (text ≡ []) ⊎ ((lines : Text) × (text ≡ lines ++ 10 ∷ []))

-- some prefix of whole lines was gained
abbrev pub SomeLines : (Text → Type 0) → Text → Type 0
SomeLines gained text = (front : Text) × IsFront front text × IsWholeLines front × gained front

-- cut off by a fault of reading or writing, or by want of memory
abbrev pub IsCutOff : Text → (read write : Type 0) → (Text → Type 0) → Fault → Type 0
IsCutOff text read write gained fault.Read = read × SomeLines gained text
IsCutOff text read write gained fault.Write = write × SomeFront gained text
IsCutOff text read write gained fault.Memory = SomeFront gained text

-- the due end with all of the due text and no fault counted, or cut off
abbrev pub EndsBy : Due → (read write quiet : Type 0) → (Text → Type 0) → Result End Fault → Type 0
EndsBy due read write quiet gained (Ok e) = (e ≡ due.0) × gained due.1 × quiet
EndsBy due read write quiet gained (Err e) = IsCutOff due.1 read write gained e

-- ---- of what is seen of a sink, before and now

-- the due end with all of the due text and no fault counted, or cut off
abbrev pub Ran : Due → SinkSeen → SinkSeen → Result End Fault → Type 0
Ran due before now r = EndsBy due ⊥ (Rose before.faults now.faults) (now.faults ≡ before.faults)
    (HasGained before.held now.held) r

-- a text was written, or cut off
abbrev pub Wrote : Text → SinkSeen → SinkSeen → Result (Unit {0}) Fault → Type 0
Wrote text before now (Ok u) = HasGained before.held now.held text × (now.faults ≡ before.faults)
Wrote text before now (Err e) = IsCutOff text ⊥ (Rose before.faults now.faults) (HasGained before.held now.held) e

-- ---- if a shelf may tell its contents

-- a file that is wanted is not there
abbrev pub Unreadable : (Text → Type 0) → Result End Fault → Type 0
Unreadable gained (Ok e) = ⊥
Unreadable gained (Err fault.Read) = gained []
Unreadable gained (Err fault.Write) = ⊥
Unreadable gained (Err fault.Memory) = gained []

abbrev pub EndsDue : Option Due → (read write quiet : Type 0) → (Text → Type 0) → Result End Fault → Type 0
EndsDue None read write quiet gained r = Unreadable gained r
EndsDue (Some due) read write quiet gained r = EndsBy due read write quiet gained r

abbrev pub CutCause : (read write : Type 0) → Fault → Type 0
CutCause read write fault.Read = read
CutCause read write fault.Write = write
CutCause read write fault.Memory = Unit {0}

-- if nothing is told, the causes alone
abbrev pub EndsBlind : (read write quiet : Type 0) → Result End Fault → Type 0
EndsBlind read write quiet (Ok e) = quiet
EndsBlind read write quiet (Err e) = CutCause read write e

-- if the contents are told, by what they call for: an end and a text, or nothing if a file is not there
abbrev pub EndsToldOrBlind : Option Contents → (Contents → Option Due) → (read write quiet : Type 0) → (Text → Type 0)
    → Result End Fault → Type 0
EndsToldOrBlind None due read write quiet gained r = EndsBlind read write quiet r
EndsToldOrBlind (Some contents) due read write quiet gained r = EndsDue (due contents) read write quiet gained r

-- no count of faults rose
abbrev pub Quiet : ℕ → ℕ → ℕ → ℕ → Type 0
Quiet shelf_before shelf_now sink_before sink_now = (shelf_now ≡ shelf_before) × (sink_now ≡ sink_before)

-- by what is seen of a shelf and of a sink, before and now
abbrev pub RanOnShelf : (Contents → Option Due) → (shelf shelf_now : ShelfSeen) → (sink sink_now : SinkSeen)
    → Result End Fault → Type 0
RanOnShelf due shelf shelf_now sink sink_now r =
    EndsToldOrBlind shelf.contents due (Rose shelf.faults shelf_now.faults) (Rose sink.faults sink_now.faults)
    (Quiet shelf.faults shelf_now.faults sink.faults sink_now.faults) (HasGained sink.held sink_now.held) r
