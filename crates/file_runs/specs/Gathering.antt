-- A file that is read in pieces, whose text is gathered before it is written.
use Rattle.std.specs.Prelude.{ℕ, ◌+◌, ◌-◌, ◌≡◌, ◌==◌, ◌≤◌, Bool, true, List, [], ◌∷◌, ◌++◌, length, take, Option, Some}
use Rattle.std.specs.Prelude.{None, Result, Ok, Err, if◌then◌else◌}
use Rattle.cli_files.specs.Outside.{Contents, Rose, ShelfSeen, SinkSeen}
use Rattle.file_runs.specs.Pieces.{pieces}
use Rattle.script_events.specs.declared.fault.LineFault.{LineFault}
use Rattle.script_events.specs.Words.{line_limit}
use Rattle.file_runs.specs.declared.ends.End.{End}
use Rattle.file_runs.specs.declared.ends.End.TheVariants as end
use Rattle.file_runs.specs.declared.ends.Fault.{Fault}
use Rattle.file_runs.specs.declared.ends.Fault.TheVariants as fault
use Rattle.file_runs.specs.Front.{Gave, bytes_of}
use Rattle.file_runs.specs.Gain.{Text, HasGained, GainedMore}
use Rattle.file_runs.specs.Lines.{after, process, unended_due}
use Rattle.file_runs.specs.Outcome.{IsCutOff, Due, IsWholeLines, Ran}

-- ---- what is gathered

-- a prefix of a text was written, and the rest of it is gathered
abbrev pub IsPartGathered : (text gathered : Text) → (before now : SinkSeen) → Type 0
IsPartGathered text gathered before now = (written : Text) × (written ++ gathered ≡ text)
    × HasGained before.held now.held written × (now.faults ≡ before.faults)

-- the writing of a text was cut off
abbrev pub IsCutOffAtSink : Text → SinkSeen → SinkSeen → Fault → Type 0
IsCutOffAtSink text before now e = IsCutOff text ⊥ (Rose before.faults now.faults) (HasGained before.held now.held) e

-- a text was gathered after an earlier one
abbrev pub Gathers : (earlier text gathered : Text) → SinkSeen → SinkSeen → Result (Unit {0}) Fault → Type 0
Gathers earlier text gathered before now (Ok u) = IsPartGathered (earlier ++ text) gathered before now
Gathers earlier text gathered before now (Err e) = IsCutOffAtSink (earlier ++ text) before now e

-- ---- piece by piece

-- pieces between line feeds; the first goes on from bytes that came before
abbrev pub pieces_after : Text → List Text → List Text
pieces_after before [] = before ∷ []
pieces_after before (piece ∷ rest) = (before ++ piece) ∷ rest

-- what is due of the bytes that are left, from line n on, of which some bytes came before
abbrev pub due_behind : {S : Type 0} → (S → ℕ → Text → Result (S × Text) LineFault) → (S → Due) → Bool → ℕ → S
    → Text → Text → Due
due_behind advance closing over n s before left = process advance closing over n s (pieces_after before (pieces left))

-- What is due is a text and what is due later, for whatever is left of the file; that text is whole lines, and was
-- written but for what is gathered.
pub record SoFar (due later : Bool → Text → Due) (gathered : Text) (before now : SinkSeen) : Type 0 where
  pub text : Text
  pub goes_on : (over : Bool) (left : Text) → due over left ≡ after text (later over left)
  pub whole : IsWholeLines text
  pub gained : IsPartGathered text gathered before now

-- so it is of what is due later by some past that what is kept now follows
pub record SoFarBy {S : Type 0} (follows : S → Type 0) (due : Bool → Text → Due) (later : S → Bool → Text → Due)
    (gathered : Text) (before now : SinkSeen) : Type 0 where
  pub past : S
  pub followed : follows past
  pub so_far : SoFar due (later past) gathered before now

-- an end at a piece
abbrev pub PieceEnds : Due → SinkSeen → SinkSeen → Result (Option End) Fault → Type 0
PieceEnds due before now (Ok None) = ⊥
PieceEnds due before now (Ok (Some e)) = Ran due before now (Ok e)
PieceEnds due before now (Err e) = Ran due before now (Err e)

-- the text of the lines that end in a piece was written, or the run ends there, whatever is left of the file
abbrev pub PieceRan : {S : Type 0} → (S → Type 0) → (Bool → Text → Due) → (S → Bool → Text → Due) → SinkSeen
    → SinkSeen → Result (Option End) Fault → Type 0
PieceRan follows due later before now (Ok None) = SoFarBy follows due later [] before now
PieceRan follows due later before now (Ok (Some e)) = (over : Bool) (left : Text) → PieceEnds (due over left) before now
    (Ok (Some e))
PieceRan follows due later before now (Err e) = (over : Bool) (left : Text)
    → PieceEnds (due over left) before now (Err e)

-- what is due of a line that has begun, at the first byte that counts no more: a line feed there ends nothing
abbrev pub limit_due : ℕ → Text → ℕ → Due
limit_due n before byte = unended_due n (if byte == 10 then before else before ++ byte ∷ [])

-- ---- if a fault ends the run

-- the text that is due of some bytes of a file that goes on after them: that of the lines that ended in them
abbrev pub ended_text : {S : Type 0} → (S → ℕ → Text → Result (S × Text) LineFault) → (S → Due) → S → Text → Text
ended_text advance closing s bytes = (process advance closing true 1 s (pieces bytes)).1

-- the last of some pieces
abbrev pub last_piece : List Text → Text
last_piece [] = []
last_piece (piece ∷ []) = piece
last_piece (piece ∷ next ∷ rest) = last_piece (next ∷ rest)

-- the open line: the bytes after the last line feed
abbrev pub open_line : Text → Text
open_line bytes = last_piece (pieces bytes)

-- how many of the bytes that were given may wait at a fault: none at one of reading, and at another those of the last
-- read
abbrev pub waiting_at : Fault → ShelfSeen → ℕ
waiting_at fault.Read shelf = 0
waiting_at fault.Write shelf = shelf.latest
waiting_at fault.Memory shelf = shelf.latest

-- the sink gained exactly this text at a fault of reading, and at another at least this
abbrev pub HasGainedAtFault : Fault → Option Text → Option Text → Text → Type 0
HasGainedAtFault fault.Read before now text = HasGained before now text
HasGainedAtFault fault.Write before now text = GainedMore before now text
HasGainedAtFault fault.Memory before now text = GainedMore before now text

-- Of some files so many bytes were given, no more than they have, and all but those that may wait were run, at most
-- 4,096 of them: the line that has begun in those that were run, and that lines are cut from, is within its limit, and
-- the sink gained the text that is due of them.
pub record WroteByLines (e : Fault) (size : ℕ) (text lines : ℕ → Text) (shelf shelf_now : ShelfSeen)
    (sink sink_now : SinkSeen) : Type 0 where
  pub given : ℕ
  pub ran : ℕ
  pub within : given ≤ size
  pub gave : Gave shelf.given given shelf_now.given
  pub most : ran ≤ given
  pub all_but : given ≤ ran + waiting_at e shelf_now
  pub ahead : given ≤ ran + 4096
  pub short : length (open_line (lines ran)) ≤ line_limit
  pub gained : HasGainedAtFault e sink.held sink_now.held (text ran)

abbrev pub WroteByIfTold : Fault → (size : Contents → ℕ) → (text lines : Contents → ℕ → Text) → Option Contents
    → ShelfSeen → ShelfSeen → SinkSeen → SinkSeen → Type 0
WroteByIfTold e size text lines None shelf shelf_now sink sink_now = Unit {0}
WroteByIfTold e size text lines (Some contents) shelf shelf_now sink sink_now =
    WroteByLines e (size contents) (text contents) (lines contents) shelf shelf_now sink sink_now

-- if the shelf tells its contents
abbrev pub WroteBy : Fault → (size : Contents → ℕ) → (text lines : Contents → ℕ → Text) → ShelfSeen → ShelfSeen
    → SinkSeen → SinkSeen → Type 0
WroteBy e size text lines shelf shelf_now sink sink_now =
    WroteByIfTold e size text lines shelf.contents shelf shelf_now sink sink_now

-- how many bytes the file of this name has, none if it is not there, and its first ones
abbrev pub size_of : Text → Contents → ℕ
size_of name contents = length (bytes_of (contents name))

abbrev pub first_of : Text → Contents → ℕ → Text
first_of name contents n = take n (bytes_of (contents name))

-- of one file, of whose bytes this text is due
abbrev pub WroteEndedIfTold : Fault → (Text → Text) → Option Contents → Text → ShelfSeen → ShelfSeen → SinkSeen
    → SinkSeen → Type 0
WroteEndedIfTold e text told name shelf shelf_now sink sink_now =
    WroteByIfTold e (size_of name) (λ contents n. text (first_of name contents n)) (first_of name) told shelf shelf_now
    sink sink_now

abbrev pub WroteEnded : Fault → (Text → Text) → Text → ShelfSeen → ShelfSeen → SinkSeen → SinkSeen → Type 0
WroteEnded e text name shelf shelf_now sink sink_now =
    WroteEndedIfTold e text shelf.contents name shelf shelf_now sink sink_now

-- ---- how the run ends

-- no line ends the run in these bytes of a file that goes on after them
abbrev pub GoesOn : {S : Type 0} → (S → ℕ → Text → Result (S × Text) LineFault) → (S → Due) → S → Text → Type 0
GoesOn advance closing s bytes = (process advance closing true 1 s (pieces bytes)).0 ≡ end.TooLong

-- no more bytes of the file were given than it has, and in those that were given before the last read no line ends the
-- run
abbrev pub NoFurther : (Text → Type 0) → Text → (given ahead : ℕ) → Type 0
NoFurther goes_on file given ahead = (given ≤ length file) × goes_on (take ahead file)

-- if the contents are told, so many bytes were given, and so many of them before the last read, as their files say
abbrev pub ReadAsFarOfContents : (Contents → (given ahead : ℕ) → Type 0) → Option Contents → ShelfSeen → ShelfSeen
    → Type 0
ReadAsFarOfContents far None shelf shelf_now = Unit {0}
ReadAsFarOfContents far (Some contents) shelf shelf_now = (n : ℕ) × Gave shelf.given n shelf_now.given
    × far contents n (n - shelf_now.latest)

abbrev pub ReadAsFar : (Contents → (given ahead : ℕ) → Type 0) → ShelfSeen → ShelfSeen → Type 0
ReadAsFar far shelf shelf_now = ReadAsFarOfContents far shelf.contents shelf shelf_now
