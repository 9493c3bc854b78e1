-- A text that is claimed, judged by the one that is due.
use Rattle.std.specs.Prelude.{ℕ, ◌≡◌, ◌≢◌, ◌+◌, ◌<◌, ◌==◌, nat_lt, Bool, true, false, List, [], ◌∷◌, ◌++◌, drop}
use Rattle.std.specs.Prelude.{length, Option, Some, None, codes, if◌then◌else◌}
use Rattle.std.specs.Fmt.{decimal}
use Rattle.std.specs.Str.{bytes_eq}
use Rattle.file_runs.specs.Pieces.{pieces}
use Rattle.file_runs.specs.Differing.{TellsAll, all_text, differing, differs_text, shown_due}
use Rattle.file_runs.specs.declared.ends.End.{End}
use Rattle.file_runs.specs.declared.ends.End.TheVariants as end
use Rattle.file_runs.specs.Gain.{Text}
use Rattle.file_runs.specs.Outcome.{Due}

-- how many bytes of a text that is judged count
abbrev pub verdicts_limit : ℕ
verdicts_limit = 1073741824

-- ---- the first line that differs

-- Both are one text, of so many lines; or the first line that differs has this number, from 1, and this line is due
-- there, if any is due any more.
pub data Finding : Type 0 where
  Same : (lines : ℕ) → Finding
  Differs : (number : ℕ) → (due : Option Text) → Finding

-- what stands between line feeds begins with this line, which a line feed ends
abbrev pub begins_with_line : Text → List Text → Bool
begins_with_line line [] = false
begins_with_line line (first ∷ []) = false
begins_with_line line (first ∷ next ∷ rest) = bytes_eq line first

abbrev pub LacksLine : Text → List Text → Type 0
LacksLine line parts = begins_with_line line parts ≡ false

-- no line is due any more: what stands after the last line feed is the same
abbrev pub finding_at_end : ℕ → Text → List Text → Finding
finding_at_end lines rest [] = Differs (lines + 1) None
finding_at_end lines rest (last ∷ []) = if bytes_eq rest last then Same lines else Differs (lines + 1) None
finding_at_end lines rest (line ∷ next ∷ parts) = Differs (lines + 1) None

-- what is due, and what is claimed, between line feeds, after so many lines that are the same
abbrev pub found_after : ℕ → (due claimed : List Text) → Finding
found_after lines [] claimed = Differs (lines + 1) None
found_after lines (rest ∷ []) claimed = finding_at_end lines rest claimed
found_after lines (line ∷ next ∷ due) claimed =
    if begins_with_line line claimed then found_after (lines + 1) (next ∷ due) (drop 1 claimed)
    else Differs (lines + 1) (Some line)

abbrev pub first_finding : (due claimed : Text) → Finding
first_finding due claimed = found_after 0 (pieces due) (pieces claimed)

-- ---- what is written

abbrev pub same_text : ℕ → Text
same_text lines = codes "same " ++ decimal lines ++ codes "\n"

-- if they are not the same: the first line that differs, or all that do
abbrev pub other_text : (all : Bool) → (due claimed : Text) → ℕ → Option Text → Text
other_text false due claimed number line = differs_text number (shown_due line)
other_text true due claimed number line = all_text (differing due claimed)

abbrev pub finding_due : (all : Bool) → (due claimed : Text) → Finding → Due
finding_due all due claimed (Same lines) = (end.Done, same_text lines)
finding_due all due claimed (Differs number line) = (end.Differs, other_text all due claimed number line)

-- the end and the text of a file that is judged
abbrev pub judgement_due : (all : Bool) → (due file : Text) → Due
judgement_due all due file = if nat_lt verdicts_limit (length file) then (end.TooLong, [])
    else finding_due all due file (first_finding due file)

-- ---- what it means

-- a line is due here, which a line feed ends; or none is any more
abbrev pub DueThere : Option Text → List Text → Type 0
DueThere (Some line) parts = (next : Text) × (rest : List Text) × (parts ≡ line ∷ next ∷ rest)
DueThere None parts = (rest : Text) × (parts ≡ rest ∷ [])

-- what is claimed here is another
abbrev pub ClaimsOther : Option Text → (due claimed : List Text) → Type 0
ClaimsOther (Some line) due claimed = LacksLine line claimed
ClaimsOther None due claimed = due ≢ claimed

-- The line of this number is the first that differs: the lines before it are the same, each ended by a line feed in
-- both texts; it is due there, and the claimed text has another there.
pub record DiffersAt (due claimed : Text) (number : ℕ) (line : Option Text) : Type 0 where
  pub alike : List Text
  pub number_is : number ≡ length alike + 1
  pub due_left : List Text
  pub due_is : pieces due ≡ alike ++ due_left
  pub claimed_left : List Text
  pub claimed_is : pieces claimed ≡ alike ++ claimed_left
  pub goes_on : claimed_left ≢ []
  pub line_is : DueThere line due_left
  pub other : ClaimsOther line due_left claimed_left

-- the text that is told says that both are the same, and how many lines they have
pub record TellsSame (due claimed told : Text) : Type 0 where
  pub lines : ℕ
  pub lines_are : length (pieces due) ≡ lines + 1
  pub same : claimed ≡ due
  pub told_is : told ≡ same_text lines

-- it says that they are not, which line is the first that differs, and what is due there
pub record TellsOther (due claimed told : Text) : Type 0 where
  pub number : ℕ
  pub line : Option Text
  pub differs : DiffersAt due claimed number line
  pub other : claimed ≢ due
  pub told_is : told ≡ differs_text number (shown_due line)

-- the first line that differs, or all that do
abbrev pub TellsDiffering : (all : Bool) → (due claimed told : Text) → Type 0
TellsDiffering false due claimed told = TellsOther due claimed told
TellsDiffering true due claimed told = TellsAll due claimed told

-- what the end and the text of a comparison tell
abbrev pub Tells : (all : Bool) → (due claimed : Text) → End → (told : Text) → Type 0
Tells all due claimed end.Done told = TellsSame due claimed told
Tells all due claimed end.Differs told = TellsDiffering all due claimed told
Tells all due claimed end.Usage told = ⊥
Tells all due claimed end.Topology told = ⊥
Tells all due claimed end.Script told = ⊥
Tells all due claimed end.NoEvent told = ⊥
Tells all due claimed end.TooLong told = (verdicts_limit < length claimed) × (told ≡ [])

-- ---- the last line

abbrev pub last_text_piece : List Text → Text
last_text_piece [] = []
last_text_piece (piece ∷ []) = piece
last_text_piece (line ∷ piece ∷ []) = if length piece == 0 then line ++ 10 ∷ [] else piece
last_text_piece (line ∷ next ∷ after ∷ rest) = last_text_piece (next ∷ after ∷ rest)

-- the last line of a text, with its line feed if it has one
abbrev pub last_line_of : Text → Text
last_line_of text = last_text_piece (pieces text)
