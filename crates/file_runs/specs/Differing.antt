-- All lines in which a text that is claimed differs from the one that is due.
use Rattle.std.specs.Prelude.{
  ℕ,
  ◌≡◌,
  ◌≢◌,
  ◌+◌,
  ◌≤◌,
  ◌↔◌,
  ◌⊎◌,
  ◌==◌,
  ◌&&◌,
  Bool,
  true,
  false,
  List,
  [],
  ◌∷◌,
  ◌++◌,
  length,
}
use Rattle.std.specs.Prelude.{Option, Some, None, codes, if◌then◌else◌, option_map, slice_get, unwrap_or}
use Rattle.std.specs.Bool.{beq}
use Rattle.std.specs.Fmt.{decimal}
use Rattle.std.specs.Str.{bytes_eq}
use Rattle.file_runs.specs.Pieces.{pieces}
use Rattle.file_runs.specs.Gain.{Text}

-- a line: the bytes before its line feed, and whether it has one, which the last line of a text may lack
pub record Line : Type 0 where
  pub bytes : Text
  pub ended : Bool

abbrev pub line : Text → Bool → Line
line bytes ended = record { bytes = bytes; ended = ended }

-- what stands between line feeds, as lines; nothing after the last line feed is no line
abbrev pub lines_between : List Text → List Line
lines_between [] = []
lines_between (last ∷ []) = if length last == 0 then [] else line last false ∷ []
lines_between (first ∷ next ∷ rest) = line first true ∷ lines_between (next ∷ rest)

abbrev pub lines_of : Text → List Line
lines_of text = lines_between (pieces text)

-- ---- the lines that differ

-- a line of this number, from 1, differs, and these bytes are due there, if any line is
pub record Place : Type 0 where
  pub number : ℕ
  pub due : Option Text

abbrev pub is_same_line : Line → Line → Bool
is_same_line a b = bytes_eq a.bytes b.bytes && beq a.ended b.ended

-- two texts have the same line at a place, or neither has one
abbrev pub are_same : (due claimed : Option Line) → Bool
are_same None None = true
are_same (Some d) (Some c) = is_same_line d c
are_same _ _ = false

abbrev pub bytes_due : Option Line → Option Text
bytes_due line = option_map (λ (l : Line). l.bytes) line

-- the lines of this number, if they differ
abbrev pub places_at : ℕ → (due claimed : Option Line) → List Place
places_at n due claimed =
    if are_same due claimed then [] else record { number = n; due = bytes_due due } ∷ []

-- from a number on
abbrev pub places_apart : ℕ → (due claimed : List Line) → List Place
places_apart n [] [] = []
places_apart n [] (c ∷ claimed) = places_at n None (Some c) ++ places_apart (n + 1) [] claimed
places_apart n (d ∷ due) [] = places_at n (Some d) None ++ places_apart (n + 1) due []
places_apart n (d ∷ due) (c ∷ claimed) = places_at n (Some d) (Some c) ++ places_apart (n + 1) due claimed

abbrev pub differing : (due claimed : Text) → List Place
differing due claimed = places_apart 1 (lines_of due) (lines_of claimed)

-- ---- what is written

-- the line of this number differs, and this is due there
abbrev pub differs_text : ℕ → Text → Text
differs_text number due = codes "differs " ++ decimal number ++ codes "\ndue " ++ due ++ codes "\n"

-- the line that is due, as it is told
abbrev pub shown_due : Option Text → Text
shown_due line = unwrap_or line (codes "end")

abbrev pub place_text : Place → Text
place_text p = differs_text p.number (shown_due p.due)

-- each as `judge` tells the first, and at last how many there are
abbrev pub places_text : List Place → Text
places_text [] = []
places_text (p ∷ places) = place_text p ++ places_text places

abbrev pub count_text : ℕ → Text
count_text count = codes "differing " ++ decimal count ++ codes "\n"

abbrev pub all_text : List Place → Text
all_text places = places_text places ++ count_text (length places)

-- ---- what it means

-- The place is so many behind the first number: there the two texts have not the same line, and the line that is due,
-- if any is, has these bytes.
pub record DiffersAs (first : ℕ) (due claimed : List Line) (p : Place) : Type 0 where
  pub behind : ℕ
  pub number_is : p.number ≡ first + behind
  pub due_is : p.due ≡ bytes_due (slice_get due behind)
  pub other : slice_get due behind ≢ slice_get claimed behind

abbrev pub IsAmong : Place → List Place → Type 0
IsAmong p [] = ⊥
IsAmong p (q ∷ places) = (p ≡ q) ⊎ IsAmong p places

-- their numbers rise, from this one on
abbrev pub AreRising : ℕ → List Place → Type 0
AreRising n [] = Unit {0}
AreRising n (p ∷ places) = (n ≤ p.number) × AreRising (p.number + 1) places

-- The text that is told names exactly the lines that differ, in their order, and how many they are.
pub record TellsAll (due claimed told : Text) : Type 0 where
  pub places : List Place
  pub exactly : (p : Place) → IsAmong p places ↔ DiffersAs 1 (lines_of due) (lines_of claimed) p
  pub in_order : AreRising 1 places
  pub some : places ≢ []
  pub other : claimed ≢ due
  pub told_is : told ≡ all_text places
