-- What is written for the lines of a file, one after another.
use Rattle.std.specs.Prelude.{ℕ, ◌+◌, ◌≡◌, ◌==◌, nat_lt, Bool, List, [], ◌∷◌, ◌++◌, length, take, Result, Ok, Err}
use Rattle.std.specs.Prelude.{if◌then◌else◌}
use Rattle.std.specs.List.{slice_index_or}
use Rattle.file_runs.specs.Pieces.{pieces}
use Rattle.script_events.specs.declared.fault.LineFault.{LineFault}
use Rattle.script_events.specs.declared.fault.LineFault.TheVariants as line
use Rattle.script_events.specs.declared.fault.LineError.{LineError}
use Rattle.script_events.specs.declared.fault.LineError.TheVariants as error
use Rattle.script_events.specs.Words.{fault_line_of, line_limit}
use Rattle.file_runs.specs.declared.ends.End.TheVariants.{Script, TooLong}
use Rattle.file_runs.specs.Gain.{Text}
use Rattle.file_runs.specs.Outcome.{Due}

-- how many bytes of a file count
abbrev pub file_limit : ℕ
file_limit = 16777216

-- the file goes on after the bytes that count
abbrev pub is_over : Text → Bool
is_over file = nat_lt file_limit (length file)

-- The bytes that lines are cut from, of a file of which so many count: those, and the one after them, which may be one
-- too many for the last line; but a line feed there ends nothing.
abbrev pub bytes_for_lines : ℕ → Text → Text
bytes_for_lines limit file = if slice_index_or file limit 10 == 10 then take limit file else take (limit + 1) file

abbrev pub cut_text : Text → Text
cut_text file = bytes_for_lines file_limit file

-- a line that is not spelled
abbrev pub refusal : ℕ → LineFault → Due
refusal n fault = (Script, fault_line_of n fault)

-- a text before what comes later
abbrev pub after : Text → Due → Due
after text later = (later.0, text ++ later.1)

abbrev pub go_on : {S : Type 0} → ℕ → Result (S × Text) LineFault → (S → Due) → Due
go_on n (Ok came) later = after came.1 (later came.0)
go_on n (Err fault) later = refusal n fault

-- a line that does not end where the bytes that count do
abbrev pub unended_due : ℕ → Text → Due
unended_due n piece = if nat_lt line_limit (length piece) then refusal n line.TooLong else (TooLong, [])

-- The end and the text of the pieces between line feeds, by what a line of each number gives (a state and a text, or a
-- fault) and by the end and the text after the last one. The last piece is a line if it has bytes.
abbrev pub process : {S : Type 0} → (S → ℕ → Text → Result (S × Text) LineFault) → (S → Due) → Bool → ℕ → S
    → List Text → Due
process advance closing over n s [] = closing s
process advance closing over n s (piece ∷ []) =
    if over then unended_due n piece
    else if length piece == 0 then closing s
    else go_on n (advance s n piece) closing
process advance closing over n s (piece ∷ next ∷ rest) = go_on n (advance s n piece) (λ t. process advance closing over
    (n + 1) t (next ∷ rest))

-- the end and the text of a file
abbrev pub file_due : {S : Type 0} → (S → ℕ → Text → Result (S × Text) LineFault) → (S → Due) → S → Text → Due
file_due advance closing s file = process advance closing (is_over file) 1 s (pieces (cut_text file))

-- what a line gave: its text and a past that what is kept now follows, or its fault, or want of memory
abbrev pub Came : {S : Type 0} → Result (S × Text) LineFault → (S → Type 0) → Result Text LineError → Type 0
Came {S} due follows (Ok text) = (now : S) × (due ≡ Ok (now, text)) × follows now
Came due follows (Err error.Memory) = Unit {0}
Came due follows (Err (error.Fault fault)) = due ≡ Err fault
