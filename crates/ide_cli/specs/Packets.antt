-- What a line of a packet file gives: a line that is too long gives nothing, and what is written is whole lines.
use Rattle.std.specs.Prelude.{ℕ, ◌≡◌, nat_lt, true, [], length, Option, Some, None, Result, Ok, Err, IfOk, refl}
use Rattle.std.proofs.Common.{inl}
use Rattle.script_events.specs.declared.fault.LineFault.{LineFault}
use Rattle.script_events.specs.declared.fault.LineFault.TheVariants.{TooLong}
use Rattle.script_events.specs.Words.{line_limit}
use Rattle.file_runs.specs.Reading.{packet_meaning}
use Rattle.file_runs.specs.Showing.{line_shown}
use Rattle.file_runs.specs.declared.ends.End.TheVariants as end
use Rattle.file_runs.specs.Gain.{Text}
use Rattle.file_runs.specs.Outcome.{Due, IsWholeLines}
use Rattle.script_runs.specs.LineLaws.{whole_line}

abbrev pub packet_shown_at : ℕ → Result (Option Text) LineFault → Result (Unit {0} × Text) LineFault
packet_shown_at n (Err fault) = Err fault
packet_shown_at n (Ok None) = Ok (tt, [])
packet_shown_at n (Ok (Some bytes)) = Ok (tt, line_shown n bytes)

-- what a line of a packet file gives
abbrev pub shown_line : Unit {0} → ℕ → Text → Result (Unit {0} × Text) LineFault
shown_line u n line = packet_shown_at n (packet_meaning line)

-- after the last line nothing is written
abbrev pub nothing_due : Unit {0} → Due
nothing_due u = (end.Done, [])

pub long_packet : (u : Unit {0}) (n : ℕ) (line : Text) → nat_lt line_limit (length line) ≡ true
    → shown_line u n line ≡ Err TooLong
long_packet u n line long = rw long refl

packet_lines : (n : ℕ) (m : Result (Option Text) LineFault) → IfOk (packet_shown_at n m) (λ came. IsWholeLines came.1)
packet_lines n (Err fault) = tt
packet_lines n (Ok None) = inl refl
packet_lines n (Ok (Some bytes)) = whole_line _ _

pub whole_packet : (u : Unit {0}) (n : ℕ) (line : Text) → IfOk (shown_line u n line) (λ came. IsWholeLines came.1)
whole_packet u n line = packet_lines n (packet_meaning line)
