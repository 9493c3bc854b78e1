-- The bytes that lines are cut from.
use Rattle.std.proofs.Common.{◌≡◌, ℕ, ◌≤◌, length, sym, take_all}
use Rattle.std.proofs.lemmas.List.{get_or_past}
use Rattle.file_runs.specs.Gain.{Text}
use Rattle.file_runs.specs.Lines.{bytes_for_lines}

pub cut_short : (limit : ℕ) (bytes : Text) → length bytes ≤ limit → bytes ≡ bytes_for_lines limit bytes
cut_short limit bytes le = sym (rw (get_or_past bytes limit 10 le) (take_all limit bytes le))
