-- What a run over generated events writes: the totals of their history, in which each verdict is the one that is due.
use Rattle.std.specs.Prelude.{ℕ, ◌++◌, [], length, codes}
use Rattle.std.specs.Fmt.{decimal}
use Rattle.history_events.specs.GeneratedEvents.{generated_events}
use Rattle.history_events.specs.GeneratedTopology.{the_plan}
use Rattle.spec_keys.specs.History.{History}
use Rattle.law_text.specs.Runs.{history_on, totals_of}
use Rattle.event_verdicts.specs.Lines.{totals_line_of}
use Rattle.file_runs.specs.declared.ends.End.TheVariants as end
use Rattle.file_runs.specs.Gain.{Text}
use Rattle.file_runs.specs.Outcome.{Due}

-- the history of the events of a seed and a number of rounds
abbrev pub generated_history : (seed count : ℕ) → History
generated_history seed count = history_on the_plan [] (generated_events seed count)

-- how many events there were, and their totals
abbrev pub generated_line : History → Text
generated_line h = codes "generated " ++ decimal (length h) ++ codes " " ++ totals_line_of (totals_of h)

abbrev pub generated_due : (seed count : ℕ) → Due
generated_due seed count = (end.Done, generated_line (generated_history seed count))
