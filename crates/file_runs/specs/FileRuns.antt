-- What each command promises of the files that it reads, told once.
use Rattle.std.specs.Prelude.{ℕ, ◌+◌, ◌≤◌, ◌≡◌, Bool, [], Option, Some, None, Result, IfErr, IfOk, option_map}
use Rattle.cli_files.specs.Outside.{AsksOnly, Contents, ShelfSeen, SinkSeen}
use Rattle.file_runs.specs.declared.ends.End.{End}
use Rattle.file_runs.specs.declared.ends.End.TheVariants as end
use Rattle.file_runs.specs.declared.ends.Fault.{Fault}
use Rattle.file_runs.specs.Front.{AskedPieces, Gave, GaveAtMost, bytes_of}
use Rattle.file_runs.specs.Gain.{Text}
use Rattle.file_runs.specs.Gathering.{NoFurther, ReadAsFar, WroteBy, first_of, size_of}
use Rattle.file_runs.specs.Judging.{judgement_due, verdicts_limit}
use Rattle.file_runs.specs.Lines.{file_limit}
use Rattle.file_runs.specs.Outcome.{Due, Ran, RanOnShelf}

-- ---- what a command is asked to do

pub record FileTask : Type 1 where
  -- the end and the text that its files call for, or nothing if one is not there; of a migration, by the text that it
  -- writes, which is one of those that it may write
  pub due : (written : Text) → Contents → Option Due
  pub may_write : Option Contents → (written : Text) → Result End Fault → Type 0
  -- the end and the text that are due whatever the shelf tells, if no file is read
  pub due_alone : Option Due
  -- how many bytes its files have
  pub size : Contents → ℕ
  -- what is written for so many bytes of them, and those of these bytes that lines are cut from
  pub text : Contents → ℕ → Text
  pub lines : Contents → ℕ → Text
  -- no more is read than it needs: of so many bytes that were given, and so many of them before the last read
  pub no_further : Contents → (given ahead : ℕ) → Type 0
  -- these names are asked for
  pub names : Text → Type 0
  -- how many bytes count at most, and how many are given: of each file one more
  pub counted : ℕ
  pub most_given : ℕ
  -- one byte more was given than those that count
  pub gave_past : (before now : ℕ) → Type 0
  -- it asks for nothing, judges a text, or tells an event
  pub asks_nothing : Type 0
  pub judges : Type 0
  pub tells : Type 0

-- ---- and what it promises

abbrev pub RanAlone : Option Due → SinkSeen → SinkSeen → Result End Fault → Type 0
RanAlone None sink sink_now r = Unit {0}
RanAlone (Some due) sink sink_now r = Ran due sink sink_now r

-- the run ends as its files call for, and if it reads none, as is due whatever the shelf tells
pub record TaskIsAnswered (task : FileTask) (shelf shelf_now : ShelfSeen) (sink sink_now : SinkSeen)
    (r : Result End Fault) : Type 0 where
  pub written : Text
  pub may_write : task.may_write shelf.contents written r
  pub ran : RanOnShelf (task.due written) shelf shelf_now sink sink_now r
  pub alone : RanAlone task.due_alone sink sink_now r

-- what an end of its own tells, by the bytes that were given before and now
pub record EndsAs (task : FileTask) (before now : ℕ) (e : End) : Type 0 where
  -- Only words that ask for nothing are refused.
  pub usage_status : e ≡ end.Usage → task.asks_nothing
  -- A file is too long if one byte more was given than count.
  pub files_too_long : e ≡ end.TooLong → task.gave_past before now
  -- Files that were read to their end have no more bytes than count.
  pub whole_files : e ≡ end.Done → GaveAtMost before task.counted now
  -- A text is said to be another only if one is judged, and it was read to its end then.
  pub differing_text : e ≡ end.Differs → task.judges × GaveAtMost before task.counted now
  -- A script is said to lack an event only if one is told, and it was read to its end then.
  pub absent_event : e ≡ end.NoEvent → task.tells × GaveAtMost before task.counted now

pub record FileRun (task : FileTask) (shelf shelf_now : ShelfSeen) (sink sink_now : SinkSeen) (r : Result End Fault)
    : Type 0 where
  -- If the shelf tells its contents, the due end comes with all of the due text, and a fault or want of memory leaves a
  -- prefix of it. Each fault has its cause.
  pub due_outcome : TaskIsAnswered task shelf shelf_now sink sink_now r
  -- If a file could not be read on, the sink has gained exactly what is due to those lines that ended in the bytes that
  -- were given, and of the next line at most 20,000 bytes were. If text could not be written, or for want of memory, it
  -- has gained at least what is due to the lines that ended in all of these bytes but those of the last read, which are
  -- 4,096 at most: no line waits while a later piece is read.
  pub output_so_far : IfErr r (λ e. WroteBy e task.size task.text task.lines shelf shelf_now sink sink_now)
  -- If the run ends by itself, it was given no more than it needs: in the bytes before the last read no line ends it.
  pub reads_no_further : IfOk r (λ e. ReadAsFar task.no_further shelf shelf_now)
  -- No other name comes to the list that the shelf tells.
  pub file_names : AsksOnly task.names shelf.asked shelf_now.asked
  -- Of each file one byte more is read than count, and no read asks for more than 4,096 bytes.
  pub read_limit : shelf_now.given ≤ shelf.given + task.most_given
  pub read_pieces : AskedPieces shelf.longest shelf_now.longest
  -- It comes to an end that the task may come to.
  pub ends : IfOk r (λ e. EndsAs task shelf.given shelf_now.given e)

-- ---- tasks

-- no file is read
abbrev pub task_alone : Due → (asks_nothing : Type 0) → FileTask
task_alone due asks_nothing = record {
  due = λ written contents. Some due;
  may_write = λ told written r. Unit {0};
  due_alone = Some due;
  size = λ contents. 0;
  text = λ contents n. [];
  lines = λ contents n. [];
  no_further = λ contents given ahead. given ≡ 0;
  names = λ name. ⊥;
  counted = 0;
  most_given = 0;
  gave_past = λ before now. ⊥;
  asks_nothing = asks_nothing;
  judges = ⊥;
  tells = ⊥;
}

-- one file is read, of which so many bytes count, before anything is written of it: what is due of its bytes, by the
-- text that is written
abbrev pub front_task : (limit : ℕ) → (written_due : Text → Text → Due)
    → (may_write : Option Contents → Text → Result End Fault → Type 0) → (judges : Type 0) → (name : Text) → FileTask
front_task limit written_due may_write judges name = record {
  due = λ written contents. option_map (written_due written) (contents name);
  may_write = may_write;
  due_alone = None;
  size = size_of name;
  text = λ contents n. [];
  lines = λ contents n. [];
  no_further = λ contents given ahead. given ≤ size_of name contents;
  names = λ other. other ≡ name;
  counted = limit;
  most_given = limit + 1;
  gave_past = λ before now. Gave before (limit + 1) now;
  asks_nothing = ⊥;
  judges = judges;
  tells = ⊥;
}

-- it is judged by a text: the first line that differs is named, or all that do
abbrev pub judged_task : (all : Bool) → (due : Text) → (name : Text) → FileTask
judged_task all due name =
    front_task verdicts_limit (λ written file. judgement_due all due file) (λ told written r. Unit {0}) (Unit {0}) name

-- one file is run line by line: what is due of its bytes, the text of those lines of it that ended in some bytes, and
-- that no line ends the run in these
abbrev pub lines_task : (Text → Due) → (Text → Text) → (Text → Type 0) → (tells : Type 0) → (name : Text) → FileTask
lines_task due text goes_on tells name = record {
  due = λ written contents. option_map due (contents name);
  may_write = λ told written r. Unit {0};
  due_alone = None;
  size = size_of name;
  text = λ contents n. text (first_of name contents n);
  lines = first_of name;
  no_further = λ contents. NoFurther goes_on (bytes_of (contents name));
  names = λ other. other ≡ name;
  counted = file_limit;
  most_given = file_limit + 1;
  gave_past = λ before now. Gave before (file_limit + 1) now;
  asks_nothing = ⊥;
  judges = ⊥;
  tells = tells;
}
