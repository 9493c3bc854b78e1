-- What a command promises of its files, from what its parts do: in other words, for want of memory, if it reads none,
-- and if one file is read whole before what runs after it.
use Rattle.std.proofs.Common.{◌≡◌, ◌≢◌, ◌≤◌, ◌+◌, ℕ, [], length, Option, Some, None, Result, Ok, Err, refl, sym}
use Rattle.std.proofs.Common.{arith, subst}
use Rattle.std.specs.Prelude.{IfErr, IfOk}
use Rattle.std.proofs.Math.Nat.{le-max_left}
use Rattle.cli_files.specs.Outside.{AsksFor, Contents, ShelfSeen, SinkSeen}
use Rattle.file_runs.specs.declared.ends.End.{End}
use Rattle.file_runs.specs.declared.ends.End.TheVariants as end
use Rattle.file_runs.specs.declared.ends.Fault.{Fault}
use Rattle.file_runs.specs.declared.ends.Fault.TheVariants as fault
use Rattle.file_runs.specs.FileRuns.{EndsAs, FileRun, FileTask, RanAlone, TaskIsAnswered, front_task, lines_task}
use Rattle.file_runs.specs.FileRuns.{task_alone}
use Rattle.file_runs.specs.Front.{AskedPieces, Gave, GaveAtMost, GaveIfTold}
use Rattle.file_runs.specs.Gain.{Text, HasGained}
use Rattle.file_runs.specs.Gathering.{
  HasGainedAtFault,
  ReadAsFar,
  ReadAsFarOfContents,
  WroteBy,
  WroteByIfTold,
  open_line,
}
use Rattle.file_runs.specs.Gathering.{size_of}
use Rattle.file_runs.specs.Outcome.{Due, Ran}
use Rattle.file_runs.proofs.FileNames.{asks_as, asks_none}
use Rattle.file_runs.proofs.Joins.{ended_same, far_same, gained_none, joined, same_due, some_gained}
use Rattle.file_runs.proofs.WholeFiles.{IsDue, gained_nothing, out_of_memory, ran_after, redue}

-- ---- ends

-- the run did not end so
pub never : (A : Type 0) (to : End) (r : Result End Fault) → IfOk r (λ e. e ≢ to) → IfOk r (λ e. e ≡ to → A)
never A to (Ok e) other = λ is. absurd (other is)
never A to (Err f) other = tt

pub both : (A B : Type 0) (to : End) (r : Result End Fault) → IfOk r (λ e. e ≡ to → A) → IfOk r (λ e. e ≡ to → B)
    → IfOk r (λ e. e ≡ to → A × B)
both A B to (Ok e) a b = λ is. (a is, b is)
both A B to (Err f) a b = tt

-- an end by what each end tells
pub ends_so : (task : FileTask) (before now : ℕ) (r : Result End Fault)
    → IfOk r (λ e. e ≡ end.Usage → task.asks_nothing)
    → IfOk r (λ e. e ≡ end.TooLong → task.gave_past before now)
    → IfOk r (λ e. e ≡ end.Done → GaveAtMost before task.counted now)
    → IfOk r (λ e. e ≡ end.Differs → task.judges × GaveAtMost before task.counted now)
    → IfOk r (λ e. e ≡ end.NoEvent → task.tells × GaveAtMost before task.counted now)
    → IfOk r (λ e. EndsAs task before now e)
ends_so task before now (Ok e) usage long whole differs absent = record {
  usage_status = usage;
  files_too_long = long;
  whole_files = whole;
  differing_text = differs;
  absent_event = absent;
}
ends_so task before now (Err f) usage long whole differs absent = tt

-- the end that is due
pub ends_at : (task : FileTask) (before now : ℕ) (due : Due) (o0 o1 : SinkSeen) (r : Result End Fault)
    → Ran due o0 o1 r → EndsAs task before now due.0 → IfOk r (λ e. EndsAs task before now e)
ends_at task before now due o0 o1 (Ok e) ran ends = subst (λ (x : End). EndsAs task before now x) (sym ran.0) ends
ends_at task before now due o0 o1 (Err f) ran ends = tt

-- ends that tell nothing of what was given
pub ends_refused : (task : FileTask) (before now : ℕ) → EndsAs task before now end.Topology
ends_refused task before now = record {
  usage_status = λ is. absurd cc;
  files_too_long = λ is. absurd cc;
  whole_files = λ is. absurd cc;
  differing_text = λ is. absurd cc;
  absent_event = λ is. absurd cc;
}

pub ends_done : (task : FileTask) (before now : ℕ) → GaveAtMost before task.counted now
    → EndsAs task before now end.Done
ends_done task before now gave = record {
  usage_status = λ is. absurd cc;
  files_too_long = λ is. absurd cc;
  whole_files = λ is. gave;
  differing_text = λ is. absurd cc;
  absent_event = λ is. absurd cc;
}

pub ends_long : (task : FileTask) (before now : ℕ) → task.gave_past before now → EndsAs task before now end.TooLong
ends_long task before now past = record {
  usage_status = λ is. absurd cc;
  files_too_long = λ is. past;
  whole_files = λ is. absurd cc;
  differing_text = λ is. absurd cc;
  absent_event = λ is. absurd cc;
}

pub gave_both : (a b c m n : ℕ) → GaveAtMost a m b → GaveAtMost b n c → GaveAtMost a (m + n) c
gave_both a b c m n one two = (one.0 + two.0, omega (arith, one.1, two.1), joined a b c one.0 two.0 one.2 two.2)

-- ---- no line is due of what was given

abbrev NoLineIn : FileTask → Contents → (before now : ℕ) → Type 0
NoLineIn task contents before now = (n : ℕ) × (n ≤ task.size contents) × (task.text contents n ≡ [])
    × (task.lines contents n ≡ []) × Gave before n now

abbrev pub NoLineOf : FileTask → Option Contents → (before now : ℕ) → Type 0
NoLineOf task None before now = Unit {0}
NoLineOf task (Some contents) before now = NoLineIn task contents before now

pub no_line_wrote : (task : FileTask) (e : Fault) (s0 s1 : ShelfSeen) (o0 o1 : SinkSeen)
    → NoLineOf task s0.contents s0.given s1.given → HasGainedAtFault e o0.held o1.held []
    → WroteBy e task.size task.text task.lines s0 s1 o0 o1
no_line_wrote task e s0 s1 o0 o1 none gained = by_told s0.contents none
  where
    by_told : (told : Option Contents) → NoLineOf task told s0.given s1.given
        → WroteByIfTold e task.size task.text task.lines told s0 s1 o0 o1
    by_told None none = tt
    by_told (Some contents) (n, le, no_text, no_bytes, gave) = record {
      given = n;
      ran = n;
      within = le;
      gave = gave;
      most = omega arith;
      all_but = omega arith;
      ahead = omega arith;
      short = subst (λ (t : Text). length (open_line t) ≤ 20000) (sym no_bytes) (omega arith);
      gained = subst (λ (t : Text). HasGainedAtFault e o0.held o1.held t) (sym no_text) gained;
    }

-- and something else was written
pub no_line_ran : (task : FileTask) (last : Due) (s0 s1 : ShelfSeen) (o0 o1 : SinkSeen) (r : Result End Fault)
    → NoLineOf task s0.contents s0.given s1.given → Ran last o0 o1 r
    → IfErr r (λ e. WroteBy e task.size task.text task.lines s0 s1 o0 o1)
no_line_ran task last s0 s1 o0 o1 (Ok e) none ran = tt
no_line_ran task last s0 s1 o0 o1 (Err fault.Read) none ran = absurd ran.0
no_line_ran task last s0 s1 o0 o1 (Err fault.Write) none ran =
    no_line_wrote task fault.Write s0 s1 o0 o1 none (some_gained o0.held o1.held last.1 ran.1)
no_line_ran task last s0 s1 o0 o1 (Err fault.Memory) none ran =
    no_line_wrote task fault.Memory s0 s1 o0 o1 none (some_gained o0.held o1.held last.1 ran)

-- ---- one file, in other words

pub same_lines : (due due' : Text → Due) (text text' : Text → Text) (goes goes' : Text → Type 0) (tells : Type 0)
    (name : Text) (s0 s1 : ShelfSeen) (o0 o1 : SinkSeen) (r : Result End Fault) → ((t : Text) → due t ≡ due' t)
    → ((t : Text) → text t ≡ text' t) → ((t : Text) → goes t → goes' t)
    → FileRun (lines_task due text goes tells name) s0 s1 o0 o1 r
    → FileRun (lines_task due' text' goes' tells name) s0 s1 o0 o1 r
same_lines due due' text text' goes goes' tells name s0 s1 o0 o1 r same_end same_text same_goes ran = record {
  due_outcome = record {
    written = [];
    may_write = tt;
    ran = redue s0.contents _ _ _ _ _ _ r (same_due s0.contents name due due' same_end) ran.due_outcome.ran;
    alone = tt;
  };
  output_so_far = ended_same text text' name s0 s1 o0 o1 r same_text ran.output_so_far;
  reads_no_further = far_same goes goes' name s0 s1 r same_goes ran.reads_no_further;
  file_names = ran.file_names;
  read_limit = ran.read_limit;
  read_pieces = ran.read_pieces;
  ends = ends_same r ran.ends;
}
  where
    ends_same : (r : Result End Fault)
        → IfOk r (λ e. EndsAs (lines_task due text goes tells name) s0.given s1.given e)
        → IfOk r (λ e. EndsAs (lines_task due' text' goes' tells name) s0.given s1.given e)
    ends_same (Err f) ends = tt
    ends_same (Ok e) ends = record {
      usage_status = ends.usage_status;
      files_too_long = ends.files_too_long;
      whole_files = ends.whole_files;
      differing_text = ends.differing_text;
      absent_event = ends.absent_event;
    }

-- ---- no file was read

-- before the first byte no line is due, and a run that fails then may write no text
pub record Starts (task : FileTask) : Type 0 where
  pub text : (contents : Contents) → task.text contents 0 ≡ []
  pub lines : (contents : Contents) → task.lines contents 0 ≡ []
  pub fails : (told : Option Contents) → task.may_write told [] (Err fault.Memory)

gave_none : (given : ℕ) → Gave given 0 given
gave_none given = (omega arith, omega arith)

none_yet : (task : FileTask) → Starts task → (told : Option Contents) (given : ℕ) → NoLineOf task told given given
none_yet task starts None given = tt
none_yet task starts (Some contents) given =
    (0, omega arith, starts.text contents, starts.lines contents, gave_none given)

abbrev pub no_memory : Result End Fault
no_memory = Err fault.Memory

-- for want of memory
pub without_memory : (task : FileTask) → Starts task → (s : ShelfSeen) (o : SinkSeen) → FileRun task s s o o no_memory
without_memory task starts s o = record {
  due_outcome = record {
    written = [];
    may_write = starts.fails s.contents;
    ran = out_of_memory s.contents (task.due []) _ _ _ o.held;
    alone = by_due task.due_alone;
  };
  output_so_far = no_line_wrote task fault.Memory s s o o (none_yet task starts s.contents s.given)
      (gained_none fault.Memory o.held);
  reads_no_further = tt;
  file_names = asks_none task.names s.asked;
  read_limit = omega arith;
  read_pieces = le-max_left _ 4096;
  ends = tt;
}
  where
    by_due : (due : Option Due) → RanAlone due o o no_memory
    by_due None = tt
    by_due (Some due) = ([], (due.1, refl), gained_nothing o.held)

pub starts_alone : (due : Due) (nothing : Type 0) → Starts (task_alone due nothing)
starts_alone due nothing = record { text = λ contents. refl; lines = λ contents. refl; fails = λ told. tt }

-- a text that is due whatever the shelf tells
pub ran_alone : (due : Due) (nothing : Type 0) (s : ShelfSeen) (o0 o1 : SinkSeen) (r : Result End Fault)
    → EndsAs (task_alone due nothing) s.given s.given due.0 → Ran due o0 o1 r
    → FileRun (task_alone due nothing) s s o0 o1 r
ran_alone due nothing s o0 o1 r ends ran = record {
  due_outcome = record {
    written = [];
    may_write = tt;
    ran = ran_after s.contents (λ contents. Some due) due s.faults s.faults o0.faults o1.faults
        (HasGained o0.held o1.held) r (always s.contents) refl ran;
    alone = ran;
  };
  output_so_far = no_line_ran (task_alone due nothing) due s s o0 o1 r
      (none_yet (task_alone due nothing) (starts_alone due nothing) s.contents s.given) ran;
  reads_no_further = at_end r (by_told s.contents);
  file_names = asks_none (λ name. ⊥) s.asked;
  read_limit = omega arith;
  read_pieces = le-max_left _ 4096;
  ends = ends_at (task_alone due nothing) s.given s.given due o0 o1 r ran ends;
}
  where
    always : (told : Option Contents) → IsDue told (λ contents. Some due) due
    always None = tt
    always (Some contents) = refl

    by_told : (told : Option Contents) → ReadAsFarOfContents (task_alone due nothing).no_further told s s
    by_told None = tt
    by_told (Some contents) = (0, gave_none s.given, refl)

    at_end : {A : Type 0} (r : Result End Fault) → A → IfOk r (λ e. A)
    at_end (Ok e) holds = holds
    at_end (Err f) holds = tt

-- the words ask for nothing, or for a text that is made
pub ran_refused : (text : Text) (s : ShelfSeen) (o0 o1 : SinkSeen) (r : Result End Fault)
    → Ran (end.Usage, text) o0 o1 r
    → FileRun (task_alone (end.Usage, text) (Unit {0})) s s o0 o1 r
ran_refused text s o0 o1 r ran = ran_alone (end.Usage, text) (Unit {0}) s o0 o1 r (record {
  usage_status = λ is. tt;
  files_too_long = λ is. absurd cc;
  whole_files = λ is. absurd cc;
  differing_text = λ is. absurd cc;
  absent_event = λ is. absurd cc;
}) ran

pub ran_made : (text : Text) (s : ShelfSeen) (o0 o1 : SinkSeen) (r : Result End Fault) → Ran (end.Done, text) o0 o1 r
    → FileRun (task_alone (end.Done, text) ⊥) s s o0 o1 r
ran_made text s o0 o1 r ran = ran_alone (end.Done, text) ⊥ s o0 o1 r
    (ends_done (task_alone (end.Done, text) ⊥) s.given s.given (0, omega arith, gave_none s.given)) ran

-- ---- a file that is read before anything is written of it

-- what reading so many of its first bytes did
pub record IsRead (most : ℕ) (name : Text) (s0 s1 : ShelfSeen) : Type 0 where
  pub within : GaveIfTold s0.contents name s0.given s1.given
  pub names : AsksFor name s0.asked s1.asked
  pub limit : s1.given ≤ s0.given + most
  pub pieces : AskedPieces s0.longest s1.longest

-- it is the first file of a task: while it is read no line is due
pub record IsFirst (task : FileTask) (most : ℕ) (name : Text) : Type 0 where
  pub none : (contents : Contents) (n : ℕ) → n ≤ size_of name contents
      → (task.text contents n ≡ []) × (task.lines contents n ≡ [])
  pub within : (contents : Contents) → size_of name contents ≤ task.size contents
  pub named : (other : Text) → other ≡ name → task.names other
  pub limit : most ≤ task.most_given

-- the only one
pub front_first : (limit : ℕ) (due : Text → Text → Due)
    (may_write : Option Contents → Text → Result End Fault → Type 0) (judges : Type 0) (name : Text)
    → IsFirst (front_task limit due may_write judges name) (limit + 1) name
front_first limit due may_write judges name = record {
  none = λ contents n le. (refl, refl);
  within = λ contents. omega arith;
  named = λ other is. is;
  limit = omega arith;
}

no_line_there : (task : FileTask) (most : ℕ) (name : Text) → IsFirst task most name → (told : Option Contents)
    (before now : ℕ) → GaveIfTold told name before now → NoLineOf task told before now
no_line_there task most name first None before now gave = tt
no_line_there task most name first (Some contents) before now (n, le, gave) = (
  n,
  omega (arith, le, first.within contents),
  (first.none contents n le).0,
  (first.none contents n le).1,
  gave,
)

-- it could not be read
pub front_cut : (task : FileTask) (most : ℕ) (name : Text) → IsFirst task most name → (s0 s1 : ShelfSeen)
    (o : SinkSeen) (e : Fault) → IsRead most name s0 s1 → TaskIsAnswered task s0 s1 o o (Err e)
    → FileRun task s0 s1 o o (Err e)
front_cut task most name first s0 s1 o e read answered = record {
  due_outcome = answered;
  output_so_far = no_line_wrote task e s0 s1 o o
      (no_line_there task most name first s0.contents s0.given s1.given read.within) (gained_none e o.held);
  reads_no_further = tt;
  file_names = asks_as (λ other. other ≡ name) task.names s0.asked s1.asked first.named read.names;
  read_limit = omega (arith, read.limit, first.limit);
  read_pieces = read.pieces;
  ends = tt;
}

-- it was read, and something was written of it
pub front_ran : (task : FileTask) (most : ℕ) (name : Text) → IsFirst task most name → (s0 s1 : ShelfSeen)
    (o0 o1 : SinkSeen) (last : Due) (r : Result End Fault) → IsRead most name s0 s1
    → TaskIsAnswered task s0 s1 o0 o1 r → ReadAsFar task.no_further s0 s1 → EndsAs task s0.given s1.given last.0
    → Ran last o0 o1 r → FileRun task s0 s1 o0 o1 r
front_ran task most name first s0 s1 o0 o1 last r read answered far ends ran = record {
  due_outcome = answered;
  output_so_far = no_line_ran task last s0 s1 o0 o1 r
      (no_line_there task most name first s0.contents s0.given s1.given read.within) ran;
  reads_no_further = at_end r;
  file_names = asks_as (λ other. other ≡ name) task.names s0.asked s1.asked first.named read.names;
  read_limit = omega (arith, read.limit, first.limit);
  read_pieces = read.pieces;
  ends = ends_at task s0.given s1.given last o0 o1 r ran ends;
}
  where
    at_end : (r : Result End Fault) → IfOk r (λ e. ReadAsFar task.no_further s0 s1)
    at_end (Ok e) = far
    at_end (Err f) = tt

-- no more was given than it has
pub within_file : (s0 s1 : ShelfSeen) (name : Text) → GaveIfTold s0.contents name s0.given s1.given
    → ReadAsFar (λ contents given ahead. given ≤ size_of name contents) s0 s1
within_file s0 s1 name gave = by_told s0.contents gave
  where
    by_told : (told : Option Contents) → GaveIfTold told name s0.given s1.given
        → ReadAsFarOfContents (λ contents given ahead. given ≤ size_of name contents) told s0 s1
    by_told None gave = tt
    by_told (Some contents) (n, le, gave) = (n, gave, le)
