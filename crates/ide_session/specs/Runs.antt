-- Calls on one handle, one after another, and that what they give is what a run of the script writes.
use Rattle.std.specs.Prelude.{ℕ, zero, suc, ◌≡◌, ◌≢◌, ◌==◌, ◌⊎◌, ◌≤◌, if◌then◌else◌, Bool, List, [], ◌∷◌, ◌++◌, length}
use Rattle.std.specs.Prelude.{take, Option, Some, None}
use Rattle.std.specs.List.{AllByRecursion}
use Rattle.ide_types.specs.declared.plan.Plan.{Plan}
use Rattle.script_events.specs.declared.event.Event.{Event}
use Rattle.spec_links.specs.Cause.{CauseLaw}
use Rattle.law_text.specs.Runs.{history_on}
use Rattle.file_runs.specs.declared.ends.End.TheVariants as end
use Rattle.file_runs.specs.Gain.{Text}
use Rattle.file_runs.specs.Lines.{file_limit}
use Rattle.file_runs.specs.Outcome.{Due}
use Rattle.file_runs.specs.Pieces.{pieces}
use Rattle.script_runs.specs.declared.topologies.Loaded.TheVariants.{Sound}
use Rattle.script_runs.specs.Script.{events_on, run_due, script_of}
use Rattle.script_runs.specs.Topologies.{loaded_topology}
use Rattle.script_runs.specs.Works.{Follows}
use Rattle.ide_cli.specs.Laws.{Laws}
use Rattle.ide_session.specs.declared.answer.Answer.{Answer}
use Rattle.ide_session.specs.declared.answer.Answer.TheVariants.{Done, Script, Room, Open}
use Rattle.ide_session.specs.Sessions.{ExplainCame, Going, LastCame, OpenCame, PacketCame, StepCame, TotalsCame}
use Rattle.ide_session.specs.Sessions.{WhyCame}

-- ---- the lines of a script

abbrev pub without_empty_last : List Text → List Text
without_empty_last [] = []
without_empty_last (piece ∷ []) = if length piece == 0 then [] else piece ∷ []
without_empty_last (piece ∷ next ∷ rest) = piece ∷ without_empty_last (next ∷ rest)

-- what stands before each line feed of a file, and behind the last one if anything does
abbrev pub lines_of : Text → List Text
lines_of file = without_empty_last (pieces file)

abbrev pub HasNoLineFeed : Text → Type 0
HasNoLineFeed line = AllByRecursion (λ b. b ≢ 10) line

-- lines, each with a line feed behind it
abbrev pub with_line_feeds : List Text → Text
with_line_feeds [] = []
with_line_feeds (line ∷ lines) = line ++ 10 ∷ with_line_feeds lines

-- texts, one after another
abbrev pub joined : List Text → Text
joined [] = []
joined (text ∷ texts) = text ++ joined texts

-- ---- calls, by what each says of the handle before it and after it

-- One call that runs no line, with its answer, the number that it wrote, and the buffer: a line that is refused, and
-- each call that tells something of the session.
pub data QuietCall (old new : Option Going) : Type 0 where
  Refused : (line : Text) (written : ℕ) (buf : Text) → StepCame Script old line new written buf → QuietCall old new
  Reopened : (topology : Text) (written : ℕ) (buf : Text) → OpenCame Open old topology new written buf
      → QuietCall old new
  Told : (answer : Answer) (written : ℕ) (buf : Text) → LastCame answer old new written buf → QuietCall old new
  Totals : (answer : Answer) (written : ℕ) (buf : Text) → TotalsCame answer old new written buf → QuietCall old new
  Explain : (answer : Answer) (on : Bool) → ExplainCame answer old on new → QuietCall old new
  Why : (answer : Answer) (written : ℕ) (buf : Text) → WhyCame answer old new written buf → QuietCall old new
  Packet : (answer : Answer) (n written : ℕ) (buf : Text) → PacketCame answer old n new written buf
      → QuietCall old new

-- so many of them
abbrev pub QuietCalls : ℕ → Option Going → Option Going → Type 0
QuietCalls zero old new = new ≡ old
QuietCalls (suc n) old new = (between : Option Going) × QuietCall old between × QuietCalls n between new

-- `ide_step` ran the line, and left its text in the buffer
pub record GaveAtOnce (old : Option Going) (line : Text) (new : Option Going) (text : Text) : Type 0 where
  pub written : ℕ
  pub buf : Text
  pub step : StepCame Done old line new written buf
  pub text_is : text ≡ take written buf

-- it ran the line, the buffer had no room, and `ide_text` left the text in another
pub record GaveAfterwards (old : Option Going) (line : Text) (new : Option Going) (text : Text) : Type 0 where
  pub stepped : Option Going
  pub needed : ℕ
  pub short : Text
  pub step : StepCame Room old line stepped needed short
  pub written : ℕ
  pub buf : Text
  pub told : LastCame Done stepped new written buf
  pub text_is : text ≡ take written buf

abbrev pub LineGave : Option Going → Text → Option Going → Text → Type 0
LineGave old line new text = GaveAtOnce old line new text ⊎ GaveAfterwards old line new text

-- these lines were run, one after another, and gave these texts; calls that run no line came between
abbrev pub LinesGave : Option Going → List Text → Option Going → List Text → Type 0
LinesGave old [] new [] = new ≡ old
LinesGave old (line ∷ lines) new (text ∷ texts) = (n : ℕ) × (before : Option Going) × (behind : Option Going)
    × QuietCalls n old before × LineGave before line behind text × LinesGave behind lines new texts
LinesGave old _ new _ = ⊥

-- the totals were asked for, and this text was left in the buffer
pub record TotalsGave (old : Option Going) (text : Text) : Type 0 where
  pub quiet : ℕ
  pub before : Option Going
  pub calls : QuietCalls quiet old before
  pub new : Option Going
  pub written : ℕ
  pub buf : Text
  pub totals : TotalsCame Done before new written buf
  pub text_is : text ≡ take written buf

-- the line was refused, and the text that says so was left in the buffer
pub record LineRefused (old : Option Going) (line text : Text) : Type 0 where
  pub quiet : ℕ
  pub before : Option Going
  pub calls : QuietCalls quiet old before
  pub new : Option Going
  pub written : ℕ
  pub buf : Text
  pub step : StepCame Script before line new written buf
  pub fits : written ≤ length buf
  pub text_is : text ≡ take written buf

-- A session was opened on the bytes of a topology, and these lines were run, each of which gave its text.
pub record SessionRan (topology : Text) (lines texts : List Text) : Type 0 where
  pub first : Option Going
  pub written : ℕ
  pub buf : Text
  pub opened : OpenCame Done None topology first written buf
  pub last : Option Going
  pub ran : LinesGave first lines last texts

-- And then the totals were asked for.
pub record SessionGave (topology : Text) (lines texts : List Text) (totals : Text) : Type 0 where
  pub session : SessionRan topology lines texts
  pub told : TotalsGave session.last totals

-- ---- what they come to

-- This end and this text are due to `ide run` of these two files. Of the history of the script's events, and of that of
-- the first of them, up to any, each verdict is the one that is due, and the laws hold.
pub record IsRun (topology file : Text) (due : Due) : Type 0 where
  pub due_is : run_due (Some topology) (Some file) ≡ Some due
  pub plan : Plan
  pub plan_is : loaded_topology topology ≡ Sound plan
  pub cause_law : (first later : List Event) → first ++ later ≡ events_on plan (script_of file)
      → CauseLaw plan (history_on plan [] first)
  pub laws : (first later : List Event) → first ++ later ≡ events_on plan (script_of file)
      → Laws plan (history_on plan [] first)

-- The run comes to the end of the script and writes this text, which ends with the totals; the session goes on, and
-- stands for the history of the script's events.
pub record IsWholeRun (topology file text : Text) (last : Option Going) : Type 0 where
  pub run : IsRun topology file (end.Done, text)
  pub now : Going
  pub last_is : last ≡ Some now
  pub stands : Follows now.running
      (record { plan = run.plan; history = history_on run.plan [] (events_on run.plan (script_of file)) })

pub record SessionsAreRuns : Type 0 where
  -- A session that was opened on a topology, and ran each line of a script that has no more bytes than count, gave the
  -- text of `ide run`: the texts of its lines, one after another, and the totals.
  pub of_file : (topology file : Text) (texts : List Text) (totals : Text) → length file ≤ file_limit
      → (gave : SessionGave topology (lines_of file) texts totals)
      → IsWholeRun topology file (joined texts ++ totals) gave.session.last
  -- So did one that ran any lines in which no line feed stands, of the script in which one stands behind each.
  pub of_lines : (topology : Text) (lines texts : List Text) (totals : Text) → AllByRecursion HasNoLineFeed lines
      → length (with_line_feeds lines) ≤ file_limit → (gave : SessionGave topology lines texts totals)
      → IsWholeRun topology (with_line_feeds lines) (joined texts ++ totals) gave.session.last
  -- One that ran the first lines of a script, and refused the next, gave the text of `ide run`: that of the lines that
  -- were run, and the line that is refused.
  pub of_refused : (topology file : Text) (lines texts : List Text) (line : Text) (later : List Text) (refusal : Text)
      → length file ≤ file_limit → lines_of file ≡ lines ++ line ∷ later
      → (session : SessionRan topology lines texts) → LineRefused session.last line refusal
      → IsRun topology file (end.Script, joined texts ++ refusal)
