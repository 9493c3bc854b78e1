-- A session that ran each line of a script gave the text that is due: the text of a line is the one that is due after
-- the past that the session follows, and the totals are those of the past at the end.
use Rattle.std.proofs.Common.{◌≡◌, ℕ, zero, suc, ◌+◌, ◌==◌, ◌≤◌, ◌∙◌, Bool, true, false, List, [], ◌∷◌, ◌++◌, length}
use Rattle.std.proofs.Common.{Option, Some, None, Result, Ok, Err, refl, sym, ap, ap₂, subst, inl, inr, append_assoc}
use Rattle.std.proofs.Common.{arith, take}
use Rattle.std.specs.Prelude.{if◌then◌else◌}
use Rattle.std.specs.List.{AllByRecursion}
use Rattle.std.proofs.lemmas.Bool.{le-ltb, ne_eqb}
use Rattle.ide_types.specs.declared.plan.Plan.{Plan}
use Rattle.script_events.specs.declared.script.ScriptEvent.{ScriptEvent}
use Rattle.script_events.specs.declared.fault.LineFault.{LineFault}
use Rattle.script_events.specs.Parse.{line_meaning}
use Rattle.script_events.specs.Words.{fault_line_of}
use Rattle.law_text.specs.Runs.{history_on}
use Rattle.file_runs.specs.declared.ends.End.TheVariants as end
use Rattle.file_runs.specs.Gain.{Text}
use Rattle.file_runs.specs.Lines.{after, file_limit, go_on, is_over, process}
use Rattle.file_runs.specs.Outcome.{Due}
use Rattle.file_runs.specs.Pieces.{pieces}
use Rattle.file_runs.proofs.Cuts.{some}
use Rattle.file_runs.proofs.Cuttings.{cut_short}
use Rattle.script_runs.specs.declared.topologies.Loaded.TheVariants.{Sound}
use Rattle.script_runs.specs.Script.{AtEnd, Script, due_by_topology, events_on, run_due, script_due, script_ended}
use Rattle.script_runs.specs.Script.{script_of, script_of_pieces, with_line}
use Rattle.script_runs.specs.Topologies.{loaded_topology}
use Rattle.script_runs.specs.Works.{Follows, RunningView, ScriptPast, by_meaning, closing_due, closing_line}
use Rattle.script_runs.specs.Works.{ran_line, ran_script_event}
use Rattle.script_runs.proofs.Scripts.{file_is_run}
use Rattle.ide_cli.specs.Laws.{LawsHold}
use Rattle.ide_cli.proofs.Written.{first_is_due}
use Rattle.ide_session.specs.declared.answer.Answer.TheVariants as Answer
use Rattle.ide_session.specs.declared.answer.Answer.TheVariants.{Done}
use Rattle.ide_session.specs.Sessions.{GaveText, Going, IsSessionOf, KeptGave, LastCame, SessionOf, TotalsCame}
use Rattle.ide_session.specs.Sessions.{MeaningRefused, StepCame, WroteBuffer, explaining, last_text}
use Rattle.ide_session.specs.Runs.{Explain, IsRun, IsWholeRun, LineGave, LinesGave, Packet, QuietCall, QuietCalls}
use Rattle.ide_session.specs.Runs.{Refused, Reopened}
use Rattle.ide_session.specs.Runs.{LineRefused, SessionGave, SessionRan, SessionsAreRuns, Told, Totals, TotalsGave, Why}
use Rattle.ide_session.specs.Runs.{joined, lines_of}
use Rattle.ide_session.specs.Runs.{HasNoLineFeed, with_line_feeds, without_empty_last}

-- ---- calls that run no line

record IsLeft (s : Going) (new : Option Going) : Type 0 where
  now : Going
  is : new ≡ Some now
  running_is : now.running ≡ s.running
  lines_are : now.lines ≡ s.lines

same : (s : Going) (new : Option Going) → new ≡ Some s → IsLeft s new
same s new is = record { now = s; is = is; running_is = refl; lines_are = refl }

quiet_call : (s : Going) (new : Option Going) → QuietCall (Some s) new → IsLeft s new
quiet_call s new (Refused line written buf came) = same s new came.0
quiet_call s new (Reopened topology written buf came) = same s new came.1
quiet_call s new (Told answer written buf came) = same s new came.0
quiet_call s new (Totals answer written buf came) = same s new came.0
quiet_call s new (Explain answer on came) =
    record { now = explaining on s; is = came.1; running_is = refl; lines_are = refl }
quiet_call s new (Why answer written buf came) = same s new came.0
quiet_call s new (Packet answer n written buf came) = same s new came.0

quiet_calls : (n : ℕ) (s : Going) (new : Option Going) → QuietCalls n (Some s) new → IsLeft s new
quiet_calls zero s new is = same s new is
quiet_calls (suc n) s new calls =
    let first = quiet_call s calls.0 calls.1 in
    let rest = quiet_calls n first.now new (subst (λ (o : Option Going). QuietCalls n o new) first.is calls.2) in
    record {
      now = rest.now;
      is = rest.is;
      running_is = rest.running_is ∙ first.running_is;
      lines_are = rest.lines_are ∙ first.lines_are;
    }

-- ---- a line

record HasRun (s : Going) (line text : Text) (new : Option Going) : Type 0 where
  now : Going
  is : new ≡ Some now
  lines_are : now.lines ≡ s.lines + 1
  gave : (past : ScriptPast) → Follows s.running past → GaveText (ran_line past (s.lines + 1) line) now.running text

kept : (s : Going) (line : Text) (new : Option Going) → KeptGave (Some s) line new → HasRun s line (last_text new) new
kept s line (Some t) took = record { now = t; is = refl; lines_are = took.lines_are; gave = took.gave }
kept s line None took = absurd took

-- a text that was told of the session again
told_again : (s : Going) (line text : Text) (stepped new : Option Going)
    (ran : HasRun s line (last_text stepped) stepped) → new ≡ Some ran.now → text ≡ ran.now.text
    → HasRun s line text new
told_again s line text stepped new ran is text_is =
    let same_text : last_text stepped ≡ text = ap last_text ran.is ∙ sym text_is in
    record {
      now = ran.now;
      is = is;
      lines_are = ran.lines_are;
      gave = λ past follows. subst (λ (x : Text). GaveText (ran_line past (s.lines + 1) line) ran.now.running x)
          same_text (ran.gave past follows);
    }

line_gave : (s : Going) (line : Text) (new : Option Going) (text : Text) → LineGave (Some s) line new text
    → HasRun s line text new
line_gave s line new text (inl g) =
    subst (λ (t : Text). HasRun s line t new) (sym (g.text_is ∙ g.step.1.whole)) (kept s line new g.step.0)
line_gave s line new text (inr g) =
    let ran = kept s line g.stepped g.step.0 in
    let told = subst (λ (o : Option Going). LastCame Done o new g.written g.buf) ran.is g.told in
    told_again s line text g.stepped new ran told.0 (g.text_is ∙ told.1.whole)

-- ---- the totals

totals_gave : (s : Going) (past : ScriptPast) (text : Text) → Follows s.running past → TotalsGave (Some s) text
    → text ≡ closing_line past
totals_gave s past text follows g =
    let left = quiet_calls g.quiet s g.before g.calls in
    let said = (subst (λ (o : Option Going). TotalsCame Done o g.new g.written g.buf) left.is g.totals).1 in
    g.text_is ∙ (said.2.whole ∙ said.1 past (subst (λ (r : RunningView). Follows r past) (sym left.running_is) follows))

-- ---- all lines

-- what is due of a script after a past, and that the session follows the past with its events
record HasRunAll (past : ScriptPast) (script : Script) (due : Due) (texts : List Text) (last : Option Going)
    (totals : Text) : Type 0 where
  due_is : due ≡ (end.Done, joined texts ++ totals)
  now : Going
  is : last ≡ Some now
  follows : Follows now.running
      (record { plan = past.plan; history = history_on past.plan past.history (events_on past.plan script) })

abbrev came_or : ScriptPast × Text → Result (ScriptPast × Text) LineFault → ScriptPast × Text
came_or other (Ok came) = came
came_or other (Err fault) = other

module _ (last : Option Going) (totals : Text) (told : TotalsGave last totals) where
  nothing_more : (past : ScriptPast) (s : Going) (texts : List Text) → Follows s.running past
      → LinesGave (Some s) [] last texts → HasRunAll past (script_ended AtEnd) (closing_due past) texts last totals
  nothing_more past s [] follows is =
      record {
        due_is = ap (λ (t : Text). (end.Done, t)) (sym (totals_gave s past totals follows
            (subst (λ (o : Option Going). TotalsGave o totals) is told)));
        now = s;
        is = is;
        follows = follows;
      }
  nothing_more past s (text ∷ texts) follows gave = absurd gave

  -- a line before what comes later
  with_meaning : (n : ℕ) (past later : ScriptPast) (m : Result (Option ScriptEvent) LineFault) (text : Text)
      (rest : Script) (go : ScriptPast → Due) (texts : List Text) → by_meaning past m ≡ Ok (later, text)
      → HasRunAll later rest (go later) texts last totals
      → HasRunAll past (with_line n m rest) (go_on n (by_meaning past m) go) (text ∷ texts) last totals
  with_meaning n past later (Err fault) text rest go texts is ran = absurd cc
  with_meaning n past later (Ok None) text rest go texts is ran =
      subst (λ (c : ScriptPast × Text). HasRunAll c.0 rest (go c.0) texts last totals
      → HasRunAll past rest (after [] (go past)) (c.1 ∷ texts) last totals)
      (ap (came_or (past, [])) is)
      (λ r. record { due_is = ap (after []) r.due_is; now = r.now; is = r.is; follows = r.follows }) ran
  with_meaning n past later (Ok (Some e)) text rest go texts is ran =
      let given = ran_script_event past e in
      subst (λ (c : ScriptPast × Text). HasRunAll c.0 rest (go c.0) texts last totals
      → HasRunAll past (with_line n (Ok (Some e)) rest) (after given.1 (go given.0)) (c.1 ∷ texts) last totals)
      (ap (came_or given) is)
      (λ r. record {
        due_is = ap (after given.1) r.due_is
            ∙ ap (λ (t : Text). (end.Done, t)) (sym (append_assoc given.1 (joined texts) totals));
        now = r.now;
        is = r.is;
        follows = r.follows;
      }) ran

  one_line : (n : ℕ) (line : Text) (rest : Script) (go : ScriptPast → Due) (lines : List Text) (past : ScriptPast)
      (s : Going) (text : Text) (texts : List Text) → Follows s.running past
      → LinesGave (Some s) (line ∷ lines) last (text ∷ texts)
      → ((later : ScriptPast) (now : Going) → Follows now.running later → LinesGave (Some now) lines last texts
      → HasRunAll later rest (go later) texts last totals)
      → HasRunAll past (with_line n (line_meaning line) rest) (go_on n (ran_line past n line) go) (text ∷ texts) last
      totals
  one_line n line rest go lines past s text texts follows gave goes_on =
      let left = quiet_calls gave.0 s gave.1 gave.3 in
      let ran = line_gave left.now line gave.2 text
      (subst (λ (o : Option Going). LineGave o line gave.2 text) left.is gave.4) in
      let came = ran.gave past (subst (λ (r : RunningView). Follows r past) (sym left.running_is) follows) in
      with_meaning n past came.past (line_meaning line) text rest go texts came.is
      (goes_on came.past ran.now came.follows
      (subst (λ (o : Option Going). LinesGave o lines last texts) ran.is gave.5))

  last_piece : (n : ℕ) (piece : Text) (past : ScriptPast) (s : Going) (texts : List Text) (none : Bool)
      → Follows s.running past → LinesGave (Some s) (if none then [] else piece ∷ []) last texts
      → HasRunAll past (if none then script_ended AtEnd else with_line n (line_meaning piece) (script_ended AtEnd))
      (if none then closing_due past else go_on n (ran_line past n piece) closing_due) texts last totals
  last_piece n piece past s texts true follows gave = nothing_more past s texts follows gave
  last_piece n piece past s [] false follows gave = absurd gave
  last_piece n piece past s (text ∷ texts) false follows gave =
      one_line n piece (script_ended AtEnd) closing_due [] past s text texts follows gave
      (λ later now. nothing_more later now texts)

  all_lines : (n : ℕ) (parts : List Text) (past : ScriptPast) (s : Going) (texts : List Text) → Follows s.running past
      → LinesGave (Some s) (without_empty_last parts) last texts
      → HasRunAll past (script_of_pieces false n parts) (process ran_line closing_due false n past parts) texts last
      totals
  all_lines n [] past s texts follows gave = nothing_more past s texts follows gave
  all_lines n (piece ∷ []) past s texts follows gave =
      last_piece n piece past s texts (length piece == 0) follows gave
  all_lines n (piece ∷ next ∷ rest) past s [] follows gave = absurd gave
  all_lines n (piece ∷ next ∷ rest) past s (text ∷ texts) follows gave =
      one_line n piece (script_of_pieces false (n + 1) (next ∷ rest))
      (λ t. process ran_line closing_due false (n + 1) t (next ∷ rest)) (without_empty_last (next ∷ rest)) past s text
      texts
      follows gave (λ later now. all_lines (n + 1) (next ∷ rest) later now texts)

-- ---- a session

record IsBegun (plan : Plan) (first : Option Going) : Type 0 where
  now : Going
  is : first ≡ Some now
  session : SessionOf plan now

begun : (plan : Plan) (first : Option Going) → IsSessionOf plan first → IsBegun plan first
begun plan None session = absurd session
begun plan (Some s) session = record { now = s; is = refl; session = session }

-- a script that has no more bytes than count is read to its end
short : (file : Text) → length file ≤ file_limit → is_over file ≡ false
short file few = le-ltb file_limit (length file) few

-- what is due of a script that is read to its end
due_of_lines : (topology file : Text) (plan : Plan) → loaded_topology topology ≡ Sound plan → length file ≤ file_limit
    → run_due (Some topology) (Some file)
    ≡ Some (process ran_line closing_due false 1 (record { plan = plan; history = [] }) (pieces file))
due_of_lines topology file plan plan_is few =
    let past : ScriptPast = record { plan = plan; history = [] } in
    ap (due_by_topology script_due (Some file)) plan_is ∙ ap Some (sym (file_is_run plan file)
    ∙ ap₂ (λ (over : Bool) (text : Text). process ran_line closing_due over 1 past (pieces text)) (short file few)
    (sym (cut_short file_limit file few)))

-- a run on a sound topology, by what is due of its script's lines
is_run : LawsHold → (topology file : Text) (plan : Plan) (due : Due) → loaded_topology topology ≡ Sound plan
    → length file ≤ file_limit
    → process ran_line closing_due false 1 (record { plan = plan; history = [] }) (pieces file) ≡ due
    → IsRun topology file due
is_run hold topology file plan due plan_is few lines_give =
    record {
      due_is = due_of_lines topology file plan plan_is few ∙ ap Some lines_give;
      plan = plan;
      plan_is = plan_is;
      cause_law = λ front later are.
          (first_is_due topology file plan (script_of file) front later plan_is refl are).cause;
      laws = λ front later are. hold plan (history_on plan [] front)
          (first_is_due topology file plan (script_of file) front later plan_is refl are);
    }

of_file : LawsHold → (topology file : Text) (texts : List Text) (totals : Text) → length file ≤ file_limit
    → (gave : SessionGave topology (lines_of file) texts totals)
    → IsWholeRun topology file (joined texts ++ totals) gave.session.last
unfolding is_run
of_file hold topology file texts totals few gave =
    let session = gave.session in
    let open_is = session.opened.0 in
    let plan = open_is.plan in
    let first = begun plan session.first open_is.session in
    let ran = all_lines session.last totals gave.told 1 (pieces file) (record { plan = plan; history = [] }) first.now
    texts first.session.follows
    (subst (λ (o : Option Going). LinesGave o (lines_of file) session.last texts) first.is session.ran) in
    let read : script_of file ≡ script_of_pieces false 1 (pieces file) =
    ap₂ (λ (over : Bool) (text : Text). script_of_pieces over 1 (pieces text)) (short file few)
    (sym (cut_short file_limit file few)) in
    record {
      run = is_run hold topology file plan (end.Done, joined texts ++ totals) open_is.plan_is few ran.due_is;
      now = ran.now;
      last_is = ran.is;
      stands = subst (λ (script : Script). Follows ran.now.running
          (record { plan = plan; history = history_on plan [] (events_on plan script) })) (sym read) ran.follows;
    }

-- ---- lines without line feeds

split_line : (line rest : Text) → HasNoLineFeed line → pieces (line ++ 10 ∷ rest) ≡ line ∷ pieces rest
split_line [] rest none = refl
split_line (b ∷ line) rest none = rw (ne_eqb b 10 none.0, split_line line rest none.1) refl

lines_back : (lines : List Text) → AllByRecursion HasNoLineFeed lines → lines_of (with_line_feeds lines) ≡ lines
lines_back [] none = refl
lines_back (line ∷ lines) none =
    let later = some (with_line_feeds lines) in
    ap without_empty_last (split_line line (with_line_feeds lines) none.0
    ∙ ap (λ (parts : List Text). line ∷ parts) later.is)
    ∙ ap (λ (parts : List Text). line ∷ parts)
    (sym (ap without_empty_last later.is) ∙ lines_back lines none.1)

of_lines : LawsHold → (topology : Text) (lines texts : List Text) (totals : Text)
    → AllByRecursion HasNoLineFeed lines → length (with_line_feeds lines) ≤ file_limit
    → (gave : SessionGave topology lines texts totals)
    → IsWholeRun topology (with_line_feeds lines) (joined texts ++ totals) gave.session.last
of_lines hold topology lines texts totals none few gave =
    let session = gave.session in
    of_file hold topology (with_line_feeds lines) texts totals few
    (record {
      session = record {
        first = session.first;
        written = session.written;
        buf = session.buf;
        opened = session.opened;
        last = session.last;
        ran = subst (λ (ls : List Text). LinesGave session.first ls session.last texts) (sym (lines_back lines none))
            session.ran;
      };
      told = gave.told;
    })

-- ---- a line that is refused

record HasCause (s : Going) (line refusal : Text) : Type 0 where
  fault : LineFault
  meaning : line_meaning line ≡ Err fault
  text_is : refusal ≡ fault_line_of (s.lines + 1) fault

refused_by : (n : ℕ) (line text : Text) (written : ℕ) (buf : Text) (m : Result (Option ScriptEvent) LineFault)
    → written ≤ length buf → MeaningRefused n m (λ said. WroteBuffer said written buf) → text ≡ take written buf
    → line_meaning line ≡ m → (fault : LineFault) × (line_meaning line ≡ Err fault) × (text ≡ fault_line_of n fault)
refused_by n line text written buf (Ok asked) fits said text_is is = absurd said
refused_by n line text written buf (Err fault) fits said text_is is = (fault, is, text_is ∙ said.copied fits)

has_cause : (s : Going) (line refusal : Text) → LineRefused (Some s) line refusal → HasCause s line refusal
has_cause s line refusal r =
    let left = quiet_calls r.quiet s r.before r.calls in
    let came = subst (λ (o : Option Going). StepCame Answer.Script o line r.new r.written r.buf) left.is r.step in
    let cause = refused_by (left.now.lines + 1) line refusal r.written r.buf (line_meaning line) r.fits came.1 r.text_is
    refl in
    record {
      fault = cause.0;
      meaning = cause.1;
      text_is = cause.2 ∙ ap (λ (n : ℕ). fault_line_of (n + 1) cause.0) left.lines_are;
    }

not_none : {P : Type 0} (lines : List Text) (line : Text) (later : List Text) → [] ≡ lines ++ line ∷ later → P
not_none [] line later is = absurd cc
not_none (l ∷ lines) line later is = absurd cc

module _ (last : Option Going) (line refusal : Text) (later : List Text) (refused : LineRefused last line refusal) where
  refused_now : (n : ℕ) (piece : Text) (go : ScriptPast → Due) (past : ScriptPast) (s : Going) (texts : List Text)
      → s.lines + 1 ≡ n → LinesGave (Some s) [] last texts → piece ≡ line
      → go_on n (ran_line past n piece) go ≡ (end.Script, joined texts ++ refusal)
  refused_now n piece go past s [] number is same_line =
      let cause = has_cause s line refusal
      (subst (λ (o : Option Going). LineRefused o line refusal) is refused) in
      ap (λ (m : Result (Option ScriptEvent) LineFault). go_on n (by_meaning past m) go)
      (ap line_meaning same_line ∙ cause.meaning)
      ∙ ap (λ (t : Text). (end.Script, t))
      (ap (λ (k : ℕ). fault_line_of k cause.fault) (sym number) ∙ sym cause.text_is)
  refused_now n piece go past s (text ∷ texts) number gave same_line = absurd gave

  -- a line before it was run
  ran_before : (n : ℕ) (piece : Text) (go : ScriptPast → Due) (past : ScriptPast) (s : Going) (l : Text)
      (lines texts : List Text) → Follows s.running past → s.lines + 1 ≡ n
      → LinesGave (Some s) (l ∷ lines) last texts → piece ≡ l
      → ((next : ScriptPast) (now : Going) (ts : List Text) → Follows now.running next → now.lines + 1 ≡ n + 1
      → LinesGave (Some now) lines last ts → go next ≡ (end.Script, joined ts ++ refusal))
      → go_on n (ran_line past n piece) go ≡ (end.Script, joined texts ++ refusal)
  ran_before n piece go past s l lines [] follows number gave same_line goes_on = absurd gave
  ran_before n piece go past s l lines (text ∷ texts) follows number gave same_line goes_on =
      let left = quiet_calls gave.0 s gave.1 gave.3 in
      let ran = line_gave left.now l gave.2 text
      (subst (λ (o : Option Going). LineGave o l gave.2 text) left.is gave.4) in
      let came = ran.gave past (subst (λ (r : RunningView). Follows r past) (sym left.running_is) follows) in
      ap (λ (m : Result (Option ScriptEvent) LineFault). go_on n (by_meaning past m) go) (ap line_meaning same_line)
      ∙ ap (λ (r : Result (ScriptPast × Text) LineFault). go_on n r go) came.is
      ∙ ap (after text) (goes_on came.past ran.now texts came.follows
      (omega (arith, ran.lines_are, left.lines_are, number))
      (subst (λ (o : Option Going). LinesGave o lines last texts) ran.is gave.5))
      ∙ ap (λ (t : Text). (end.Script, t)) (sym (append_assoc text (joined texts) refusal))

  last_refused : (n : ℕ) (piece : Text) (past : ScriptPast) (s : Going) (lines texts : List Text) (none : Bool)
      → s.lines + 1 ≡ n → LinesGave (Some s) lines last texts
      → (if none then [] else piece ∷ []) ≡ lines ++ line ∷ later
      → (if none then closing_due past else go_on n (ran_line past n piece) closing_due)
      ≡ (end.Script, joined texts ++ refusal)
  last_refused n piece past s lines texts true number gave are = not_none lines line later are
  last_refused n piece past s [] texts false number gave are =
      refused_now n piece closing_due past s texts number gave cc
  last_refused n piece past s (l ∷ lines) texts false number gave are = not_none lines line later cc

  refused_lines : (n : ℕ) (parts lines : List Text) (past : ScriptPast) (s : Going) (texts : List Text)
      → Follows s.running past → s.lines + 1 ≡ n → LinesGave (Some s) lines last texts
      → without_empty_last parts ≡ lines ++ line ∷ later
      → process ran_line closing_due false n past parts ≡ (end.Script, joined texts ++ refusal)
  refused_lines n [] lines past s texts follows number gave are = not_none lines line later are
  refused_lines n (piece ∷ []) lines past s texts follows number gave are =
      last_refused n piece past s lines texts (length piece == 0) number gave are
  refused_lines n (piece ∷ next ∷ rest) [] past s texts follows number gave are =
      refused_now n piece (λ t. process ran_line closing_due false (n + 1) t (next ∷ rest)) past s texts number gave cc
  refused_lines n (piece ∷ next ∷ rest) (l ∷ lines) past s texts follows number gave are =
      let head : piece ≡ l = cc in
      let tail : without_empty_last (next ∷ rest) ≡ lines ++ line ∷ later = cc in
      ran_before n piece (λ t. process ran_line closing_due false (n + 1) t (next ∷ rest)) past s l lines texts follows
      number gave head
      (λ later_past now ts follows number gave. refused_lines (n + 1) (next ∷ rest) lines later_past now ts follows
      number gave tail)

of_refused : LawsHold → (topology file : Text) (lines texts : List Text) (line : Text) (later : List Text)
    (refusal : Text) → length file ≤ file_limit → lines_of file ≡ lines ++ line ∷ later
    → (session : SessionRan topology lines texts) → LineRefused session.last line refusal
    → IsRun topology file (end.Script, joined texts ++ refusal)
of_refused hold topology file lines texts line later refusal few are session refused =
    let open_is = session.opened.0 in
    let plan = open_is.plan in
    let first = begun plan session.first open_is.session in
    is_run hold topology file plan (end.Script, joined texts ++ refusal) open_is.plan_is few
    (refused_lines session.last line refusal later refused 1 (pieces file) lines
    (record { plan = plan; history = [] }) first.now texts first.session.follows
    (ap (λ (n : ℕ). n + 1) first.session.lines_are)
    (subst (λ (o : Option Going). LinesGave o lines session.last texts) first.is session.ran) are)

pub sessions_are_runs : LawsHold → SessionsAreRuns
sessions_are_runs hold = record { of_file = of_file hold; of_lines = of_lines hold; of_refused = of_refused hold }
