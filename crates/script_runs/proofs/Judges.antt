-- A text that is judged by a run into a sink in memory: what the sink holds is what is due of the run.
use Rattle.std.proofs.Common.{◌≡◌, ◌≢◌, ◌≤◌, ◌+◌, ◌++◌, ◌⊎◌, ℕ, Bool, [], length, Option, Some, None, Result, Ok, Err}
use Rattle.std.proofs.Common.{option_map, List, refl, sym, ap, inl, inr, subst, ◌∙◌, arith}
use Rattle.std.specs.Prelude.{IfErr, IfOk}
use Rattle.cli_files.specs.Outside.{AsksFor, AsksOnly, Contents, Rose, ShelfSeen, SinkSeen}
use Rattle.file_runs.specs.declared.ends.End.{End}
use Rattle.file_runs.specs.declared.ends.End.TheVariants as end
use Rattle.file_runs.specs.declared.ends.Fault.{Fault}
use Rattle.file_runs.specs.declared.ends.Fault.TheVariants as fault
use Rattle.file_runs.specs.FileRuns.{EndsAs, FileRun, judged_task}
use Rattle.file_runs.specs.Front.{GaveAtMost, bytes_of}
use Rattle.file_runs.specs.Gain.{Text, HasGained}
use Rattle.file_runs.specs.Gathering.{ReadAsFar, ReadAsFarOfContents, WroteBy, WroteByIfTold, size_of}
use Rattle.file_runs.specs.Outcome.{Due, EndsDue, EndsToldOrBlind, Ran}
use Rattle.file_runs.proofs.Joins.{gained_none, joined, later}
use Rattle.file_runs.proofs.FileNames.{asks_as, asks_more}
use Rattle.file_runs.proofs.FileRuns.{NoLineOf, ends_at, gave_both, no_line_ran, no_line_wrote}
use Rattle.file_runs.proofs.WholeFiles.{IsDue, SameDue, gained_nothing, ran_after, redue}
use Rattle.file_runs.specs.Judging.{judgement_due}
use Rattle.script_runs.specs.declared.topologies.Loaded.{Loaded}
use Rattle.script_runs.specs.declared.topologies.Loaded.TheVariants.{Sound, Faulty, Long}
use Rattle.script_runs.specs.Judge.{EndNoFurther, DueNoFurther, IsOneOf, JudgeNoFurther, judge_due, judged_script_run}
use Rattle.script_runs.specs.Judge.{judged_run, text_left}
use Rattle.script_runs.specs.Reads.{LoadedNoFurther, RunNoFurther}
use Rattle.script_runs.specs.Script.{run_due}
use Rattle.script_runs.specs.Tasks.{judge_task, run_task}
use Rattle.script_runs.specs.Topologies.{loaded_topology}

-- ---- the run

abbrev pub run_on : (topology script : Text) → Contents → Option Due
run_on topology script contents = run_due (contents topology) (contents script)

abbrev pub judge_on : (all : Bool) → (topology script verdicts : Text) → Contents → Option Due
judge_on all topology script verdicts contents = judge_due all (contents topology) (contents script) (contents verdicts)

held_is : (h0 h1 : Option Text) (text due : Text) → h0 ≡ Some [] → h1 ≡ Some text → HasGained h0 h1 due → text ≡ due
held_is h0 h1 text due none holds is =
    let there : Some text ≡ Some due = sym holds ∙ is ∙ ap (option_map (λ (t : Text). t ++ due)) none in
    cc

due_told : (due : Option Due) (read write rest : Type 0) (s0 s1 : ℕ) (h0 h1 : Option Text) (e : End) (text : Text)
    → h0 ≡ Some [] → h1 ≡ Some text → EndsDue due read write ((s1 ≡ s0) × rest) (HasGained h0 h1) (Ok e)
    → (s1 ≡ s0) × (due ≡ Some (e, text))
due_told None read write rest s0 s1 h0 h1 e text none holds ran = absurd ran
due_told (Some (to, what)) read write rest s0 s1 h0 h1 e text none holds ran =
    let same : text ≡ what = held_is h0 h1 text what none holds ran.1 in
    (ran.2.0, ap (λ (x : End). Some (x, what)) (sym ran.0) ∙ ap (λ (t : Text). Some (e, t)) (sym same))

-- it came to this end, and its text is what the sink holds
pub ran_to : (told : Option Contents) (due : Contents → Option Due) (read write rest : Type 0) (s0 s1 : ℕ)
    (h0 h1 : Option Text) (e : End) (text : Text) → h0 ≡ Some [] → h1 ≡ Some text
    → EndsToldOrBlind told due read write ((s1 ≡ s0) × rest) (HasGained h0 h1) (Ok e) → (s1 ≡ s0)
    × IsDue told due (e, text)
ran_to None due read write rest s0 s1 h0 h1 e text none holds ran = (ran.0, tt)
ran_to (Some contents) due read write rest s0 s1 h0 h1 e text none holds ran =
    due_told (due contents) read write rest s0 s1 h0 h1 e text none holds ran

-- ---- a run that was cut off: nothing was written

cut_due : (due other : Option Due) (read write0 quiet0 write quiet : Type 0) (gained : Text → Type 0) (h : Option Text)
    (e : Fault) → (write0 → ⊥) → (due ≡ None → other ≡ None) → EndsDue due read write0 quiet0 gained (Err e)
    → EndsDue other read write quiet (HasGained h h) (Err e)
cut_due None other read write0 quiet0 write quiet gained h fault.Read never none ran = rw (none refl) (gained_nothing h)
cut_due None other read write0 quiet0 write quiet gained h fault.Write never none ran = absurd ran
cut_due None other read write0 quiet0 write quiet gained h fault.Memory never none ran =
    rw (none refl) (gained_nothing h)
cut_due (Some due) None read write0 quiet0 write quiet gained h fault.Read never none ran = gained_nothing h
cut_due (Some due) None read write0 quiet0 write quiet gained h fault.Write never none ran = absurd (never ran.0)
cut_due (Some due) None read write0 quiet0 write quiet gained h fault.Memory never none ran = gained_nothing h
cut_due (Some due) (Some last) read write0 quiet0 write quiet gained h fault.Read never none ran =
    (ran.0, ([], (last.1, refl), inl refl, gained_nothing h))
cut_due (Some due) (Some last) read write0 quiet0 write quiet gained h fault.Write never none ran = absurd (never ran.0)
cut_due (Some due) (Some last) read write0 quiet0 write quiet gained h fault.Memory never none ran =
    ([], (last.1, refl), gained_nothing h)

none_due : (all : Bool) (verdicts : Option Text) (due : Option Due) → due ≡ None → judged_run all verdicts due ≡ None
none_due all verdicts due is = rw is refl

pub cut_run : (all : Bool) (told : Option Contents) (topology script verdicts : Text)
    (read write0 quiet0 write quiet : Type 0)
    (gained : Text → Type 0) (h : Option Text) (e : Fault) → (write0 → ⊥)
    → EndsToldOrBlind told (run_on topology script) read write0 quiet0 gained (Err e)
    → EndsToldOrBlind told (judge_on all topology script verdicts) read write quiet (HasGained h h) (Err e)
cut_run all None topology script verdicts read write0 quiet0 write quiet gained h fault.Read never ran = ran
cut_run all None topology script verdicts read write0 quiet0 write quiet gained h fault.Write never ran = absurd
    (never ran)
cut_run all None topology script verdicts read write0 quiet0 write quiet gained h fault.Memory never ran = tt
cut_run all (Some contents) topology script verdicts read write0 quiet0 write quiet gained h e never ran =
    cut_due (run_on topology script contents) (judge_on all topology script verdicts contents) read write0 quiet0 write
    quiet gained h e never (none_due all (contents verdicts) (run_on topology script contents)) ran

-- a sink in memory never fails
pub never_rose : Rose 0 0 → ⊥
never_rose rose = omega (arith, rose)

-- ---- what is due then

-- of a run that came to the end of its script
pub judged_same : (all : Bool) (told : Option Contents) (topology script verdicts text : Text)
    → IsDue told (run_on topology script) (end.Done, text)
    → SameDue told (λ contents. option_map (judgement_due all text) (contents verdicts))
    (judge_on all topology script verdicts)
judged_same all None topology script verdicts text is = tt
judged_same all (Some contents) topology script verdicts text is = sym (ap (judged_run all (contents verdicts)) is)

left_due : (all : Bool) (verdicts : Option Text) (e : End) (text : Text) → e ≢ end.Done
    → judged_script_run all verdicts e text ≡ Some (e, text_left e text)
left_due all verdicts end.Done text other = absurd (other refl)
left_due all verdicts end.Differs text other = refl
left_due all verdicts end.Usage text other = refl
left_due all verdicts end.Topology text other = refl
left_due all verdicts end.NoEvent text other = refl
left_due all verdicts end.Script text other = refl
left_due all verdicts end.TooLong text other = refl

-- of any other
pub left_is_due : (all : Bool) (told : Option Contents) (topology script verdicts : Text) (e : End) (text : Text)
    → IsDue told (run_on topology script) (e, text) → e ≢ end.Done
    → IsDue told (judge_on all topology script verdicts) (e, text_left e text)
left_is_due all None topology script verdicts e text is other = tt
left_is_due all (Some contents) topology script verdicts e text is other =
    ap (judged_run all (contents verdicts)) is ∙ left_due all (contents verdicts) e text other

-- ---- how far is read

within_loaded : (l : Loaded) (topology script : Text) (given ahead : ℕ)
    → LoadedNoFurther l topology script given ahead → given ≤ length topology + length script
within_loaded (Sound plan) topology script given ahead far = omega (arith, far.0)
within_loaded (Faulty fault) topology script given ahead far = omega (arith, far)
within_loaded Long topology script given ahead far = omega (arith, far)

within_run : (topology script : Option Text) (given ahead : ℕ) → RunNoFurther topology script given ahead
    → given ≤ length (bytes_of topology) + length (bytes_of script)
within_run None script given ahead far = omega (arith, far)
within_run (Some file) script given ahead far =
    within_loaded (loaded_topology file) file (bytes_of script) given ahead far

further_done : (topology script verdicts : Option Text) (due : Option Due) (text : Text) (n m ahead : ℕ)
    → due ≡ Some (end.Done, text) → n ≤ length (bytes_of topology) + length (bytes_of script)
    → m ≤ length (bytes_of verdicts) → DueNoFurther due topology script verdicts (n + m) ahead
further_done topology script verdicts due text n m ahead is le more = rw is (omega (arith, le, more))

-- after a run that came to the end of its script
far_judged : (topology script verdicts text : Text) (s0 s1 s2 : ShelfSeen) (r : Result End Fault) → s1.contents
    ≡ s0.contents → IsDue s0.contents (run_on topology script) (end.Done, text)
    → ReadAsFar (λ contents. RunNoFurther (contents topology) (contents script)) s0 s1
    → IfOk r (λ e. ReadAsFar (λ contents given ahead. given ≤ size_of verdicts contents) s1 s2) → IfOk r
    (λ e. ReadAsFar (λ contents. JudgeNoFurther (contents topology) (contents script) (contents verdicts)) s0 s2)
far_judged topology script verdicts text s0 s1 s2 (Err e) same is one two = tt
far_judged topology script verdicts text s0 s1 s2 (Ok e) same is one two =
    by_told s0.contents is one
    (subst (λ (told : Option Contents). ReadAsFarOfContents (λ contents given ahead. given ≤ size_of verdicts contents)
    told s1 s2) same two)
  where
    by_told : (told : Option Contents) → IsDue told (run_on topology script) (end.Done, text)
        → ReadAsFarOfContents (λ contents. RunNoFurther (contents topology) (contents script)) told s0 s1
        → ReadAsFarOfContents (λ contents given ahead. given ≤ size_of verdicts contents) told s1 s2
        → ReadAsFarOfContents (λ contents. JudgeNoFurther (contents topology) (contents script) (contents verdicts))
        told s0 s2
    by_told None is one two = tt
    by_told (Some contents) is (n, gave, far) (m, more, le) = (
      n + m,
      joined s0.given s1.given s2.given n m gave more,
      further_done (contents topology) (contents script) (contents verdicts) (run_on topology script contents) text n m
          _ is (within_run (contents topology) (contents script) n _ far) le,
    )

further_other : (topology script verdicts : Option Text) (e : End) (given ahead : ℕ) → e ≢ end.Done
    → RunNoFurther topology script given ahead → EndNoFurther e topology script verdicts given ahead
further_other topology script verdicts end.Done given ahead other far = absurd (other refl)
further_other topology script verdicts end.Differs given ahead other far = far
further_other topology script verdicts end.Usage given ahead other far = far
further_other topology script verdicts end.Topology given ahead other far = far
further_other topology script verdicts end.Script given ahead other far = far
further_other topology script verdicts end.NoEvent given ahead other far = far
further_other topology script verdicts end.TooLong given ahead other far = far

further_by : (topology script verdicts : Option Text) (due : Option Due) (e : End) (text : Text) (given ahead : ℕ)
    → due ≡ Some (e, text) → e ≢ end.Done → RunNoFurther topology script given ahead
    → DueNoFurther due topology script verdicts given ahead
further_by topology script verdicts due e text given ahead is other far =
    rw is (further_other topology script verdicts e given ahead other far)

-- after any other
far_left : (topology script verdicts : Text) (e : End) (text : Text) (s0 s1 : ShelfSeen) (r : Result End Fault)
    → e ≢ end.Done → IsDue s0.contents (run_on topology script) (e, text)
    → ReadAsFar (λ contents. RunNoFurther (contents topology) (contents script)) s0 s1
    → IfOk r (λ e. ReadAsFar (λ contents. JudgeNoFurther (contents topology) (contents script) (contents verdicts))
    s0 s1)
far_left topology script verdicts e text s0 s1 (Err f) other is one = tt
far_left topology script verdicts e text s0 s1 (Ok x) other is one = by_told s0.contents is one
  where
    by_told : (told : Option Contents) → IsDue told (run_on topology script) (e, text)
        → ReadAsFarOfContents (λ contents. RunNoFurther (contents topology) (contents script)) told s0 s1
        → ReadAsFarOfContents (λ contents. JudgeNoFurther (contents topology) (contents script) (contents verdicts))
        told s0 s1
    by_told None is one = tt
    by_told (Some contents) is (n, gave, far) = (
      n,
      gave,
      further_by (contents topology) (contents script) (contents verdicts) (run_on topology script contents) e text n _
          is other far,
    )

-- ---- names

abbrev two_names : (topology script name : Text) → Type 0
two_names topology script name = (name ≡ topology) ⊎ (name ≡ script)

run_names : (topology script verdicts : Text) (name : Text) → two_names topology script name
    → IsOneOf topology script verdicts name
run_names topology script verdicts name (inl is) = inl is
run_names topology script verdicts name (inr is) = inr (inl is)

asks_two : (topology script verdicts : Text) (before now : Option (List Text))
    → AsksOnly (two_names topology script) before now → AsksOnly (IsOneOf topology script verdicts) before now
asks_two topology script verdicts before now asks = asks_as (two_names topology script)
    (IsOneOf topology script verdicts) before now (run_names topology script verdicts) asks

asks_three : (topology script verdicts : Text) (before mid now : Option (List Text))
    → AsksOnly (two_names topology script) before mid → AsksFor verdicts mid now
    → AsksOnly (IsOneOf topology script verdicts) before now
asks_three topology script verdicts before mid now two one =
    asks_more (IsOneOf topology script verdicts) before mid now (asks_two topology script verdicts before mid two)
    (asks_as (λ name. name ≡ verdicts) (IsOneOf topology script verdicts) mid now (λ name is. inr (inr is)) one)

-- ---- how much was given: nothing is due before the end

-- by a run that a fault ended, and by one that came to an end of its own
given_cut : (all : Bool) (topology script verdicts : Text) (e : Fault) (s0 s1 : ShelfSeen) (m0 m1 : SinkSeen)
    → WroteBy e (run_task topology script).size (run_task topology script).text (run_task topology script).lines s0 s1
    m0 m1 → NoLineOf (judge_task all topology script verdicts) s0.contents s0.given s1.given
given_cut all topology script verdicts e s0 s1 m0 m1 wrote = by_told s0.contents wrote
  where
    by_told : (told : Option Contents) → WroteByIfTold e (run_task topology script).size
        (run_task topology script).text (run_task topology script).lines told s0 s1 m0 m1
        → NoLineOf (judge_task all topology script verdicts) told s0.given s1.given
    by_told None wrote = tt
    by_told (Some contents) wrote = (wrote.given, omega (arith, wrote.within), refl, refl, wrote.gave)

given_run : (all : Bool) (topology script verdicts : Text) (s0 s1 : ShelfSeen)
    → ReadAsFar (λ contents. RunNoFurther (contents topology) (contents script)) s0 s1
    → NoLineOf (judge_task all topology script verdicts) s0.contents s0.given s1.given
given_run all topology script verdicts s0 s1 read = by_told s0.contents read
  where
    by_told : (told : Option Contents)
        → ReadAsFarOfContents (λ contents. RunNoFurther (contents topology) (contents script)) told s0 s1
        → NoLineOf (judge_task all topology script verdicts) told s0.given s1.given
    by_told None read = tt
    by_told (Some contents) (n, gave, there) = (
      n,
      omega (arith, within_run (contents topology) (contents script) n _ there),
      refl,
      refl,
      gave,
    )

-- ---- together

-- the run was cut off
pub judge_cut : (all : Bool) (topology script verdicts : Text) (s0 s1 : ShelfSeen) (m0 m1 o : SinkSeen) (e : Fault)
    → (Rose m0.faults m1.faults → ⊥) → FileRun (run_task topology script) s0 s1 m0 m1 (Err e)
    → FileRun (judge_task all topology script verdicts) s0 s1 o o (Err e)
judge_cut all topology script verdicts s0 s1 m0 m1 o e never run = record {
  due_outcome = record {
    written = [];
    may_write = tt;
    ran = cut_run all s0.contents topology script verdicts _ _ _ _ _ (HasGained m0.held m1.held) o.held e never
        run.due_outcome.ran;
    alone = tt;
  };
  output_so_far = no_line_wrote (judge_task all topology script verdicts) e s0 s1 o o
      (given_cut all topology script verdicts e s0 s1 m0 m1 run.output_so_far) (gained_none e o.held);
  reads_no_further = tt;
  file_names = asks_two topology script verdicts s0.asked s1.asked run.file_names;
  read_limit = omega (arith, run.read_limit);
  read_pieces = run.read_pieces;
  ends = tt;
}

-- it came to an end before that of its script
left_ends : (all : Bool) (topology script verdicts : Text) (before now : ℕ) (e : End) → e ≢ end.Done
    → EndsAs (run_task topology script) before now e → EndsAs (judge_task all topology script verdicts) before now e
left_ends all topology script verdicts before now e other ends = record {
  usage_status = ends.usage_status;
  files_too_long = λ is. inl (ends.files_too_long is);
  whole_files = λ is. absurd (other is);
  differing_text = λ is. absurd (ends.differing_text is).0;
  absent_event = λ is. absurd (ends.absent_event is).0;
}

pub judge_left : (all : Bool) (topology script verdicts text : Text) (s0 s1 : ShelfSeen) (m0 m1 o0 o1 : SinkSeen)
    (e : End)
    (r : Result End Fault) → m0.held ≡ Some [] → m1.held ≡ Some text → e ≢ end.Done
    → FileRun (run_task topology script) s0 s1 m0 m1 (Ok e) → Ran (e, text_left e text) o0 o1 r
    → FileRun (judge_task all topology script verdicts) s0 s1 o0 o1 r
judge_left all topology script verdicts text s0 s1 m0 m1 o0 o1 e r none holds other run ran =
    let came = ran_to s0.contents (run_on topology script) _ _ _ s0.faults s1.faults m0.held m1.held e text none holds
    run.due_outcome.ran in
    record {
      due_outcome = record {
        written = [];
        may_write = tt;
        ran = ran_after s0.contents (judge_on all topology script verdicts) (e, text_left e text) s0.faults s1.faults
            o0.faults o1.faults (HasGained o0.held o1.held) r
            (left_is_due all s0.contents topology script verdicts e text came.1 other) came.0 ran;
        alone = tt;
      };
      output_so_far = no_line_ran (judge_task all topology script verdicts) (e, text_left e text) s0 s1 o0 o1 r
          (given_run all topology script verdicts s0 s1 run.reads_no_further) ran;
      reads_no_further = far_left topology script verdicts e text s0 s1 r other came.1 run.reads_no_further;
      file_names = asks_two topology script verdicts s0.asked s1.asked run.file_names;
      read_limit = omega (arith, run.read_limit);
      read_pieces = run.read_pieces;
      ends = ends_at (judge_task all topology script verdicts) s0.given s1.given (e, text_left e text) o0 o1 r ran
          (left_ends all topology script verdicts s0.given s1.given e other run.ends);
    }

-- it came to that end, and the text was judged
judged_ends : (all : Bool) (topology script verdicts text : Text) (a b c : ℕ) (r : Result End Fault)
    → GaveAtMost a 17825792 b
    → IfOk r (λ e. EndsAs (judged_task all text verdicts) b c e)
    → IfOk r (λ e. EndsAs (judge_task all topology script verdicts) a c e)
judged_ends all topology script verdicts text a b c (Err f) whole ends = tt
judged_ends all topology script verdicts text a b c (Ok e) whole ends = record {
  usage_status = ends.usage_status;
  files_too_long = λ is. inr (whole.0, whole.1, joined a b c whole.0 1073741825 whole.2 (ends.files_too_long is));
  whole_files = λ is. gave_both a b c 17825792 1073741824 whole (ends.whole_files is);
  differing_text = λ is. (tt, gave_both a b c 17825792 1073741824 whole (ends.differing_text is).1);
  absent_event = λ is. absurd (ends.absent_event is).0;
}

judged_wrote : (all : Bool) (topology script verdicts text : Text) (s0 s1 s2 : ShelfSeen) (o0 o1 : SinkSeen)
    (r : Result End Fault)
    → s1.contents ≡ s0.contents → ReadAsFar (λ contents. RunNoFurther (contents topology) (contents script)) s0 s1
    → IfErr r (λ e. WroteBy e (judged_task all text verdicts).size (judged_task all text verdicts).text
    (judged_task all text verdicts).lines s1 s2 o0 o1)
    → IfErr r (λ e. WroteBy e (judge_task all topology script verdicts).size
    (judge_task all topology script verdicts).text
    (judge_task all topology script verdicts).lines s0 s2 o0 o1)
judged_wrote all topology script verdicts text s0 s1 s2 o0 o1 (Ok e) same run wrote = tt
judged_wrote all topology script verdicts text s0 s1 s2 o0 o1 (Err e) same run wrote =
    by_told s0.contents run
    (subst (λ (told : Option Contents). WroteByIfTold e (judged_task all text verdicts).size
    (judged_task all text verdicts).text (judged_task all text verdicts).lines told s1 s2 o0 o1) same wrote)
  where
    by_told : (told : Option Contents)
        → ReadAsFarOfContents (λ contents. RunNoFurther (contents topology) (contents script)) told s0 s1
        → WroteByIfTold e (judged_task all text verdicts).size (judged_task all text verdicts).text
        (judged_task all text verdicts).lines told s1 s2 o0 o1
        → WroteByIfTold e (judge_task all topology script verdicts).size (judge_task all topology script verdicts).text
        (judge_task all topology script verdicts).lines told s0 s2 o0 o1
    by_told None run wrote = tt
    by_told (Some contents) (n, gave, there) wrote = record {
      given = n + wrote.given;
      ran = n + wrote.ran;
      within = omega (arith, within_run (contents topology) (contents script) n _ there, wrote.within);
      gave = joined s0.given s1.given s2.given n wrote.given gave wrote.gave;
      most = omega (arith, wrote.most);
      all_but = omega (arith, wrote.all_but);
      ahead = omega (arith, wrote.ahead);
      short = wrote.short;
      gained = wrote.gained;
    }

pub judge_ran : (all : Bool) (topology script verdicts text : Text) (s0 s1 s2 : ShelfSeen) (m0 m1 o0 o1 : SinkSeen)
    (e : End)
    (r : Result End Fault) → m0.held ≡ Some [] → m1.held ≡ Some text → e ≡ end.Done → s1.contents ≡ s0.contents
    → FileRun (run_task topology script) s0 s1 m0 m1 (Ok e) → FileRun (judged_task all text verdicts) s1 s2 o0 o1 r
    → FileRun (judge_task all topology script verdicts) s0 s2 o0 o1 r
judge_ran all topology script verdicts text s0 s1 s2 m0 m1 o0 o1 e r none holds done same run judged =
    let came = ran_to s0.contents (run_on topology script) _ _ _ s0.faults s1.faults m0.held m1.held e text none holds
    run.due_outcome.ran in
    let is = subst (λ (x : End). IsDue s0.contents (run_on topology script) (x, text)) done came.1 in
    record {
      due_outcome = record {
        written = [];
        may_write = tt;
        ran = redue s0.contents (λ contents. option_map (judgement_due all text) (contents verdicts))
            (judge_on all topology script verdicts) _ _ _ _ r
            (judged_same all s0.contents topology script verdicts text is)
            (later s0.contents s1.contents (λ contents. option_map (judgement_due all text) (contents verdicts))
            s0.faults
            s1.faults s2.faults o0.faults o1.faults (HasGained o0.held o1.held) r same came.0 judged.due_outcome.ran);
        alone = tt;
      };
      output_so_far = judged_wrote all topology script verdicts text s0 s1 s2 o0 o1 r same run.reads_no_further
          judged.output_so_far;
      reads_no_further = far_judged topology script verdicts text s0 s1 s2 r same is run.reads_no_further
          judged.reads_no_further;
      file_names = asks_three topology script verdicts s0.asked s1.asked s2.asked run.file_names judged.file_names;
      read_limit = omega (arith, run.read_limit, judged.read_limit);
      read_pieces = omega (arith, run.read_pieces, judged.read_pieces);
      ends = judged_ends all topology script verdicts text s0.given s1.given s2.given r (run.ends.whole_files done)
          judged.ends;
    }
