-- A topology that was read, and what runs after it: what was loaded is what the whole file gives, and what is due then
-- is the script's. One byte more is read than counts: if it comes, the file is too long; else what was read is the
-- whole file. Given bytes add up: within the topology's length no line is due, and the bytes after it are the script's,
-- so a fault there leaves what it leaves of the script alone.
use Rattle.std.proofs.Common.{◌≡◌, ◌≢◌, ◌≤◌, ◌<◌, ◌+◌, ◌-◌, ℕ, [], length, length-take, take, true, false, Bool, Option}
use Rattle.std.proofs.Common.{Some, None, Result, Ok, Err, refl, sym, ap, inl, inr, subst, ◌∙◌, arith, option_map}
use Rattle.std.specs.Prelude.{IfErr, IfOk, nat_lt, if◌then◌else◌}
use Rattle.std.proofs.lemmas.Bool.Decides.{nat_tests}
use Rattle.std.proofs.lemmas.List.{length-take-le, take_all}
use Rattle.cli_files.specs.Outside.{Contents, ShelfSeen, SinkSeen}
use Rattle.ide_types.specs.declared.plan.Plan.{Plan}
use Rattle.toml_walk.specs.declared.fault.PlanFault.{PlanFault}
use Rattle.topology.specs.Meaning.{plan_of}
use Rattle.file_runs.specs.FileRuns.{EndsAs, FileRun, FileTask}
use Rattle.file_runs.specs.Gain.{Text, HasGained}
use Rattle.file_runs.specs.Front.{FrontIn, FrontIfTold, Gave, GaveAtMost, GaveIfTold, UnreadCause, bytes_of}
use Rattle.file_runs.specs.Gathering.{HasGainedAtFault, NoFurther, ReadAsFar, ReadAsFarOfContents, WroteByIfTold}
use Rattle.file_runs.specs.Gathering.{WroteByLines, WroteEnded, WroteEndedIfTold, open_line}
use Rattle.file_runs.specs.Outcome.{Due, Ran}
use Rattle.file_runs.specs.declared.ends.End.{End}
use Rattle.file_runs.specs.declared.ends.Fault.{Fault}
use Rattle.file_runs.proofs.FileNames.{asks_both}
use Rattle.file_runs.proofs.FileRuns.{IsFirst, IsRead, Starts, ends_done, ends_long, ends_refused, front_cut}
use Rattle.file_runs.proofs.FileRuns.{front_first}
use Rattle.file_runs.proofs.FileRuns.{front_ran, gave_both, within_file}
use Rattle.file_runs.proofs.WholeFiles.{IsDue, SameDue, ran_after, redue, stopped}
use Rattle.file_runs.proofs.Joins.{joined, later}
use Rattle.script_runs.specs.declared.topologies.Loaded.{Loaded}
use Rattle.script_runs.specs.declared.topologies.Loaded.TheVariants.{Sound, Faulty, Long}
use Rattle.script_runs.specs.Loading.{GaveAllOf, Loads, IsLoadedInFile, IsLoadedIfTold, topology_limit}
use Rattle.script_runs.specs.Loading.{loaded_within_limit}
use Rattle.script_runs.specs.Reads.{LoadedNoFurther, RunNoFurther, ScriptGoesOn}
use Rattle.script_runs.specs.Script.{due_of_files}
use Rattle.script_runs.specs.SoFar.{files_so_far, loaded_so_far, script_given}
use Rattle.script_runs.specs.Tasks.{check_task, on_plan_task, script_task}
use Rattle.script_runs.specs.Topologies.{by_plan, check_due, loaded_topology, migrated_as_text, migrate_due, report}

-- one byte more than those that count tells what the whole file gives
same_loaded : {L : Type 0} (long : L) (by : Text → L) (whole : Text) (b : Bool) → nat_lt topology_limit (length whole)
    ≡ b → loaded_within_limit long by (take 1048577 whole) ≡ loaded_within_limit long by whole
same_loaded long by whole true over =
    let longer : nat_lt topology_limit (length (take 1048577 whole))
    ≡ true = let n = length-take-le 1048577 whole (grind (arith, nat_tests)) in grind (arith, nat_tests) in
    rw (over, longer) refl
same_loaded long by whole false over = ap (loaded_within_limit long by)
    (take_all 1048577 whole (grind (arith, nat_tests)))

front_in : {L : Type 0} (long : L) (by : Text → L) (file : Option Text) (read : Text) (l : L)
    → FrontIn 1048577 file read → l ≡ loaded_within_limit long by read
    → IsLoadedInFile (loaded_within_limit long by) file l
front_in long by None read l is e = absurd is
front_in long by (Some whole) read l is e = e ∙ ap (loaded_within_limit long by) is ∙ same_loaded long by whole
    (nat_lt topology_limit (length whole)) refl

front_of : {L : Type 0} (long : L) (by : Text → L) (told : Option Contents) (name read : Text) (l : L)
    → FrontIfTold told name 1048577 read → l ≡ loaded_within_limit long by read
    → IsLoadedIfTold (loaded_within_limit long by) told name l
front_of long by None name read l is e = tt
front_of long by (Some contents) name read l is e = front_in long by (contents name) read l is e

pub loads_front : {L : Type 0} (long : L) (by : Text → L) (told : Option Contents) (name read : Text)
    (r : Result L Fault) → FrontIfTold told name 1048577 read → IfOk r (λ l. l ≡ loaded_within_limit long by read)
    → Loads (loaded_within_limit long by) told name r
loads_front long by told name read (Ok l) is e = front_of long by told name read l is e
loads_front long by told name read (Err f) is e = tt

-- ---- how much was given

pub gave_long : {L : Type 0} (long : L) (r : Result L Fault) (n before now : ℕ) → n ≤ 1048577 → Gave before n now
    → IfOk r (λ l. l ≡ long → 1048576 < n) → IfOk r (λ l. l ≡ long → Gave before 1048577 now)
gave_long long (Ok l) n before now most gave over = λ is. let lt : 1048576 < n = over is in let same : n
    ≡ 1048577 = omega arith in rw same at gave
gave_long long (Err f) n before now most gave over = over

pub gave_few : {L : Type 0} (long : L) (r : Result L Fault) (n before now : ℕ) → Gave before n now
    → IfOk r (λ l. l ≢ long → n ≤ 1048576) → IfOk r (λ l. l ≢ long → GaveAtMost before 1048576 now)
gave_few long (Ok l) n before now gave few = λ other. (n, few other, gave)
gave_few long (Err f) n before now gave few = few

pub sound_is_short : (plan : Plan) → Sound plan ≢ Long
sound_is_short plan e = cc

-- what is due of what was loaded
due_in : {L : Type 0} (by : Text → L) (due : L → Due) (file : Option Text) (l : L) → IsLoadedInFile by file l
    → option_map (λ t. due (by t)) file ≡ Some (due l)
due_in by due None l is = absurd is
due_in by due (Some bytes) l is = ap (λ x. Some (due x)) (sym is)

pub due_loaded : {L : Type 0} (by : Text → L) (due : L → Due) (told : Option Contents) (name : Text) (l : L)
    → IsLoadedIfTold by told name l → IsDue told (λ contents. option_map (λ t. due (by t)) (contents name)) (due l)
due_loaded by due None name l is = tt
due_loaded by due (Some contents) name l is = due_in by due (contents name) l is

-- ---- what is due, two ways

due_there : (due : Plan → Text → Due) (topology script : Option Text) (plan : Plan)
    → IsLoadedInFile loaded_topology topology (Sound plan) → option_map (due plan) script
    ≡ due_of_files due topology script
due_there due None script plan is = absurd is
due_there due (Some bytes) script plan is = rw (← is) refl

-- once a topology is loaded, what is due is the script's
pub due_behind_load : (due : Plan → Text → Due) (told : Option Contents) (topology script : Text) (plan : Plan)
    → IsLoadedIfTold loaded_topology told topology (Sound plan)
    → SameDue told (λ contents. option_map (due plan) (contents script))
    (λ contents. due_of_files due (contents topology) (contents script))
due_behind_load due None topology script plan is = tt
due_behind_load due (Some contents) topology script plan is =
    due_there due (contents topology) (contents script) plan is

-- ---- if a read fails

gave_all_in : (file : Option Text) (read : Text) (before now : ℕ) → FrontIn 1048577 file read → length read ≤ 1048576
    → Gave before (length read) now → Gave before (length (bytes_of file)) now
gave_all_in None read before now is few gave = absurd is
gave_all_in (Some file) read before now is few gave =
    let same : length read ≡ length file = omega (arith, ap length is, length-take 1048577 file) in
    let P : ℕ → Type 0 = λ n. Gave before n now in
    subst P same gave

gave_all_of : (told : Option Contents) (name read : Text) (before now : ℕ) → FrontIfTold told name 1048577 read
    → length read ≤ 1048576 → Gave before (length read) now → GaveAllOf told name before now
gave_all_of None name read before now is few gave = tt
gave_all_of (Some contents) name read before now is few gave = gave_all_in (contents name) read before now is few gave

pub gave_all : {L : Type 0} (long : L) (told : Option Contents) (name read : Text) (r : Result L Fault) (before now : ℕ)
    → FrontIfTold told name 1048577 read → Gave before (length read) now
    → IfOk r (λ l. l ≢ long → length read ≤ 1048576) → IfOk r (λ l. l ≢ long → GaveAllOf told name before now)
gave_all long told name read (Ok l) before now is gave few = λ other. gave_all_of told name read before now is
    (few other) gave
gave_all long told name read (Err e) before now is gave few = few

-- of no bytes of a script no text is due
abbrev pub IsNoneAtFirst : (Plan → Text → Text) → Type 0
IsNoneAtFirst text = (plan : Plan) → text plan [] ≡ []

pub script_starts : (due : Plan → Text → Due) (text : Plan → Text → Text) (tells : Type 0) (plan : Plan)
    (script : Text) → IsNoneAtFirst text → Starts (on_plan_task due text tells plan script)
script_starts due text tells plan script none = record {
  text = λ contents. none plan;
  lines = λ contents. refl;
  fails = λ told. tt;
}

no_line : (text : Plan → Text → Text) → IsNoneAtFirst text → (loaded : Loaded) → loaded_so_far text loaded [] ≡ []
no_line text none (Sound plan) = none plan
no_line text none (Faulty fault) = refl
no_line text none Long = refl

-- while the topology is read
pub none_so_far : (text : Plan → Text → Text) → IsNoneAtFirst text → (topology script : Option Text) (n : ℕ)
    → n ≤ length (bytes_of topology)
    → (files_so_far text topology script n ≡ []) × (script_given topology script n ≡ [])
none_so_far text none None script n le = (refl, refl)
none_so_far text none (Some file) script n le =
    let zero : n - length file ≡ 0 = omega arith in
    let first : script_given (Some file) script n ≡ [] = ap (λ (k : ℕ). take k (bytes_of script)) zero in
    (ap (loaded_so_far text (loaded_topology file)) first ∙ no_line text none (loaded_topology file), first)

pub files_start : (due : Plan → Text → Due) (text : Plan → Text → Text) (tells : Type 0) (topology script : Text)
    → IsNoneAtFirst text → Starts (script_task due text tells topology script)
files_start due text tells topology script none = record {
  text = λ contents. (none_so_far text none (contents topology) (contents script) 0 (omega arith)).0;
  lines = λ contents. (none_so_far text none (contents topology) (contents script) 0 (omega arith)).1;
  fails = λ told. tt;
}

-- of the script after a topology that was wholly read
run_ended_in : (due : Plan → Text → Text) (e : Fault) (topology script : Option Text) (plan : Plan)
    (s0 s1 s2 : ShelfSeen) (o0 o1 : SinkSeen) → IsLoadedInFile loaded_topology topology (Sound plan)
    → Gave s0.given (length (bytes_of topology)) s1.given
    → WroteByLines e (length (bytes_of script)) (λ n. due plan (take n (bytes_of script)))
    (λ n. take n (bytes_of script)) s1 s2 o0 o1
    → WroteByLines e (length (bytes_of topology) + length (bytes_of script)) (λ n. files_so_far due topology script n)
    (λ n. script_given topology script n) s0 s2 o0 o1
run_ended_in due e None script plan s0 s1 s2 o0 o1 is all wrote = absurd is
run_ended_in due e (Some file) script plan s0 s1 s2 o0 o1 is all wrote =
    let ran = wrote.ran in
    let rest : ran ≡ (length file + ran) - length file = omega arith in
    let bytes : take ran (bytes_of script) ≡ script_given (Some file) script (length file + ran) = ap
    (λ (k : ℕ). take k (bytes_of script)) rest in
    let text : due plan (take ran (bytes_of script)) ≡ files_so_far due (Some file) script (length file + ran) =
    ap (λ (l : Loaded). loaded_so_far due l (take ran (bytes_of script))) is
    ∙ ap (loaded_so_far due (loaded_topology file)) bytes in
    record {
      given = length file + wrote.given;
      ran = length file + ran;
      within = omega (arith, wrote.within);
      gave = joined s0.given s1.given s2.given (length file) wrote.given all wrote.gave;
      most = omega (arith, wrote.most);
      all_but = omega (arith, wrote.all_but);
      ahead = omega (arith, wrote.ahead);
      short = subst (λ (t : Text). length (open_line t) ≤ 20000) bytes wrote.short;
      gained = subst (λ (t : Text). HasGainedAtFault e o0.held o1.held t) text wrote.gained;
    }

run_ended : (due : Plan → Text → Due) (text : Plan → Text → Text) (tells : Type 0) (topology script : Text)
    (plan : Plan) (s0 s1 s2 : ShelfSeen) (o0 o1 : SinkSeen) (r : Result End Fault) → s1.contents ≡ s0.contents
    → IsLoadedIfTold loaded_topology s0.contents topology (Sound plan)
    → GaveAllOf s0.contents topology s0.given s1.given
    → IfErr r (λ e. WroteEnded e (text plan) script s1 s2 o0 o1)
    → IfErr r (λ e. WroteByIfTold e (script_task due text tells topology script).size
    (script_task due text tells topology script).text (script_task due text tells topology script).lines s0.contents s0
    s2 o0 o1)
run_ended due text tells topology script plan s0 s1 s2 o0 o1 (Ok e) same is all wrote = tt
run_ended due text tells topology script plan s0 s1 s2 o0 o1 (Err e) same is all wrote = by_told s0.contents is all
    (subst (λ (told : Option Contents). WroteEndedIfTold e (text plan) told script s1 s2 o0 o1) same wrote)
  where
    by_told : (told : Option Contents) → IsLoadedIfTold loaded_topology told topology (Sound plan)
        → GaveAllOf told topology s0.given s1.given → WroteEndedIfTold e (text plan) told script s1 s2 o0 o1
        → WroteByIfTold e (script_task due text tells topology script).size
        (script_task due text tells topology script).text (script_task due text tells topology script).lines told s0 s2
        o0 o1
    by_told None is all wrote = tt
    by_told (Some contents) is all wrote =
        run_ended_in text e (contents topology) (contents script) plan s0 s1 s2 o0 o1 is all wrote

-- ---- how far is read

behind_in : (topology script : Option Text) (plan : Plan) (given latest : ℕ)
    → IsLoadedInFile loaded_topology topology (Sound plan)
    → NoFurther (ScriptGoesOn plan) (bytes_of script) given (given - latest)
    → RunNoFurther topology script (length (bytes_of topology) + given) ((length (bytes_of topology) + given) - latest)
behind_in None script plan given latest is far = absurd is
behind_in (Some file) script plan given latest is far =
    let all : given ≡ (length file + given) - length file = omega arith in
    let ahead : given - latest ≡ ((length file + given) - latest) - length file = omega arith in
    let P : ℕ → ℕ → Type 0 = NoFurther (ScriptGoesOn plan) (bytes_of script) in
    let there : LoadedNoFurther (Sound plan) file (bytes_of script) (length file + given)
    ((length file + given) - latest) =
    subst (λ (k : ℕ). P k (((length file + given) - latest) - length file)) all (subst (P given) ahead far) in
    subst (λ (l : Loaded). LoadedNoFurther l file (bytes_of script) (length file + given)
    ((length file + given) - latest)) is there

far_behind : (topology script : Text) (plan : Plan) (s0 s1 s2 : ShelfSeen) (r : Result End Fault) → s1.contents
    ≡ s0.contents → IsLoadedIfTold loaded_topology s0.contents topology (Sound plan)
    → GaveAllOf s0.contents topology s0.given s1.given
    → IfOk r (λ e. ReadAsFar (λ contents. NoFurther (ScriptGoesOn plan) (bytes_of (contents script))) s1 s2)
    → IfOk r (λ e. ReadAsFar (λ contents. RunNoFurther (contents topology) (contents script)) s0 s2)
far_behind topology script plan s0 s1 s2 (Err e) same is all far = tt
far_behind topology script plan s0 s1 s2 (Ok e) same is all far =
    by_told s0.contents is all
    (subst (λ (told : Option Contents). ReadAsFarOfContents
    (λ contents. NoFurther (ScriptGoesOn plan) (bytes_of (contents script))) told s1 s2) same far)
  where
    by_told : (told : Option Contents) → IsLoadedIfTold loaded_topology told topology (Sound plan)
        → GaveAllOf told topology s0.given s1.given → ReadAsFarOfContents
        (λ contents. NoFurther (ScriptGoesOn plan) (bytes_of (contents script))) told s1 s2
        → ReadAsFarOfContents (λ contents. RunNoFurther (contents topology) (contents script)) told s0 s2
    by_told None is all far = tt
    by_told (Some contents) is all (n, gave, far) = (
      length (bytes_of (contents topology)) + n,
      joined s0.given s1.given s2.given (length (bytes_of (contents topology))) n all gave,
      behind_in (contents topology) (contents script) plan n s2.latest is far,
    )

-- ---- a script after a sound topology

script_ends : (due : Plan → Text → Due) (text : Plan → Text → Text) (tells : Type 0) (topology script : Text)
    (plan : Plan) (a b c : ℕ) (r : Result End Fault) → GaveAtMost a 1048576 b
    → IfOk r (λ e. EndsAs (on_plan_task due text tells plan script) b c e)
    → IfOk r (λ e. EndsAs (script_task due text tells topology script) a c e)
script_ends due text tells topology script plan a b c (Err f) few ends = tt
script_ends due text tells topology script plan a b c (Ok e) few ends = record {
  usage_status = ends.usage_status;
  files_too_long = λ is. inr (few.0, few.1, joined a b c few.0 16777217 few.2 (ends.files_too_long is));
  whole_files = λ is. gave_both a b c 1048576 16777216 few (ends.whole_files is);
  differing_text = λ is. absurd (ends.differing_text is).0;
  absent_event = λ is.
      ((ends.absent_event is).0, gave_both a b c 1048576 16777216 few (ends.absent_event is).1);
}

pub script_ran : (due : Plan → Text → Due) (text : Plan → Text → Text) (tells : Type 0) (topology script : Text)
    (plan : Plan) (s0 s1 s2 : ShelfSeen) (o0 o1 : SinkSeen) (r : Result End Fault) → s1.contents ≡ s0.contents
    → s1.faults ≡ s0.faults → IsLoadedIfTold loaded_topology s0.contents topology (Sound plan)
    → GaveAllOf s0.contents topology s0.given s1.given → GaveAtMost s0.given 1048576 s1.given
    → IsRead 1048577 topology s0 s1
    → FileRun (on_plan_task due text tells plan script) s1 s2 o0 o1 r
    → FileRun (script_task due text tells topology script) s0 s2 o0 o1 r
script_ran due text tells topology script plan s0 s1 s2 o0 o1 r same quiet is all few read ran = record {
  due_outcome = record {
    written = [];
    may_write = tt;
    ran = redue s0.contents (λ contents. option_map (due plan) (contents script))
        (λ contents. due_of_files due (contents topology) (contents script)) _ _ _ _ r
        (due_behind_load due s0.contents topology script plan is)
        (later s0.contents s1.contents (λ contents. option_map (due plan) (contents script)) s0.faults s1.faults
        s2.faults o0.faults o1.faults (HasGained o0.held o1.held) r same quiet ran.due_outcome.ran);
    alone = tt;
  };
  output_so_far = run_ended due text tells topology script plan s0 s1 s2 o0 o1 r same is all ran.output_so_far;
  reads_no_further = far_behind topology script plan s0 s1 s2 r same is all ran.reads_no_further;
  file_names = asks_both topology script s0.asked s1.asked s2.asked read.names ran.file_names;
  read_limit = omega (arith, read.limit, ran.read_limit);
  read_pieces = omega (arith, read.pieces, ran.read_pieces);
  ends = script_ends due text tells topology script plan s0.given s1.given s2.given r few ran.ends;
}

-- ---- the first file, a topology

pub script_first : (due : Plan → Text → Due) (text : Plan → Text → Text) (tells : Type 0) (topology script : Text)
    → IsNoneAtFirst text → IsFirst (script_task due text tells topology script) 1048577 topology
script_first due text tells topology script none = record {
  none = λ contents n le. none_so_far text none (contents topology) (contents script) n le;
  within = λ contents. omega arith;
  named = λ name is. inl is;
  limit = omega arith;
}

-- ---- a script on a topology that is no plan, or could not be read

-- what is said of a topology, and what it tells of how much was given
topology_ends : (task : FileTask) (l : Loaded) (before now : ℕ)
    → ((plan : Plan) → l ≡ Sound plan → GaveAtMost before task.counted now)
    → (l ≡ Long → task.gave_past before now) → EndsAs task before now (report l).0
topology_ends task (Sound plan) before now few long = ends_done task before now (few plan refl)
topology_ends task (Faulty fault) before now few long = ends_refused task before now
topology_ends task Long before now few long = ends_long task before now (long refl)

abbrev pub IsNoPlan : Loaded → Type 0
IsNoPlan (Sound plan) = ⊥
IsNoPlan (Faulty fault) = Unit {0}
IsNoPlan Long = Unit {0}

alone : (l : Loaded) (topology script : Text) (given ahead : ℕ) → IsNoPlan l → given ≤ length topology
    → LoadedNoFurther l topology script given ahead
alone (Sound plan) topology script given ahead none le = absurd none
alone (Faulty fault) topology script given ahead none le = le
alone Long topology script given ahead none le = le

alone_in : (topology script : Option Text) (l : Loaded) (given ahead : ℕ) → IsNoPlan l
    → IsLoadedInFile loaded_topology topology l
    → given ≤ length (bytes_of topology) → RunNoFurther topology script given ahead
alone_in None script l given ahead none is le = absurd is
alone_in (Some file) script l given ahead none is le = subst
    (λ (l : Loaded). LoadedNoFurther l file (bytes_of script) given ahead) is
    (alone l file (bytes_of script) given ahead none le)

due_there_in : (due : Plan → Text → Due) (topology script : Option Text) (l : Loaded) → IsNoPlan l
    → IsLoadedInFile loaded_topology topology l → due_of_files due topology script ≡ Some (report l)
due_there_in due None script l none is = absurd is
due_there_in due (Some file) script (Sound plan) none is = absurd none
due_there_in due (Some file) script (Faulty fault) none is = rw (← is) refl
due_there_in due (Some file) script Long none is = rw (← is) refl

sound_none : (l : Loaded) (plan : Plan) → IsNoPlan l → l ≡ Sound plan → ⊥
sound_none (Sound plan) other none is = none
sound_none (Faulty fault) other none is = cc
sound_none Long other none is = cc

pub no_plan_ran : (due : Plan → Text → Due) (text : Plan → Text → Text) (tells : Type 0) (topology script : Text)
    → IsNoneAtFirst text → (l : Loaded) (s0 s1 : ShelfSeen) (o0 o1 : SinkSeen) (r : Result End Fault) → IsNoPlan l
    → IsLoadedIfTold loaded_topology s0.contents topology l → s1.faults ≡ s0.faults → IsRead 1048577 topology s0 s1
    → (l ≡ Long → Gave s0.given 1048577 s1.given) → Ran (report l) o0 o1 r
    → FileRun (script_task due text tells topology script) s0 s1 o0 o1 r
no_plan_ran due text tells topology script first l s0 s1 o0 o1 r none is quiet read long ran =
    front_ran (script_task due text tells topology script) 1048577 topology
    (script_first due text tells topology script first) s0 s1 o0 o1 (report l) r read
    (record {
      written = [];
      may_write = tt;
      ran = ran_after s0.contents (λ contents. due_of_files due (contents topology) (contents script)) (report l)
          s0.faults s1.faults o0.faults o1.faults (HasGained o0.held o1.held) r (due_of s0.contents is) quiet ran;
      alone = tt;
    }) (far s0.contents is read.within)
    (topology_ends (script_task due text tells topology script) l s0.given s1.given
    (λ plan sound. absurd (sound_none l plan none sound)) (λ is_long. inl (long is_long))) ran
  where
    due_of : (told : Option Contents) → IsLoadedIfTold loaded_topology told topology l
        → IsDue told (λ contents. due_of_files due (contents topology) (contents script)) (report l)
    due_of None is = tt
    due_of (Some contents) is = due_there_in due (contents topology) (contents script) l none is

    far : (told : Option Contents) → IsLoadedIfTold loaded_topology told topology l
        → GaveIfTold told topology s0.given s1.given
        → ReadAsFarOfContents (λ contents. RunNoFurther (contents topology) (contents script)) told s0 s1
    far None is gave = tt
    far (Some contents) is (n, le, gave) =
        (n, gave, alone_in (contents topology) (contents script) l n (n - s1.latest) none is le)

pub script_cut : (due : Plan → Text → Due) (text : Plan → Text → Text) (tells : Type 0) (topology script : Text)
    → IsNoneAtFirst text → (s0 s1 : ShelfSeen) (o : SinkSeen) (e : Fault) → IsRead 1048577 topology s0 s1
    → UnreadCause s0.faults s1.faults s0.contents topology e
    → FileRun (script_task due text tells topology script) s0 s1 o o (Err e)
script_cut due text tells topology script first s0 s1 o e read cause =
    front_cut (script_task due text tells topology script) 1048577 topology
    (script_first due text tells topology script first) s0 s1 o e read
    (record {
      written = [];
      may_write = tt;
      ran = stopped s0.contents (λ contents. due_of_files due (contents topology) (contents script)) topology
          s0.faults s1.faults _ _ o.held e
          (λ contents lacks. rw lacks refl) cause;
      alone = tt;
    })

-- ---- a topology that is checked

pub checked : (topology : Text) (l : Loaded) (s0 s1 : ShelfSeen) (o0 o1 : SinkSeen) (r : Result End Fault)
    → IsLoadedIfTold loaded_topology s0.contents topology l → s1.faults ≡ s0.faults → IsRead 1048577 topology s0 s1
    → (l ≡ Long → Gave s0.given 1048577 s1.given) → (l ≢ Long → GaveAtMost s0.given 1048576 s1.given)
    → Ran (report l) o0 o1 r → FileRun (check_task topology) s0 s1 o0 o1 r
checked topology l s0 s1 o0 o1 r is quiet read long few ran =
    front_ran (check_task topology) 1048577 topology (front_first _ _ _ _ topology) s0 s1 o0 o1 (report l) r read
    (record {
      written = [];
      may_write = tt;
      ran = ran_after s0.contents (λ contents. option_map check_due (contents topology)) (report l) s0.faults s1.faults
          o0.faults o1.faults (HasGained o0.held o1.held) r
          (due_loaded loaded_topology report s0.contents topology l is) quiet ran;
      alone = tt;
    }) (within_file s0 s1 topology read.within)
    (topology_ends (check_task topology) l s0.given s1.given
    (λ plan sound. few (λ is_long. sound_is_short plan (sym sound ∙ is_long))) long) ran

pub check_cut : (topology : Text) (s0 s1 : ShelfSeen) (o : SinkSeen) (e : Fault) → IsRead 1048577 topology s0 s1
    → UnreadCause s0.faults s1.faults s0.contents topology e → FileRun (check_task topology) s0 s1 o o (Err e)
check_cut topology s0 s1 o e read cause =
    front_cut (check_task topology) 1048577 topology (front_first _ _ _ _ topology) s0 s1 o e read
    (record {
      written = [];
      may_write = tt;
      ran = stopped s0.contents (λ contents. option_map check_due (contents topology)) topology s0.faults s1.faults
          _ _ o.held e (λ contents lacks. ap (option_map check_due) lacks) cause;
      alone = tt;
    })

-- ---- and one that is migrated

-- by how many of its first bytes were read
pub migrated_ends : (task : FileTask) (text front : Text) (before now : ℕ) → task.counted ≡ 1048576
    → (Gave before 1048577 now → task.gave_past before now) → length front ≤ 1048577
    → Gave before (length front) now → EndsAs task before now (migrate_due text front).0
migrated_ends task text front before now counted past most gave =
    by_size (nat_lt topology_limit (length front)) refl
  where
    few : length front ≤ 1048576 → GaveAtMost before task.counted now
    few le = (length front, omega (arith, le, counted), gave)

    by_read : (r : Result Plan PlanFault) → length front ≤ 1048576
        → EndsAs task before now (migrated_as_text text (by_plan r)).0
    by_read (Ok plan) le = ends_done task before now (few le)
    by_read (Err fault) le = ends_refused task before now

    by_size : (b : Bool) → nat_lt topology_limit (length front) ≡ b
        → EndsAs task before now (migrated_as_text text (if b then Long else by_plan (plan_of front))).0
    by_size true is =
        let over : 1048576 < length front = grind (arith, nat_tests) in
        let all : length front ≡ 1048577 = omega (arith, over, most) in
        ends_long task before now (past (subst (λ (n : ℕ). Gave before n now) all gave))
    by_size false is = by_read (plan_of front) (grind (arith, nat_tests))
