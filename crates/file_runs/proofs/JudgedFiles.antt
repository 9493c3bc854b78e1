-- A file that is judged: its first bytes, one more than those that count, give what the whole file gives.
use Rattle.std.proofs.Common.{◌≡◌, ◌≢◌, ◌≤◌, ◌<◌, ◌∙◌, ℕ, [], length, take, true, false, Bool, Option, Some, None}
use Rattle.std.proofs.Common.{Result, Ok, Err, refl, sym, subst, ap, arith, option_map}
use Rattle.std.specs.Prelude.{IfOk, if◌then◌else◌, nat_lt}
use Rattle.std.proofs.lemmas.Bool.Decides.{nat_tests}
use Rattle.std.proofs.lemmas.List.{length-take-le, take_all}
use Rattle.cli_files.specs.Outside.{Contents, ShelfSeen, SinkSeen}
use Rattle.file_runs.specs.declared.ends.End.{End}
use Rattle.file_runs.specs.declared.ends.End.TheVariants as end
use Rattle.file_runs.specs.declared.ends.Fault.{Fault}
use Rattle.file_runs.specs.FileRuns.{EndsAs, FileRun, judged_task}
use Rattle.file_runs.specs.Front.{FrontIn, FrontIfTold, Gave, GaveAtMost, UnreadCause}
use Rattle.file_runs.specs.Gain.{Text, HasGained}
use Rattle.file_runs.specs.Judging.{Differs, Finding, Same, finding_due, first_finding, judgement_due, verdicts_limit}
use Rattle.file_runs.specs.Outcome.{Due, Ran}
use Rattle.file_runs.proofs.FileRuns.{IsRead, ends_done, ends_long, front_cut, front_first, front_ran, within_file}
use Rattle.file_runs.proofs.WholeFiles.{IsDue, ran_after, stopped}

-- one byte more than those that count tells what the whole file gives
same_judged : (all : Bool) (due whole : Text) (b : Bool) → nat_lt verdicts_limit (length whole) ≡ b
    → judgement_due all due (take 1073741825 whole) ≡ judgement_due all due whole
same_judged all due whole true over =
    let longer : nat_lt verdicts_limit (length (take 1073741825 whole))
    ≡ true = let n = length-take-le 1073741825 whole (grind (arith, nat_tests)) in grind (arith, nat_tests) in
    rw (over, longer) refl
same_judged all due whole false over = ap (judgement_due all due) (take_all 1073741825 whole (grind (arith, nat_tests)))

front_in : (all : Bool) (due : Text) (file : Option Text) (read : Text) → FrontIn 1073741825 file read
    → option_map (judgement_due all due) file ≡ Some (judgement_due all due read)
front_in all due None read is = absurd is
front_in all due (Some whole) read is = ap (λ (d : Due). Some d)
    (sym (ap (judgement_due all due) is ∙ same_judged all due whole (nat_lt verdicts_limit (length whole)) refl))

pub judged_front : (all : Bool) (due : Text) (told : Option Contents) (name read : Text)
    → FrontIfTold told name 1073741825 read
    → IsDue told (λ contents. option_map (judgement_due all due) (contents name)) (judgement_due all due read)
judged_front all due None name read is = tt
judged_front all due (Some contents) name read is = front_in all due (contents name) read is

-- ---- how it ends

judged_ends : (all : Bool) (due name front : Text) (before now : ℕ) → length front ≤ 1073741825
    → Gave before (length front) now
    → EndsAs (judged_task all due name) before now (judgement_due all due front).0
judged_ends all due name front before now most gave = by_size (nat_lt verdicts_limit (length front)) refl
  where
    by_finding : (f : Finding) → length front ≤ 1073741824 → EndsAs (judged_task all due name) before now
        (finding_due all due front f).0
    by_finding (Same lines) le = ends_done (judged_task all due name) before now (length front, le, gave)
    by_finding (Differs number line) le = record {
      usage_status = λ is. absurd cc;
      files_too_long = λ is. absurd cc;
      whole_files = λ is. absurd cc;
      differing_text = λ is. (tt, (length front, le, gave));
      absent_event = λ is. absurd cc;
    }

    by_size : (b : Bool) → nat_lt verdicts_limit (length front) ≡ b → EndsAs (judged_task all due name) before now
        (if b then (end.TooLong, []) else finding_due all due front (first_finding due front)).0
    by_size true is =
        let over : 1073741824 < length front = grind (arith, nat_tests) in
        let whole : length front ≡ 1073741825 = omega (arith, over, most) in
        ends_long (judged_task all due name) before now (subst (λ (n : ℕ). Gave before n now) whole gave)
    by_size false is = by_finding (first_finding due front) (grind (arith, nat_tests))

-- no more was given than counts, unless it is too long
pub gave_few : (r : Result End Fault) (n before now : ℕ) → Gave before n now
    → IfOk r (λ e. e ≢ end.TooLong → n ≤ 1073741824) → IfOk r (λ e. e ≢ end.TooLong → GaveAtMost before 1073741824 now)
gave_few (Ok e) n before now gave few = λ other. (n, few other, gave)
gave_few (Err f) n before now gave few = few

pub judged_cut : (all : Bool) (due name : Text) (s0 s1 : ShelfSeen) (o : SinkSeen) (e : Fault)
    → IsRead 1073741825 name s0 s1
    → UnreadCause s0.faults s1.faults s0.contents name e → FileRun (judged_task all due name) s0 s1 o o (Err e)
judged_cut all due name s0 s1 o e read cause =
    front_cut (judged_task all due name) 1073741825 name (front_first _ _ _ _ name) s0 s1 o e read
    (record {
      written = [];
      may_write = tt;
      ran = stopped s0.contents (λ contents. option_map (judgement_due all due) (contents name)) name s0.faults
          s1.faults _
          _
          o.held e (λ contents lacks. ap (option_map (judgement_due all due)) lacks) cause;
      alone = tt;
    })

pub judged_ran : (all : Bool) (due name front : Text) (s0 s1 : ShelfSeen) (o0 o1 : SinkSeen) (r : Result End Fault)
    → FrontIfTold s0.contents name 1073741825 front → s1.faults ≡ s0.faults → length front ≤ 1073741825
    → Gave s0.given (length front) s1.given → IsRead 1073741825 name s0 s1 → Ran (judgement_due all due front) o0 o1 r
    → FileRun (judged_task all due name) s0 s1 o0 o1 r
judged_ran all due name front s0 s1 o0 o1 r is quiet most gave read ran =
    front_ran (judged_task all due name) 1073741825 name (front_first _ _ _ _ name) s0 s1 o0 o1
    (judgement_due all due front) r
    read
    (record {
      written = [];
      may_write = tt;
      ran = ran_after s0.contents (λ contents. option_map (judgement_due all due) (contents name))
          (judgement_due all due front)
          s0.faults s1.faults o0.faults o1.faults (HasGained o0.held o1.held) r
          (judged_front all due s0.contents name front is) quiet ran;
      alone = tt;
    }) (within_file s0 s1 name read.within) (judged_ends all due name front s0.given s1.given most gave) ran
