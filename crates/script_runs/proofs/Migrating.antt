-- A topology that is migrated: its first bytes give what the whole file gives.
use Rattle.std.proofs.Common.{◌≡◌, ◌≤◌, ◌⊎◌, [], length, take, true, false, Bool, Option, Some, None}
use Rattle.std.proofs.Common.{Result, Ok, Err, refl, ap, inr, subst, ◌∙◌, arith, option_map}
use Rattle.std.specs.Prelude.{nat_lt, if◌then◌else◌}
use Rattle.std.proofs.lemmas.Bool.Decides.{nat_tests}
use Rattle.std.proofs.lemmas.List.{take_all}
use Rattle.cli_files.specs.Outside.{Contents, ShelfSeen, SinkSeen}
use Rattle.ide_types.specs.declared.plan.Plan.{Plan}
use Rattle.topology.specs.Meaning.{plan_of}
use Rattle.topology.specs.Migration.{IsMigrated}
use Rattle.file_runs.specs.declared.ends.End.{End}
use Rattle.file_runs.specs.declared.ends.Fault.{Fault}
use Rattle.file_runs.specs.declared.ends.Fault.TheVariants as fault
use Rattle.file_runs.specs.FileRuns.{FileRun}
use Rattle.file_runs.specs.Front.{FrontIfTold, Gave, UnreadCause}
use Rattle.file_runs.specs.Gain.{Text, HasGained}
use Rattle.file_runs.proofs.FileRuns.{IsRead, front_cut, front_first, front_ran, within_file}
use Rattle.file_runs.proofs.WholeFiles.{gained_nothing, ran_after, stopped}
use Rattle.script_runs.specs.declared.topologies.Loaded.TheVariants.{Sound, Long}
use Rattle.script_runs.specs.Loading.{topology_limit}
use Rattle.script_runs.specs.Migrating.{IsFailure, MigratesFile, WritesMigrated}
use Rattle.script_runs.specs.Tasks.{migrate_task}
use Rattle.script_runs.specs.Topologies.{by_plan, loaded_topology, migrate_due, migrated_as_text}
use Rattle.script_runs.proofs.Loads.{due_loaded, loads_front, migrated_ends}

sound_long : (plan : Plan) → Long ≡ Sound plan → ⊥
sound_long plan is = cc

pub writes_nothing : (front : Text) (o : SinkSeen) → WritesMigrated front o o (Err fault.Memory)
writes_nothing front o = record {
  migrated = [];
  migrates = λ plan sound. inr (refl, tt);
  ran = ([], ((migrate_due [] front).1, refl), gained_nothing o.held);
}

-- ---- the whole file

-- a sound file is no longer than counts, so its first bytes are the whole
whole_sound : (bytes : Text) (plan : Plan) (b : Bool) → nat_lt topology_limit (length bytes) ≡ b
    → (if b then Long else by_plan (plan_of bytes)) ≡ Sound plan → take 1048577 bytes ≡ bytes
whole_sound bytes plan true over is = absurd (sound_long plan is)
whole_sound bytes plan false over is = take_all 1048577 bytes (grind (arith, nat_tests))

front_is : (file : Option Text) (front bytes : Text) → file ≡ Some bytes
    → FrontIfTold (Some (λ (name : Text). file)) [] 1048577 front → front ≡ take 1048577 bytes
front_is None front bytes is read = absurd cc
front_is (Some whole) front bytes is read =
    let same : whole ≡ bytes = cc in
    read ∙ ap (take 1048577) same

migrates_file : (contents : Contents) (name front text : Text) (r : Result End Fault)
    → FrontIfTold (Some contents) name 1048577 front
    → ((plan : Plan) → loaded_topology front ≡ Sound plan → IsMigrated front text ⊎ ((text ≡ []) × IsFailure r))
    → MigratesFile (Some contents) name text r
migrates_file contents name front text r read migrates = λ bytes plan is sound.
    let whole = whole_sound bytes plan (nat_lt topology_limit (length bytes)) refl sound in
    let same : front ≡ bytes = front_is (contents name) front bytes is read ∙ whole in
    subst (λ (t : Text). IsMigrated t text ⊎ ((text ≡ []) × IsFailure r)) same
    (migrates plan (ap loaded_topology same ∙ sound))

by_told : (told : Option Contents) (name front text : Text) (r : Result End Fault) → FrontIfTold told name 1048577 front
    → ((plan : Plan) → loaded_topology front ≡ Sound plan → IsMigrated front text ⊎ ((text ≡ []) × IsFailure r))
    → MigratesFile told name text r
by_told None name front text r read migrates = tt
by_told (Some contents) name front text r read migrates = migrates_file contents name front text r read migrates

pub migrated_file : (name front : Text) (s0 s1 : ShelfSeen) (o0 o1 : SinkSeen) (r : Result End Fault)
    → FrontIfTold s0.contents name 1048577 front → s1.faults ≡ s0.faults → length front ≤ 1048577
    → Gave s0.given (length front) s1.given → IsRead 1048577 name s0 s1 → WritesMigrated front o0 o1 r
    → FileRun (migrate_task name) s0 s1 o0 o1 r
migrated_file name front s0 s1 o0 o1 r read quiet most gave is_read w =
    let text = w.migrated in
    let is = loads_front Long (λ b. by_plan (plan_of b)) s0.contents name front (Ok (loaded_topology front)) read refl
    in
    let due_is = due_loaded loaded_topology (migrated_as_text text) s0.contents name (loaded_topology front) is in
    front_ran (migrate_task name) 1048577 name (front_first _ _ _ _ name) s0 s1 o0 o1 (migrate_due text front) r is_read
    (record {
      written = text;
      may_write = by_told s0.contents name front text r read w.migrates;
      ran = ran_after s0.contents (λ contents. option_map (migrate_due text) (contents name)) (migrate_due text front)
          s0.faults s1.faults o0.faults o1.faults (HasGained o0.held o1.held) r due_is quiet w.ran;
      alone = tt;
    }) (within_file s0 s1 name is_read.within)
    (migrated_ends (migrate_task name) text front s0.given s1.given refl (λ past. past) most gave) w.ran

-- ---- a file that could not be read

pub failed_migration : (told : Option Contents) (name : Text) (f : Fault) → MigratesFile told name [] (Err f)
failed_migration None name f = tt
failed_migration (Some contents) name f = λ bytes plan is sound. inr (refl, tt)

pub stopped_migration : (name : Text) (s0 s1 : ShelfSeen) (o : SinkSeen) (e : Fault) → IsRead 1048577 name s0 s1
    → UnreadCause s0.faults s1.faults s0.contents name e → FileRun (migrate_task name) s0 s1 o o (Err e)
stopped_migration name s0 s1 o e is_read cause =
    front_cut (migrate_task name) 1048577 name (front_first _ _ _ _ name) s0 s1 o e is_read
    (record {
      written = [];
      may_write = failed_migration s0.contents name e;
      ran = stopped s0.contents (λ contents. option_map (migrate_due []) (contents name)) name s0.faults s1.faults _ _
          o.held e (λ contents lacks. ap (option_map (migrate_due [])) lacks) cause;
      alone = tt;
    })
