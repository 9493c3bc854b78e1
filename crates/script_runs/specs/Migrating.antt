-- A topology that is written in version 2.
use Rattle.std.specs.Prelude.{◌≡◌, ◌⊎◌, [], Option, Some, None, Result, Ok, Err}
use Rattle.cli_files.specs.Outside.{Contents, SinkSeen}
use Rattle.ide_types.specs.declared.plan.Plan.{Plan}
use Rattle.topology.specs.Migration.{IsMigrated}
use Rattle.file_runs.specs.declared.ends.End.{End}
use Rattle.file_runs.specs.declared.ends.Fault.{Fault}
use Rattle.file_runs.specs.Gain.{Text}
use Rattle.file_runs.specs.Outcome.{Ran}
use Rattle.script_runs.specs.declared.topologies.Loaded.TheVariants.{Sound}
use Rattle.script_runs.specs.Topologies.{migrate_due, loaded_topology}

-- the run failed
abbrev pub IsFailure : Result End Fault → Type 0
IsFailure (Ok e) = ⊥
IsFailure (Err e) = Unit {0}

-- If the file of this name is told and sound, the text is that topology in version 2. A run that failed may have given
-- no text.
abbrev pub MigratesFile : Option Contents → (name text : Text) → Result End Fault → Type 0
MigratesFile None name text r = Unit {0}
MigratesFile (Some contents) name text r =
    (bytes : Text) (plan : Plan) → contents name ≡ Some bytes → loaded_topology bytes ≡ Sound plan
    → IsMigrated bytes text ⊎ ((text ≡ []) × IsFailure r)

-- The first bytes of a topology were migrated: if they are sound, the text is that topology in version 2, or a run that
-- failed gave none.
pub record WritesMigrated (front : Text) (before now : SinkSeen) (r : Result End Fault) : Type 0 where
  pub migrated : Text
  pub migrates : (plan : Plan) → loaded_topology front ≡ Sound plan → IsMigrated front migrated
      ⊎ ((migrated ≡ []) × IsFailure r)
  pub ran : Ran (migrate_due migrated front) before now r
