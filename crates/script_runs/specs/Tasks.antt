-- What each command over a topology does with its files.
use Rattle.std.specs.Prelude.{◌+◌, ◌≡◌, ◌⊎◌, Bool, [], Option, None, Result}
use Rattle.cli_files.specs.Outside.{Contents}
use Rattle.ide_types.specs.declared.plan.Plan.{Plan}
use Rattle.file_runs.specs.declared.ends.End.{End}
use Rattle.file_runs.specs.declared.ends.Fault.{Fault}
use Rattle.file_runs.specs.FileRuns.{FileTask, front_task, lines_task}
use Rattle.file_runs.specs.Gain.{Text}
use Rattle.file_runs.specs.Gathering.{size_of}
use Rattle.file_runs.specs.Judging.{verdicts_limit}
use Rattle.file_runs.specs.Lines.{file_limit}
use Rattle.file_runs.specs.Outcome.{Due}
use Rattle.script_runs.specs.Judge.{IsOneOf, JudgeNoFurther, JudgedPast, judge_due}
use Rattle.script_runs.specs.Loading.{topology_limit}
use Rattle.script_runs.specs.Migrating.{MigratesFile}
use Rattle.script_runs.specs.Packets.{packets_due, packets_so_far}
use Rattle.script_runs.specs.Reads.{RanPast, RunNoFurther, ScriptGoesOn}
use Rattle.script_runs.specs.Script.{due_of_files, script_due}
use Rattle.script_runs.specs.SoFar.{files_so_far, script_given, script_so_far}
use Rattle.script_runs.specs.Topologies.{check_due, migrate_due}

-- ---- a topology

abbrev pub topology_task : (written_due : Text → Text → Due)
    → (may_write : Option Contents → Text → Result End Fault → Type 0) → (topology : Text) → FileTask
topology_task written_due may_write topology = front_task topology_limit written_due may_write ⊥ topology

abbrev pub check_task : (topology : Text) → FileTask
check_task topology = topology_task (λ written file. check_due file) (λ told written r. Unit {0}) topology

-- the text is one that a migration may write
abbrev pub migrate_task : (topology : Text) → FileTask
migrate_task topology = topology_task migrate_due (λ told written r. MigratesFile told topology written r) topology

-- ---- a script

-- on a plan: what is due of a file, and the text of the lines that ended in some bytes
abbrev pub on_plan_task : (Plan → Text → Due) → (Plan → Text → Text) → (tells : Type 0) → Plan → (script : Text)
    → FileTask
on_plan_task due text tells plan script = lines_task (due plan) (text plan) (ScriptGoesOn plan) tells script

-- on a topology that is read before it
abbrev pub script_task : (Plan → Text → Due) → (Plan → Text → Text) → (tells : Type 0) → (topology script : Text)
    → FileTask
script_task due text tells topology script = record {
  due = λ written contents. due_of_files due (contents topology) (contents script);
  may_write = λ told written r. Unit {0};
  due_alone = None;
  size = λ contents. size_of topology contents + size_of script contents;
  text = λ contents n. files_so_far text (contents topology) (contents script) n;
  lines = λ contents n. script_given (contents topology) (contents script) n;
  no_further = λ contents. RunNoFurther (contents topology) (contents script);
  names = λ name. (name ≡ topology) ⊎ (name ≡ script);
  counted = topology_limit + file_limit;
  most_given = topology_limit + 1 + (file_limit + 1);
  gave_past = RanPast;
  asks_nothing = ⊥;
  judges = ⊥;
  tells = tells;
}

-- all events are run
abbrev pub run_task : (topology script : Text) → FileTask
run_task topology script = script_task script_due script_so_far ⊥ topology script

-- and the packets that are sealed are shown
abbrev pub packets_task : (topology script : Text) → FileTask
packets_task topology script = script_task packets_due packets_so_far ⊥ topology script

-- ---- a text that is judged when all is read, so that nothing is written before

-- the first line that differs is named, or all that do
abbrev pub judge_task : (all : Bool) → (topology script verdicts : Text) → FileTask
judge_task all topology script verdicts = record {
  due = λ written contents. judge_due all (contents topology) (contents script) (contents verdicts);
  may_write = λ told written r. Unit {0};
  due_alone = None;
  size = λ contents. size_of topology contents + size_of script contents + size_of verdicts contents;
  text = λ contents n. [];
  lines = λ contents n. [];
  no_further = λ contents. JudgeNoFurther (contents topology) (contents script) (contents verdicts);
  names = IsOneOf topology script verdicts;
  counted = topology_limit + file_limit + verdicts_limit;
  most_given = topology_limit + 1 + (file_limit + 1) + (verdicts_limit + 1);
  gave_past = JudgedPast;
  asks_nothing = ⊥;
  judges = Unit {0};
  tells = ⊥;
}
