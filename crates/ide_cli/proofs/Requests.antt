-- What each command does with its files, by the words.
use Rattle.std.proofs.Common.{◌≡◌, Option, Some, None, Result, true, false, refl, subst, sym}
use Rattle.cli_files.specs.Outside.{ShelfSeen, SinkSeen}
use Rattle.cli_words.specs.Words.{CommandRequest, run, run_packets, judge, judge_all, why, cover, cover_events, check}
use Rattle.cli_words.specs.Words.{generate, generate_script, generate_topology, migrate, show}
use Rattle.file_runs.specs.declared.ends.End.{End}
use Rattle.file_runs.specs.declared.ends.Fault.{Fault}
use Rattle.file_runs.specs.declared.ends.Fault.TheVariants as fault
use Rattle.file_runs.specs.FileRuns.{FileRun}
use Rattle.file_runs.proofs.FileRuns.{Starts, no_memory, starts_alone, without_memory}
use Rattle.ide_runs.specs.Cover.{cover_due, covered_so_far}
use Rattle.script_runs.specs.Packets.{packets_due, packets_so_far}
use Rattle.script_runs.specs.Script.{script_due}
use Rattle.script_runs.specs.SoFar.{script_so_far}
use Rattle.ide_runs.specs.Why.{told_due, told_so_far}
use Rattle.script_runs.proofs.{failed_migration}
use Rattle.script_runs.proofs.Loads.{files_start}
use Rattle.ide_cli.specs.Meaning.{command_task}

-- what the words ask for was done
pub asked : (words a : Option CommandRequest) (s0 s1 : ShelfSeen) (o0 o1 : SinkSeen) (r : Result End Fault)
    → words ≡ a → FileRun (command_task a) s0 s1 o0 o1 r → FileRun (command_task words) s0 s1 o0 o1 r
asked words a s0 s1 o0 o1 r is ran = subst (λ (o : Option CommandRequest). FileRun (command_task o) s0 s1 o0 o1 r)
    (sym is) ran

-- before the first byte nothing is due
starts : (a : Option CommandRequest) → Starts (command_task a)
starts None = starts_alone _ _
starts (Some (run topology script)) = files_start script_due script_so_far ⊥ topology script (λ plan. refl)
starts (Some (run_packets topology script)) =
    files_start packets_due packets_so_far ⊥ topology script (λ plan. refl)
starts (Some (judge topology script verdicts)) =
    record { text = λ contents. refl; lines = λ contents. refl; fails = λ told. tt }
starts (Some (judge_all topology script verdicts)) =
    record { text = λ contents. refl; lines = λ contents. refl; fails = λ told. tt }
starts (Some (why topology script n)) =
    files_start (told_due n) (told_so_far n) (Unit {0}) topology script (λ plan. refl)
starts (Some (cover topology script)) =
    files_start (cover_due false) (covered_so_far false) ⊥ topology script (λ plan. refl)
starts (Some (cover_events topology script)) =
    files_start (cover_due true) (covered_so_far true) ⊥ topology script (λ plan. refl)
starts (Some (check topology)) = record { text = λ contents. refl; lines = λ contents. refl; fails = λ told. tt }
starts (Some (migrate topology)) = record {
  text = λ contents. refl;
  lines = λ contents. refl;
  fails = λ told. failed_migration told topology fault.Memory;
}
starts (Some (show packets)) = record { text = λ contents. refl; lines = λ contents. refl; fails = λ told. tt }
starts (Some (generate seed count)) = starts_alone _ _
starts (Some (generate_script seed count)) = starts_alone _ _
starts (Some (generate_topology seed count)) = starts_alone _ _

-- for want of memory
pub no_words : (a : Option CommandRequest) (s : ShelfSeen) (o : SinkSeen) → FileRun (command_task a) s s o o no_memory
no_words a s o = without_memory (command_task a) (starts a) s o
