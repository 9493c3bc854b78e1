use Rattle.std.proofs.Common.{[]}
use Rattle.file_runs.proofs.FileRuns.{both, ends_so, never}
use Rattle.file_runs.specs.declared.ends.End.TheVariants as end
use Rattle.file_runs.proofs.files.run_file.Goals as goal

pub returns-clause-files : goal.returns-clause-files
returns-clause-files g c = λ past was.
    let ran = c.run_lines.ensures in
    record {
      due_outcome = record { written = []; may_write = tt; ran = ran.due_outcome past was; alone = tt };
      output_so_far = ran.output_so_far past was;
      reads_no_further = ran.reads_no_further past was;
      file_names = ran.file_names;
      read_limit = ran.read_limit;
      read_pieces = ran.read_pieces;
      ends = ends_so _ _ _ c.run_lines.result ran.end ran.files_too_long ran.whole_files
          (never _ end.Differs c.run_lines.result ran.unjudged)
          (both _ _ end.NoEvent c.run_lines.result ran.lacks ran.absent_event);
    }
