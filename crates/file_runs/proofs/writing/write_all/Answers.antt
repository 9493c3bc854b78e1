use Rattle.std.proofs.Common.{◌++◌, ◌∙◌, take}
use Rattle.file_runs.proofs.Gains.{gained_more, rest_after}
use Rattle.file_runs.proofs.writing.write_all.Goals as goal

pub loop-rest-preserved : goal.loop-rest-preserved
loop-rest-preserved g c =
    let front = c.loop-rest.invariant.bytes in
    let n = c.in_ok-n.n in
    let rest = c.loop-rest.rest.now in
    record {
      bytes = (
        front.0 ++ take n rest,
        rest_after front.0 rest c.args.text.now n c.in_ok-n.ensures.some.0 front.1,
        gained_more _ _ _ front.0 (take n rest) front.2 c.in_ok-n.ensures.bytes,
      );
      faults = c.in_ok-n.ensures.cause ∙ c.loop-rest.invariant.faults;
    }
