use Rattle.std.proofs.Common.{◌+◌, ◌<◌, length, arith}
use Rattle.trusted_memory.specs.Writes.{write_of}
use Rattle.trusted_memory.proofs.Putting.{put_next}
use Rattle.trusted_memory.proofs.page.put_all.Goals as goal

pub loop-i-preserved : goal.loop-i-preserved
loop-i-preserved c =
    let less : c.args.start + c.loop-i.i < length c.loop-i.bytes = omega arith in
    put_next (write_of c.args.write.now) c.args.start c.loop-i.i _ c.loop-i.bytes c.put.new.bytes less c.put.ensures
    c.loop-i.invariant
