use Rattle.std.proofs.Common.{◌<◌, length, length-take, arith}
use Rattle.file_runs.proofs.Fronts.{piece_read}
use Rattle.file_runs.proofs.files.read_piece.Goals as goal

pub returns-clause-bytes : goal.returns-clause-bytes
returns-clause-bytes g c =
    let some : 0 < length c.read.new.buf = omega (arith, length-take c.max-room.result c.args.buf.now) in
    piece_read (g.S.Shelf.seen c.args.shelf.now).contents c.args.name.now c.read.result c.args.at c.read.new.buf _ some
    c.read.ensures.bound c.read.ensures.bytes
