use Rattle.script_runs.proofs.Loads.{check_cut, checked}
use Rattle.script_runs.proofs.topologies.check_topology.Goals as goal

pub returns-in-Err : goal.returns-in-Err
returns-in-Err g c =
    let read = c.in-Err.ensures in
    check_cut c.args.topology.now (g.S.Shelf.seen c.args.shelf.now) (g.S.Shelf.seen c.load.new.shelf)
    (g.O.Sink.seen c.args.out.now) c.in-Err.e
    (record { within = read.within; names = read.file_names; limit = read.read_limit; pieces = read.read_pieces })
    read.cause

pub returns-in-Ok : goal.returns-in-Ok
returns-in-Ok g c =
    let read = c.in-Ok.ensures in
    checked c.args.topology.now c.in-Ok.loaded (g.S.Shelf.seen c.args.shelf.now) (g.S.Shelf.seen c.load.new.shelf)
    (g.O.Sink.seen c.args.out.now) (g.O.Sink.seen c.report.new.out) c.report.result read.loads read.cause
    (record { within = read.within; names = read.file_names; limit = read.read_limit; pieces = read.read_pieces })
    read.long read.few c.report.ensures
