use Rattle.std.proofs.Common.{subst}
use Rattle.file_runs.specs.Gain.{Text}
use Rattle.script_runs.specs.Migrating.{WritesMigrated}
use Rattle.script_runs.proofs.Migrating.{migrated_file, stopped_migration}
use Rattle.script_runs.proofs.topologies.migrate_topology.Goals as goal

pub returns-in-Err : goal.returns-in-Err
returns-in-Err g c =
    let read = c.in-Err.ensures in
    stopped_migration c.args.topology.now (g.S.Shelf.seen c.args.shelf.now) (g.S.Shelf.seen c.read_front.new.shelf)
    (g.O.Sink.seen c.args.out.now) c.in-Err.e
    (record { within = read.within; names = read.file_names; limit = read.read_limit; pieces = read.read_pieces })
    read.cause

pub returns-in-Ok : goal.returns-in-Ok
returns-in-Ok g c =
    let read = c.in-Ok.ensures in
    let P : Text → Type 0 = λ t. WritesMigrated t (g.O.Sink.seen c.args.out.now)
    (g.O.Sink.seen c.write_migrated.new.out) c.write_migrated.result in
    migrated_file c.args.topology.now c.in-Ok.front.items (g.S.Shelf.seen c.args.shelf.now)
    (g.S.Shelf.seen c.read_front.new.shelf) (g.O.Sink.seen c.args.out.now) (g.O.Sink.seen c.write_migrated.new.out)
    c.write_migrated.result read.bytes read.cause read.length read.given
    (record { within = read.within; names = read.file_names; limit = read.read_limit; pieces = read.read_pieces })
    (subst P c.deref.ensures.value c.write_migrated.ensures)
