use Rattle.std.proofs.Common.{Ok, refl}
use Rattle.file_runs.specs.declared.ends.End.TheVariants.{TooLong}
use Rattle.file_runs.proofs.WholeFiles.{gained_nothing}
use Rattle.script_runs.specs.declared.topologies.Loaded.TheVariants.{Faulty, Long}
use Rattle.script_runs.specs.Script.{script_due}
use Rattle.script_runs.specs.SoFar.{script_so_far}
use Rattle.script_runs.proofs.Loads.{no_plan_ran, script_cut, script_ran, sound_is_short}
use Rattle.script_runs.proofs.script.run_files.Goals as goal

pub returns-in-Err-clause-files : goal.returns-in-Err-clause-files
returns-in-Err-clause-files g c =
    let read = c.in-Err.ensures in
    script_cut script_due script_so_far ⊥ c.args.topology.now c.args.script.now (λ plan. refl)
    (g.S.Shelf.seen c.args.shelf.now) (g.S.Shelf.seen c.load.new.shelf) (g.O.Sink.seen c.args.out.now) c.in-Err.e
    (record { within = read.within; names = read.file_names; limit = read.read_limit; pieces = read.read_pieces })
    read.cause

pub returns-in-Ok-Sound-clause-files : goal.returns-in-Ok-Sound-clause-files
returns-in-Ok-Sound-clause-files g c =
    let read = c.in-Ok-Sound.ensures in
    let plan = c.in-Ok-Sound.plan in
    let short = sound_is_short plan in
    script_ran script_due script_so_far ⊥ c.args.topology.now c.args.script.now plan
    (g.S.Shelf.seen c.args.shelf.now) (g.S.Shelf.seen c.load.new.shelf) (g.S.Shelf.seen c.run_script.new.shelf)
    (g.O.Sink.seen c.args.out.now) (g.O.Sink.seen c.run_script.new.out) c.run_script.result read.same
    read.cause (rw c.in-Ok-Sound.field-0-is at read.loads)
    ((rw c.in-Ok-Sound.field-0-is at read.all) short) ((rw c.in-Ok-Sound.field-0-is at read.few) short)
    (record { within = read.within; names = read.file_names; limit = read.read_limit; pieces = read.read_pieces })
    c.run_script.ensures.files

pub returns-in-Ok-Faulty-clause-files : goal.returns-in-Ok-Faulty-clause-files
returns-in-Ok-Faulty-clause-files g c =
    let read = c.in-Ok-Faulty.ensures in
    no_plan_ran script_due script_so_far ⊥ c.args.topology.now c.args.script.now (λ plan. refl)
    (Faulty c.in-Ok-Faulty.fault) (g.S.Shelf.seen c.args.shelf.now) (g.S.Shelf.seen c.load.new.shelf)
    (g.O.Sink.seen c.args.out.now) (g.O.Sink.seen c.refuse.new.out) c.refuse.result tt
    (rw c.in-Ok-Faulty.field-0-is at read.loads) read.cause
    (record { within = read.within; names = read.file_names; limit = read.read_limit; pieces = read.read_pieces })
    (rw c.in-Ok-Faulty.field-0-is at read.long) c.refuse.ensures.ran

pub returns-in-Ok-Long-clause-files : goal.returns-in-Ok-Long-clause-files
returns-in-Ok-Long-clause-files g c =
    let read = c.in-Ok-Long.ensures in
    no_plan_ran script_due script_so_far ⊥ c.args.topology.now c.args.script.now (λ plan. refl) Long
    (g.S.Shelf.seen c.args.shelf.now) (g.S.Shelf.seen c.load.new.shelf) (g.O.Sink.seen c.args.out.now)
    (g.O.Sink.seen c.args.out.now) (Ok TooLong) tt
    (rw c.in-Ok-Long.field-0-is at read.loads) read.cause
    (record { within = read.within; names = read.file_names; limit = read.read_limit; pieces = read.read_pieces })
    (rw c.in-Ok-Long.field-0-is at read.long) (refl, gained_nothing (g.O.Sink.seen c.args.out.now).held, refl)
