use Rattle.std.proofs.Common.{None, map}
use Rattle.std.specs.Prelude.{string_bytes}
use Rattle.cli_words.specs.Words.{command_asked}
use Rattle.file_runs.proofs.FileRuns.{ran_made, ran_refused}
use Rattle.ide_cli.proofs.Requests.{asked, no_words}
use Rattle.ide_cli.proofs.top.perform.Goals as goal

pub returns-in-Err-Usage : goal.returns-in-Err-Usage
returns-in-Err-Usage g c = asked (command_asked (map string_bytes c.args.words.now)) None _ _ _ _ _
    (rw c.in-Err-Usage.field-0-is at c.in-Err-Usage.ensures.err)
    (ran_refused _ (g.S.Shelf.seen c.args.shelf.now) (g.O.Sink.seen c.args.out.now) (g.O.Sink.seen c.finish.new.out)
    c.finish.result c.finish.ensures.ran)

pub returns-in-Err-Memory : goal.returns-in-Err-Memory
returns-in-Err-Memory g c = no_words (command_asked (map string_bytes c.args.words.now))
    (g.S.Shelf.seen c.args.shelf.now) (g.O.Sink.seen c.args.out.now)

pub returns-in-Ok-Run : goal.returns-in-Ok-Run
returns-in-Ok-Run g c = asked (command_asked (map string_bytes c.args.words.now)) _ _ _ _ _ _
    (rw c.in-Ok-Run.field-0-is at c.in-Ok-Run.ensures.ok) c.run_files.ensures.files

pub returns-in-Ok-RunPackets : goal.returns-in-Ok-RunPackets
returns-in-Ok-RunPackets g c = asked (command_asked (map string_bytes c.args.words.now)) _ _ _ _ _ _
    (rw c.in-Ok-RunPackets.field-0-is at c.in-Ok-RunPackets.ensures.ok) c.run_packets.ensures

pub returns-in-Ok-Judge : goal.returns-in-Ok-Judge
returns-in-Ok-Judge g c = asked (command_asked (map string_bytes c.args.words.now)) _ _ _ _ _ _
    (rw c.in-Ok-Judge.field-0-is at c.in-Ok-Judge.ensures.ok) c.judge.ensures

pub returns-in-Ok-JudgeAll : goal.returns-in-Ok-JudgeAll
returns-in-Ok-JudgeAll g c = asked (command_asked (map string_bytes c.args.words.now)) _ _ _ _ _ _
    (rw c.in-Ok-JudgeAll.field-0-is at c.in-Ok-JudgeAll.ensures.ok) c.judge-in-Ok-JudgeAll.ensures

pub returns-in-Ok-Why : goal.returns-in-Ok-Why
returns-in-Ok-Why g c = asked (command_asked (map string_bytes c.args.words.now)) _ _ _ _ _ _
    (rw c.in-Ok-Why.field-0-is at c.in-Ok-Why.ensures.ok) c.why.ensures

pub returns-in-Ok-Cover : goal.returns-in-Ok-Cover
returns-in-Ok-Cover g c = asked (command_asked (map string_bytes c.args.words.now)) _ _ _ _ _ _
    (rw c.in-Ok-Cover.field-0-is at c.in-Ok-Cover.ensures.ok) c.cover.ensures

pub returns-in-Ok-CoverEvents : goal.returns-in-Ok-CoverEvents
returns-in-Ok-CoverEvents g c = asked (command_asked (map string_bytes c.args.words.now)) _ _ _ _ _ _
    (rw c.in-Ok-CoverEvents.field-0-is at c.in-Ok-CoverEvents.ensures.ok) c.cover-in-Ok-CoverEvents.ensures

pub returns-in-Ok-Check : goal.returns-in-Ok-Check
returns-in-Ok-Check g c = asked (command_asked (map string_bytes c.args.words.now)) _ _ _ _ _ _
    (rw c.in-Ok-Check.field-0-is at c.in-Ok-Check.ensures.ok) c.check_topology.ensures

pub returns-in-Ok-Migrate : goal.returns-in-Ok-Migrate
returns-in-Ok-Migrate g c = asked (command_asked (map string_bytes c.args.words.now)) _ _ _ _ _ _
    (rw c.in-Ok-Migrate.field-0-is at c.in-Ok-Migrate.ensures.ok) c.migrate_topology.ensures

pub returns-in-Ok-Show : goal.returns-in-Ok-Show
returns-in-Ok-Show g c = asked (command_asked (map string_bytes c.args.words.now)) _ _ _ _ _ _
    (rw c.in-Ok-Show.field-0-is at c.in-Ok-Show.ensures.ok) c.show_packets.ensures

pub returns-in-Ok-Generate : goal.returns-in-Ok-Generate
returns-in-Ok-Generate g c = asked (command_asked (map string_bytes c.args.words.now)) _ _ _ _ _ _
    (rw c.in-Ok-Generate.field-0-is at c.in-Ok-Generate.ensures.ok)
    (ran_made _ (g.S.Shelf.seen c.args.shelf.now) (g.O.Sink.seen c.args.out.now) (g.O.Sink.seen c.generate.new.out)
    c.generate.result c.generate.ensures)

pub returns-in-Ok-GenerateScript : goal.returns-in-Ok-GenerateScript
returns-in-Ok-GenerateScript g c = asked (command_asked (map string_bytes c.args.words.now)) _ _ _ _ _ _
    (rw c.in-Ok-GenerateScript.field-0-is at c.in-Ok-GenerateScript.ensures.ok)
    (ran_made _ (g.S.Shelf.seen c.args.shelf.now) (g.O.Sink.seen c.args.out.now)
    (g.O.Sink.seen c.generate_script.new.out)
    c.generate_script.result c.generate_script.ensures)

pub returns-in-Ok-GenerateTopology : goal.returns-in-Ok-GenerateTopology
returns-in-Ok-GenerateTopology g c = asked (command_asked (map string_bytes c.args.words.now)) _ _ _ _ _ _
    (rw c.in-Ok-GenerateTopology.field-0-is at c.in-Ok-GenerateTopology.ensures.ok)
    (ran_made _ (g.S.Shelf.seen c.args.shelf.now) (g.O.Sink.seen c.args.out.now)
    (g.O.Sink.seen c.generate_topology.new.out)
    c.generate_topology.result c.generate_topology.ensures)
