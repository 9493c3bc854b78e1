use Rattle.std.proofs.Common.{Option, subst}
use Rattle.cli_words.specs.Words.{CommandRequest}
use Rattle.file_runs.specs.FileRuns.{RanAlone}
use Rattle.ide_cli.specs.Headline.{InEvery}
use Rattle.ide_cli.specs.Laws.{IsDue}
use Rattle.ide_cli.specs.Meaning.{command_task}
use Rattle.ide_cli.specs.Seen.{CallSeen, run_seen}
use Rattle.ide_cli.proofs.GeneratedRuns.{runs_generated}
use Rattle.ide_cli.proofs.Judging.{judged_events, is_judged}
use Rattle.ide_cli.proofs.SoFar.{written_so_far}
use Rattle.ide_cli.proofs.Covering.{counted_rules, covered_events}
use Rattle.ide_cli.proofs.Telling.{told_up_to_event, is_explained}
use Rattle.ide_cli.proofs.Written.{counted_events, written_events, history_is_due}
use Rattle.ide_cli.proofs.top.run.Given.{Over}
use Rattle.ide_cli.proofs.top.run.Goals as goal

abbrev call : (g : Over) → goal.After-perform g → CallSeen
call g c = run_seen g.S.Shelf.seen g.O.Sink.seen c.args.words.now c.args.shelf.now c.perform.new.shelf c.args.out.now
    c.perform.new.out c.perform.result

pub returns-clause-files : goal.returns-clause-files
returns-clause-files g c = rw c.as_slice-words.ensures.value at c.perform.ensures

pub returns-clause-refused_words : goal.returns-clause-refused_words
returns-clause-refused_words g c = λ none. subst (λ (a : Option CommandRequest). RanAlone (command_task a).due_alone
    (g.O.Sink.seen c.args.out.now) (g.O.Sink.seen c.perform.new.out) c.perform.result)
    none (returns-clause-files g c).due_outcome.alone

pub returns-clause-generated_text : goal.returns-clause-generated_text
returns-clause-generated_text g c = (returns-clause-files g c).due_outcome.alone

pub returns-clause-runs_generated : goal.returns-clause-runs_generated
returns-clause-runs_generated g c = runs_generated (call g c) (returns-clause-files g c)

pub returns-clause-judged_text : goal.returns-clause-judged_text
returns-clause-judged_text g c = is_judged (call g c) (returns-clause-files g c)

pub returns-clause-explained_event : goal.returns-clause-explained_event
returns-clause-explained_event g c = is_explained (call g c) (returns-clause-files g c)

pub returns-clause-counted_rules : goal.returns-clause-counted_rules
returns-clause-counted_rules g c =
    counted_rules c.forgeries_are_counted.ensures (call g c) (returns-clause-files g c)

pub returns-clause-written_events : goal.returns-clause-written_events
returns-clause-written_events g c = written_events c.lines_tell.ensures.told (call g c) (returns-clause-files g c)

pub returns-clause-written_so_far : goal.returns-clause-written_so_far
returns-clause-written_so_far g c = written_so_far c.lines_tell.ensures.told (call g c) (returns-clause-files g c)

pub returns-clause-counted_events : goal.returns-clause-counted_events
returns-clause-counted_events g c = counted_events (call g c) (returns-clause-generated_text g c)

pub returns-clause-judged_events : goal.returns-clause-judged_events
returns-clause-judged_events g c = judged_events (call g c)

pub returns-clause-told_up_to_event : goal.returns-clause-told_up_to_event
returns-clause-told_up_to_event g c = told_up_to_event (call g c)

pub returns-clause-covered_events : goal.returns-clause-covered_events
returns-clause-covered_events g c = covered_events (call g c)

-- what the laws suppose of each history that was written
is_due : (g : Over) (c : goal.After-perform g) → InEvery IsDue (call g c)
is_due g c = history_is_due c.lines_tell.ensures.tell (call g c) (returns-clause-files g c)

pub returns-clause-cause_law : goal.returns-clause-cause_law
returns-clause-cause_law g c plan h w = (is_due g c plan h w).cause

pub returns-clause-laws : goal.returns-clause-laws
returns-clause-laws g c plan h w = c.laws_hold.ensures plan h (is_due g c plan h w)
