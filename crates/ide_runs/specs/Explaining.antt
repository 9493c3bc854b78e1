-- An event of a script that is run, and explained by what its verdict came from.
use Rattle.std.specs.Prelude.{◌≡◌}
use Rattle.script_events.specs.declared.event.Event.{Event}
use Rattle.spec_links.specs.Due.{due}
use Rattle.ide_why.specs.{facts_due}
use Rattle.why_facts.specs.{why_text_of}
use Rattle.file_runs.specs.Gain.{Text}
use Rattle.ide_runs.specs.declared.explaining.Explained.{Explained}
use Rattle.script_runs.specs.Works.{EventCame, RunningView, ScriptPast, ran_event}

-- the rule that answers an event after a past, and facts of the state before it
abbrev pub event_reasons : ScriptPast → Event → Text
event_reasons past e = why_text_of e (due past.plan past.history e) (facts_due past.plan past.history e)

-- the line of the event and its reasons are those that are due, and what is kept follows the past with it
pub record IsExplainedEvent (past : ScriptPast) (e : Event) (r : RunningView) (x : Explained) : Type 0 where
  pub came : EventCame (ran_event past e) r x.line
  pub reasons_are : x.reasons ≡ event_reasons past e
