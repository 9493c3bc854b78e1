-- What a line of a script gives by what is kept.
use Rattle.std.specs.Prelude.{ℕ, ◌≡◌, ◌+◌, ◌*◌, ◌<◌, ◌≤◌, [], length, Option, Some, None, Result, Ok, Err}
use Rattle.ide_types.specs.declared.plan.Plan.{Plan}
use Rattle.script_events.specs.declared.event.Event.{Event}
use Rattle.script_events.specs.declared.script.ScriptEvent.{ScriptEvent}
use Rattle.script_events.specs.declared.fault.LineFault.{LineFault}
use Rattle.script_events.specs.Parse.{line_meaning}
use Rattle.script_events.specs.Spells.{IsAllowedInScript}
use Rattle.event_verdicts.specs.declared.verdict.Verdict.{Verdict}
use Rattle.event_verdicts.specs.declared.verdict.Totals.{Totals}
use Rattle.event_verdicts.specs.Lines.{line_of, totals_line_of}
use Rattle.event_verdicts.specs.Shown.{verdict_by_ports}
use Rattle.spec_keys.specs.History.{History}
use Rattle.spec_links.specs.Due.{due}
use Rattle.history_events.specs.{event_of}
use Rattle.law_text.specs.Runs.{history_with_event, totals_of, sealed_count, accepted_in, failed_in, blocked_in}
use Rattle.world.specs.{WorldView, WorldStandsFor}
use Rattle.file_runs.specs.declared.ends.End.TheVariants as end
use Rattle.file_runs.specs.Gain.{Text}
use Rattle.file_runs.specs.Outcome.{Due}

-- the world and the totals so far
pub record RunningView : Type 0 where
  pub world : WorldView
  pub totals : Totals

-- the totals with one more verdict
abbrev pub totals_with : Totals → Verdict → Totals
totals_with t v = record {
  sealed = t.sealed + sealed_count v;
  accepted = t.accepted + accepted_in v;
  failed = t.failed + failed_in v;
  blocked = t.blocked + blocked_in v;
}

-- the events of the lines so far, each with the verdict that is due after the events before it
pub record ScriptPast : Type 0 where
  pub plan : Plan
  pub history : History

-- the world stands for that history, so many events came, and the totals are its totals
pub record Follows (r : RunningView) (past : ScriptPast) : Type 0 where
  pub plan_is : r.world.plan ≡ past.plan
  pub stands : WorldStandsFor r.world past.history
  pub steps_are : r.world.steps ≡ length past.history
  pub totals_are : r.totals ≡ totals_of past.history

-- the past with one more event
abbrev pub past_with : ScriptPast → Event → ScriptPast
past_with past e = record past { history = history_with_event past.plan past.history e }

-- the text of an event with its verdict, after a history
abbrev pub EventText : Type 0
EventText = Plan → History → Event × Verdict → Text

-- the line of the verdict as it is shown
abbrev pub verdict_line : EventText
verdict_line plan h x = line_of (length h + 1) (verdict_by_ports plan.peers x.1)

-- the past with an event, and the text of the event
abbrev pub event_ran : EventText → ScriptPast → Event → ScriptPast × Text
event_ran text past e = (past_with past e, text past.plan past.history (e, due past.plan past.history e))

abbrev pub meaning_ran : EventText → ScriptPast → Result (Option ScriptEvent) LineFault
    → Result (ScriptPast × Text) LineFault
meaning_ran text past (Err fault) = Err fault
meaning_ran text past (Ok None) = Ok (past, [])
meaning_ran text past (Ok (Some e)) = Ok (event_ran text past (event_of past.plan e))

-- what a line gives, by the texts of events
abbrev pub line_ran : EventText → ScriptPast → ℕ → Text → Result (ScriptPast × Text) LineFault
line_ran text past n line = meaning_ran text past (line_meaning line)

-- the past with an event, and the line of its verdict
abbrev pub ran_event : ScriptPast → Event → ScriptPast × Text
ran_event past e = event_ran verdict_line past e

-- the same of an event of a script
abbrev pub ran_script_event : ScriptPast → ScriptEvent → ScriptPast × Text
ran_script_event past e = ran_event past (event_of past.plan e)

abbrev pub by_meaning : ScriptPast → Result (Option ScriptEvent) LineFault → Result (ScriptPast × Text) LineFault
by_meaning past m = meaning_ran verdict_line past m

-- what a line gives
abbrev pub ran_line : ScriptPast → ℕ → Text → Result (ScriptPast × Text) LineFault
ran_line past n line = line_ran verdict_line past n line

-- the text after the last line
abbrev pub closing_line : ScriptPast → Text
closing_line past = totals_line_of (totals_of past.history)

-- the run ends with it
abbrev pub closing_due : ScriptPast → Due
closing_due past = (end.Done, closing_line past)

-- the verdict of an event is the one that is due, and what is kept follows the past with it
pub record VerdictCame (past : ScriptPast) (e : Event) (r : RunningView) (v : Verdict) : Type 0 where
  pub verdict_is : v ≡ due past.plan past.history e
  pub follows : Follows r (past_with past e)

-- the text of an event, and that what is kept follows the past with it
pub record EventCame (came : ScriptPast × Text) (r : RunningView) (text : Text) : Type 0 where
  pub text_is : text ≡ came.1
  pub follows : Follows r came.0

-- the event of a line, if it has one, is one that a script may ask for
abbrev pub MayAsk : Option ScriptEvent → Type 0
MayAsk None = Unit {0}
MayAsk (Some e) = IsAllowedInScript e

-- fewer events than lines, and few packets an event
pub record IsEarly (r : RunningView) (n : ℕ) : Type 0 where
  pub steps : r.world.steps < n
  pub sealed : r.totals.sealed ≤ 8 * r.world.steps
  pub accepted : r.totals.accepted ≤ 8 * r.world.steps
  pub failed : r.totals.failed ≤ 8 * r.world.steps
  pub blocked : r.totals.blocked ≤ 8 * r.world.steps
