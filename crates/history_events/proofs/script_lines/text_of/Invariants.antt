use Rattle.std.proofs.Common.{◌≡◌, ◌++◌, length, string_bytes}
use Rattle.std.specs.List.{flat_map}
use Rattle.history_events.specs.ScriptText.{event_spelling}
use Rattle.history_events.proofs.script_lines.text_of.Given as goal

abbrev pub invariant-events : goal.invariant-events
invariant-events l = string_bytes l.text ++ flat_map event_spelling l.left ≡ flat_map event_spelling l.initial.left

abbrev pub decreases-events : goal.decreases-events
decreases-events l = length l.left
