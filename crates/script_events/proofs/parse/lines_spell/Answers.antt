use Rattle.script_events.proofs.Meanings.{meaning_is_spelling}
use Rattle.script_events.proofs.Skips.{nothing_is_skipped}
use Rattle.script_events.proofs.Sizes.{spelled_are_allowed}
use Rattle.script_events.proofs.parse.lines_spell.Goals as goal

pub returns-clause-exact : goal.returns-clause-exact
returns-clause-exact c = meaning_is_spelling

pub returns-clause-allowed : goal.returns-clause-allowed
returns-clause-allowed c = spelled_are_allowed

pub returns-clause-none : goal.returns-clause-none
returns-clause-none c = nothing_is_skipped
