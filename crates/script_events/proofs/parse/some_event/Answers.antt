use Rattle.std.proofs.Common.{map}
use Rattle.script_events.specs.Parse.{event_by_first_word}
use Rattle.script_events.proofs.Sevens.{same_error}
use Rattle.script_events.proofs.parse.some_event.Goals as goal

pub returns-in-Err-clause-exact : goal.returns-in-Err-clause-exact
returns-in-Err-clause-exact c = λ h. same_error
    (event_by_first_word c.args.first.now (map (λ w. w.now) c.args.rest.now))
    c.in-Err.e (c.in-Err.ensures.exact h)
