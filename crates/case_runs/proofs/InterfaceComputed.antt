-- The worked cases by computation.
use Rattle.std.proofs.Common.{◌≡◌, [], refl}
use Rattle.case_runs.specs.InterfaceCases.{verdicts_on, InterfaceCases, in_doubt, in_doubt_verdicts, again}
use Rattle.case_runs.specs.InterfaceCases.{again_verdicts, written_in_run, written_verdicts, half_keyed}
use Rattle.case_runs.specs.InterfaceCases.{half_keyed_verdicts, stopped_events, stopped_verdicts, reset_events}
use Rattle.case_runs.specs.InterfaceCases.{reset_verdicts, lost_between, lost_between_verdicts}
use Rattle.case_runs.proofs.Literals.{due_on_literals}

in_doubt_due : verdicts_on [] in_doubt ≡ in_doubt_verdicts
unfolding due_on_literals
in_doubt_due = refl

again_due : verdicts_on [] again ≡ again_verdicts
unfolding due_on_literals
again_due = refl

written_due : verdicts_on [] written_in_run ≡ written_verdicts
unfolding due_on_literals
written_due = refl

half_keyed_due : verdicts_on [] half_keyed ≡ half_keyed_verdicts
unfolding due_on_literals
half_keyed_due = refl

stopped_due : verdicts_on [] stopped_events ≡ stopped_verdicts
unfolding due_on_literals
stopped_due = refl

reset_due : verdicts_on [] reset_events ≡ reset_verdicts
unfolding due_on_literals
reset_due = refl

lost_between_due : verdicts_on [] lost_between ≡ lost_between_verdicts
unfolding due_on_literals
lost_between_due = refl

pub computed : InterfaceCases
computed = (in_doubt_due, again_due, written_due, half_keyed_due, stopped_due, reset_due, lost_between_due)
