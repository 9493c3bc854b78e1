-- The worked cases of a hop by computation.
use Rattle.std.proofs.Common.{◌≡◌, [], ◌∷◌, refl}
use Rattle.case_runs.specs.HopCases.{IsHopDue, HopCases, near_keyed, far_keyed, sent_read, forwarded_under, none_waits}
use Rattle.case_runs.specs.HopCases.{none_waits_down, no_hop, near_stopped, no_key_step, goes_through_u, short_at_u}
use Rattle.case_runs.specs.HopCases.{link_reset, keyed_hop_history, waiting_hop_history, stopped_hop_history}
use Rattle.case_runs.proofs.HopLiterals.{due_on_literals}

-- each is a declaration of its own, since the checker counts its steps by declarations
near_due : IsHopDue [] (near_keyed 0)
unfolding due_on_literals
near_due = refl

far_due : IsHopDue (near_keyed 0 ∷ []) far_keyed
unfolding due_on_literals
far_due = refl

sent_due : IsHopDue keyed_hop_history sent_read
unfolding due_on_literals
sent_due = refl

early_due : IsHopDue keyed_hop_history none_waits
unfolding due_on_literals
early_due = refl

down_due : IsHopDue waiting_hop_history none_waits_down
unfolding due_on_literals
down_due = refl

no_hop_due : IsHopDue waiting_hop_history no_hop
unfolding due_on_literals
no_hop_due = refl

forwarded_due : IsHopDue waiting_hop_history (forwarded_under 0)
unfolding due_on_literals
forwarded_due = refl

empty_due : IsHopDue (forwarded_under 0 ∷ waiting_hop_history) none_waits
unfolding due_on_literals
empty_due = refl

stopped_due : IsHopDue waiting_hop_history near_stopped
unfolding due_on_literals
stopped_due = refl

refused_due : IsHopDue stopped_hop_history no_key_step
unfolding due_on_literals
refused_due = refl

again_due : IsHopDue (no_key_step ∷ stopped_hop_history) (near_keyed 2)
unfolding due_on_literals
again_due = refl

stays_due : IsHopDue (near_keyed 2 ∷ no_key_step ∷ stopped_hop_history) (forwarded_under 2)
unfolding due_on_literals
stays_due = refl

reset_due : IsHopDue waiting_hop_history link_reset
unfolding due_on_literals
reset_due = refl

dropped_due : IsHopDue (link_reset ∷ waiting_hop_history) none_waits
unfolding due_on_literals
dropped_due = refl

through_due : IsHopDue keyed_hop_history goes_through_u
unfolding due_on_literals
through_due = refl

short_due : IsHopDue keyed_hop_history short_at_u
unfolding due_on_literals
short_due = refl

pub computed : HopCases
computed = (
  near_due,
  far_due,
  sent_due,
  early_due,
  down_due,
  no_hop_due,
  forwarded_due,
  empty_due,
  stopped_due,
  refused_due,
  again_due,
  stays_due,
  reset_due,
  dropped_due,
  through_due,
  short_due,
)
