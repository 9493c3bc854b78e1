-- What is left after a step and after a round.
use Rattle.std.proofs.Common.{◌≡◌, refl, ℕ, zero, suc, ◌-◌, ◌∷◌, Option, Some, None, arith}
use Rattle.script_events.specs.declared.event.Event.{Event}
use Rattle.history_events.specs.declared.numbers.Numbers.{Numbers}
use Rattle.history_events.specs.declared.step.Step.{Step}
use Rattle.history_events.specs.declared.step.Step.TheVariants as step
use Rattle.history_events.specs.declared.round.Round.{Round}
use Rattle.history_events.specs.GeneratedEvents.{step_event, step_after, round_of}
use Rattle.history_events.specs.Left.{events_left}

pub step_first : (s : Step) (count : ℕ) (n : Numbers) → events_left (Some s) count n ≡ step_event s
    ∷ events_left (step_after s) count n
step_first step.Stop count n = refl
step_first step.Halt count n = refl
step_first step.Establish count n = refl
step_first step.Lock count n = refl
step_first step.Report count n = refl
step_first step.Start count n = refl

pub round_first : (count : ℕ) (n : Numbers) → (count ≡ 0 → ⊥) → events_left None count n ≡ (round_of n).event
    ∷ events_left (round_of n).ahead (count - 1) (round_of n).numbers
round_first zero n some = absurd (some refl)
round_first (suc k) n some = let less : suc k - 1 ≡ k = omega arith in rw less refl

-- the same of what is known to be that step, and that round
pub step_of : (ahead after : Option Step) (s : Step) (e : Event) (count : ℕ) (n : Numbers) → ahead ≡ Some s
    → after ≡ step_after s → e ≡ step_event s → events_left ahead count n ≡ e ∷ events_left after count n
step_of ahead after s e count n is then event = rw (is, then, event) (step_first s count n)

pub round_is : (ahead : Option Step) (count : ℕ) (n : Numbers) (r : Round) → ahead ≡ None → (count ≡ 0 → ⊥)
    → r ≡ round_of n → events_left ahead count n ≡ r.event ∷ events_left r.ahead (count - 1) r.numbers
round_is ahead count n r is some round = rw (is, round) (round_first count n some)
