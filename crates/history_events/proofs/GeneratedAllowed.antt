-- Generated events are such as a script may ask for, and few.
use Rattle.std.proofs.Common.{◌≤◌, ◌+◌, ◌*◌, ◌%◌, ◌++◌, [], ◌∷◌, ℕ, zero, suc, Bool, true, false, Option, Some}
use Rattle.std.proofs.Common.{None, List, length, length-append, if◌then◌else◌, refl, arith, lit≤}
use Rattle.std.specs.Prelude.{nat_lt, ◌==◌}
use Rattle.std.specs.List.{AllByRecursion}
use Rattle.script_events.specs.declared.event.Event.{Event}
use Rattle.script_events.specs.Spells.{IsAllowed}
use Rattle.history_events.specs.declared.numbers.Numbers.{Numbers}
use Rattle.history_events.specs.declared.step.Step.{Step}
use Rattle.history_events.specs.declared.step.Step.TheVariants as step
use Rattle.history_events.specs.declared.round.Round.{Round}
use Rattle.history_events.specs.GeneratedEvents.{arrival, events_from, following_number, value_of, round_events}
use Rattle.history_events.specs.GeneratedEvents.{first_numbers}
use Rattle.history_events.specs.GeneratedEvents.{generated_events, round_by_turn, round_of, event_rounds, setting_up}

-- ---- each is allowed

either : (b : Bool) (r s : Round) → IsAllowed r.event → IsAllowed s.event → IsAllowed (if b then r else s).event
either true r s first second = first
either false r s first second = second

arrival_allowed : (turn : ℕ) (s : Numbers) → IsAllowed (arrival turn s).event
arrival_allowed turn s = either (nat_lt turn 13) _ _ tt (either (turn == 14) _ _ tt tt)

round_allowed : (turn : ℕ) (s : Numbers) → IsAllowed (round_by_turn turn s).event
round_allowed turn s =
    either (nat_lt turn 8) _ _ (refl, (λ asked. absurd cc), lit≤ tt)
    (either (turn == 13) _ _ tt
    (either (nat_lt s.packets s.arriving) _ _ (lit≤ tt, lit≤ tt) (arrival_allowed turn s)))

setting_up_allowed : AllByRecursion IsAllowed setting_up
setting_up_allowed = (tt, (tt, (tt, (tt, tt))))

from_allowed : (ahead : Option Step) → AllByRecursion IsAllowed (events_from ahead)
from_allowed None = tt
from_allowed (Some step.Start) = (tt, tt)
from_allowed (Some step.Report) = (tt, (tt, tt))
from_allowed (Some step.Lock) = (tt, (tt, (tt, tt)))
from_allowed (Some step.Establish) = setting_up_allowed
from_allowed (Some step.Halt) = (tt, setting_up_allowed)
from_allowed (Some step.Stop) = (tt, (tt, setting_up_allowed))

both_allowed : (xs ys : List Event) → AllByRecursion IsAllowed xs → AllByRecursion IsAllowed ys
    → AllByRecursion IsAllowed (xs ++ ys)
both_allowed [] ys first second = second
both_allowed (x ∷ xs) ys first second = (first.0, both_allowed xs ys first.1 second)

rounds_allowed : (count : ℕ) (s : Numbers) → AllByRecursion IsAllowed (event_rounds count s)
rounds_allowed zero s = tt
rounds_allowed (suc n) s =
    let r = round_of s in
    both_allowed (round_events r) (event_rounds n r.numbers)
    (round_allowed (value_of (following_number s.x) % 16) (record s { x = following_number s.x }), from_allowed r.ahead)
    (rounds_allowed n r.numbers)

pub all_allowed : (seed count : ℕ) → AllByRecursion IsAllowed (generated_events seed count)
all_allowed seed count = both_allowed (events_from (Some step.Establish)) (event_rounds count (first_numbers seed))
    (from_allowed (Some step.Establish)) (rounds_allowed count (first_numbers seed))

-- ---- and they are few

few_from : (ahead : Option Step) → length (events_from ahead) ≤ 6
few_from None = lit≤ tt
few_from (Some step.Start) = lit≤ tt
few_from (Some step.Report) = lit≤ tt
few_from (Some step.Lock) = lit≤ tt
few_from (Some step.Establish) = lit≤ tt
few_from (Some step.Halt) = lit≤ tt
few_from (Some step.Stop) = lit≤ tt

few_rounds : (count : ℕ) (s : Numbers) → length (event_rounds count s) ≤ 7 * count
few_rounds zero s = lit≤ tt
few_rounds (suc n) s =
    let r = round_of s in
    let both = length-append (round_events r) (event_rounds n r.numbers) in
    let few = few_from r.ahead in
    let later = few_rounds n r.numbers in
    omega (arith, both, few, later)

pub few_events : (seed count : ℕ) → length (generated_events seed count) ≤ 4 + 7 * count
few_events seed count =
    let both = length-append (events_from (Some step.Establish)) (event_rounds count (first_numbers seed)) in
    let later = few_rounds count (first_numbers seed) in
    omega (arith, both, later)
