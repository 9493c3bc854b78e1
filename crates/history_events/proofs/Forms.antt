-- Each generated event has one of the forms, and what the lines of all of them may come to.
use Rattle.std.proofs.Common.{◌≡◌, refl, ℕ, zero, suc, ◌+◌, ◌*◌, ◌%◌, ◌<◌, ◌≤◌, ◌^◌, ◌==◌, ◌++◌, Bool, true, false}
use Rattle.std.proofs.Common.{List, [], ◌∷◌, Option, Some, None, if◌then◌else◌, arith, lit≤}
use Rattle.std.specs.Prelude.{nat_lt, sum_by}
use Rattle.std.specs.List.{AllByRecursion}
use Rattle.std.proofs.lemmas.Bool.{ltb-false}
use Rattle.std.proofs.lemmas.List.Sums.{sum_by-append, sum_by-cons}
use Rattle.script_events.specs.declared.event.Event.{Event}
use Rattle.history_events.specs.declared.numbers.Numbers.{Numbers}
use Rattle.history_events.specs.declared.round.Round.{Round}
use Rattle.history_events.specs.declared.step.Step.{Step}
use Rattle.history_events.specs.declared.step.Step.TheVariants as step
use Rattle.history_events.specs.GeneratedEvents.{RoundFits, arrival, event_rounds, events_from}
use Rattle.history_events.specs.GeneratedEvents.{first_numbers, following_number, generated_events, numbers_with_packet}
use Rattle.history_events.specs.GeneratedEvents.{round_by_turn, round_events, round_of, sending_round, setting_up}
use Rattle.history_events.specs.GeneratedEvents.{step_event, value_of, write_at}
use Rattle.history_events.specs.GeneratedTopology.{byte_of_weight}
use Rattle.history_events.specs.Forms.{IsForm}

-- ---- numbers stay small

fits_either : (b : Bool) (s : Numbers) (r t : Round) → (b ≡ true → RoundFits s r) → (b ≡ false → RoundFits s t)
    → RoundFits s (if b then r else t)
fits_either true s r t first second = first refl
fits_either false s r t first second = second refl

-- a posted packet more
record PacketFits (s : Numbers) : Type 0 where
  pub most : (numbers_with_packet s).packets ≤ s.packets + 3
  pub least : s.packets + 1 ≤ (numbers_with_packet s).packets
  pub same : (numbers_with_packet s).arriving ≡ s.arriving

packet_fits : (s : Numbers) → PacketFits s
packet_fits s = go (s.posted == 255) refl
  where
    go : (b : Bool) → (s.posted == 255) ≡ b → PacketFits s
    go true is = record { most = rw is (omega arith); least = rw is (omega arith); same = rw is refl }
    go false is = record { most = rw is (omega arith); least = rw is (omega arith); same = rw is refl }

sending_fits : (s : Numbers) → s.arriving ≤ s.packets + 1 → RoundFits s (sending_round s)
sending_fits s near =
    let packet = packet_fits s in
    let least = packet.least in
    let same = packet.same in
    record { packets = packet.most; arriving = omega (arith, near, least, same) }

arrival_fits : (turn : ℕ) (s : Numbers) → s.arriving ≤ s.packets → RoundFits s (arrival turn s)
arrival_fits turn s near =
    fits_either (nat_lt turn 13) s _ _ (λ _. record { packets = omega arith; arriving = omega (arith, near) }) (λ _.
    fits_either (turn == 14) s _ _ (λ _. record { packets = omega arith; arriving = omega arith }) (λ _.
    record { packets = omega arith; arriving = omega (arith, near) }))

by_turn_fits : (turn : ℕ) (s : Numbers) → s.arriving ≤ s.packets + 1 → RoundFits s (round_by_turn turn s)
by_turn_fits turn s near =
    fits_either (nat_lt turn 8) s _ _ (λ _. sending_fits s near) (λ _.
    fits_either (turn == 13) s _ _ (λ _. record { packets = omega arith; arriving = near }) (λ _.
    fits_either (nat_lt s.packets s.arriving) s _ _ (λ _. record { packets = omega arith; arriving = near }) (λ none.
    arrival_fits turn s (ltb-false s.packets s.arriving none))))

-- the number of the recurrence changes none of these
round_fits : (s : Numbers) → s.arriving ≤ s.packets + 1 → RoundFits s (round_of s)
round_fits s near =
    let fits = by_turn_fits (value_of (following_number s.x) % 16) (record s { x = following_number s.x }) near in
    record { packets = fits.packets; arriving = fits.arriving }

-- so many rounds seal few packets
abbrev Few : ℕ → Numbers → Type 0
Few count s = s.packets + 3 * count < 2 ^ 62

-- ---- forms

either : (b : Bool) (r s : Round) → IsForm r.event → IsForm s.event → IsForm (if b then r else s).event
either true r s first second = first
either false r s first second = second

small : (n weight : ℕ) → byte_of_weight n weight < 256
small n weight = omega arith

write_bytes_are : (address value : ℕ) → AllByRecursion (λ b. b < 256) (write_at address value)
write_bytes_are address value =
    let z : 0 < 256 = lit≤ tt in
    let o : 1 < 256 = lit≤ tt in (
      lit≤ tt,
      (
        z,
        (
          z,
          (
            o,
            (
              o,
              (
                z,
                (
                  z,
                  (
                    lit≤ tt,
                    (
                      small address 16777216,
                      (
                        small address 65536,
                        (
                          small address 256,
                          (small address 1, (small value 256, (small value 1, (small value 256, (small value 1, tt))))),
                        ),
                      ),
                    ),
                  ),
                ),
              ),
            ),
          ),
        ),
      ),
    )

arrival_form : (turn : ℕ) (s : Numbers) → s.arriving < 2 ^ 64 → IsForm (arrival turn s).event
arrival_form turn s few = either (nat_lt turn 13) _ _ few (either (turn == 14) _ _ (few, refl, refl) (few, refl))

round_form : (turn : ℕ) (s : Numbers) → s.arriving < 2 ^ 64 → IsForm (round_by_turn turn s).event
round_form turn s few =
    either (nat_lt turn 8) _ _ (refl, refl, write_bytes_are _ _, refl, refl)
    (either (turn == 13) _ _ (refl, refl, refl)
    (either (nat_lt s.packets s.arriving) _ _ (refl, refl) (arrival_form turn s few)))

first_form : (s : Numbers) → s.arriving < 2 ^ 64 → IsForm (round_of s).event
first_form s few = round_form (value_of (following_number s.x) % 16) (record s { x = following_number s.x }) few

setting_up_form : AllByRecursion IsForm setting_up
setting_up_form = ((refl, refl, refl), ((refl, refl), ((refl, refl), ((refl, refl), tt))))

from_form : (ahead : Option Step) → AllByRecursion IsForm (events_from ahead)
from_form None = tt
from_form (Some step.Start) = ((refl, refl), tt)
from_form (Some step.Report) = ((refl, refl), ((refl, refl), tt))
from_form (Some step.Lock) = ((refl, refl), ((refl, refl), ((refl, refl), tt)))
from_form (Some step.Establish) = setting_up_form
from_form (Some step.Halt) = ((refl, refl), setting_up_form)
from_form (Some step.Stop) = ((refl, refl, refl), ((refl, refl), setting_up_form))

both_form : (xs ys : List Event) → AllByRecursion IsForm xs → AllByRecursion IsForm ys
    → AllByRecursion IsForm (xs ++ ys)
both_form [] ys first second = second
both_form (x ∷ xs) ys first second = (first.0, both_form xs ys first.1 second)

rounds_form : (count : ℕ) (s : Numbers) → s.arriving ≤ s.packets + 1 → Few count s
    → AllByRecursion IsForm (event_rounds count s)
rounds_form zero s near few = tt
rounds_form (suc n) s near few =
    let r = round_of s in
    let fits = round_fits s near in
    let packets = fits.packets in
    both_form (round_events r) (event_rounds n r.numbers) (first_form s (omega (arith, near, few)), from_form r.ahead)
    (rounds_form n r.numbers fits.arriving (omega (arith, few, packets)))

pub generated_form : (seed count : ℕ) → count ≤ 100000 → AllByRecursion IsForm (generated_events seed count)
generated_form seed count few = both_form setting_up (event_rounds count (first_numbers seed)) setting_up_form
    (rounds_form count (first_numbers seed) (lit≤ tt) (omega (arith, few)))

-- ---- what each may add to a sum: steps up to 14, and any event up to 61

pub record Weighs (weight : Event → ℕ) : Type 0 where
  pub steps : (s : Step) → weight (step_event s) ≤ 14
  pub forms : (e : Event) → IsForm e → weight e ≤ 61

from_weigh : (weight : Event → ℕ) → Weighs weight → (ahead : Option Step) → sum_by weight (events_from ahead) ≤ 84
from_weigh weight w None = lit≤ tt
from_weigh weight w (Some step.Start) =
    let a = w.steps step.Start in
    omega (arith, a)
from_weigh weight w (Some step.Report) =
    let a = w.steps step.Start in
    let b = w.steps step.Report in
    omega (arith, a, b)
from_weigh weight w (Some step.Lock) =
    let a = w.steps step.Start in
    let b = w.steps step.Report in
    let c = w.steps step.Lock in
    omega (arith, a, b, c)
from_weigh weight w (Some step.Establish) =
    let a = w.steps step.Start in
    let b = w.steps step.Report in
    let c = w.steps step.Lock in
    let d = w.steps step.Establish in
    omega (arith, a, b, c, d)
from_weigh weight w (Some step.Halt) =
    let a = w.steps step.Start in
    let b = w.steps step.Report in
    let c = w.steps step.Lock in
    let d = w.steps step.Establish in
    let e = w.steps step.Halt in
    omega (arith, a, b, c, d, e)
from_weigh weight w (Some step.Stop) =
    let a = w.steps step.Start in
    let b = w.steps step.Report in
    let c = w.steps step.Lock in
    let d = w.steps step.Establish in
    let e = w.steps step.Halt in
    let f = w.steps step.Stop in
    omega (arith, a, b, c, d, e, f)

rounds_weigh : (weight : Event → ℕ) → Weighs weight → (count : ℕ) (s : Numbers) → s.arriving ≤ s.packets + 1
    → Few count s → sum_by weight (event_rounds count s) ≤ 145 * count
rounds_weigh weight w zero s near few = lit≤ tt
rounds_weigh weight w (suc n) s near few =
    let r = round_of s in
    let fits = round_fits s near in
    let packets = fits.packets in
    let first = w.forms r.event (first_form s (omega (arith, near, few))) in
    let steps = from_weigh weight w r.ahead in
    let later = rounds_weigh weight w n r.numbers fits.arriving (omega (arith, few, packets)) in
    let all = sum_by-append weight (round_events r) (event_rounds n r.numbers) in
    let one = sum_by-cons weight r.event (events_from r.ahead) in
    omega (arith, all, one, first, steps, later)

pub generated_weigh : (weight : Event → ℕ) → Weighs weight → (seed count : ℕ) → count ≤ 100000
    → sum_by weight (generated_events seed count) ≤ 84 + 145 * count
generated_weigh weight w seed count few =
    let first = from_weigh weight w (Some step.Establish) in
    let later = rounds_weigh weight w count (first_numbers seed) (lit≤ tt) (omega (arith, few)) in
    let all = sum_by-append weight setting_up (event_rounds count (first_numbers seed)) in
    omega (arith, all, first, later)
