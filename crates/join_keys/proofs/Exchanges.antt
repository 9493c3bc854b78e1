-- The exchanges of an operation at a place whose keys are given by messages.
use Rattle.join_keys.proofs.CallTerms.{◌≡◌, Bool, arith, true, false, ℕ, ◌++◌, ◌≤◌, ◌<◌, ◌+◌, ◌==◌, zero, suc, refl}
use Rattle.join_keys.proofs.CallTerms.{◌-◌, nat_tests, ◌&&◌, if◌then◌else◌, SubKind, Plan, Work, new_work}
use Rattle.join_keys.proofs.CallTerms.{last_exchange_of, makes_draw, lane_key, key_number, told_call, calls_from, Side}
use Rattle.join_keys.proofs.CallTerms.{Host, Device, Operation, is_host, program_number, go_number, stop_number}
use Rattle.ide_types.specs.Sub.{sub_bits}
use Rattle.ide_types.proofs.KeySets.{one_of_set}
use Rattle.event_verdicts.specs.declared.verdict.Operation.TheVariants as op
use Rattle.join_keys.proofs.Slots.{first_call, second_call, is_of}
use Rattle.join_keys.proofs.Streams.{one_if, calls_at, all_by, all_append}
use Rattle.join_keys.proofs.Carried.{calls_within, carried_at}

-- the exchanges that make an operation's first and its second call in a lane
abbrev pub first_number : (hosted near : Bool) → Operation → ℕ → ℕ
first_number hosted near o l = if makes_draw o then program_number hosted near o l else stop_number hosted near l

abbrev pub second_number : (hosted near : Bool) → Operation → ℕ → ℕ
second_number hosted near o l = if makes_draw o then go_number hosted near o l else stop_number hosted near l + 6

abbrev pub lane_at : Bool → SubKind → ℕ
lane_at sends u = (if sends then 3 else 0) + sub_bits u

abbrev ToldOnce : Plan → (hosted : Bool) → Side → Work → Bool → SubKind → ℕ → Type 0
ToldOnce plan hosted side w sends u n =
    calls_at sends u (told_call plan hosted side w n)
    ≡ one_if (first_number hosted (is_host side) w.operation (lane_at sends u) == n)
    (first_call w (lane_key plan w.draw (key_number side (lane_at sends u))))
    ++ one_if (second_number hosted (is_host side) w.operation (lane_at sends u) == n) (second_call w)

-- ---- one exchange

told_once : (plan : Plan) (hosted : Bool) (side : Side) (o : Operation) (set : Bool) (draw first : ℕ) (begins : Bool)
    (sends : Bool) (u : SubKind) (n : ℕ) → (is_host side && hosted) ≡ false
    → 1 ≤ n → n ≤ last_exchange_of hosted o → ToldOnce plan hosted side (new_work o set draw first begins) sends u n
told_once plan true Host o set draw first begins sends u n told low high = absurd cc
told_once plan true Device op.Establish set draw first begins sends u n told low high = grind
    (arith, nat_tests, one_of_set)
told_once plan true Device op.Refresh set draw first begins sends u n told low high = grind
    (arith, nat_tests, one_of_set)
told_once plan true Device op.Stop set draw first begins sends u n told low high = grind
    (arith, nat_tests, one_of_set)
told_once plan false Host op.Establish set draw first begins sends u n told low high = grind
    (arith, nat_tests, one_of_set)
told_once plan false Host op.Refresh set draw first begins sends u n told low high = grind
    (arith, nat_tests, one_of_set)
told_once plan false Host op.Stop set draw first begins sends u n told low high = grind
    (arith, nat_tests, one_of_set)
told_once plan false Device op.Establish set draw first begins sends u n told low high = grind
    (arith, nat_tests, one_of_set)
told_once plan false Device op.Refresh set draw first begins sends u n told low high = grind
    (arith, nat_tests, one_of_set)
told_once plan false Device op.Stop set draw first begins sends u n told low high = grind
    (arith, nat_tests, one_of_set)

kind_once : (plan : Plan) (hosted : Bool) (side : Side) (w : Work) (n : ℕ)
    → all_by (is_of w.operation) (told_call plan hosted side w n) ≡ true
kind_once plan hosted side w n = grind arith

numbers_in_order : (hosted near : Bool) (o : Operation) (l : ℕ) → first_number hosted near o l
    < second_number hosted near o l
numbers_in_order hosted near o l = grind (arith, nat_tests)

-- ---- all that were carried

pub calls_carried : (plan : Plan) (hosted : Bool) (side : Side) (w : Work) (sends : Bool) (u : SubKind) (carried : ℕ)
    → (is_host side && hosted) ≡ false → 1 ≤ w.first
    → w.first ≤ carried → carried ≤ last_exchange_of hosted w.operation + 1
    → calls_at sends u (calls_from (told_call plan hosted side w) w.first (carried - w.first))
    ≡ calls_within (first_number hosted (is_host side) w.operation (lane_at sends u))
    (second_number hosted (is_host side) w.operation (lane_at sends u)) w.first carried
    (first_call w (lane_key plan w.draw (key_number side (lane_at sends u)))) (second_call w)
calls_carried plan hosted side w sends u carried told low from most =
    carried_at (told_call plan hosted side w) sends u _ _ (last_exchange_of hosted w.operation) carried _ _
    (numbers_in_order hosted (is_host side) w.operation (lane_at sends u)) most
    (λ n. told_once plan hosted side w.operation w.set w.draw w.first w.begins sends u n told) (carried - w.first)
    w.first low (omega arith)

pub kind_carried : (plan : Plan) (hosted : Bool) (side : Side) (w : Work) (m n : ℕ)
    → all_by (is_of w.operation) (calls_from (told_call plan hosted side w) n m) ≡ true
kind_carried plan hosted side w zero n = refl
kind_carried plan hosted side w (suc m) n =
    all_append (is_of w.operation) (told_call plan hosted side w n)
    (calls_from (told_call plan hosted side w) (n + 1) m)
    (kind_once plan hosted side w n) (kind_carried plan hosted side w m (n + 1))
