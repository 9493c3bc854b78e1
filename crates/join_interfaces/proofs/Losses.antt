-- A loss at one of an operation's exchanges gives the verdict that is due: it is due by the number of the exchange, and
-- the walk meets it by the same number.
use Rattle.std.proofs.Common.{◌≡◌, ℕ, ◌+◌, ◌<◌, ◌==◌, Bool, true, false, Option, Some, None, refl, ap, sym, subst, ◌∙◌}
use Rattle.std.proofs.Common.{arith}
use Rattle.std.specs.Prelude.{nat_le, nat_lt, ◌&&◌, if◌then◌else◌}
use Rattle.std.specs.Option.{option_map}
use Rattle.spec_keys.proofs.Terms.{nat_tests}
use Rattle.spec_keys.proofs.Tests.{true-same, same-true, lt-false, le-false, different-false}
use Rattle.script_events.specs.declared.event.Loss.{Loss}
use Rattle.script_events.specs.declared.event.Lost.{Lost}
use Rattle.script_events.specs.declared.event.Lost.TheVariants.{Request, Reply}
use Rattle.event_verdicts.specs.declared.verdict.Verdict.{Verdict}
use Rattle.spec_keys.specs.Due.{lost_message, lost_at}
use Rattle.spec_interfaces.specs.Due.{unless_lost}
use Rattle.spec_interfaces.specs.Exchanges.{carries}
use Rattle.spec_interfaces.specs.Views.{Managed, on_lock}
use Rattle.interface_ends.specs.Reports.{lost_exchange_within}

-- what an exchange of this number gives, if this is lost of it
abbrev pub by_loss : Option Lost → ℕ → Verdict → Verdict
by_loss None n w = w
by_loss (Some l) n w = lost_at l n

abbrev in_one : ℕ → Lost → Verdict → Verdict
in_one e k w = by_loss (if e == 1 then Some k else None) 1 w

once_by : (e : ℕ) (k : Lost) (w : Verdict) (b : Bool) → (e == 1) ≡ b
    → (if nat_le 1 e && nat_le e 1 then lost_at k e else w) ≡ in_one e k w
once_by e k w true test =
    subst (λ j. (if nat_le 1 j && nat_le j 1 then lost_at k j else w) ≡ in_one j k w) (sym (true-same e 1 test)) refl
once_by e k w false test =
    let out : (nat_le 1 e && nat_le e 1) ≡ false = grind (arith, nat_tests) in
    rw (out, test) refl

pub once_lost : (loss : Option Loss) (w : Verdict) → unless_lost loss 1 w ≡ by_loss (lost_message loss 1) 1 w
once_lost None w = refl
once_lost (Some l) w = once_by l.exchange l.lost w _ refl

abbrev in_three : ℕ → Lost → Verdict → Verdict
in_three e k w = by_loss (if e == 1 then Some k else None) 1
    (by_loss (if e == 2 then Some k else None) 2 (by_loss (if e == 3 then Some k else None) 3 w))

-- by one of three numbers, or none
abbrev InThree : Lost → Verdict → ℕ → Type 0
InThree k w e = (if nat_le 1 e && nat_le e 3 then lost_at k e else w) ≡ in_three e k w

thrice_by : (e : ℕ) (k : Lost) (w : Verdict) (a b c : Bool) → (e == 1) ≡ a → (e == 2) ≡ b → (e == 3) ≡ c → InThree k w e
thrice_by e k w true b c first second third = subst (InThree k w) (sym (true-same e 1 first)) refl
thrice_by e k w false true c first second third = subst (InThree k w) (sym (true-same e 2 second)) refl
thrice_by e k w false false true first second third = subst (InThree k w) (sym (true-same e 3 third)) refl
thrice_by e k w false false false first second third =
    let out : (nat_le 1 e && nat_le e 3) ≡ false = grind (arith, nat_tests) in
    rw (out, first, second, third) refl

pub thrice_lost : (loss : Option Loss) (w : Verdict) → unless_lost loss 3 w
    ≡ by_loss (lost_message loss 1) 1 (by_loss (lost_message loss 2) 2 (by_loss (lost_message loss 3) 3 w))
thrice_lost None w = refl
thrice_lost (Some l) w = thrice_by l.exchange l.lost w _ _ _ refl refl refl

-- what an exchange gives at which a message is lost
abbrev pub lost_verdict : Option Loss → ℕ → Option Verdict
lost_verdict loss n = option_map (λ k. lost_at k n) (lost_message loss n)

pub cut : (loss : Option Loss) (n : ℕ) (k : Lost) → lost_message loss n ≡ Some k → lost_verdict loss n
    ≡ Some (lost_at k n)
cut loss n k is = ap (option_map (λ k. lost_at k n)) is

-- ---- a lock that is lost before its third exchange

pub early_carries : (k : Lost) (n : ℕ) → n < 3 → carries (lost_at k n) 3 ≡ false
early_carries Request n lt = lt-false 3 n (omega arith)
early_carries Reply n lt = le-false 3 n lt

pub early_kept : (k : Lost) (n : ℕ) (m : Managed) → n < 3 → on_lock m (lost_at k n) ≡ m
early_kept Request n m lt = rw (different-false n 3 lt) refl
early_kept Reply n m lt = rw (different-false n 3 lt) refl

-- ---- one of so many exchanges

within : (e c : ℕ) → (nat_le 1 e && nat_le e c) ≡ (nat_le 1 e && nat_lt e (1 + c))
within e c = grind (arith, nat_tests)

-- what several exchanges give, if this one is lost
abbrev pub by_number : Option Loss → Option ℕ → Verdict → Option Verdict
by_number loss None w = Some w
by_number loss (Some n) w = lost_verdict loss n

number_by : (l : Loss) (w : Verdict) (b : Bool) → Some (if b then lost_at l.lost l.exchange else w)
    ≡ by_number (Some l) (if b then Some l.exchange else None) w
number_by l w true = rw (same-true l.exchange) refl
number_by l w false = refl

pub number_lost : (loss : Option Loss) (c : ℕ) (w : Verdict) → Some (unless_lost loss c w)
    ≡ by_number loss (lost_exchange_within loss 1 c) w
number_lost None c w = refl
number_lost (Some l) c w = ap (λ b. Some (if b then lost_at l.lost l.exchange else w)) (within l.exchange c)
    ∙ number_by l w (nat_le 1 l.exchange && nat_lt l.exchange (1 + c))
