-- Exchanges from one to another: which of them concern a place, if two exchanges of the operation do.
use Rattle.join_keys.proofs.CallTerms.{◌≡◌, Bool, arith, ℕ, List, ◌++◌, ◌≤◌, ◌∙◌, ◌+◌, ◌==◌, [], zero, suc, ◌<◌}
use Rattle.join_keys.proofs.CallTerms.{nat_tests, SubKind, KeyCall, StreamCall, is_number_between, calls_from}
use Rattle.join_keys.proofs.Streams.{one_if, calls_at, calls_append}

-- one of two calls or both, if each comes between two exchanges
abbrev pub calls_within : (p q from below : ℕ) (first second : KeyCall) → List KeyCall
calls_within p q from below first second = one_if (is_number_between from p below) first
    ++ one_if (is_number_between from q below) second

none_within : (p q n below : ℕ) (first second : KeyCall) → n + 0 ≡ below → [] ≡ calls_within p q n below first second
none_within p q n below first second is = grind (arith, nat_tests)

next_within : (p q n below : ℕ) (first second : KeyCall) → p < q → n < below
    → ((one_if (p == n) first ++ one_if (q == n) second) ++ calls_within p q (n + 1) below first second)
    ≡ calls_within p q n below first second
next_within p q n below first second lt low = grind (arith, nat_tests)

pub carried_at : (made : ℕ → List StreamCall) (sends : Bool) (u : SubKind) (p q last below : ℕ) (first second : KeyCall)
    → p < q → below ≤ last + 1
    → ((n : ℕ) → 1 ≤ n → n ≤ last → calls_at sends u (made n) ≡ one_if (p == n) first ++ one_if (q == n) second)
    → (m n : ℕ) → 1 ≤ n → n + m ≡ below → calls_at sends u (calls_from made n m) ≡ calls_within p q n below first second
carried_at made sends u p q last below first second lt most each zero n low is = none_within p q n below first second is
carried_at made sends u p q last below first second lt most each (suc m) n low is =
    let rest = carried_at made sends u p q last below first second lt most each m (n + 1) (omega arith) (omega arith)
    in
    calls_append sends u (made n) (calls_from made (n + 1) m)
    ∙ ((λ i. each n low (omega arith) i ++ rest i) ∙ next_within p q n below first second lt (omega arith))
