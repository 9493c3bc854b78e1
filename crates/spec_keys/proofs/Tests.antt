-- What tests on numbers say.
use Rattle.spec_keys.proofs.Terms.{◌≡◌, ℕ, ◌<◌, ◌≤◌, ◌==◌, Bool, true, false, arith, nat_lt, nat_le, ◌&&◌, ◌||◌}
use Rattle.spec_keys.proofs.Terms.{nat_tests}

pub le-true : (i j : ℕ) → i ≤ j → nat_le i j ≡ true
le-true i j le = grind (arith, nat_tests)

pub le-false : (i j : ℕ) → j < i → nat_le i j ≡ false
le-false i j lt = grind (arith, nat_tests)

pub lt-true : (i j : ℕ) → i < j → nat_lt i j ≡ true
lt-true i j lt = grind (arith, nat_tests)

pub lt-false : (i j : ℕ) → j ≤ i → nat_lt i j ≡ false
lt-false i j le = grind (arith, nat_tests)

pub true-le : (i j : ℕ) → nat_le i j ≡ true → i ≤ j
true-le i j e = grind (arith, nat_tests)

pub false-le : (i j : ℕ) → nat_le i j ≡ false → j < i
false-le i j e = grind (arith, nat_tests)

pub true-lt : (i j : ℕ) → nat_lt i j ≡ true → i < j
true-lt i j e = grind (arith, nat_tests)

pub false-lt : (i j : ℕ) → nat_lt i j ≡ false → j ≤ i
false-lt i j e = grind (arith, nat_tests)

pub true-same : (i j : ℕ) → (i == j) ≡ true → i ≡ j
true-same i j e = grind (arith, nat_tests)

pub same-true : (i : ℕ) → (i == i) ≡ true
same-true i = grind (arith, nat_tests)

pub different-false : (i j : ℕ) → i < j → (i == j) ≡ false
different-false i j lt = grind (arith, nat_tests)

pub both-true : (a b : Bool) → (a && b) ≡ true → (a ≡ true) × (b ≡ true)
both-true a b e = grind arith

pub neither-true : (a b : Bool) → (a || b) ≡ false → (a ≡ false) × (b ≡ false)
neither-true a b e = grind arith
