-- The exchanges of a report are as many as its portions: each but the last takes a whole portion off.
use Rattle.std.proofs.Common.{◌≡◌, ℕ, zero, suc, ◌+◌, ◌-◌, ◌/◌, ◌<◌, ◌≤◌, Bool, true, false, refl, ap, sym, ◌∙◌, arith}
use Rattle.std.specs.Prelude.{nat_le, if◌then◌else◌}
use Rattle.std.proofs.Math.Nat.{add-div_right}
use Rattle.spec_keys.proofs.Tests.{true-le, false-le}
use Rattle.spec_interfaces.specs.Due.{portions}
use Rattle.interface_ends.specs.Reports.{portion_count}

-- one portion more
count_on : (size len : ℕ) → 1 ≤ size → size < len → suc (portions size (len - size)) ≡ portions size len
count_on size len least lt =
    let rest : len - size + size - 1 + size ≡ len + size - 1 = omega arith in
    let more : (len - size + size - 1 + size) / size ≡ (len - size + size - 1) / size + 1
    = add-div_right (len - size + size - 1) (omega arith) in
    let next : (len - size + size - 1) / size + 1 ≡ suc ((len - size + size - 1) / size) = omega arith in
    sym next ∙ sym more ∙ ap (λ k. k / size) rest

-- the last one
count_last : (size len : ℕ) → 1 ≤ size → 1 ≤ len → len ≤ size → 1 ≡ portions size len
count_last size len least some le =
    let rest : len - 1 + size ≡ len + size - 1 = omega arith in
    let more : (len - 1 + size) / size ≡ (len - 1) / size + 1 = add-div_right (len - 1) (omega arith) in
    let none : (len - 1) / size ≡ 0 = below (len - 1) size (omega arith) in
    ap (λ k. k + 1) (sym none) ∙ sym more ∙ ap (λ k. k / size) rest
  where
    below : (n k : ℕ) → n < k → n / k ≡ 0
    below n k lt = grind arith

count_by : (more size len : ℕ) (b : Bool) → nat_le len size ≡ b → 1 ≤ size → 1 ≤ len
    → (size < len → portion_count more size (len - size) ≡ portions size (len - size))
    → (if b then 1 else suc (portion_count more size (len - size))) ≡ portions size len
count_by more size len true test least some rest = count_last size len least some (true-le len size test)
count_by more size len false test least some rest =
    let lt = false-le len size test in
    ap suc (rest lt) ∙ count_on size len least lt

pub counted : (more size len : ℕ) → 1 ≤ size → 1 ≤ len → len ≤ more → portion_count more size len ≡ portions size len
counted zero size len least some le = absurd (omega arith)
counted (suc more) size len least some le = count_by more size len (nat_le len size) refl least some
    (λ lt. counted more size (len - size) least (omega arith) (omega arith))
