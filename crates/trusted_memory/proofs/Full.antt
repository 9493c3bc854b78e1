-- All byte enables set.
use Rattle.std.proofs.Common.{◌≡◌, ℕ, zero, suc, ◌+◌, ◌/◌, ◌%◌, ◌<◌, Bool, true, false, cond, eqb, filter}
use Rattle.std.proofs.Common.{Option, Some, None, refl, ap, ◌∙◌, arith}
use Rattle.std.specs.List.{range_with_len}
use Rattle.trusted_memory.specs.declared.span.Span.{Span}
use Rattle.trusted_memory.specs.Spans.{is_enable_set, is_enabled}
use Rattle.trusted_memory.specs.Completions.{first_and_last, first_or}
use Rattle.trusted_memory.proofs.Places.{first_and_last-more}

full_set : (k : ℕ) → k < 4 → is_enable_set 15 k ≡ true
full_set zero h = refl
full_set (suc zero) h = refl
full_set (suc (suc zero)) h = refl
full_set (suc (suc (suc zero))) h = refl
full_set (suc (suc (suc (suc k)))) h = absurd (omega arith)

enabled_by : (b c : Bool) (x y : ℕ) (k : ℕ) → k < 4 → x ≡ 15 → y ≡ 15
    → cond b (is_enable_set x k) (cond c (is_enable_set y k) true) ≡ true
enabled_by true c x y k h e f = ap (λ (n : ℕ). is_enable_set n k) e ∙ full_set k h
enabled_by false true x y k h e f = ap (λ (n : ℕ). is_enable_set n k) f ∙ full_set k h
enabled_by false false x y k h e f = refl

pub all_enabled : (s : Span) (i : ℕ) → s.first_be ≡ 15 → s.last_be ≡ 15 → is_enabled s i ≡ true
all_enabled s i e f = enabled_by (eqb (i / 4) 0) (eqb (i / 4 + 1) s.length) s.first_be s.last_be (i % 4) (omega arith) e
    f

taken : (b : Bool) (o : Option (ℕ × ℕ)) (i : ℕ) → b ≡ true → cond b (Some (first_or o i, i)) o ≡ Some (first_or o i, i)
taken b o i e = ap (λ (t : Bool). cond t (Some (first_or o i, i)) o) e

-- the ends of n places and one more, if all are enabled
pub all_places : (p : ℕ → Bool) (n : ℕ) → ((i : ℕ) → p i ≡ true)
    → first_and_last (filter p (range_with_len 0 (n + 1))) ≡ Some (0, n)
all_places p zero h = first_and_last-more p 0 ∙ taken (p 0) None 0 (h 0)
all_places p (suc n) h =
    first_and_last-more p (suc n)
    ∙ taken (p (suc n)) (first_and_last (filter p (range_with_len 0 (suc n)))) (suc n) (h (suc n))
    ∙ ap (λ (o : Option (ℕ × ℕ)). Some (first_or o (suc n), suc n))
    (ap (λ (m : ℕ). first_and_last (filter p (range_with_len 0 m))) (let e : suc n ≡ n + 1 = omega arith in e)
    ∙ all_places p n h)
