use Rattle.std.proofs.Common.{◌≡◌, ◌<◌, ℕ, [], length, set, refl, sym, ◌∙◌, subst, arith, inl, inr}
use Rattle.std.proofs.lemmas.Bool.{cases_lt}
use Rattle.std.proofs.lemmas.List.{length-set, get_or-set_same, get_or-set_other}
use Rattle.gcm_seal.specs.Inside.{raised_block, row_at, AreSteps, IsRow}
use Rattle.gcm_seal.specs.declared.ghash.Row.{Row}
use Rattle.gcm_seal.proofs.ghash.rows.Goals as goal

abbrev none : Row
none = record { upper = []; lower = [] }

pub loop-j-init : goal.loop-j-init
loop-j-init c = record { long = refl; made = λ k lt. absurd (omega arith) }

pub loop-j-preserved : goal.loop-j-preserved
loop-j-preserved c =
    let h : ℕ = c.args.h in
    let j : ℕ = c.loop-j.j in
    let rows = c.loop-j.rows in
    let v : Row = c.row_of.result in
    let long : j < length rows = omega (arith, c.loop-j.invariant.long) in
    let lower : AreSteps (raised_block 4 h) c.steps_of-lower.result =
    subst (λ b. AreSteps b c.steps_of-lower.result) c.times_x4.ensures c.steps_of-lower.ensures in
    let new : IsRow h j v =
    c.row_of.ensures h (raised_block 4 h) c.steps_of-upper.ensures lower in
    record {
      long = length-set _ _ _ ∙ c.loop-j.invariant.long;
      made = λ k lt. elim (cases_lt k j) [
        | inl old ↦
            subst (IsRow h k) (sym (get_or-set_other rows j k v none (omega arith))) (c.loop-j.invariant.made k old)
        | inr other ↦
            let e : j ≡ k = omega arith in
            subst (λ k. IsRow h k (row_at (set rows j v) k)) e
            (subst (IsRow h j) (sym (get_or-set_same rows j v none long)) new)
      ];
    }

pub returns : goal.returns
returns c = λ j lt. c.loop-j.invariant.made j (omega arith)
