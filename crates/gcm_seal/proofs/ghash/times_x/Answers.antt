use Rattle.std.proofs.Common.{◌≡◌, ◌%◌, refl, arith, inl, inr}
use Rattle.std.proofs.lemmas.Bool.{cases_lt}
use Rattle.gcm_seal.specs.Inside.{step_x}
use Rattle.gcm_seal.proofs.ghash.times_x.Goals as goal

pub returns : goal.returns
unfolding step_x
returns c = elim (cases_lt (c.args.b % 2) 1) [
  | inl even ↦
      let e : c.args.b % 2 ≡ 0 = omega arith in
      rw e refl
  | inr odd ↦
      let e : c.args.b % 2 ≡ 1 = omega arith in
      rw e refl
]
