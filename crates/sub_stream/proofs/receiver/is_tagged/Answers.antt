use Rattle.std.proofs.Common.{◌≡◌, ℕ, Bool, true, false, List, [], length, refl, ap, ◌∙◌, arith}
use Rattle.gcm_seal.specs.Gcm.{verifies}
use Rattle.gcm_seal.proofs.Sealing.{verifies-tag, length-tag_of}
use Rattle.sub_stream.proofs.receiver.is_tagged.Goals as goal

-- no bytes are no tag
none_verifies : (key iv a c : List ℕ) → verifies key iv a c [] ≡ true → ⊥
none_verifies key iv a c e =
    let n : length {A = ℕ} [] ≡ 12 = ap length (verifies-tag key iv a c [] e) ∙ length-tag_of key iv a c in
    omega arith

never_true : (b : Bool) → (b ≡ true → ⊥) → false ≡ b
never_true b = elim b as (λ v. (v ≡ true → ⊥) → false ≡ v) [ true ↦ λ no. absurd (no refl) | false ↦ λ no. refl ]

pub returns-in-None : goal.returns-in-None
returns-in-None c = rw c.in-None.is (never_true _ (none_verifies _ _ _ _))
