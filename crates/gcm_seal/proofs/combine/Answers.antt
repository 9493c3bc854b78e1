use Rattle.std.proofs.Common.{◌≡◌, ◌<◌, length, sym, ◌∙◌, arith, inl, inr}
use Rattle.std.proofs.lemmas.Bool.{cases_lt}
use Rattle.std.proofs.lemmas.List.{get_or-set_same, get_or-set_other}
use Rattle.std.proofs.lemmas.Grind.{same_number_lists}
use Rattle.gcm_seal.specs.Gcm.{combined_bytes}
use Rattle.gcm_seal.proofs.Strings.{combined_bytes-at, length-combined_bytes}
use Rattle.gcm_seal.proofs.combine.Goals as goal

pub loop-k-preserved : goal.loop-k-preserved
loop-k-preserved c =
    let k = c.loop-k.k in
    let long : k < length c.loop-k.buf = omega arith in
    record {
      done = λ i lt. elim (cases_lt i k) [
        | inl old ↦ get_or-set_other c.loop-k.buf k i _ 0 (omega arith) ∙ c.loop-k.invariant.done i old
        | inr new ↦
            let e : i ≡ k = omega arith in
            rw (e, ← c.loop-k.invariant.left k (omega arith)) (get_or-set_same c.loop-k.buf k _ 0 long)
      ];
      left = λ i le. get_or-set_other c.loop-k.buf k i _ 0 (omega arith) ∙ c.loop-k.invariant.left i (omega arith);
    }

pub returns : goal.returns
returns c =
    let xs = c.args.buf.now in
    let ks = c.args.out.now in
    same_number_lists c.loop-k.buf (combined_bytes xs ks) (c.loop-k.auto.buf ∙ sym (length-combined_bytes xs ks))
    (λ i lt.
    let within : i < length xs = omega arith in
    c.loop-k.invariant.done i (omega arith) ∙ sym (combined_bytes-at xs ks i within c.requires))
