use Rattle.std.proofs.Common.{◌≡◌, ◌<◌, ℕ, List, [], length, map, refl, ap, ◌∙◌, arith, inl, inr}
use Rattle.std.proofs.lemmas.Bool.{cases_lt}
use Rattle.std.proofs.lemmas.List.{length-set, get_or-set_same, get_or-set_other}
use Rattle.aes_block.specs.declared.RoundKey.{RoundKey}
use Rattle.aes_block.specs.Aes.{round_key}
use Rattle.aes_block.specs.Nibbles.{code}
use Rattle.aes_block.proofs.Rounds.{key-codes, last-keys}
use Rattle.aes_block.proofs.round_keys.Goals as goal

abbrev none : RoundKey
none = record { bytes = [] }

abbrev bytes_of : RoundKey → List ℕ
bytes_of k = k.bytes

pub keys-init : goal.keys-init
keys-init c = record {
  long = refl;
  first = c.coded.ensures ∙ ap (map code) c.key_bytes.ensures;
  made = λ k pos lt. absurd (omega arith);
}

pub keys-preserved : goal.keys-preserved
keys-preserved c =
    let n = c.keys.n in
    let v : RoundKey = record { bytes = c.coded-in-keys.result } in
    let long : n < length c.keys.keys = omega (arith, c.keys.invariant.long) in
    record {
      long = length-set _ _ _ ∙ c.keys.invariant.long;
      first = ap bytes_of (get_or-set_other c.keys.keys n 0 v none (omega arith)) ∙ c.keys.invariant.first;
      made = λ k pos lt. elim (cases_lt k n) [
        | inl old ↦ ap bytes_of (get_or-set_other c.keys.keys n k v none (omega arith)) ∙ c.keys.invariant.made k pos
            old
        | inr new ↦
            let e : k ≡ n = omega arith in
            rw e
            (ap bytes_of (get_or-set_same c.keys.keys n v none long)
            ∙ key-codes (round_key c.args.words.now n) _ c.coded-in-keys.result c.key_bytes-in-keys.ensures
            c.coded-in-keys.ensures)
      ];
    }

pub returns : goal.returns
returns c =
    let keys = c.keys.keys in
    let long : 14 < length keys = omega (arith, c.keys.invariant.long) in (
      ap bytes_of (get_or-set_other keys 14 0 _ none (omega arith)) ∙ c.keys.invariant.first,
      (λ n pos lt. ap bytes_of (get_or-set_other keys 14 n _ none (omega arith)) ∙ c.keys.invariant.made n pos
          (omega arith)),
      ap bytes_of (get_or-set_same keys 14 _ none long) ∙ last-keys (round_key c.args.words.now 14) _
          c.key_bytes-2.ensures,
    )
