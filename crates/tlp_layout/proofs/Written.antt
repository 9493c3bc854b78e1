-- A TLP's bytes are its header and what stands after it.
use Rattle.std.proofs.Common.{◌≡◌, ℕ, ◌+◌, ◌≤◌, List, length, drop, Result, Ok, Err, refl, sym, ap, ◌∙◌, arith}
use Rattle.std.proofs.Common.{length-append}
use Rattle.std.specs.Prelude.{MatchResult}
use Rattle.tlp_layout.specs.{TlpFault, HeadView, head_bytes, head_length, header, body, with_payload, read_of}
use Rattle.tlp_layout.specs.Terms.{Tlp}
use Rattle.tlp_layout.specs.Reading.{IsTlpWithHead}
use Rattle.tlp_layout.proofs.Readings.{read_spells_tlp, rest_is, head_sized}

pub record PartsByHead (head : HeadView) (bytes : List ℕ) : Type 0 where
  pub within : head_length head ≤ length bytes
  pub reads : read_of bytes ≡ Ok (with_payload head (drop (head_length head) bytes))

of_tlp : (t : Tlp) (bytes : List ℕ) → read_of bytes ≡ Ok t → PartsByHead (header t) bytes
of_tlp t bytes is =
    let spells = (read_spells_tlp t bytes).1 is in
    let long : length bytes ≡ head_length (header t) + length (body t) =
    ap length spells.spelled ∙ length-append (head_bytes (header t)) (body t) ∙ ap (λ (n : ℕ). n + length (body t))
    (head_sized (header t) spells.fits.head)
    in record {
      within = omega (arith, long);
      reads = is ∙ ap (λ (b : List ℕ). Ok (with_payload (header t) b)) (sym (rest_is t bytes spells));
    }

of_result : (head : HeadView) (bytes : List ℕ) (r : Result Tlp TlpFault) → read_of bytes ≡ r
    → MatchResult r (λ t. header t ≡ head) (λ _. ⊥) → PartsByHead head bytes
of_result head bytes (Ok t) is same = rw (← same) (of_tlp t bytes is)
of_result head bytes (Err fault) is none = absurd none

pub parts_by_head : (head : HeadView) (bytes : List ℕ) → IsTlpWithHead head bytes → PartsByHead head bytes
parts_by_head head bytes = of_result head bytes (read_of bytes) refl
