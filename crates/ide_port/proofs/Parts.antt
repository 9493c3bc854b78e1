-- The header and the payload of a TLP's bytes.
use Rattle.ide_port.proofs.Terms.{◌≡◌, ℕ, ◌+◌, ◌≤◌, List, length, take, drop, ap, ◌∙◌, arith, length-append}
use Rattle.ide_port.proofs.Terms.{if◌then◌else◌, Tlp, head_bytes, head_length, header, body}
use Rattle.std.specs.Prelude.{Ok, Bool}
use Rattle.tlp_layout.specs.Reading.{read_of}
use Rattle.tlp_layout.proofs.Readings.{read_spells_tlp, front_is, rest_is, small_body, head_sized}

pub record AreParts (t : Tlp) (bytes : List ℕ) : Type 0 where
  pub within : head_length (header t) ≤ length bytes
  pub small : head_length (header t) ≤ 16
  pub head : take (head_length (header t)) bytes ≡ head_bytes (header t)
  pub rest : drop (head_length (header t)) bytes ≡ body t
  pub short : length (body t) ≤ 4096

small_of : (wide : Bool) → (if wide then 16 else 12) ≤ 16
small_of wide = grind arith

pub parts_of : (bytes : List ℕ) (t : Tlp) → read_of bytes ≡ Ok t → AreParts t bytes
parts_of bytes t is =
    let spells = (read_spells_tlp t bytes).1 is in
    let long : length bytes ≡ head_length (header t) + length (body t) =
    ap length spells.spelled ∙ length-append (head_bytes (header t)) (body t) ∙ ap (λ (n : ℕ). n + length (body t))
    (head_sized (header t) spells.fits.head)
    in record {
      within = omega (arith, long);
      small = small_of (header t).lead.wide;
      head = (front_is t bytes spells).spelled;
      rest = rest_is t bytes spells;
      short = small_body t spells.fits;
    }
