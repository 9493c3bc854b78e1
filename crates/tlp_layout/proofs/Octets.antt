-- Facts on single bytes, each tried at all 256 of them.
use Rattle.std.proofs.Common.{◌≡◌, ℕ, ◌%◌, ◌<◌, Bool, true, ◌&&◌, not, ltb, eqb, bit_and, Option, Some, None, refl, sym}
use Rattle.std.proofs.Common.{ap, ◌∙◌}
use Rattle.std.specs.Prelude.{◌↔◌}
use Rattle.std.proofs.lemmas.Bool.{agree_below, agree_below_at, eqb-true, ltb-true, eq-eqb, lt-ltb, and_parts, and_from}
use Rattle.tlp_layout.specs.{is_wide, layout_of_byte, Layout}
use Rattle.tlp_layout.specs.Terms.layouts

mask_is : (m : ℕ) (test : ℕ → Bool) → agree_below (λ b. eqb (bit_and m b) 0) test 256 ≡ true → (b : ℕ) → b < 256
    → eqb (bit_and m b) 0 ≡ test b
mask_is m test e b lt = agree_below_at (λ b. eqb (bit_and m b) 0) test 256 b e lt

-- what the bits that are 0 say of a byte
pub clear_3 : (b : ℕ) → b < 256 → (eqb (bit_and 0x03 b) 0 ≡ true) ↔ (b % 4 ≡ 0)
clear_3 b lt =
    let same = mask_is 0x03 (λ b. eqb (b % 4) 0) refl b lt in
    (λ e. eqb-true _ _ (sym same ∙ e), λ e. same ∙ eq-eqb _ _ e)

pub clear_192 : (b : ℕ) → b < 256 → (eqb (bit_and 0xc0 b) 0 ≡ true) ↔ (b < 64)
clear_192 b lt =
    let same = mask_is 0xc0 (λ b. ltb b 64) refl b lt in (λ e. ltb-true _ _ (sym same ∙ e), λ e. same ∙ lt-ltb _ _ e)

pub clear_195 : (b : ℕ) → b < 256 → (eqb (bit_and 0xc3 b) 0 ≡ true) ↔ ((b < 64) × (b % 4 ≡ 0))
clear_195 b lt =
    let same = mask_is 0xc3 (λ b. ltb b 64 && eqb (b % 4) 0) refl b lt in (
      λ e. let p = and_parts (ltb b 64) (eqb (b % 4) 0) (sym same ∙ e) in (ltb-true _ _ p.0, eqb-true _ _ p.1),
      λ e. same ∙ and_from _ _ (lt-ltb _ _ e.0) (eq-eqb _ _ e.1),
    )

pub clear_240 : (b : ℕ) → b < 256 → (eqb (bit_and 0xf0 b) 0 ≡ true) ↔ (b < 16)
clear_240 b lt =
    let same = mask_is 0xf0 (λ b. ltb b 16) refl b lt in (λ e. ltb-true _ _ (sym same ∙ e), λ e. same ∙ lt-ltb _ _ e)

pub clear_128 : (b : ℕ) → b < 256 → (eqb (bit_and 0x80 b) 0 ≡ true) ↔ (b < 128)
clear_128 b lt =
    let same = mask_is 0x80 (λ b. ltb b 128) refl b lt in (λ e. ltb-true _ _ (sym same ∙ e), λ e. same ∙ lt-ltb _ _ e)

-- ---- byte 0

-- a message has 4 double words, a configuration request and a completion have 3
abbrev has_width : Layout → Bool → Bool
has_width layouts.Memory wide = true
has_width layouts.Config wide = not wide
has_width layouts.Message wide = wide
has_width layouts.Completion wide = not wide

abbrev is_width : Option Layout → Bool → Bool
is_width None wide = true
is_width (Some k) wide = has_width k wide

pub width_of : (k : Layout) (b : ℕ) → b < 256 → layout_of_byte b ≡ Some k → has_width k (is_wide b) ≡ true
width_of k b lt kind = sym (ap (λ (o : Option Layout). is_width o (is_wide b)) kind)
    ∙ agree_below_at (λ b. is_width (layout_of_byte b) (is_wide b)) (λ b. true) 256 b refl lt
