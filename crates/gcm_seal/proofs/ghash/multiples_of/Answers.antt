use Rattle.std.proofs.Common.{◌≡◌, ◌<◌, ◌^◌, ◌∙◌, ℕ, ap, subst, arith}
use Rattle.gcm_seal.specs.Inside.{AreRows, block_product}
use Rattle.gcm_seal.proofs.Ring.{times-lt}
use Rattle.gcm_seal.proofs.ghash.multiples_of.Goals as goal

pub returns : goal.returns
returns c =
    let h : ℕ = c.args.h in
    let hl : h < 2 ^ 128 = omega arith in
    let k : ℕ = block_product h h in
    let square : c.product_of_number-square.result ≡ k = c.product_of_number-square.ensures h hl c.rows-first.ensures in
    let second = subst (λ g. AreRows g c.rows-second.result) square c.rows-second.ensures in
    let kl = times-lt h h hl in
    let cube = c.product_of_number-cube.ensures k kl second in
    let fourth = c.product_of_number-fourth.ensures k kl second ∙ ap (block_product k) square in (
      c.rows-first.ensures,
      second,
      subst (λ g. AreRows g c.rows.result) cube c.rows.ensures,
      subst (λ g. AreRows g c.rows-2.result) fourth c.rows-2.ensures,
    )
