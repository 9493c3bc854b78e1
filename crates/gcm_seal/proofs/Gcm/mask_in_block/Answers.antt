use Rattle.std.proofs.Common.{◌≡◌, ◌-◌, ◌+◌, ℕ, List, length, take, drop, sym, ap, ◌∙◌, arith}
use Rattle.std.proofs.lemmas.Bool.{eqb-true}
use Rattle.std.proofs.lemmas.List.{take_all, length-drop}
use Rattle.gcm_seal.specs.Gcm.{combined_bytes, counter}
use Rattle.aes_block.proofs.Blocks.{length-aes}
use Rattle.gcm_seal.proofs.Strings.{masked_bytes-within, masked_bytes-none}
use Rattle.gcm_seal.proofs.Gcm.mask_in_block.Goals as goal

pub returns-then-is_empty : goal.returns-then-is_empty
returns-then-is_empty c = masked_bytes-none c.args.self.now c.args.iv.now _ c.args.buf.now
    (eqb-true (length c.args.buf.now) 0 (sym c.is_empty.ensures ∙ c.if-is_empty.true))

pub returns : goal.returns
returns c =
    let xs = c.args.buf.now in
    let skip : ℕ = c.args.skip in
    let out = c.output.result in
    let long : length out ≡ 16 = ap (λ (l : List ℕ). length l) c.output.ensures ∙ length-aes c.args.self.now
    (counter c.args.iv.now (c.args.block + 1)) in
    let whole : take (16 - skip) (drop skip out) ≡ drop skip out = take_all (16 - skip) (drop skip out)
    (omega (arith, length-drop skip out, long)) in
    c.combine.ensures
    ∙ ap (combined_bytes xs) (whole ∙ ap (drop skip) c.output.ensures)
    ∙ masked_bytes-within c.args.self.now c.args.iv.now c.args.block skip xs c.requires.within
