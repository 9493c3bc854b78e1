use Rattle.std.proofs.Common.{◌*◌, ◌-◌, ℕ, List, drop, take, length, slice_index, ap, ◌∙◌, arith}
use Rattle.std.specs.Int.{w128, from_be_bytes}
use Rattle.std.proofs.lemmas.List.{take_all, length-drop, get_or-take}
use Rattle.gcm_seal.proofs.Strings.{number_same}
use Rattle.gcm_seal.proofs.ghash.block_at.Goals as goal

pub returns : goal.returns
returns c =
    let s = c.args.s.now in
    let rest : List ℕ = drop (16 * c.args.i) s in
    c.last_block.ensures
    ∙ ap (from_be_bytes w128) (take_all (length s - 16 * c.args.i) rest (omega (arith, length-drop (16 * c.args.i) s)))

pub returns-then-rest-ge16 : goal.returns-then-rest-ge16
returns-then-rest-ge16 c =
    let s = c.args.s.now in
    let rest : List ℕ = drop (16 * c.args.i) s in
    let front : List ℕ = take (length s - 16 * c.args.i) rest in
    let whole = take_all (length s - 16 * c.args.i) rest (omega (arith, length-drop (16 * c.args.i) s)) in
    number_same (take 16 (take 16 front)) rest
    (λ k lt.
    get_or-take 16 (take 16 front) k 0 lt
    ∙ get_or-take 16 front k 0 lt
    ∙ ap (λ (l : List ℕ). slice_index l k) whole)
