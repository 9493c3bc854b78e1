use Rattle.std.proofs.Common.{◌≡◌, ◌≤◌, ◌-◌, ◌+◌, ◌*◌, ◌/◌, ℕ, length, take, drop, ap, ◌∙◌, arith}
use Rattle.gcm_seal.specs.Gcm.{masked_bytes}
use Rattle.gcm_seal.proofs.Pieces.{front_masked, front-next, front-none, front-whole}
use Rattle.gcm_seal.proofs.Gcm.mask_blocks.Goals as goal

pub fours-init : goal.fours-init
fours-init c = front-none c.args.self.now c.args.iv.now (16 * c.args.block) c.args.buf.now

pub fours-preserved : goal.fours-preserved
fours-preserved c =
    let key = c.args.self.now in
    let iv = c.args.iv.now in
    let xs = c.args.buf.now in
    let now = c.fours.buf in
    let i : ℕ = c.fours.i in
    let n : ℕ = 16 * c.args.block in
    let count : 64 * i + 64 - 64 * i ≡ 64 = omega arith in
    let within : 64 * i ≤ length xs = omega (arith, c.fours-test.true) in
    let place : 16 * (c.args.block + 4 * i) ≡ n + 64 * i = omega arith in
    let next : 64 * i + 64 ≡ 64 * (i + 1) = omega arith in
    let ys : c.mask_four.new.buf ≡ masked_bytes key iv (n + 64 * i) (take 64 (drop (64 * i) now)) =
    c.mask_four.ensures ∙ (λ j. masked_bytes key iv (place j) (take (count j) (drop (64 * i) now))) in
    rw count (front-next key iv n (64 * i) 64 xs now c.mask_four.new.buf within c.fours.invariant ys)
    ∙ ap (λ (k : ℕ). front_masked key iv n k xs) next

pub returns : goal.returns
returns c =
    let key = c.args.self.now in
    let iv = c.args.iv.now in
    let xs = c.args.buf.now in
    let now = c.fours.buf in
    let fours : ℕ = length xs / 64 in
    let n : ℕ = 16 * c.args.block in
    let j : ℕ = length now - 64 * fours in
    let all : c.fours.i ≡ fours = omega (arith, c.fours-test.false, c.fours.auto.i-end) in
    let held = c.fours.invariant ∙ ap (λ (i : ℕ). front_masked key iv n (64 * i) xs) all in
    let place : 16 * (c.args.block + 4 * fours) ≡ n + 64 * fours = omega arith in
    let ys = c.mask_last.ensures ∙ ap (λ (k : ℕ). masked_bytes key iv k (take j (drop (64 * fours) now))) place in
    front-whole key iv n (64 * fours + j) xs _ (omega (arith, c.fours.auto.buf))
    (front-next key iv n (64 * fours) j xs now c.mask_last.new.buf (omega arith) held ys)
