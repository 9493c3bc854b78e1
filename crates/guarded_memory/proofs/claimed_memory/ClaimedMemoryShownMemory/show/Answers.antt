use Rattle.std.proofs.Common.{◌≡◌, ℕ, zero, suc, ◌+◌, ◌-◌, ◌*◌, ◌≤◌, leb, length, List, ◌∷◌, refl, ap, ◌∙◌, arith}
use Rattle.std.proofs.lemmas.Bool.{and_parts, leb-true}
use Rattle.trusted_memory.specs.Memory.{bytes_from}
use Rattle.guarded_memory.specs.Contents.{mmio_byte}
use Rattle.guarded_memory.proofs.claimed_memory.ClaimedMemoryShownMemory.show.Goals as goal

-- from a base on
shifted : (f : ℕ → ℕ) (base at n : ℕ) → base ≤ at → bytes_from f (at - base) n ≡ bytes_from (λ a. f (a - base)) at n
shifted f base at zero low = refl
shifted f base at (suc n) low =
    let next : (at - base) + 1 ≡ (at + 1) - base = omega arith in
    ap (λ (s : List ℕ). f (at - base) ∷ s)
    (ap (λ (o : ℕ). bytes_from f o n) next ∙ shifted f base (at + 1) n (omega arith))

pub returns : goal.returns
returns c =
    let range = c.args.self.now.claim.now.range in
    let held = and_parts (leb range.base c.args.at) _ c.requires in
    let low : range.base ≤ c.args.at = leb-true range.base c.args.at held.0 in
    c.copy.ensures
    ∙ ap (λ (offset : ℕ). bytes_from (mmio_byte c.args.self.now.memory.now c.args.self.now.claim.now.interface
    c.args.self.now.claim.now.bar) offset (length c.args.buf.now)) c.offset_in-offset.ensures.offset
    ∙ shifted (mmio_byte c.args.self.now.memory.now c.args.self.now.claim.now.interface
    c.args.self.now.claim.now.bar) range.base c.args.at (length c.args.buf.now) low
