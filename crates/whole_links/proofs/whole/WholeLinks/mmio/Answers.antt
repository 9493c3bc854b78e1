use Rattle.std.proofs.Common.{ℕ, refl, ◌++◌, take, drop, List, true, false, length, ap, sym, ◌∙◌, ◌≡◌, arith}
use Rattle.std.proofs.Math.Seq.{take-append_seam}
use Rattle.std.specs.Prelude.{vec_len}
use Rattle.spec_links.specs.Guarded.{mmio_if}
use Rattle.whole_links.specs.Besides.{has_shown, bytes_shown}
use Rattle.all_links.proofs.BesideAfter.{keeps_all}
use Rattle.whole_links.proofs.Answers.{mmio_only, length-shown}
use Rattle.whole_links.proofs.whole.WholeLinks.mmio.Goals as goal

pub returns-then-peek-clause-ends : goal.returns-then-peek-clause-ends
returns-then-peek-clause-ends c =
    let s = c.args.self.now in
    let len : length c.deref_mut.result.now ≡ c.args.length = omega
    (arith, c.deref_mut.ensures.len, c.in_ok-bytes.ensures.len) in
    let has : has_shown s c.args.interface c.args.bar c.args.offset c.args.length ≡ true =
    ap (λ (n : ℕ). has_shown s c.args.interface c.args.bar c.args.offset n) (sym len) ∙ sym c.peek.ensures.answer
    ∙ c.if-peek.true in
    let read : c.peek.new.buf ≡ bytes_shown s c.args.interface c.args.bar c.args.offset c.args.length =
    (rw c.if-peek.true at c.peek.ensures.bytes)
    ∙ ap (λ (n : ℕ). bytes_shown s c.args.interface c.args.bar c.args.offset n) len in
    let whole : length c.peek.new.buf ≡ c.args.length = ap (λ (bs : List ℕ). length bs) read
    ∙ length-shown s c.args.interface c.args.bar c.args.offset c.args.length has in
    let rest : List ℕ = drop (length c.peek.new.buf) c.in_ok-bytes.bytes.items in
    let written : take (vec_len c.in_ok-bytes.bytes) (c.peek.new.buf ++ rest) ≡ c.peek.new.buf =
    ap (λ (n : ℕ). take n (c.peek.new.buf ++ rest)) (c.in_ok-bytes.ensures.len ∙ sym whole)
    ∙ take-append_seam c.peek.new.buf rest in
    let bytes : c.new-bytes.result ≡ bytes_shown s c.args.interface c.args.bar c.args.offset c.args.length =
    c.new-bytes.ensures ∙ written ∙ read in
    λ plan. mmio_only plan c.args.interface c.args.bar c.args.offset c.args.length
    (λ i. mmio_if (has i) (sym bytes i)) c.only.ensures.value c.only.ensures.links refl c.requires.bounded

pub returns-else-peek-clause-ends : goal.returns-else-peek-clause-ends
returns-else-peek-clause-ends c =
    let s = c.args.self.now in
    let len : length c.deref_mut.result.now ≡ c.args.length = omega
    (arith, c.deref_mut.ensures.len, c.in_ok-bytes.ensures.len) in
    let has : has_shown s c.args.interface c.args.bar c.args.offset c.args.length ≡ false =
    ap (λ (n : ℕ). has_shown s c.args.interface c.args.bar c.args.offset n) (sym len) ∙ sym c.peek.ensures.answer
    ∙ c.if-peek.false in
    λ plan. mmio_only plan c.args.interface c.args.bar c.args.offset c.args.length
    (λ i. mmio_if (has i) (bytes_shown s c.args.interface c.args.bar c.args.offset c.args.length))
    c.only-else-peek.ensures.value c.only-else-peek.ensures.links refl c.requires.bounded

pub returns-then-peek-clause-sides : goal.returns-then-peek-clause-sides
returns-then-peek-clause-sides c = keeps_all c.only.ensures.links

pub returns-else-peek-clause-sides : goal.returns-else-peek-clause-sides
returns-else-peek-clause-sides c = keeps_all c.only-else-peek.ensures.links
