use Rattle.all_links.proofs.Terms.{ℕ, zero, suc, refl, ◌+◌, ◌++◌, take, drop, take-append_seam, vec_len, List, Bool}
use Rattle.all_links.proofs.Terms.{true, false, length, ap, sym, ◌∙◌, ◌≡◌, arith, MemoryContents, Some}
use Rattle.script_events.specs.declared.event.InterfaceEvent.TheVariants as ie
use Rattle.event_verdicts.specs.declared.verdict.Verdict.TheVariants as v
use Rattle.ide_types.specs.declared.verdict.InterfaceVerdict.TheVariants as iv
use Rattle.trusted_memory.specs.{byte_at, bytes_from, in_one_region}
use Rattle.all_links.specs.Interfaces.{memory_verdict}
use Rattle.all_links.proofs.Finds.{only_says}
use Rattle.all_links.proofs.BesideAfter.{keeps_all}
use Rattle.all_links.proofs.links.Links.memory.Goals as goal

length-bytes : (f : ℕ → ℕ) (at n : ℕ) → length (bytes_from f at n) ≡ n
length-bytes f at zero = refl
length-bytes f at (suc n) = ap (λ (k : ℕ). suc k) (length-bytes f (at + 1) n)

pub returns-then-peek-clause-ends : goal.returns-then-peek-clause-ends
returns-then-peek-clause-ends c plan =
    let m : MemoryContents = c.args.self.now.trusted.contents in
    let at : ℕ = c.args.address in
    let len : length c.deref_mut.result.now ≡ c.args.length = omega
    (arith, c.deref_mut.ensures.len, c.in_ok-bytes.ensures.len) in
    let inside : in_one_region m.regions at c.args.length ≡ true = ap (λ (n : ℕ). in_one_region m.regions at n)
    (sym len) ∙ sym c.peek.ensures.answer ∙ c.if-peek.true in
    let read : c.peek.new.buf ≡ bytes_from (byte_at m) at c.args.length = (rw c.if-peek.true at c.peek.ensures.bytes) ∙
    ap (λ (n : ℕ). bytes_from (byte_at m) at n) len in
    let whole : length c.peek.new.buf ≡ c.args.length = ap (λ (bs : List ℕ). length bs) read ∙ length-bytes (byte_at m)
    at c.args.length in
    let rest : List ℕ = drop (length c.peek.new.buf) c.in_ok-bytes.bytes.items in
    let written : take (vec_len c.in_ok-bytes.bytes) (c.peek.new.buf ++ rest) ≡ c.peek.new.buf =
    ap (λ (n : ℕ). take n (c.peek.new.buf ++ rest)) (c.in_ok-bytes.ensures.len ∙ sym whole) ∙ take-append_seam
    c.peek.new.buf rest in
    let bytes : c.new-bytes.result ≡ bytes_from (byte_at m) at c.args.length = c.new-bytes.ensures ∙ written ∙ read in
    let due : v.Interface (iv.Memory c.new-bytes.result) ≡ memory_verdict (in_one_region m.regions at c.args.length)
    (bytes_from (byte_at m) at c.args.length) =
    ap (λ (bs : List ℕ). v.Interface (iv.Memory bs)) bytes ∙ ap
    (λ (b : Bool). memory_verdict b (bytes_from (byte_at m) at c.args.length)) (sym inside) in
    only_says plan (ie.Memory at c.args.length) (ap Some due) c.shows.ensures.value c.shows.ensures.links
    c.requires.bounded

pub returns-else-peek-clause-ends : goal.returns-else-peek-clause-ends
returns-else-peek-clause-ends c plan =
    let m : MemoryContents = c.args.self.now.trusted.contents in
    let at : ℕ = c.args.address in
    let len : length c.deref_mut.result.now ≡ c.args.length = omega
    (arith, c.deref_mut.ensures.len, c.in_ok-bytes.ensures.len) in
    let outside : in_one_region m.regions at c.args.length ≡ false = ap (λ (n : ℕ). in_one_region m.regions at n)
    (sym len) ∙ sym c.peek.ensures.answer ∙ c.if-peek.false in
    let due : v.Nothing ≡ memory_verdict (in_one_region m.regions at c.args.length)
    (bytes_from (byte_at m) at c.args.length) =
    ap (λ (b : Bool). memory_verdict b (bytes_from (byte_at m) at c.args.length)) (sym outside) in
    only_says plan (ie.Memory at c.args.length) (ap Some due) c.only.ensures.value c.only.ensures.links
    c.requires.bounded

pub returns-then-peek-clause-sides : goal.returns-then-peek-clause-sides
returns-then-peek-clause-sides c = keeps_all c.shows.ensures.links

pub returns-else-peek-clause-sides : goal.returns-else-peek-clause-sides
returns-else-peek-clause-sides c = keeps_all c.only.ensures.links
