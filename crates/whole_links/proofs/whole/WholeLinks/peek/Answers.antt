use Rattle.std.proofs.Common.{ℕ, ◌≡◌, ◌<◌, List, [], false, ap, sym, subst, ◌∙◌}
use Rattle.std.specs.Prelude.{Option, length}
use Rattle.std.specs.Option.{option_map_or}
use Rattle.std.specs.Bool.{OnTrue}
use Rattle.trusted_memory.specs.{bytes_from}
use Rattle.guarded_memory.specs.Contents.{has_bytes, mmio_byte}
use Rattle.link_stores.specs.declared.link.LinkAccesses.{LinkAccesses}
use Rattle.all_links.specs.Accesses.{sizes_at, mmio_at}
use Rattle.whole_links.proofs.whole.WholeLinks.peek.Goals as goal

pub at-requires : goal.at-requires
at-requires c = subst (λ (n : ℕ). c.in-Some.link < n) (sym c.requires.bounded.whole) c.in-Some.ensures.there.link_there

pub returns-in-None-clause-answer : goal.returns-in-None-clause-answer
returns-in-None-clause-answer c =
    ap (λ (o : Option (ℕ × ℕ)). option_map_or (λ (at : ℕ × ℕ). has_bytes (sizes_at c.args.self.now.accesses at.0) at.1
    c.args.bar c.args.offset (length c.args.buf.now)) o false) c.in-None.ensures.place

pub returns-in-Some-clause-answer : goal.returns-in-Some-clause-answer
returns-in-Some-clause-answer c =
    c.peek.ensures.answer
    ∙ sym (λ i. has_bytes (option_map_or (λ (x : LinkAccesses). x.guarded.sizes) (c.at.ensures i) []) c.in-Some.place
    c.args.bar c.args.offset (length c.args.buf.now))
    ∙ ap (λ (o : Option (ℕ × ℕ)). option_map_or (λ (at : ℕ × ℕ). has_bytes (sizes_at c.args.self.now.accesses at.0) at.1
    c.args.bar c.args.offset (length c.args.buf.now)) o false) c.in-Some.ensures.place

pub returns-in-Some-clause-bytes : goal.returns-in-Some-clause-bytes
returns-in-Some-clause-bytes c =
    let same =
    sym (λ i. bytes_from (option_map_or (λ (x : LinkAccesses). mmio_byte x.guarded) (c.at.ensures i) (λ j b offset. 0)
    c.in-Some.place c.args.bar) c.args.offset (length c.args.buf.now))
    ∙ ap (λ (o : Option (ℕ × ℕ)). option_map_or (λ (at : ℕ × ℕ). bytes_from (mmio_at c.args.self.now.accesses at.0 at.1
    c.args.bar) c.args.offset (length c.args.buf.now)) o []) c.in-Some.ensures.place in
    subst (λ (bs : List ℕ). OnTrue c.peek.result (c.peek.new.buf ≡ bs)) same c.peek.ensures.bytes
