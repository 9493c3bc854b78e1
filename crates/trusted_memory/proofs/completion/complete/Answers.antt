use Rattle.std.proofs.Common.{◌≡◌, ℕ, ◌++◌, List, ap, ◌∙◌, append_assoc, arith}
use Rattle.tlp_layout.specs.Head.{head_bytes}
use Rattle.tlp_layout.specs.declared.head.HeadView.{HeadView}
use Rattle.trusted_memory.specs.declared.read.MemReadView.{MemReadView}
use Rattle.trusted_memory.specs.Completions.{read_bytes, completion_head, completion_bytes}
use Rattle.trusted_memory.proofs.Spelled.{head_fits, reads_if_small}
use Rattle.trusted_memory.proofs.completion.complete.Given.{Over}
use Rattle.trusted_memory.proofs.completion.complete.Goals as goal

appended : (completer : ℕ) (byte : ℕ → ℕ) (read : MemReadView) (old between new : List ℕ)
    → between ≡ old ++ head_bytes (completion_head completer read) → new ≡ between ++ read_bytes byte read.span → new
    ≡ old ++ completion_bytes completer byte read
unfolding completion_bytes
appended completer byte read old between new headed ended = ended ∙ ap (λ (s : List ℕ). s
    ++ read_bytes byte read.span) headed
    ∙ append_assoc old (head_bytes (completion_head completer read)) (read_bytes byte read.span)

is_appended : (g : Over) (c : goal.After-append_data g) → c.append_data.new.out.items
    ≡ c.args.out.now.items ++ completion_bytes c.args.completer (g.M.ShownMemory.byte c.args.memory.now) c.args.read.now
is_appended g c = appended c.args.completer _ c.args.read.now _ _ _
    (c.write_head.ensures.items
    ∙ ap (λ (h : HeadView). c.args.out.now.items ++ head_bytes h) c.completion_head-head.ensures)
    c.append_data.ensures.items

pub write_head-requires-clause-fits : goal.write_head-requires-clause-fits
write_head-requires-clause-fits g c = rw c.completion_head-head.ensures (head_fits c.args.completer c.args.read.now
    (omega (arith, c.ranges.completer.fits)) c.requires.fits)

pub returns-clause-reads : goal.returns-clause-reads
returns-clause-reads g c = reads_if_small c.args.completer _ c.args.read.now (omega (arith, c.ranges.completer.fits)) c.requires.fits
    c.append_data.ensures.bytes

pub returns-clause-bytes : goal.returns-clause-bytes
returns-clause-bytes g c = is_appended g c

pub returns-clause-alike : goal.returns-clause-alike
returns-clause-alike g c byte alike = is_appended g c ∙ ap
    (λ (byte : ℕ → ℕ). c.args.out.now.items ++ completion_bytes c.args.completer byte c.args.read.now) (λ i a. alike a i)
