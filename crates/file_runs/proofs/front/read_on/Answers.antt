use Rattle.std.proofs.Common.{◌≡◌, ◌<◌, ℕ, Ok, length, arith, rules, subst}
use Rattle.cli_files.specs.Outside.{ReadIfTold}
use Rattle.file_runs.proofs.Fronts.{reads_on}
use Rattle.file_runs.proofs.front.read_on.Goals as goal

pub returns-in-Ok-extend_from_slice-clause-bytes :
    goal.returns-in-Ok-extend_from_slice-clause-bytes
returns-in-Ok-extend_from_slice-clause-bytes g c =
    let told = (g.S.Shelf.seen c.args.shelf.now).contents in
    let at : c.len.result ≡ length c.args.bytes.now.items = search rules in
    let some : 0 < length c.read.new.buf = omega arith in
    let read = subst (λ (k : ℕ). ReadIfTold told c.args.name.now k (Ok c.in-Ok.n) c.read.new.buf) at
    c.in-Ok.ensures.bytes
    in
    λ front. rw c.in-Ok-extend_from_slice.ensures.items
    (reads_on told c.args.name.now c.args.bytes.now.items c.read.new.buf c.in-Ok.n some read front)
